-- The pages of a process are a matter of its regions, of tables and of the words that name owners.
use Rattle.std.proofs.Common.{◌≡◌, ◌&&◌, ℕ, zero, suc, ◌+◌, ◌/◌, ◌%◌, Bool, true, Option, is_some, refl, ap, ◌∙◌, arith}
use Rattle.ow_base.specs.Sv32.{WordMap}
use Rattle.ow_base.specs.declared.machine.Rights.{Rights}
use Rattle.record_layouts.specs.declared.head.HeadRec.{HeadRec}
use Rattle.record_layouts.specs.declared.proc.ProcRec.{ProcRec}
use Rattle.record_layouts.specs.declared.sig.SigRec.{SigRec}
use Rattle.record_layouts.specs.declared.exit.ExitRec.{ExitRec}
use Rattle.record_layouts.specs.Held.{Records}
use Rattle.record_layouts.specs.Pages.{is_live, heap_pages, region_of, entry_for, frame_of, frame_by, byte_on, have_frames, is_mapped, pages_of}

-- of records these are others
abbrev pub changed : Records → Option HeadRec → (ℕ → Option ProcRec) → (ℕ → Option SigRec) → (ℕ → Option ExitRec) → Records
changed r head procs sigs exits = record r { head = head; procs = procs; sigs = sigs; exits = exits }

frame_stays : (r : Records) (head : Option HeadRec) (procs : ℕ → Option ProcRec) (sigs : ℕ → Option SigRec) (exits : ℕ → Option ExitRec) (slot : ℕ) (process : ProcRec) (page : ℕ)
    → frame_of (changed r head procs sigs exits) slot process page ≡ frame_of r slot process page
unfolding frame_of entry_for
frame_stays r head procs sigs exits slot process page = refl

frames_stay : (r : Records) (head : Option HeadRec) (procs : ℕ → Option ProcRec) (sigs : ℕ → Option SigRec) (exits : ℕ → Option ExitRec) (slot : ℕ) (process : ProcRec) (first count : ℕ)
    → have_frames (changed r head procs sigs exits) slot process first count ≡ have_frames r slot process first count
unfolding have_frames
frames_stay r head procs sigs exits slot process first zero = refl
frames_stay r head procs sigs exits slot process first (suc count) =
    rw (frame_stays r head procs sigs exits slot process first) (ap (λ (rest : Bool). is_some (frame_of r slot process first) && rest)
    (frames_stay r head procs sigs exits slot process (first + 1) count))

pub mapped_stays : (r : Records) (head : Option HeadRec) (procs : ℕ → Option ProcRec) (sigs : ℕ → Option SigRec) (exits : ℕ → Option ExitRec) (slot : ℕ) (process : ProcRec)
    → is_mapped (changed r head procs sigs exits) slot process ≡ is_mapped r slot process
unfolding is_mapped
mapped_stays r head procs sigs exits slot process =
    simp (frames_stay r head procs sigs exits slot process)

pub pages_stay : (r : Records) (head : Option HeadRec) (procs : ℕ → Option ProcRec) (sigs : ℕ → Option SigRec) (exits : ℕ → Option ExitRec) (words : WordMap) (slot : ℕ) (process : ProcRec)
    → pages_of (changed r head procs sigs exits) words slot process ≡ pages_of r words slot process
unfolding pages_of frame_of entry_for
pages_stay r head procs sigs exits words slot process = refl

-- two processes with the same regions
pub record SameRegions (one other : ProcRec) : Type 0 where
  pub live : is_live one ≡ true
  pub lives : is_live other ≡ true
  pub code : one.code_pages ≡ other.code_pages
  pub values : one.data_pages ≡ other.data_pages
  pub brk : one.brk ≡ other.brk

pub region_same : (one other : ProcRec) → SameRegions one other → (page : ℕ) → region_of one page ≡ region_of other page
unfolding region_of
region_same one other same page = rw (same.live, same.lives, same.code, same.values, same.brk) refl

frame_same : (r : Records) (slot : ℕ) (one other : ProcRec) → SameRegions one other → (page : ℕ) → frame_of r slot one page ≡ frame_of r slot other page
unfolding frame_of
frame_same r slot one other same page = ap (λ (rights : Option Rights). frame_by r slot page (entry_for r slot page) rights) (region_same one other same page)

frames_same : (r : Records) (slot : ℕ) (one other : ProcRec) → SameRegions one other → (first count : ℕ) → have_frames r slot one first count ≡ have_frames r slot other first count
unfolding have_frames
frames_same r slot one other same first zero = refl
frames_same r slot one other same first (suc count) =
    rw (frame_same r slot one other same first) (ap (λ (rest : Bool). is_some (frame_of r slot other first) && rest) (frames_same r slot one other same (first + 1) count))

pub mapped_same : (r : Records) (slot : ℕ) (one other : ProcRec) → SameRegions one other → is_mapped r slot one ≡ is_mapped r slot other
unfolding is_mapped
mapped_same r slot one other same =
    let pages : one.code_pages + (one.data_pages + heap_pages one) ≡ other.code_pages + (other.data_pages + heap_pages other) =
    omega (arith, same.code, same.values, same.brk) in
    let low : have_frames r slot one 16 (one.code_pages + (one.data_pages + heap_pages one)) ≡ have_frames r slot other 16 (other.code_pages + (other.data_pages + heap_pages other)) =
    ap (λ (n : ℕ). have_frames r slot one 16 n) pages ∙ frames_same r slot one other same 16 (other.code_pages + (other.data_pages + heap_pages other)) in
    let high : have_frames r slot one 0x7fffc 4 ≡ have_frames r slot other 0x7fffc 4 = frames_same r slot one other same 0x7fffc 4 in
    rw low (rw high refl)

pub pages_same : (r : Records) (words : WordMap) (slot : ℕ) (one other : ProcRec) → SameRegions one other → pages_of r words slot one ≡ pages_of r words slot other
unfolding pages_of
pages_same r words slot one other same = λ i. record {
  rights = λ page. region_same one other same page i;
  bytes = λ a. byte_on words (a % 4096) (frame_same r slot one other same (a / 4096) i);
}
