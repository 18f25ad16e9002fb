-- Records of processes with the same regions have the same pages.
use Rattle.std.proofs.Common.{◌≡◌, ℕ, zero, suc, ◌+◌, ◌/◌, ◌%◌, Option, refl, ap, ◌∙◌, arith}
use Rattle.ow_base.specs.Sv32.{WordMap}
use Rattle.ow_base.specs.declared.machine.Rights.{Rights}
use Rattle.record_layouts.specs.declared.proc.ProcRec.{ProcRec}
use Rattle.record_layouts.specs.Held.{Records}
use Rattle.record_layouts.specs.Pages.{byte_on, entry_for, frame_by, frame_of, have_frames, heap_pages, is_live, is_mapped, pages_of, region_of}

-- a page that two processes have with the same rights is in the same frame
frame_same : (r : Records) (slot : ℕ) (one other : ProcRec) → ((page : ℕ) → region_of one page ≡ region_of other page)
    → (page : ℕ) → frame_of r slot one page ≡ frame_of r slot other page
unfolding frame_of
frame_same r slot one other same page = ap (λ (rights : Option Rights). frame_by r slot page (entry_for r slot page) rights) (same page)

have_same : (r : Records) (slot : ℕ) (one other : ProcRec) → ((page : ℕ) → region_of one page ≡ region_of other page)
    → (first count : ℕ) → have_frames r slot one first count ≡ have_frames r slot other first count
unfolding have_frames
have_same r slot one other same first zero = refl
have_same r slot one other same first (suc count) =
    let here : frame_of r slot one first ≡ frame_of r slot other first = frame_same r slot one other same first in
    rw (here, have_same r slot one other same (first + 1) count) refl

-- what the regions of a process go by
pub record IsPagedAs (one other : ProcRec) : Type 0 where
  pub live : is_live one ≡ is_live other
  pub code_pages : one.code_pages ≡ other.code_pages
  pub data_pages : one.data_pages ≡ other.data_pages
  pub brk : one.brk ≡ other.brk
  pub pid : one.pid ≡ other.pid
  pub descs : one.descs ≡ other.descs

paged_regions : (one other : ProcRec) → IsPagedAs one other → (page : ℕ) → region_of one page ≡ region_of other page
unfolding region_of
paged_regions one other same page = rw (same.live, same.code_pages, same.data_pages, same.brk) refl

pub paged_mapped : (r : Records) (slot : ℕ) (one other : ProcRec) → IsPagedAs one other → is_mapped r slot one ≡ is_mapped r slot other
unfolding is_mapped
paged_mapped r slot one other same =
    let regions : (page : ℕ) → region_of one page ≡ region_of other page = λ page. paged_regions one other same page in
    let pages : one.code_pages + (one.data_pages + heap_pages one) ≡ other.code_pages + (other.data_pages + heap_pages other) =
    omega (arith, same.code_pages, same.data_pages, same.brk) in
    let low : have_frames r slot one 16 (one.code_pages + (one.data_pages + heap_pages one)) ≡ have_frames r slot other 16 (other.code_pages + (other.data_pages + heap_pages other)) =
    ap (λ (n : ℕ). have_frames r slot one 16 n) pages ∙ have_same r slot one other regions 16 (other.code_pages + (other.data_pages + heap_pages other)) in
    let high : have_frames r slot one 0x7fffc 4 ≡ have_frames r slot other 0x7fffc 4 = have_same r slot one other regions 0x7fffc 4 in
    rw low (rw high refl)

pub paged_pages : (r : Records) (words : WordMap) (slot : ℕ) (one other : ProcRec) → IsPagedAs one other → pages_of r words slot one ≡ pages_of r words slot other
unfolding pages_of
paged_pages r words slot one other same =
    let regions : (page : ℕ) → region_of one page ≡ region_of other page = λ page. paged_regions one other same page in
    λ k. record {
      rights = λ page. regions page k;
      bytes = λ a. byte_on words (a % 4096) (frame_same r slot one other regions (a / 4096) k);
    }
