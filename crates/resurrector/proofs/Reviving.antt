-- A process that goes on can be spelled.
use Rattle.std.proofs.Common.{◌≡◌, ℕ, ◌+◌, ◌<◌, ◌≤◌, Bool, true, false, ◌==◌, if◌then◌else◌, List, Option, Some, None, refl, sym, ap, subst, inl, inr, arith}
use Rattle.std.proofs.lemmas.Bool.{and_parts, cases_Bool}
use Rattle.record_layouts.specs.declared.dead_proc.DeadProc.{DeadProc}
use Rattle.record_layouts.specs.declared.proc.ProcRec.{ProcRec}
use Rattle.record_layouts.specs.Held.{AreValues, Records}
use Rattle.record_layouts.specs.Left.{HandedOver, dead_proc, has_handed_bank, left_rec, with_handed_bank}
use Rattle.record_layouts.specs.Pages.{is_live}
use Rattle.record_layouts.specs.Proc.{FitsLive, FitsProc}
use Rattle.frame_table.proofs.Counting.{fits_there, live_fits}
use Rattle.dead_reader.specs.Losses.{bits_lost, bit_if}
use Rattle.dead_reader.specs.Processes.{IsDead}
use Rattle.resurrector.specs.Procedures.{aborted_call, brought_out, in_procedure, mask_told, revived}

-- the process is outside a call, and the other's in all that its state restricts
record IsAlike (process other : ProcRec) : Type 0 where
  state : other.state ≡ 1
  call : other.call ≡ 0
  done : other.done ≡ 0
  pid : other.pid ≡ process.pid
  parent : other.parent ≡ process.parent
  code_pages : other.code_pages ≡ process.code_pages
  data_pages : other.data_pages ≡ process.data_pages
  brk : other.brk ≡ process.brk
  flags : other.flags ≤ 3
  status : other.status ≡ process.status
  descs : other.descs ≡ process.descs

alike_fits : (process other : ProcRec) → FitsLive process → IsAlike process other → FitsProc other
alike_fits process other fits like = record {
  state = omega (arith, like.state);
  free = λ e. absurd (omega (arith, e, like.state));
  live = λ e. record {
    pid = rw like.pid fits.pid;
    parent = rw like.parent fits.parent;
    code_pages = rw like.code_pages fits.code_pages;
    data_pages = rw like.data_pages fits.data_pages;
    heap_end = rw (like.code_pages, like.data_pages, like.brk) fits.heap_end;
    flags = like.flags;
    status = rw like.status fits.status;
    descs = rw like.descs fits.descs;
  };
  no_call = λ e. like.call;
  none_done = λ e. like.done;
  ended = λ e. absurd (omega (arith, e, like.state));
}

out_alike : (process : ProcRec) (aborted : Bool) → process.flags ≤ 3
    → IsAlike process (if aborted then aborted_call (record process { state = 1; call = 0; done = 0 }) else record process { state = 1; call = 0; done = 0 })
out_alike process true few = record { state = refl; call = refl; done = refl; pid = refl; parent = refl; code_pages = refl; data_pages = refl; brk = refl; flags = few; status = refl; descs = refl }
out_alike process false few = record { state = refl; call = refl; done = refl; pid = refl; parent = refl; code_pages = refl; data_pages = refl; brk = refl; flags = few; status = refl; descs = refl }

entered_alike : (process other : ProcRec) (mask : ℕ) → IsAlike process other → IsAlike process (in_procedure mask other)
entered_alike process other mask like = record {
  state = like.state;
  call = like.call;
  done = like.done;
  pid = like.pid;
  parent = like.parent;
  code_pages = like.code_pages;
  data_pages = like.data_pages;
  brk = like.brk;
  flags = omega arith;
  status = like.status;
  descs = like.descs;
}

revived_alike : (dead : DeadProc) (lost : ℕ) → dead.rec.flags ≤ 3 → IsAlike dead.rec (revived dead lost)
unfolding revived brought_out
revived_alike dead lost few = elim (cases_Bool (dead.rec.procedure == 0)) [
  | inl none ↦ rw none (out_alike dead.rec dead.aborted few)
  | inr some ↦ rw some (entered_alike dead.rec _ (mask_told dead lost) (out_alike dead.rec dead.aborted few))
]

pub revived_fits : (dead : DeadProc) (lost : ℕ) → FitsProc dead.rec → is_live dead.rec ≡ true → FitsProc (revived dead lost)
revived_fits dead lost fits live =
    let its = live_fits dead.rec fits live in
    alike_fits dead.rec (revived dead lost) its (revived_alike dead lost its.flags)

pub revived_live : (dead : DeadProc) (lost : ℕ) → FitsProc dead.rec → is_live dead.rec ≡ true → is_live (revived dead lost) ≡ true
revived_live dead lost fits live =
    let its = live_fits dead.rec fits live in
    let like = revived_alike dead lost its.flags in
    rw like.state refl

-- what was handed over is no more than registers and a pc
left_fits : (test : Bool) (handed : Option HandedOver) (process : ProcRec) → FitsProc process → is_live process ≡ true
    → FitsProc (if test then with_handed_bank handed process else process)
left_fits true (Some h) process fits live = let its = live_fits process fits live in record {
  state = fits.state;
  free = λ e. absurd (grind (arith, e, live));
  live = λ e. record { pid = its.pid; parent = its.parent; code_pages = its.code_pages; data_pages = its.data_pages; heap_end = its.heap_end; flags = its.flags; status = its.status; descs = its.descs };
  no_call = fits.no_call;
  none_done = fits.none_done;
  ended = λ e. absurd (grind (arith, e, live));
}
left_fits true None process fits live = fits
left_fits false handed process fits live = fits

left_live : (test : Bool) (handed : Option HandedOver) (process : ProcRec) → is_live process ≡ true
    → is_live (if test then with_handed_bank handed process else process) ≡ true
left_live true (Some h) process live = live
left_live true None process live = live
left_live false handed process live = live

pub dead_fits : (r : Records) (handed : Option HandedOver) (slot : ℕ) (dead : DeadProc) → AreValues r → IsDead r handed slot dead → FitsProc dead.rec
unfolding dead_proc left_rec
dead_fits r handed slot dead values is =
    let process = is.process in
    let fits = fits_there r slot process values is.decoded.there in
    let live : is_live process ≡ true = (and_parts _ _ (and_parts _ _ (and_parts _ _ is.decoded.decodes).0).0).1 in
    subst (λ (d : DeadProc). FitsProc d.rec) (sym is.left) (left_fits (has_handed_bank handed r.head process.pid) handed process fits live)

pub dead_live : (r : Records) (handed : Option HandedOver) (slot : ℕ) (dead : DeadProc) → IsDead r handed slot dead → is_live dead.rec ≡ true
unfolding dead_proc left_rec
dead_live r handed slot dead is =
    let process = is.process in
    let live : is_live process ≡ true = (and_parts _ _ (and_parts _ _ (and_parts _ _ is.decoded.decodes).0).0).1 in
    subst (λ (d : DeadProc). is_live d.rec ≡ true) (sym is.left) (left_live (has_handed_bank handed r.head process.pid) handed process live)

-- what is lost has few bits
bit_few : (test : Bool) (bit : ℕ) → bit_if test bit ≤ bit
bit_few true bit = omega arith
bit_few false bit = omega arith

few_together : (closed page reset signals : Bool) → bit_if closed 1 + bit_if page 2 + bit_if reset 4 + bit_if signals 8 < 16
few_together closed page reset signals = omega (arith, bit_few closed 1, bit_few page 2, bit_few reset 4, bit_few signals 8)

pub bits_few : (r : Records) (slot : ℕ) (descs : List ℕ) → bits_lost r slot descs < 16
unfolding bits_lost
bits_few r slot descs = few_together _ _ _ _

-- the slot of a process that is left
pub dead_there : (r : Records) (handed : Option HandedOver) (slot : ℕ) (dead : DeadProc) → IsDead r handed slot dead → IsDead r handed dead.slot dead
unfolding dead_proc
dead_there r handed slot dead is =
    let same : dead.slot ≡ slot = ap (λ (d : DeadProc). d.slot) is.left in
    subst (λ (s : ℕ). IsDead r handed s dead) (sym same) is
