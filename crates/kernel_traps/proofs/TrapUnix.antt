-- What a plant stands for once the plan of a trap is carried out and the trap has ended.
use Rattle.std.proofs.Common.{◌≡◌, ◌∙◌, ◌+◌, ◌^◌, ◌<◌, ◌≤◌, ℕ, zero, suc, false, List, length, Option, Some, None, IfSome, refl, sym, ap, subst, arith}
use Rattle.ow_base.specs.Pages.{Pages, bytes_at}
use Rattle.ow_base.specs.Sv32.{WordMap}
use Rattle.phys_memory.specs.Memory.{words_of}
use Rattle.record_layouts.specs.declared.proc.ProcRec.{ProcRec}
use Rattle.record_layouts.specs.declared.term.TermRec.{TermRec}
use Rattle.record_layouts.specs.Held.{Held, Records}
use Rattle.record_layouts.specs.Decode.{InKernel, unix_of}
use Rattle.record_layouts.specs.Unix.Traps.{steps_in}
use Rattle.record_layouts.specs.Unix.State.{Unix}
use Rattle.record_layouts.specs.declared.traps.Trap.{Trap}
use Rattle.syscalls.specs.declared.service.Service.{Service}
use Rattle.syscalls.specs.declared.service.Service.TheVariants as service
use Rattle.syscalls.specs.Done.{IsDone}
use Rattle.syscalls.specs.Planned.{Planned, PlanFork, PlanGrow, PlanOnce, PlanPut, PlanWrite, pages_in}
use Rattle.syscalls.specs.Serving.{IsDoable, plan_of}
use Rattle.ow_plant.specs.State.{PlantState, left_trap, tty_of, Device}
use Rattle.intent_store.specs.Live.{held_of, records_held, rest_of}
use Rattle.ow_plant.specs.Images.{tapes_of}
use Rattle.kernel_traps.specs.Plants.{IsInTrap, IsOfDevice, IsSound, context_of, unix_at}
use Rattle.kernel_traps.specs.Carrying.{IsCarriedOut, bytes_of}
use Rattle.kernel_traps.specs.Ending.{IsEnded}
use Rattle.kernel_traps.specs.Turning.{IsSameMachine}
use Rattle.kernel_traps.specs.Traps.{IsTrapMade, begun_by}
use Rattle.kernel_traps.proofs.Puts.{puts_beside}
use Rattle.kernel_traps.proofs.Stays.{contents_of, unix_beside}
use Rattle.kernel_traps.proofs.Done.{done as write_done, fork_done, grow_done, put_done}
use Rattle.kernel_traps.proofs.Entering.{MayTrap, begins, steps_begun, traps_begun}

-- what stays of a plant while a plan is carried out
pub record IsCarrier (old new : PlantState) : Type 0 where
  pub shape : new.shape ≡ old.shape
  pub live : new.live ≡ old.live
  pub points : new.points ≡ old.points
  pub history : new.history ≡ old.history
  pub reviving : new.reviving ≡ old.reviving
  pub in_user : new.in_user ≡ old.in_user
  pub steps : new.steps ≡ old.steps
  pub traps : new.traps ≡ old.traps

pub by_rest : (old new : PlantState) (tty0 tty1 : Device) → rest_of new ≡ record (rest_of old) { tty0 = tty0; tty1 = tty1 } → IsCarrier old new
by_rest old new tty0 tty1 rest = record {
  shape = ap (λ (s : PlantState). s.shape) rest;
  live = ap (λ (s : PlantState). s.live) rest;
  points = ap (λ (s : PlantState). s.points) rest;
  history = ap (λ (s : PlantState). s.history) rest;
  reviving = ap (λ (s : PlantState). s.reviving) rest;
  in_user = ap (λ (s : PlantState). s.in_user) rest;
  steps = ap (λ (s : PlantState). s.steps) rest;
  traps = ap (λ (s : PlantState). s.traps) rest;
}

pub carrier : (old new : PlantState) (slot : ℕ) (plan : Planned) → IsCarriedOut old slot plan (held_of new) → IsCarrier old new
carrier old new slot (PlanOnce items) is =
    by_rest old new old.tty0 old.tty1 (ap (λ (h : Held PlantState). h.rest) is)
carrier old new slot (PlanWrite tty from len items) (put, is, last) =
    by_rest old new _ _ (ap (λ (h : Held PlantState). h.rest) last ∙ (ap (λ (h : Held PlantState). h.rest) is.rest ∙ puts_beside (rest_of old) tty (bytes_of old slot from len)))
carrier old new slot (PlanGrow count items) (prepared, only, grown, last) =
    by_rest old new old.tty0 old.tty1 (ap (λ (h : Held PlantState). h.rest) last ∙ only.rest)
carrier old new slot (PlanFork child items) (prepared, only, copied, last) =
    by_rest old new old.tty0 old.tty1 (ap (λ (h : Held PlantState). h.rest) last ∙ only.rest)
carrier old new slot (PlanPut address status items) (put, is, last) =
    by_rest old new old.tty0 old.tty1 (ap (λ (h : Held PlantState). h.rest) last ∙ is.rest)

-- the state that the plant stands for, by the words beside its area
unix_left : (old new : PlantState) → IsCarrier old new → old.in_user ≡ false
    → unix_at (left_trap new) ≡ unix_of (records_held new) (contents_of new) (tapes_of new) InKernel old.steps old.traps
unfolding unix_at
unix_left old new is kernel =
    sym (unix_beside new (tapes_of new) (context_of new) new.steps new.traps)
    ∙ (let out : context_of new ≡ InKernel = rw (is.in_user ∙ kernel) refl in rw (out, is.steps, is.traps) refl)

-- what is done of the records of a service
pub length-bytes : (pages : Pages) (a n : ℕ) → length (bytes_at pages a n) ≡ n
unfolding bytes_at
length-bytes pages a zero = refl
length-bytes pages a (suc n) = ap suc (length-bytes pages (a + 1) n)

pub same_device : (s : PlantState) (tty : ℕ) → tty < 2 → tapes_of s tty ≡ (tty_of s tty).tape
same_device s zero low = refl
same_device s (suc zero) low = refl
same_device s (suc (suc n)) low = absurd (omega (arith, low))

pub told_by_device : (s : PlantState) (tty : ℕ) (held : Option TermRec) → tty < 2 → IfSome held (IsOfDevice (records_held s) tty (tty_of s tty))
    → IfSome held (λ terminal. terminal.written ≡ length (tapes_of s tty))
told_by_device s tty (Some terminal) low is = is.tape.counted ∙ sym (ap (λ (t : List ℕ). length t) (same_device s tty low))
told_by_device s tty None low is = tt

pub service_done : (b new : PlantState) (slot steps : ℕ) (process : ProcRec) (s : Service) → IsInTrap b steps → b.shape.budget ≤ 2000000 → (records_held b).procs slot ≡ Some process
    → IsDoable (records_held b) (words_of b.memory) slot s → IsCarriedOut b slot (plan_of s) (held_of new)
    → IsDone (records_held b) (contents_of b) (tapes_of b) slot process (plan_of s) (records_held new) (contents_of new) (tapes_of new)
service_done b new slot steps process (service.Once patch) trap most there doable is =
    (ap (λ (h : Held PlantState). h.records) is, ap (λ (h : Held PlantState). h.contents) is, ap (λ (h : Held PlantState). tapes_of h.rest) is)
service_done b new slot steps process (service.TtyWrite tty from len patch) trap most there doable is =
    let low : tty < 2 = doable.1.terminal in
    let tape : length (tapes_of b tty) ≡ length (tty_of b tty).tape = ap (λ (t : List ℕ). length t) (same_device b tty low) in
    let bytes : length (bytes_of b slot from len) ≡ len = length-bytes (pages_in (records_held b) (words_of b.memory) slot) from len in
    let room : length (tapes_of b tty) + length (bytes_of b slot from len) < 2 ^ 32 =
    omega (arith, tape, bytes, doable.1.most, trap.terminals.bytes tty low, trap.counted, trap.budget, most) in
    write_done b new slot tty from len patch.items.items process there low
    (told_by_device b tty ((records_held b).terms tty) low (trap.terminals.records tty low)) room is
service_done b new slot steps process (service.Grow count patch) trap most there doable is = grow_done b new slot count patch.items.items process there is
service_done b new slot steps process (service.Fork child patch) trap most there doable is = fork_done b new slot child patch.items.items process there is
service_done b new slot steps process (service.PutStatus address status patch) trap most there doable is = put_done b new slot address status patch.items.items process is

-- a trap is made: the state is the one that its plan makes of the records and tapes
pub trap_made : (s new : PlantState) (t : Trap) (slot : ℕ) (process : ProcRec) (x : Service) (after : Unix) → MayTrap s t
    → (records_held s).procs slot ≡ Some process → IsDoable (records_held s) (words_of s.memory) slot x
    → ((done : Records) (words : WordMap) (tapes : ℕ → List ℕ) → IsDone (records_held s) (contents_of s) (tapes_of s) slot process (plan_of x) done words tapes
    → unix_of done words tapes InKernel (s.steps + steps_in t) (s.traps + 1) ≡ after)
    → IsEnded (begun_by s t) slot (plan_of x) new → IsSound new → IsTrapMade s new after (steps_in t)
trap_made s new t slot process x after may there doable law (done, out, left) sound =
    let b = begun_by s t in
    let is : IsCarrier b done = carrier b done slot (plan_of x) out in
    let steps = steps_begun s t may in
    let traps = traps_begun s t may in
    let served = service_done b done slot s.steps process x (begins s t may) may.most there doable out in
    let unix : unix_at (left_trap done) ≡ after =
    unix_left b done is refl
    ∙ ((λ i. unix_of (records_held done) (contents_of done) (tapes_of done) InKernel (steps i) (traps i)) ∙ law (records_held done) (contents_of done) (tapes_of done) served) in
    record {
      sound = sound;
      unix = ap (λ (p : PlantState). unix_at p) left ∙ unix;
      steps = ap (λ (p : PlantState). p.steps) left ∙ (is.steps ∙ steps);
      traps = ap (λ (p : PlantState). p.traps) left ∙ (is.traps ∙ traps);
      same = subst (IsSameMachine s) (sym left) (record { shape = is.shape; points = is.points; live = is.live; history = is.history; reviving = is.reviving });
    }
