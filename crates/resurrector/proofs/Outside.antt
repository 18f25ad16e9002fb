-- No process of the new kernel is in a call.
use Rattle.std.proofs.Common.{◌≡◌, ℕ, Bool, true, false, ◌==◌, ◌&&◌, if◌then◌else◌, Option, Some, None, refl, sym, ap, subst, ◌∙◌, inl, inr, arith}
use Rattle.std.proofs.lemmas.Bool.{cases_Bool}
use Rattle.std.proofs.lemmas.Bool.Decides.{nat_tests}
use Rattle.ow_base.specs.Sv32.{WordMap}
use Rattle.ow_plant.specs.Dead.{DeadState}
use Rattle.record_layouts.specs.declared.dead_proc.DeadProc.{DeadProc}
use Rattle.record_layouts.specs.declared.memory_map.MemoryMap.{MemoryMap}
use Rattle.record_layouts.specs.declared.places.RecordId.TheVariants as id
use Rattle.record_layouts.specs.declared.proc.ProcRec.{ProcRec}
use Rattle.record_layouts.specs.Held.{Records}
use Rattle.record_layouts.specs.Left.{HandedOver}
use Rattle.record_layouts.specs.Pages.{is_live}
use Rattle.record_layouts.specs.Reading.{records_of}
use Rattle.record_layouts.specs.Sound.{IsIn}
use Rattle.dead_reader.specs.Left.{handed_of, records_left}
use Rattle.dead_reader.specs.Losses.{bits_lost}
use Rattle.kernel_builder.specs.Blank.{free_process}
use Rattle.kernel_builder.specs.Reading.{IsReadAs}
use Rattle.resurrector.specs.Procedures.{aborted_call, brought_out, fate_with, is_lost, revived}
use Rattle.resurrector.specs.Revived.{ended_or_free, plan_of, process_by, revived_process}
use Rattle.resurrector.specs.Survivors.{goes_on, left_in, survivor_in, survivor_left, with_descriptors}

out_state : (process : ProcRec) (aborted : Bool)
    → (if aborted then aborted_call (record process { state = 1; call = 0; done = 0 }) else record process { state = 1; call = 0; done = 0 }).state ≡ 1
out_state process true = refl
out_state process false = refl

revived_state : (dead : DeadProc) (lost : ℕ) → (revived dead lost).state ≡ 1
unfolding revived brought_out
revived_state dead lost = elim (cases_Bool (dead.rec.procedure == 0)) [
  | inl none ↦ rw none (out_state dead.rec dead.aborted)
  | inr some ↦ rw some (out_state dead.rec dead.aborted)
]

some_same : (one other : ProcRec) → Some one ≡ Some other → one ≡ other
some_same one other e = cc

left_state : (r : Records) (left : Option DeadProc) (process : ProcRec) → survivor_left r left ≡ Some process → process.state ≡ 1
left_state r (Some dead) process e = elim (cases_Bool (is_lost (fate_with dead (bits_lost r dead.slot dead.rec.descs)))) [
  | inl lost ↦ absurd (cc (ap (λ (t : Bool). if t then None else Some (with_descriptors r (revived dead (bits_lost r dead.slot dead.rec.descs)))) lost, e))
  | inr stays ↦
      let same : Some (with_descriptors r (revived dead (bits_lost r dead.slot dead.rec.descs))) ≡ Some process = rw stays at e in
      subst (λ (p : ProcRec). p.state ≡ 1) (some_same _ process same) (revived_state dead (bits_lost r dead.slot dead.rec.descs))
]
left_state r None process e = absurd (cc e)

survivor_state : (r : Records) (handed : Option HandedOver) (slot : ℕ) (process : ProcRec) → survivor_in r handed slot ≡ Some process → process.state ≡ 1
unfolding survivor_in
survivor_state r handed slot process e = left_state r (left_in r handed slot) process e

-- a slot in which no process goes on has none that is live
over_if : (test : Bool) (process : ProcRec) → (test ≡ true → process.state ≡ 3) → is_live (if test then process else free_process) ≡ false
over_if true process ended = let over = ended refl in rw over refl
over_if false process ended = refl

pub none_live : (r : Records) (handed : Option HandedOver) (process : Option ProcRec) → is_live (ended_or_free r handed process) ≡ false
none_live r handed (Some process) = over_if (process.state == 3 && goes_on r handed process.parent) process (λ e. grind (arith, nat_tests, e))
none_live r handed None = refl

by_state : (r : Records) (handed : Option HandedOver) (slot : ℕ) (survivor : Option ProcRec) → survivor_in r handed slot ≡ survivor
    → is_live (process_by r handed slot survivor) ≡ true → (process_by r handed slot survivor).state ≡ 1
by_state r handed slot (Some process) is live = survivor_state r handed slot process is
by_state r handed slot None is live = absurd (cc (live, none_live r handed (r.procs slot)))

process_state : (r : Records) (handed : Option HandedOver) (slot : ℕ) → is_live (revived_process r handed slot) ≡ true → (revived_process r handed slot).state ≡ 1
unfolding revived_process
process_state r handed slot live = by_state r handed slot (survivor_in r handed slot) refl live

pub all_outside : (dead : DeadState) (words own : WordMap) (map : MemoryMap) → IsReadAs map (plan_of dead words) own
    → (slot : ℕ) (process : ProcRec) → IsIn (records_of map own) slot process → process.state ≡ 1
all_outside dead words own map read slot process there =
    let r = records_left dead words in
    let handed = handed_of dead.handover in
    let is : Some (revived_process r handed slot) ≡ Some process = sym (read.records (id.Proc slot) _ there.within refl tt) ∙ there.there in
    let same : revived_process r handed slot ≡ process = some_same (revived_process r handed slot) process is in
    let live : is_live (revived_process r handed slot) ≡ true = subst (λ (p : ProcRec). is_live p ≡ true) (sym same) there.live in
    subst (λ (p : ProcRec). p.state ≡ 1) same (process_state r handed slot live)
