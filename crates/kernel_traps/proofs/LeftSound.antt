-- What is left of a trap that was refused a store, or its end, is sound at a panic.
use Rattle.std.proofs.Common.{◌≡◌, ◌∙◌, ◌+◌, ◌-◌, ◌^◌, ◌<◌, ◌≤◌, ℕ, Bool, true, false, if◌then◌else◌, Option, Some, None, is_some, inl, inr, refl, sym, ap, subst, arith}
use Rattle.ow_base.specs.Sv32.{WordMap}
use Rattle.ow_base.specs.declared.machine.Shape.{Shape}
use Rattle.phys_memory.specs.Memory.{words_of}
use Rattle.record_layouts.specs.declared.head.HeadRec.{HeadRec}
use Rattle.record_layouts.specs.declared.memory_map.MemoryMap.{MemoryMap}
use Rattle.record_layouts.specs.declared.traps.Trap.{Trap}
use Rattle.record_layouts.specs.Decode.{tape_by}
use Rattle.record_layouts.specs.Held.{AreValues, Records}
use Rattle.record_layouts.specs.Overlay.{area_at, gate_of}
use Rattle.record_layouts.specs.Reading.{is_readable_gate, records_in, records_of}
use Rattle.record_layouts.specs.SoundImages.{AreOfTapes, IsServedBefore, IsSoundAtPanic}
use Rattle.record_layouts.specs.Unix.Traps.{or_zero, pid_of, steps_in}
use Rattle.syscalls.specs.Planned.{Planned}
use Rattle.ow_plant.specs.Images.{AreFronts, image_of, tapes_of}
use Rattle.ow_plant.specs.State.{IsArmed, PlantState, is_refused}
use Rattle.ow_plant.specs.declared.refusal.Refusal.{Refusal}
use Rattle.intent_store.specs.Live.{held_of, map_of, records_held}
use Rattle.kernel_traps.specs.Ending.{MayBeLeftOfPlan}
use Rattle.kernel_traps.specs.Plants.{IsSound}
use Rattle.kernel_traps.specs.Refused.{IsRefusedIn}
use Rattle.kernel_traps.specs.Traps.{IsDue, IsHad, IsWithin, begun_by}
use Rattle.kernel_traps.specs.Turning.{IsSameMachine}
use Rattle.kernel_traps.proofs.Carried.{IsShort}
use Rattle.kernel_traps.proofs.Decoding.{pid_had}
use Rattle.kernel_traps.proofs.Entering.{MayTrap, steps_begun, traps_begun}
use Rattle.kernel_traps.proofs.LeftSoundHeld.{IsHeldLeft, left_of_plan}
use Rattle.kernel_traps.proofs.LeftPlans.{plan_short}
use Rattle.kernel_traps.proofs.TrapKinds.{HasBegun, trap_begun, trap_ends}

-- What is left of a trap that came on a plant: it is sound at a panic, and beside it nothing changes but what the begin of
-- the trap does.
pub record IsSoundLeft (s : PlantState) (t : Trap) (new : PlantState) : Type 0 where
  pub sound : IsSoundAtPanic (image_of new) new.steps new.traps
  pub refused : is_refused new ≡ true
  pub armed : IsArmed new
  pub pid : new.trap_pid ≡ or_zero (pid_of t)
  pub few_pids : new.trap_pid ≤ 256
  pub steps : new.steps ≡ s.steps + steps_in t
  pub traps : new.traps ≡ s.traps + 1
  pub budget : new.steps ≤ new.shape.budget
  pub tapes : AreFronts s new
  pub same : IsSameMachine s new

-- a head is read only where the gate is readable
read_where : (is_readable : Bool) (head : Option HeadRec) → is_some (if is_readable then head else None) ≡ true → is_readable ≡ true
read_where true head some = refl
read_where false head some = some

pub readable_where : (map : MemoryMap) (words : WordMap) → is_some (records_of map words).head ≡ true → is_readable_gate (gate_of (area_at words map.area_base)) ≡ true
unfolding records_of records_in
readable_where map words some = read_where (is_readable_gate (gate_of (area_at words map.area_base))) _ some

-- what is left of what a plant held is sound
pub left_sound_at_panic : (s new : PlantState) → IsHeldLeft (held_of s) (held_of new) → is_some (records_held new).head ≡ true → s.traps < 2 ^ 32 - 1
    → IsSoundAtPanic (image_of new) new.steps new.traps
left_sound_at_panic s new left head fits =
    let steps : new.steps ≡ s.steps = ap (λ (p : PlantState). p.steps) left.rest in
    let traps : new.traps ≡ s.traps = ap (λ (p : PlantState). p.traps) left.rest in
    record {
      whole = readable_where (map_of new) (words_of new.memory) head;
      complete = left.records.complete;
      values = left.records.values;
      numbered = left.records.numbered;
      in_calls = left.records.in_calls;
      mapped = left.records.mapped;
      on_terminals = left.on_terminals;
      in_built_calls = left.in_built_calls;
      served = subst (λ (n : ℕ). IsServedBefore (records_held new) (n + 1)) (sym traps) left.served;
      counted = omega (arith, traps, fits);
      terminals = subst (λ (n : ℕ). AreOfTapes (records_held new) (λ tty terminal. tape_by (tapes_of new tty) terminal) n) (sym steps) left.terminals;
    }

-- a refusal stands
refusal_stands : (s : PlantState) (slot : ℕ) (plan : Planned) (new : PlantState) → MayBeLeftOfPlan s slot plan new → is_refused new ≡ true
refusal_stands s slot plan new (inl (refused, left)) = ap (λ (r : Option Refusal). is_some r) refused
refusal_stands s slot plan new (inr (refused, all)) = ap (λ (r : Option Refusal). is_some r) refused

-- the pid of a trap is 0 or that of a process
pid_within : (r : Records) (t : Trap) (slot : ℕ) (held : Option ℕ) → AreValues r → IsHad r t slot → pid_of t ≡ held → or_zero held ≤ 256
pid_within r t slot (Some pid) values had is = (pid_had r t pid slot values is had).1
pid_within r t slot None values had is = omega arith

-- A trap that came on a sound plant. Its budget is one that a plant can be armed with, so that steps and bytes are counted
-- as they are and no count stands still.
pub sound_left_of : (s new : PlantState) (t : Trap) → IsSound s → IsDue s t → IsWithin s t → s.shape.budget ≤ 2000000 → s.traps < 4294967294
    → IsRefusedIn s t new → IsSoundLeft s t new
sound_left_of s new t sound due within most few refused =
    let may : MayTrap s t = record { sound = sound; within = within; most = most; few = few } in
    let (slot, plan, is, left) = refused.left in
    let b = begun_by s t in
    let has : HasBegun s b t slot plan = record { same = refl; may = may; is = is } in
    let (steps, trap, step) = trap_begun s b t slot plan has in
    let short : IsShort plan = subst IsShort (sym is.planned) (plan_short b t slot is.head is.process trap.held.records.values) in
    let held : IsHeldLeft (held_of b) (held_of new) = left_of_plan b new steps slot trap most plan step (trap_ends s b t slot plan has) short left in
    let pid : new.trap_pid ≡ or_zero (pid_of t) = ap (λ (p : PlantState). p.trap_pid) held.rest in
    let most_pid : or_zero (pid_of t) ≤ 256 = pid_within (records_held s) t due.slot (pid_of t) sound.held.records.values due.had refl in
    let same_steps : new.steps ≡ b.steps = ap (λ (p : PlantState). p.steps) held.rest in
    let same_traps : new.traps ≡ b.traps = ap (λ (p : PlantState). p.traps) held.rest in
    let shape : new.shape ≡ s.shape = ap (λ (p : PlantState). p.shape) held.rest in
    let budget : new.shape.budget ≡ s.shape.budget = ap (λ (x : Shape). x.budget) shape in
    let within_budget : b.steps ≤ s.shape.budget = trap.budget in
    record {
      sound = left_sound_at_panic b new held refused.stands.decodes trap.fits;
      refused = refusal_stands b slot plan new left;
      armed = refused.stands.armed;
      pid = pid;
      few_pids = omega (arith, pid, most_pid);
      steps = same_steps ∙ steps_begun s t may;
      traps = same_traps ∙ traps_begun s t may;
      budget = omega (arith, same_steps, budget, within_budget);
      tapes = held.fronts;
      same = record {
        shape = shape;
        points = ap (λ (p : PlantState). p.points) held.rest;
        live = ap (λ (p : PlantState). p.live) held.rest;
        history = ap (λ (p : PlantState). p.history) held.rest;
        reviving = ap (λ (p : PlantState). p.reviving) held.rest;
      };
    }
