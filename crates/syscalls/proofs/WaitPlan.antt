-- The slot of the child that is waited for: it is one of sixteen, its process has ended, and it is not the slot of a
-- process that goes on.
use Rattle.std.proofs.Common.{◌≡◌, ℕ, ◌<◌, true, Option, Some, None, refl, sym, ap, ◌∙◌, arith}
use Rattle.std.proofs.lemmas.Bool.Decides.{nat_tests}
use Rattle.record_layouts.specs.declared.proc.ProcRec.{ProcRec}
use Rattle.record_layouts.specs.Held.{Records}
use Rattle.record_layouts.specs.Pages.{is_live}
use Rattle.process_table.specs.Children.{child_slot, is_first_child}
use Rattle.process_table.specs.Slots.{is_live_one}
use Rattle.process_table.proofs.Least.{least_passes, least_within}
use Rattle.syscalls.specs.declared.caller.Caller.{Caller}
use Rattle.syscalls.specs.Serving.{IsCallerIn, IsWithBank}

-- in a slot is the record of a process that has ended
pub record HasEnded (r : Records) (place : ℕ) : Type 0 where
  pub child : ProcRec
  pub within : place < 16
  pub there : r.procs place ≡ Some child
  pub state : child.state ≡ 3

ended_by : (r : Records) (parent place : ℕ) (held : Option ProcRec) → place < 16 → r.procs place ≡ held → is_first_child r parent held ≡ true → HasEnded r place
ended_by r parent place None within there passes = absurd (cc passes)
ended_by r parent place (Some child) within there passes = record { child = child; within = within; there = there; state = grind (arith, nat_tests, passes) }

-- in the slot that is found
pub has_ended_there : (r : Records) (parent place : ℕ) → child_slot r parent ≡ Some place → HasEnded r place
unfolding child_slot
has_ended_there r parent place found =
    let test = λ (k : ℕ). is_first_child r parent (r.procs k) in
    let within = least_within test 0 16 place found in
    ended_by r parent place (r.procs place) (omega (arith, within.1)) refl (least_passes test 0 16 place found)

-- a process that goes on has another slot
pub ended_elsewhere : (r : Records) (slot place : ℕ) → HasEnded r place → is_live_one (r.procs slot) ≡ true → slot ≡ place → ⊥
ended_elsewhere r slot place ended live same =
    let held : r.procs slot ≡ Some ended.child = ap r.procs same ∙ ended.there in
    let lives : is_live ended.child ≡ true = sym (ap is_live_one held) ∙ live in
    absurd (grind (arith, nat_tests, lives, ended.state))

banked_lives : (process : ProcRec) (held : Option ProcRec) → IsWithBank process held → is_live process ≡ true → is_live_one held ≡ true
banked_lives process (Some other) same live = sym (ap is_live same) ∙ live
banked_lives process None same live = absurd same

pub caller_lives : (r : Records) (c : Caller) → IsCallerIn r c → is_live_one (r.procs c.slot) ≡ true
caller_lives r c is = banked_lives c.process (r.procs c.slot) is.process is.caller.live
