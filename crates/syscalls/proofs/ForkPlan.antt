-- The slot that a fork takes for its child, by what is found and by records, and that the pages can be copied there.
use Rattle.std.proofs.Common.{◌≡◌, ℕ, ◌<◌, ◌≤◌, true, false, nat_lt, List, Option, Some, None, IfSome, IfNone, refl, sym, ap, subst, ◌∙◌, arith}
use Rattle.std.proofs.lemmas.Bool.Decides.{nat_tests}
use Rattle.ow_base.specs.Words.{minus}
use Rattle.record_layouts.specs.declared.head.HeadRec.{HeadRec}
use Rattle.record_layouts.specs.declared.patch.PatchItem.{PatchItem}
use Rattle.record_layouts.specs.declared.proc.ProcRec.{ProcRec}
use Rattle.record_layouts.specs.declared.sig.SigRec.{SigRec}
use Rattle.record_layouts.specs.Unix.Choice.{least_from}
use Rattle.record_layouts.specs.Held.{Records}
use Rattle.record_layouts.specs.Pages.{is_live, live_one, page_total}
use Rattle.record_layouts.specs.Sound.{AreSound, IsIn}
use Rattle.frame_table.specs.Free.{free_before}
use Rattle.address_space.specs.Spaces.{CanCopy}
use Rattle.process_table.specs.Patches.{fork_items}
use Rattle.process_table.specs.Slots.{IsFull, IsLeastFree, is_free}
use Rattle.process_table.proofs.Least.{least_found, least_none, least_passes, least_within}
use Rattle.syscalls.specs.declared.caller.Caller.{Caller}
use Rattle.syscalls.specs.Planned.{PlanFork, PlanOnce, items_in, planned_answer, planned_fork, planned_fork_in}
use Rattle.syscalls.specs.Serving.{IsCallerIn, IsWithBank}
use Rattle.syscalls.proofs.Forked.{CanFork}

-- in a slot that can be taken no process is live
pub none_by : (r : Records) (held : Option ProcRec) → is_free r held ≡ true → live_one held ≡ None
none_by r (Some process) free = let dead : is_live process ≡ false = grind (arith, nat_tests, free) in rw dead refl
none_by r None free = refl

pub none_in : (r : Records) (child : ℕ) → is_free r (r.procs child) ≡ true → live_one (r.procs child) ≡ None
none_in r child free = none_by r (r.procs child) free

-- the first slot that can be taken is one for a fork
pub can_fork : (r : Records) (head : HeadRec) (slot child : ℕ) (process : ProcRec) (signals : SigRec) → AreSound r → r.head ≡ Some head → IsIn r slot process
    → least_from (λ place. is_free r (r.procs place)) 0 16 ≡ Some child → r.sigs slot ≡ Some signals → head.next ≤ 256 → CanFork r head slot child process signals
can_fork r head slot child process signals sound is_head is place signalled few = record {
  sound = sound;
  is_head = is_head;
  is = is;
  within = (least_within (λ place. is_free r (r.procs place)) 0 16 child place).1;
  free = least_passes (λ place. is_free r (r.procs place)) 0 16 child place;
  signalled = signalled;
  few = few;
}

-- the slot that is found is that of the plan
least_slot : (r : Records) (found : Option ℕ) → IfSome found (IsLeastFree r) → IfNone found (IsFull r)
    → least_from (λ place. is_free r (r.procs place)) 0 16 ≡ found
least_slot r (Some child) some none =
    least_found (λ place. is_free r (r.procs place)) 0 16 16 child refl
    (record { from = omega arith; to = some.within; passes = some.free; below = record { none = λ k from to. some.least k to } })
least_slot r None some none = least_none (λ place. is_free r (r.procs place)) 0 16 16 refl (record { none = λ k from to. none k to })

pub fork_found : (r : Records) (c : Caller) (found : Option ℕ) (own : Option SigRec) → IfSome found (IsLeastFree r) → IfNone found (IsFull r)
    → own ≡ r.sigs c.slot → planned_fork r c ≡ planned_fork_in r c found own
unfolding planned_fork
fork_found r c found own some none signalled = rw (least_slot r found some none) (ap (planned_fork_in r c found) (sym signalled))

-- the process of the caller has the pages of its record, which can be copied
copies_by : (r : Records) (c : Caller) (child : ℕ) (held : Option ProcRec) → r.procs c.slot ≡ held → IsWithBank c.process held → is_live c.process ≡ true
    → live_one (r.procs child) ≡ None → page_total c.process ≤ free_before r r.map.user_frames → IfSome held (CanCopy r c.slot child)
unfolding page_total
copies_by r c child (Some process) there bank live none room =
    let same : page_total c.process ≡ page_total process = rw bank refl in
    let lives : is_live process ≡ true = rw bank at live in
    record { there = there; live = lives; unused = none; frames = subst (λ (n : ℕ). n ≤ free_before r r.map.user_frames) same room }
copies_by r c child None there bank live none room = absurd bank

pub can_copy : (r : Records) (c : Caller) (child : ℕ) → IsCallerIn r c → is_free r (r.procs child) ≡ true
    → page_total c.process ≤ free_before r r.map.user_frames → IfSome (r.procs c.slot) (CanCopy r c.slot child)
can_copy r c child is free room =
    copies_by r c child (r.procs c.slot) refl is.process is.caller.live (none_in r child free) room

-- the free frames that are counted
pub frames_are : (r : Records) (frames count : ℕ) → count ≡ free_before r frames → frames ≡ r.map.user_frames → count ≡ free_before r r.map.user_frames
frames_are r frames count counted same = counted ∙ ap (free_before r) same

-- what is planned by what is found: the items of a refusal, or those of the fork
module _ (r : Records) (c : Caller) (found : Option ℕ) (own : Option SigRec) (some : IfSome found (IsLeastFree r)) (none : IfNone found (IsFull r))
    (signalled : own ≡ r.sigs c.slot) (items : List PatchItem) where
  refused_by : (place : Option ℕ) → planned_fork_in r c place None ≡ planned_answer c (minus 11)
  refused_by (Some child) = refl
  refused_by None = refl

  pub no_slot : items ≡ items_in (planned_answer c (minus 11)) → found ≡ None → PlanOnce items ≡ planned_fork r c
  no_slot are is = ap PlanOnce are
      ∙ sym (fork_found r c found own some none signalled ∙ ap (λ (place : Option ℕ). planned_fork_in r c place own) is)

  pub no_signals : items ≡ items_in (planned_answer c (minus 11)) → own ≡ None → PlanOnce items ≡ planned_fork r c
  no_signals are is = ap PlanOnce are
      ∙ sym (fork_found r c found own some none signalled ∙ (ap (planned_fork_in r c found) is ∙ refused_by found))

  module _ (child : ℕ) (signals : SigRec) (slot : found ≡ Some child) (are : own ≡ Some signals) (few : c.head.next < 257) where
    plan_there : planned_fork r c ≡ planned_fork_in r c (Some child) (Some signals)
    plan_there = fork_found r c found own some none signalled
        ∙ (ap (λ (place : Option ℕ). planned_fork_in r c place own) slot ∙ ap (planned_fork_in r c (Some child)) are)

    pid_left : nat_lt 256 c.head.next ≡ false
    pid_left = grind (arith, nat_tests, few)

    pub no_room : items ≡ items_in (planned_answer c (minus 12)) → free_before r r.map.user_frames < page_total c.process → PlanOnce items ≡ planned_fork r c
    no_room refused short =
        let full : nat_lt (free_before r r.map.user_frames) (page_total c.process) ≡ true = grind (arith, nat_tests, short) in
        ap PlanOnce refused ∙ sym (plan_there ∙ rw (pid_left, full) refl)

    pub forks : items ≡ fork_items c.head c.slot child c.process signals c.trap → page_total c.process ≤ free_before r r.map.user_frames
        → PlanFork child items ≡ planned_fork r c
    forks forked room =
        let left : nat_lt (free_before r r.map.user_frames) (page_total c.process) ≡ false = grind (arith, nat_tests, room) in
        ap (PlanFork child) forked ∙ sym (plan_there ∙ rw (pid_left, left) refl)
