-- The traps by name: each has its plan, which ends it and makes of the state what the Unix makes of it.
use Rattle.std.proofs.Common.{◌≡◌, ◌∙◌, ◌+◌, ℕ, true, false, List, Option, Some, None, IfSome, Result, Ok, Err, OnOk, OnErr, is_some, refl, sym, ap, subst, arith}
use Rattle.std.specs.Option.{unwrap_or}
use Rattle.ow_base.specs.Pages.{Pages}
use Rattle.ow_base.specs.Sv32.{WordMap}
use Rattle.ow_base.specs.UserStep.{register}
use Rattle.ow_base.specs.declared.machine.Came.{Came}
use Rattle.record_layouts.specs.declared.places.RecordId.TheVariants as id
use Rattle.phys_memory.specs.Memory.{words_of}
use Rattle.record_layouts.specs.declared.head.HeadRec.{HeadRec}
use Rattle.record_layouts.specs.declared.proc.ProcRec.{ProcRec}
use Rattle.record_layouts.specs.declared.sig.SigRec.{SigRec}
use Rattle.record_layouts.specs.declared.patch.PatchItem.{PatchItem}
use Rattle.record_layouts.specs.declared.traps.Trap.{Trap}
use Rattle.record_layouts.specs.declared.traps.Trap.TheVariants as trap
use Rattle.record_layouts.specs.Unix.Calls.{ended_as, call_entered, piece_of, trapped}
use Rattle.record_layouts.specs.Decode.{Context, InKernel, InUser, process_of, processes_of, slot_by, unix_of}
use Rattle.record_layouts.specs.Held.{Records, with_items}
use Rattle.record_layouts.specs.Unix.Signals.{signalled}
use Rattle.record_layouts.specs.Pages.{is_live, is_mapped, live_one}
use Rattle.record_layouts.specs.Sound.{AreNumbered, AreSound, IsIn}
use Rattle.record_layouts.specs.Unix.Traps.{after_trap, came_of, or_zero, pid_of, steps_in}
use Rattle.record_layouts.specs.Unix.Turn.{closed, idled}
use Rattle.record_layouts.specs.Unix.State.{Process, Unix}
use Rattle.process_table.specs.Choosing.{next_signal, signal_by}
use Rattle.process_table.specs.Patches.{ended_items, saved_items, saved_process}
use Rattle.process_table.proofs.Endings.{ended_are}
use Rattle.process_table.proofs.EndedUnix.{ended_unix}
use Rattle.process_table.proofs.Running.{signal_range}
use Rattle.process_table.proofs.Saving.{saved_unix}
use Rattle.process_table.proofs.Seats.{found_in}
use Rattle.process_table.proofs.Signalling.{signal_unix}
use Rattle.syscalls.specs.declared.service.Service.{Service}
use Rattle.syscalls.specs.Done.{IsDone}
use Rattle.syscalls.specs.Planned.{Planned, PlanFork, PlanGrow, PlanOnce, PlanPut, PlanWrite, caller_with, planned_call, planned_number, planned_of_call, planned_piece}
use Rattle.syscalls.specs.Serving.{CanCall, IsDoable, plan_of}
use Rattle.syscalls.proofs.Becoming.{caller_decodes}
use Rattle.syscalls.proofs.Exported.{entered_then, goes_on_then}
use Rattle.ow_plant.specs.State.{PlantState, entered, risen}
use Rattle.intent_store.specs.Live.{IsStanding, IsUnstored, held_of, records_held}
use Rattle.ow_plant.specs.Images.{tapes_of}
use Rattle.kernel_traps.specs.Plants.{IsHeldSound, IsInTrap, IsSound, unix_at}
use Rattle.kernel_traps.specs.Ending.{CanBeServed, EndsTrap, HasStep, IsEnded, MayBeLeftOfPlan}
use Rattle.kernel_traps.specs.Traps.{CanHave, IsHad, IsInMode, IsLiveAs, IsPlanOf, IsSlotOf, IsTrapMade, begun_by, plan_for, served_items, signal_items_by, user_before}
use Rattle.kernel_traps.specs.Refused.{IsRefusedIn}
use Rattle.kernel_traps.proofs.Entering.{MayTrap, begins, steps_begun}
use Rattle.kernel_traps.proofs.Plans.{call_ends, ended_ends, piece_ends, saved_ends, served_ends, signal_ends_trap}
use Rattle.kernel_traps.proofs.Serves.{closed_in_user, closed_unix, idle_unix}
use Rattle.kernel_traps.proofs.Stays.{contents_of, counted_frames, eight_held, pages_beside, unix_beside}
use Rattle.kernel_traps.proofs.TrapUnix.{trap_made}

-- the head decodes
head_there : (held : Option HeadRec) → is_some held ≡ true → (head : HeadRec) × (held ≡ Some head)
head_there (Some head) some = (head, refl)
head_there None some = cc

-- the record in the slot of a trap
pub there_in : (r : Records) (held : Option ℕ) (slot : ℕ) (process : ProcRec) → IsSlotOf r held slot process → r.procs slot ≡ Some process
there_in r (Some pid) slot process seat = seat.0.there
there_in r None slot process seat = seat.1

-- the plan that a service carries is the one of the trap
planned_by : (r : Records) (slot : ℕ) (plan : Planned) (by : HeadRec → ProcRec → Planned) (head : HeadRec) (process : ProcRec) → r.head ≡ Some head → r.procs slot ≡ Some process
    → IfSome r.head (λ head. IfSome (r.procs slot) (λ process. plan ≡ by head process)) → plan ≡ by head process
planned_by r slot plan by head process is_head there is =
    let by_head : IfSome (r.procs slot) (λ process. plan ≡ by head process) =
    subst (λ (held : Option HeadRec). IfSome held (λ head. IfSome (r.procs slot) (λ process. plan ≡ by head process))) is_head is in
    subst (λ (held : Option ProcRec). IfSome held (λ process. plan ≡ by head process)) there by_head

pub is_plan : (s : PlantState) (t : Trap) (slot : ℕ) (plan : Planned) → IsHeldSound s → IsHad (records_held s) t slot
    → IfSome (records_held s).head (λ head. IfSome ((records_held s).procs slot) (λ process. plan ≡ plan_for s t slot head process)) → IsPlanOf s t slot plan
is_plan s t slot plan sound (process, has) is =
    let r = records_held s in
    let (head, is_head) = head_there r.head (sound.records.complete id.Head tt) in
    record {
      head = head;
      process = process;
      is_head = is_head;
      has = has;
      planned = planned_by r slot plan (plan_for s t slot) head process is_head (there_in r (pid_of t) slot process has.seat) is;
    }

-- the slot that the exit record of a trap's process tells
pub slot_found : (r : Records) (t : Trap) (pid slot : ℕ) → AreNumbered r → pid_of t ≡ Some pid → (other : ℕ) × IsHad r t other → slot_by (r.exits pid) ≡ Some slot → IsHad r t slot
slot_found r t pid slot numbered has_pid (other, (process, has)) exit =
    let seat : IsSlotOf r (Some pid) other process = subst (λ (held : Option ℕ). IsSlotOf r held other process) has_pid has.seat in
    let there : slot_by (r.exits pid) ≡ Some other = subst (λ (n : ℕ). slot_by (r.exits n) ≡ Some other) seat.1 (numbered.exit other process seat.0) in
    let both : Some other ≡ Some slot = sym there ∙ exit in
    let same : other ≡ slot = cc in
    (process, subst (λ (k : ℕ). CanHave r t k process) same has)

-- what is known of the signals of a process
signals_there : (s : PlantState) (slot : ℕ) (process : ProcRec) (signal : ℕ) → IsHeldSound s → IsIn (records_held s) slot process
    → signal_by process ((records_held s).sigs slot) ≡ Some signal
    → (signals : SigRec) × ((records_held s).sigs slot ≡ Some signals) × (next_signal process signals ≡ Some signal)
signals_there s slot process signal sound is goes =
    let (signals, there, own) = sound.records.numbered.signals slot process is in
    (signals, there, subst (λ (held : Option SigRec). signal_by process held ≡ Some signal) there goes)

-- each plan ends its trap
ends_for : (s : PlantState) (t : Trap) (slot : ℕ) (head : HeadRec) (process : ProcRec) → IsHeldSound s → (records_held s).head ≡ Some head → CanHave (records_held s) t slot process
    → EndsTrap (records_held s) slot (risen s.traps) (plan_for (begun_by s t) t slot head process)
ends_for s (trap.Entry pid) slot head process sound is_head has =
    call_ends (records_held s) (words_of s.memory) slot (risen s.traps) head process s.bank sound.records sound.in_built_calls is_head has.seat.0 has.suits
    (eight_held s slot process has.seat.0.there)
ends_for s (trap.Piece pid) slot head process sound is_head has =
    piece_ends (records_held s) (words_of s.memory) slot (risen s.traps) head process sound.records sound.in_built_calls is_head has.seat.0 has.suits
ends_for s (trap.Fault pid cause) slot head process sound is_head has =
    ended_ends (records_held s) head slot process (0x200 + cause) (risen s.traps) sound.records sound.in_built_calls is_head has.seat.0 has.suits.1
ends_for s (trap.Slice pid) slot head process sound is_head has =
    saved_ends (records_held s) head slot process s.bank (risen s.traps) sound.records sound.in_built_calls is_head has.seat.0 has.suits
ends_for s (trap.Signal pid signal) slot head process sound is_head has =
    let r = records_held s in
    let trap = risen s.traps in
    let (signals, there, next) = signals_there s slot process signal sound has.seat.0 has.suits in
    subst (λ (held : Option SigRec). EndsTrap r slot trap (PlanOnce (signal_items_by head slot process held signal trap))) (sym there)
    (signal_ends_trap r head slot process signals signal trap sound.records sound.in_built_calls is_head has.seat.0 there next)
ends_for s trap.Idle slot head process sound is_head has = served_ends (records_held s) head slot (risen s.traps) process sound.records sound.in_built_calls is_head has.seat.1
ends_for s (trap.Closing (Some pid)) slot head process sound is_head has =
    saved_ends (records_held s) head slot process s.bank (risen s.traps) sound.records sound.in_built_calls is_head has.seat.0 has.suits
ends_for s (trap.Closing None) slot head process sound is_head has = served_ends (records_held s) head slot (risen s.traps) process sound.records sound.in_built_calls is_head has.seat.1

-- what a plant stands for, by what the processor has
pub kernel_unix : (s : PlantState) → s.in_user ≡ false → unix_of (records_held s) (words_of s.memory) (tapes_of s) InKernel s.steps s.traps ≡ unix_at s
unfolding unix_at
kernel_unix s in_kernel = rw in_kernel refl

user_unix : (s : PlantState) (pid : ℕ) → s.in_user ≡ true → pid ≡ s.user_pid
    → unix_of (records_held s) (words_of s.memory) (tapes_of s) (InUser pid s.slice s.bank) s.steps s.traps ≡ unix_at s
unfolding unix_at
user_unix s pid in_user same = rw (in_user, same) refl

kernel_live : (s : PlantState) (slot : ℕ) (process : ProcRec) → IsSound s → IsIn (records_held s) slot process
    → (unix_of (records_held s) (words_of s.memory) (tapes_of s) InKernel s.steps s.traps).processes process.pid ≡ Some (process_of (records_held s) (words_of s.memory) slot process)
unfolding unix_of processes_of
kernel_live s slot process sound is = found_in (records_held s) (words_of s.memory) slot process sound.held.records is

pub live_at : (s : PlantState) (slot : ℕ) (process : ProcRec) → IsSound s → s.in_user ≡ false → IsIn (records_held s) slot process
    → IsLiveAs s process.pid (process_of (records_held s) (words_of s.memory) slot process)
live_at s slot process sound in_kernel is =
    subst (λ (u : Unix). u.processes process.pid ≡ Some (process_of (records_held s) (words_of s.memory) slot process)) (kernel_unix s in_kernel) (kernel_live s slot process sound is)

-- what a trap makes of a live process
after_entry : (u : Unix) (pid : ℕ) (p : Process) → u.processes pid ≡ Some p → call_entered u pid p ≡ after_trap u (trap.Entry pid)
unfolding after_trap
after_entry u pid p live = rw live refl

after_piece : (u : Unix) (pid : ℕ) (p : Process) → u.processes pid ≡ Some p → piece_of u pid p ≡ after_trap u (trap.Piece pid)
unfolding after_trap
after_piece u pid p live = rw live refl

after_fault : (u : Unix) (pid : ℕ) (p : Process) (cause : ℕ) → u.processes pid ≡ Some p → ended_as (trapped u pid) pid p (0x200 + cause) ≡ after_trap u (trap.Fault pid cause)
unfolding after_trap
after_fault u pid p cause live = rw live refl

after_signal : (u : Unix) (pid : ℕ) (p : Process) (signal : ℕ) → u.processes pid ≡ Some p → signalled u pid p signal ≡ after_trap u (trap.Signal pid signal)
unfolding after_trap
after_signal u pid p signal live = rw live refl

-- The state that the plan of a trap makes, of a sound plant and the process in the slot of the trap.
module _ (s : PlantState) (sound : IsSound s) (slot : ℕ) (head : HeadRec) (process : ProcRec) (is_head : (records_held s).head ≡ Some head) where
  abbrev words : WordMap
  words = contents_of s

  abbrev unix_with : Records → WordMap → (tapes : ℕ → List ℕ) → (steps : ℕ) → Unix
  unix_with r words tapes steps = unix_of r words tapes InKernel steps (s.traps + 1)

  abbrev unix_in : Context → Unix
  unix_in context = unix_of (records_held s) words (tapes_of s) context s.steps s.traps

  abbrev IsDoneBy : Planned → (done : Records) → WordMap → (tapes : ℕ → List ℕ) → Type 0
  IsDoneBy plan done done_words tapes = IsDone (records_held s) words (tapes_of s) slot process plan done done_words tapes

  -- records that are set at once
  once : (items : List PatchItem) (done : Records) (done_words : WordMap) (tapes : ℕ → List ℕ) (steps : ℕ) → IsDoneBy (PlanOnce items) done done_words tapes
      → unix_with done done_words tapes steps ≡ unix_with (with_items (records_held s) items) words (tapes_of s) steps
  once items done done_words tapes steps is = λ i. unix_with (is.0 i) (is.1 i) (is.2 i) steps

  -- the state by the words beside the area
  in_words : (context : Context) → unix_in context ≡ unix_of (records_held s) (words_of s.memory) (tapes_of s) context s.steps s.traps
  in_words context = unix_beside s (tapes_of s) context s.steps s.traps

  kernel_process : IsIn (records_held s) slot process → (unix_in InKernel).processes process.pid ≡ Some (process_of (records_held s) words slot process)
  unfolding unix_of processes_of
  kernel_process is = found_in (records_held s) words slot process sound.held.records is

  user_process : IsIn (records_held s) slot process → (p : Process) × ((unix_in (InUser process.pid s.slice s.bank)).processes process.pid ≡ Some p)
  unfolding unix_of
  user_process is = (_, caller_decodes (records_held s) words (InUser process.pid s.slice s.bank) slot process sound.held.records is refl)

  -- from the process of the slot to the one in user mode
  in_user : (pid : ℕ) (f : Unix → (pid : ℕ) → Unix) → IsInMode s (Some pid) → process.pid ≡ pid → f (unix_in (InUser process.pid s.slice s.bank)) process.pid ≡ f (unix_at s) pid
  in_user pid f mode own = λ i. f ((in_words (InUser process.pid s.slice s.bank) ∙ user_unix s process.pid mode.0 (own ∙ sym mode.1)) i) (own i)

  in_kernel : (pid : ℕ) (f : Unix → (pid : ℕ) → Unix) → IsInMode s None → process.pid ≡ pid → f (unix_in InKernel) process.pid ≡ f (unix_at s) pid
  in_kernel pid f mode own = λ i. f ((in_words InKernel ∙ kernel_unix s mode) i) (own i)

  no_step : (r : Records) → unix_with r words (tapes_of s) (s.steps + 0) ≡ unix_with r words (tapes_of s) s.steps
  no_step r = ap (unix_with r words (tapes_of s)) (let same : s.steps + 0 ≡ s.steps = omega arith in same)

  -- the plan of a call by these words
  call_beside : planned_call (records_held s) (words_of s.memory) slot (risen s.traps) head process s.bank ≡ planned_call (records_held s) words slot (risen s.traps) head process s.bank
  unfolding planned_call
  call_beside = ap (λ (pages : Pages). planned_number (records_held s) pages (caller_with slot (risen s.traps) head (saved_process process s.bank)) (register s.bank.regs 17))
      (pages_beside s slot process)

  piece_beside : planned_piece (records_held s) (words_of s.memory) slot (risen s.traps) head process ≡ planned_piece (records_held s) words slot (risen s.traps) head process
  unfolding planned_piece
  piece_beside = ap (λ (pages : Pages). planned_of_call (records_held s) pages (caller_with slot (risen s.traps) head process)) (pages_beside s slot process)

  pub law : (t : Trap) (done : Records) (done_words : WordMap) (tapes : ℕ → List ℕ) → IsInMode s (user_before t) → CanHave (records_held s) t slot process
      → IsDoneBy (plan_for (begun_by s t) t slot head process) done done_words tapes → unix_with done done_words tapes (s.steps + steps_in t) ≡ after_trap (unix_at s) t
  unfolding after_trap
  law (trap.Entry pid) done done_words tapes mode has made =
      let (is, own) = has.seat in
      let (p, live) = user_process is in
      entered_then (records_held s) words (tapes_of s) slot (risen s.traps) s.slice head process s.bank s.steps s.traps p done done_words tapes sound.held.records is_head is live (counted_frames s sound.held.armed sound.held.records)
      (subst (λ (plan : Planned). IsDoneBy plan done done_words tapes) call_beside made)
      ∙ (after_entry (unix_in (InUser process.pid s.slice s.bank)) process.pid p live ∙ in_user pid (λ u pid. after_trap u (trap.Entry pid)) mode own)
  law (trap.Piece pid) done done_words tapes mode has made =
      let (is, own) = has.seat in
      let live = kernel_process is in
      goes_on_then (records_held s) words (tapes_of s) slot (risen s.traps) head process s.steps s.traps _ done done_words tapes sound.held.records is_head is has.suits live
      (subst (λ (plan : Planned). IsDoneBy plan done done_words tapes) piece_beside made)
      ∙ (after_piece (unix_in InKernel) process.pid _ live ∙ in_kernel pid (λ u pid. after_trap u (trap.Piece pid)) mode own)
  law (trap.Fault pid cause) done done_words tapes mode has made =
      let (is, own) = has.seat in
      let (p, live) = user_process is in
      let context = InUser process.pid s.slice s.bank in
      once (ended_items head slot process (0x200 + cause) (risen s.traps)) done done_words tapes (s.steps + 1) made
      ∙ (ap (λ (r : Records). unix_with r words (tapes_of s) (s.steps + 1)) (ended_are (records_held s) head slot process (0x200 + cause) (risen s.traps))
      ∙ (ended_unix (records_held s) head slot process (0x200 + cause) (risen s.traps) words (tapes_of s) context s.steps s.traps p
      sound.held.records is_head is has.suits.1 refl live
      ∙ (after_fault (unix_in context) process.pid p cause live ∙ in_user pid (λ u pid. after_trap u (trap.Fault pid cause)) mode own)))
  law (trap.Slice pid) done done_words tapes mode has made =
      let (is, own) = has.seat in
      once (saved_items head slot process s.bank (risen s.traps)) done done_words tapes (s.steps + 1) made
      ∙ (saved_unix (records_held s) head slot process s.bank (risen s.traps) words (tapes_of s) s.slice s.steps s.traps sound.held.records is_head is has.suits
      ∙ in_user pid trapped mode own)
  law (trap.Signal pid signal) done done_words tapes mode has made =
      let (is, own) = has.seat in
      let r = records_held s in
      let (signals, there, next) = signals_there s slot process signal sound.held is has.suits in
      let range = signal_range process signals signal next in
      once (signal_items_by head slot process (r.sigs slot) signal (risen s.traps)) done done_words tapes (s.steps + 1) made
      ∙ (ap (λ (held : Option SigRec). unix_with (with_items r (signal_items_by head slot process held signal (risen s.traps))) words (tapes_of s) (s.steps + 1)) there
      ∙ (signal_unix r head slot process signals signal (risen s.traps) words (tapes_of s) s.steps s.traps sound.held.records is_head is there range.0 range.1
      ∙ (after_signal (unix_in InKernel) process.pid _ signal (kernel_process is) ∙ in_kernel pid (λ u pid. after_trap u (trap.Signal pid signal)) mode own)))
  law trap.Idle done done_words tapes mode has made =
      once (served_items head (risen s.traps)) done done_words tapes (s.steps + 1) made
      ∙ (idle_unix (records_held s) head (risen s.traps) words is_head (tapes_of s) s.steps s.traps ∙ ap idled (in_words InKernel ∙ kernel_unix s mode))
  law (trap.Closing (Some pid)) done done_words tapes mode has made =
      let (is, own) = has.seat in
      let items = saved_items head slot process s.bank (risen s.traps) in
      once items done done_words tapes (s.steps + 0) made
      ∙ (no_step (with_items (records_held s) items)
      ∙ (closed_in_user (records_held s) head slot process s.bank (risen s.traps) words (tapes_of s) s.slice s.steps s.traps sound.held.records is_head is has.suits
      ∙ in_user pid (λ u pid. closed u) mode own))
  law (trap.Closing None) done done_words tapes mode has made =
      let items = served_items head (risen s.traps) in
      once items done done_words tapes (s.steps + 0) made
      ∙ (no_step (with_items (records_held s) items)
      ∙ (closed_unix (records_held s) head (risen s.traps) words is_head (tapes_of s) s.steps s.traps ∙ ap closed (in_words InKernel ∙ kernel_unix s mode)))

-- what the end of a trap asks, and what is so then
more_steps : (plan : Planned) (before after : ℕ) → after ≡ before + 1 → HasStep plan before after
more_steps (PlanOnce items) before after more = tt
more_steps (PlanWrite tty from len items) before after more = omega (arith, more)
more_steps (PlanGrow count items) before after more = tt
more_steps (PlanFork child items) before after more = tt
more_steps (PlanPut address status items) before after more = tt

has_step : (s : PlantState) (t : Trap) (slot : ℕ) (head : HeadRec) (process : ProcRec) (after : ℕ) → after ≡ s.steps + steps_in t
    → HasStep (plan_for (begun_by s t) t slot head process) s.steps after
has_step s (trap.Closing (Some pid)) slot head process after steps = tt
has_step s (trap.Closing None) slot head process after steps = tt
has_step s (trap.Entry pid) slot head process after steps = more_steps _ s.steps after steps
has_step s (trap.Piece pid) slot head process after steps = more_steps _ s.steps after steps
has_step s (trap.Fault pid cause) slot head process after steps = tt
has_step s (trap.Slice pid) slot head process after steps = tt
has_step s (trap.Signal pid signal) slot head process after steps = tt
has_step s trap.Idle slot head process after steps = tt

or_none : (held : Option ℕ) → unwrap_or held 0 ≡ or_zero held
or_none (Some pid) = refl
or_none None = refl

-- a trap that has begun, with its plan
pub record HasBegun (s b : PlantState) (t : Trap) (slot : ℕ) (plan : Planned) : Type 0 where
  pub same : b ≡ begun_by s t
  pub may : MayTrap s t
  pub is : IsPlanOf (begun_by s t) t slot plan

pub has_begun : (s b : PlantState) (t : Trap) (came : Came) (held : Option ℕ) (pid slot : ℕ) (plan : Planned) → b ≡ entered s came pid → came ≡ came_of t → held ≡ pid_of t
    → pid ≡ unwrap_or held 0 → MayTrap s t → IsHad (records_held b) t slot
    → IfSome (records_held b).head (λ head. IfSome ((records_held b).procs slot) (λ process. plan ≡ plan_for b t slot head process)) → HasBegun s b t slot plan
has_begun s b t came held pid slot plan enters comes has own may had planned =
    let number : pid ≡ or_zero (pid_of t) = own ∙ (ap (λ (o : Option ℕ). unwrap_or o 0) has ∙ or_none (pid_of t)) in
    let same : b ≡ begun_by s t = enters ∙ (λ i. entered s (comes i) (number i)) in
    let sound : IsHeldSound b = subst IsHeldSound (sym same) (begins s t may).held in
    record { same = same; may = may; is = subst (λ (b : PlantState). IsPlanOf b t slot plan) same (is_plan b t slot plan sound had planned) }

pub trap_begun : (s b : PlantState) (t : Trap) (slot : ℕ) (plan : Planned) → HasBegun s b t slot plan → (steps : ℕ) × IsInTrap b steps × HasStep plan steps b.steps
trap_begun s b t slot plan has =
    let now = begun_by s t in
    subst (λ (b : PlantState). (steps : ℕ) × IsInTrap b steps × HasStep plan steps b.steps) (sym has.same) (
      s.steps,
      begins s t has.may,
      subst (λ (plan : Planned). HasStep plan s.steps now.steps) (sym has.is.planned) (has_step s t slot has.is.head has.is.process now.steps (steps_begun s t has.may)),
    )

-- the bytes of a process can be read for its calls
can_call : (r : Records) (slot : ℕ) (process : ProcRec) → AreSound r → IsIn r slot process → CanCall r slot
can_call r slot process sound is = record {
  within = is.within;
  complete = sound.complete;
  mapped = subst (λ (held : Option ProcRec). IfSome held (λ p. is_mapped r slot p ≡ true)) (sym is.there) (sound.mapped.mapped slot process is);
}

live_there : (process : ProcRec) → is_live process ≡ true → is_some (live_one (Some process)) ≡ true
live_there process live = rw live refl

served_by : (r : Records) (slot : ℕ) (process : ProcRec) (plan : Planned) → AreSound r → IsIn r slot process → CanBeServed r slot plan
served_by r slot process (PlanOnce items) sound is = tt
served_by r slot process (PlanWrite tty from len items) sound is = can_call r slot process sound is
served_by r slot process (PlanGrow count items) sound is =
    (is.within, ap (λ (held : Option ProcRec). is_some (live_one held)) is.there ∙ live_there process is.live)
served_by r slot process (PlanFork child items) sound is =
    (is.within, ap (λ (held : Option ProcRec). is_some (live_one held)) is.there ∙ live_there process is.live)
served_by r slot process (PlanPut address status items) sound is = is.within

once_served : (r : Records) (slot : ℕ) (plan : Planned) (items : List PatchItem) → plan ≡ PlanOnce items → CanBeServed r slot plan
once_served r slot plan items is = subst (λ (plan : Planned). CanBeServed r slot plan) (sym is) tt

-- only a call, or a further piece of one, reads bytes of its process
begun_served : (s : PlantState) (t : Trap) (slot : ℕ) (plan : Planned) → AreSound (records_held (begun_by s t)) → IsPlanOf (begun_by s t) t slot plan
    → CanBeServed (records_held (begun_by s t)) slot plan
begun_served s (trap.Entry pid) slot plan sound is = served_by _ slot is.process plan sound is.has.seat.0
begun_served s (trap.Piece pid) slot plan sound is = served_by _ slot is.process plan sound is.has.seat.0
begun_served s (trap.Fault pid cause) slot plan sound is = once_served _ slot plan _ is.planned
begun_served s (trap.Slice pid) slot plan sound is = once_served _ slot plan _ is.planned
begun_served s (trap.Signal pid signal) slot plan sound is = once_served _ slot plan _ is.planned
begun_served s trap.Idle slot plan sound is = once_served _ slot plan _ is.planned
begun_served s (trap.Closing (Some pid)) slot plan sound is = once_served _ slot plan _ is.planned
begun_served s (trap.Closing None) slot plan sound is = once_served _ slot plan _ is.planned

pub trap_served : (s b : PlantState) (t : Trap) (slot : ℕ) (plan : Planned) → HasBegun s b t slot plan → CanBeServed (records_held b) slot plan
trap_served s b t slot plan has =
    subst (λ (b : PlantState). CanBeServed (records_held b) slot plan) (sym has.same) (begun_served s t slot plan (begins s t has.may).held.records has.is)

pub trap_ends : (s b : PlantState) (t : Trap) (slot : ℕ) (plan : Planned) → HasBegun s b t slot plan → EndsTrap (records_held b) slot b.traps plan
trap_ends s b t slot plan has =
    subst (λ (b : PlantState). EndsTrap (records_held b) slot b.traps plan) (sym has.same)
    (subst (λ (plan : Planned). EndsTrap (records_held s) slot (risen s.traps) plan) (sym has.is.planned)
    (ends_for s t slot has.is.head has.is.process has.may.sound.held has.is.is_head has.is.has))

pub trap_done : {E : Type 0} (r : Result (Unit {0}) E) (s b new : PlantState) (t : Trap) (slot : ℕ) (x : Service) → HasBegun s b t slot (plan_of x) → IsInMode s (user_before t)
    → IsDoable (records_held b) (words_of b.memory) slot x → OnOk r (IsEnded b slot (plan_of x) new) → OnOk r (IsSound new)
    → OnOk r (IsTrapMade s new (after_trap (unix_at s) t) (steps_in t))
trap_done (Ok x) s b new t slot service has mode doable ended sound =
    trap_made s new t slot has.is.process service (after_trap (unix_at s) t) has.may (there_in (records_held s) (pid_of t) slot has.is.process has.is.has.seat)
    (subst (λ (b : PlantState). IsDoable (records_held b) (words_of b.memory) slot service) has.same doable)
    (λ made words tapes served. law s has.may.sound slot has.is.head has.is.process has.is.is_head t made words tapes mode has.is.has
    (subst (λ (plan : Planned). IsDone (records_held s) (contents_of s) (tapes_of s) slot has.is.process plan made words tapes) has.is.planned served))
    (subst (λ (b : PlantState). IsEnded b slot (plan_of service) new) has.same ended) sound
trap_done (Err e) s b new t slot service has mode doable ended sound = tt

pub trap_refused : {E : Type 0} (r : Result (Unit {0}) E) (s b new : PlantState) (t : Trap) (slot : ℕ) (plan : Planned) → HasBegun s b t slot plan
    → OnErr r (MayBeLeftOfPlan b slot plan new) → OnErr r (IsUnstored b new) → OnErr r (IsStanding new) → OnErr r (IsRefusedIn s t new)
trap_refused (Ok x) s b new t slot plan has left unstored stands = tt
trap_refused (Err e) s b new t slot plan has left unstored stands = record {
  left = (slot, plan, has.is, subst (λ (b : PlantState). MayBeLeftOfPlan b slot plan new) has.same left);
  unstored = λ none. (unstored none).1 ∙ ap (λ (p : PlantState). held_of p) has.same;
  stands = stands;
}
