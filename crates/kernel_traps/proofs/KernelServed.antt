-- What is next where no process is in user mode, by what is chosen, and what a turn is by its trap.
use Rattle.std.proofs.Common.{◌≡◌, ◌∙◌, ◌⊎◌, ◌==◌, ◌+◌, ◌<◌, ℕ, true, false, Option, Some, None, is_some, Result, OnOk, inl, inr, refl, sym, ap, subst, arith}
use Rattle.std.proofs.lemmas.Bool.{cases_Bool}
use Rattle.std.proofs.lemmas.Bool.Decides.{nat_tests}
use Rattle.ow_base.specs.declared.machine.Now.{Now}
use Rattle.phys_memory.specs.Memory.{words_of}
use Rattle.record_layouts.specs.declared.places.RecordId.TheVariants as id
use Rattle.record_layouts.specs.declared.proc.ProcRec.{ProcRec}
use Rattle.record_layouts.specs.declared.traps.Trap.{Trap}
use Rattle.record_layouts.specs.declared.traps.Trap.TheVariants as trap
use Rattle.record_layouts.specs.Unix.Choice.{chosen, deliverable, no_keys, returned_as, settled}
use Rattle.record_layouts.specs.Decode.{call_of, process_of}
use Rattle.record_layouts.specs.Held.{Records}
use Rattle.record_layouts.specs.Pages.{is_live}
use Rattle.record_layouts.specs.Sound.{IsIn}
use Rattle.record_layouts.specs.Unix.Traps.{after_trap, closing_of, signal_or_piece_of, steps_in, turned_by, user_of}
use Rattle.record_layouts.specs.Unix.Turn.{closed}
use Rattle.record_layouts.specs.Unix.State.{CallState, In, Out, Position, Process, Unix}
use Rattle.record_layouts.proofs.Turning.{turn_is}
use Rattle.process_table.specs.Choosing.{IsChosen, IsNext, IsRest, IsWork, is_ready, is_ready_one, signal_by, work_of}
use Rattle.process_table.specs.declared.choice.Choice.{Choice}
use Rattle.process_table.specs.declared.choice.Choice.TheVariants as choice
use Rattle.process_table.proofs.Running.{signal_is}
use Rattle.process_table.proofs.Seats.{one_process}
use Rattle.ow_plant.specs.State.{PlantState, now_of}
use Rattle.intent_store.specs.Live.{records_held}
use Rattle.kernel_traps.specs.Due.{IsSettled, IsTrapNext}
use Rattle.kernel_traps.specs.Plants.{IsSound, unix_at}
use Rattle.kernel_traps.specs.Traps.{IsDue, IsLiveAs, IsTrapMade}
use Rattle.kernel_traps.specs.Turning.{AllHaveEnded, IsSomeLive, IsTurn}
use Rattle.kernel_traps.specs.User.{IsOutside, IsReturned, at_process}
use Rattle.kernel_traps.specs.declared.turns.Turn.TheVariants as turns
use Rattle.kernel_traps.proofs.TrapKinds.{live_at}
use Rattle.kernel_traps.proofs.TurnUnix.{at_kernel, at_user, chosen_of, chosen_trap, idle_stays, idle_trap, lives, none_of, rest_tells, same_then, settled_trap, settles, stays_settled}

-- who is chosen is live
ready_live : (r : Records) (now : Now) (above slot : ℕ) (process : ProcRec) → r.procs slot ≡ Some process → is_ready r now above slot ≡ true → is_live process ≡ true
unfolding is_ready
ready_live r now above slot process there ready =
    let own : is_ready_one r now above slot (Some process) ≡ true = ap (is_ready_one r now above slot) (sym there) ∙ ready in
    grind (arith, nat_tests, own)

next_in : (r : Records) (now : Now) (above slot : ℕ) (process : ProcRec) → r.procs slot ≡ Some process → IsNext r now above slot → IsIn r slot process
next_in r now above slot process there is = record { within = is.within; there = there; live = ready_live r now above slot process there is.ready }

chosen_in : (r : Records) (now : Now) (slot : ℕ) (process : ProcRec) → r.procs slot ≡ Some process → IsChosen r now slot → IsIn r slot process
chosen_in r now slot process there (inl above) = next_in r now _ slot process there above
chosen_in r now slot process there (inr least) = next_in r now 0 slot process there least.1

pub work_in : (r : Records) (now : Now) (slot : ℕ) (done : Choice) → (is : IsWork r now slot done) → IsIn r slot is.process
work_in r now slot done is = chosen_in r now slot is.process is.there is.chosen

-- what is done with a process
signal_first : (slot : ℕ) (held : Option ℕ) (state : ℕ) → choice.Signal slot ≡ work_of slot held state → (signal : ℕ) × (held ≡ Some signal)
signal_first slot (Some signal) state is = (signal, refl)
signal_first slot None state is = elim (cases_Bool (state == 2)) [
  | inl calls ↦ absurd (let other : choice.Signal slot ≡ choice.Piece slot = rw calls at is in cc)
  | inr out ↦ absurd (let other : choice.Signal slot ≡ choice.User slot = rw out at is in cc)
]

piece_then : (slot : ℕ) (held : Option ℕ) (state : ℕ) → choice.Piece slot ≡ work_of slot held state → (held ≡ None) × ((state == 2) ≡ true)
piece_then slot (Some signal) state is = absurd (let other : choice.Piece slot ≡ choice.Signal slot = is in cc)
piece_then slot None state is = elim (cases_Bool (state == 2)) [
  | inl calls ↦ (refl, calls)
  | inr out ↦ absurd (let other : choice.Piece slot ≡ choice.User slot = rw out at is in cc)
]

user_last : (slot : ℕ) (held : Option ℕ) (state : ℕ) → choice.User slot ≡ work_of slot held state → (held ≡ None) × ((state == 2) ≡ false)
user_last slot (Some signal) state is = absurd (let other : choice.User slot ≡ choice.Signal slot = is in cc)
user_last slot None state is = elim (cases_Bool (state == 2)) [
  | inl calls ↦ absurd (let other : choice.User slot ≡ choice.Piece slot = rw calls at is in cc)
  | inr out ↦ (refl, out)
]

outside_state : (process : ProcRec) → is_live process ≡ true → (process.state == 2) ≡ false → process.state ≡ 1
outside_state process live out = grind (arith, nat_tests, live, out)

-- a step is left where some process is live
pub not_ended : (s : PlantState) → IsSomeLive s → AllHaveEnded s → ⊥
not_ended s live ended = let both : false ≡ true = sym ended ∙ live in cc

pub left_by : (s : PlantState) → (s.steps < s.shape.budget) ⊎ AllHaveEnded s → IsSomeLive s → s.steps < s.shape.budget
left_by s (inl left) live = left
left_by s (inr ended) live = absurd (not_ended s live ended)

pub work_live : (s : PlantState) (slot : ℕ) (done : Choice) → IsSound s → IsWork (records_held s) (now_of s) slot done → IsSomeLive s
work_live s slot done sound is = lives s slot is.process sound (work_in (records_held s) (now_of s) slot done is)

pub rest_live : (s : PlantState) → IsSound s → IsRest (records_held s) (now_of s) true → IsSomeLive s
rest_live s sound is = rest_tells s true sound is

pub all_ended : (s : PlantState) → IsSound s → IsRest (records_held s) (now_of s) false → AllHaveEnded s
all_ended s sound is = rest_tells s false sound is

pub user_lives : (s : PlantState) → IsSound s → s.in_user ≡ true → IsSomeLive s
user_lives s sound in_user =
    let (slot, process, runs) = sound.in_user in_user in
    lives s slot process sound runs.there

-- the process that is chosen, as it is in the Unix
module _ (s : PlantState) (sound : IsSound s) (in_kernel : s.in_user ≡ false) (slot : ℕ) (done : Choice) (is : IsWork (records_held s) (now_of s) slot done) where
  abbrev in_unix : Process
  in_unix = process_of (records_held s) (words_of s.memory) slot is.process

  there : IsIn (records_held s) slot is.process
  there = work_in (records_held s) (now_of s) slot done is

  live : IsLiveAs s is.process.pid in_unix
  live = live_at s slot is.process sound in_kernel there

  one : chosen no_keys (unix_at s) ≡ Some is.process.pid
  one = chosen_of s slot is.process sound in_kernel is.chosen is.there

  goes : (signal : Option ℕ) → signal_by is.process ((records_held s).sigs slot) ≡ signal → deliverable in_unix ≡ signal
  goes signal by =
      let (signals, has, own) = sound.held.records.numbered.signals slot is.process there in
      signal_is (records_held s) (words_of s.memory) slot is.process signals has ∙ by

  its_call : (call : CallState) → call_of is.process ≡ call → in_unix.call ≡ call
  unfolding process_of
  its_call call by = by

  its_state : settled no_keys (unix_at s) ≡ returned_as (unix_at s) is.process.pid (signal_by is.process ((records_held s).sigs slot)) (call_of is.process)
  its_state = settles s in_kernel is.process.pid in_unix one live _ _ (goes _ refl) (its_call _ refl)

  -- a trap that is the turn of the plant as it is
  trap_next : (signal : Option ℕ) → signal_by is.process ((records_held s).sigs slot) ≡ signal → settled no_keys (unix_at s) ≡ unix_at s
      → steps_in (signal_or_piece_of is.process.pid signal) ≡ 1 → IsDue s (signal_or_piece_of is.process.pid signal) → IsTrapNext s s (signal_or_piece_of is.process.pid signal)
  trap_next signal by stays step due =
      let settled : IsSettled s s = stays_settled s sound (lives s slot is.process sound there) stays in
      record { settled = settled; trap = settled_trap s s settled ∙ chosen_trap s in_kernel is.process.pid in_unix one live signal (goes signal by); step = step; due = due }

pub signal_next : (s : PlantState) (slot : ℕ) (process : ProcRec) (signal : ℕ) → IsSound s → s.in_user ≡ false → IsWork (records_held s) (now_of s) slot (choice.Signal slot)
    → (records_held s).procs slot ≡ Some process → signal_by process ((records_held s).sigs slot) ≡ Some signal → IsTrapNext s s (trap.Signal process.pid signal)
signal_next s slot process signal sound in_kernel is reads read =
    let one : is.process ≡ process = one_process (records_held s) slot is.process process is.there reads in
    let by : signal_by is.process ((records_held s).sigs slot) ≡ Some signal = ap (λ (p : ProcRec). signal_by p ((records_held s).sigs slot)) one ∙ read in
    subst (λ (p : ProcRec). IsTrapNext s s (trap.Signal p.pid signal)) one
    (trap_next s sound in_kernel slot (choice.Signal slot) is (Some signal) by
    (its_state s sound in_kernel slot (choice.Signal slot) is ∙ ap (λ (held : Option ℕ). returned_as (unix_at s) is.process.pid held (call_of is.process)) by) refl
    (record { mode = in_kernel; slot = slot; had = (is.process, record { seat = (work_in (records_held s) (now_of s) slot (choice.Signal slot) is, refl); suits = by }) }))

in_its_call : (process : ProcRec) → (process.state == 2) ≡ true → call_of process ≡ In process.call process.done
in_its_call process calls = rw calls refl

out_of_call : (process : ProcRec) → (process.state == 2) ≡ false → call_of process ≡ Out
out_of_call process out = rw out refl

pub piece_next : (s : PlantState) (slot : ℕ) (process : ProcRec) → IsSound s → s.in_user ≡ false → IsWork (records_held s) (now_of s) slot (choice.Piece slot)
    → (records_held s).procs slot ≡ Some process → IsTrapNext s s (trap.Piece process.pid)
piece_next s slot process sound in_kernel is reads =
    let (none, calls) = piece_then slot (signal_by is.process ((records_held s).sigs slot)) is.process.state is.work in
    let state : is.process.state ≡ 2 = grind (arith, nat_tests, calls) in
    subst (λ (p : ProcRec). IsTrapNext s s (trap.Piece p.pid)) (one_process (records_held s) slot is.process process is.there reads)
    (trap_next s sound in_kernel slot (choice.Piece slot) is None none
    (its_state s sound in_kernel slot (choice.Piece slot) is ∙ (λ i. returned_as (unix_at s) is.process.pid (none i) (in_its_call is.process calls i))) refl
    (record { mode = in_kernel; slot = slot; had = (is.process, record { seat = (work_in (records_held s) (now_of s) slot (choice.Piece slot) is, refl); suits = state }) }))

-- each slot has a record
held_there : (held : Option ProcRec) → is_some held ≡ true → (process : ProcRec) × (held ≡ Some process)
held_there (Some process) some = (process, refl)
held_there None some = cc

record_in : (s : PlantState) → IsSound s → (process : ProcRec) × ((records_held s).procs 0 ≡ Some process)
record_in s sound = held_there ((records_held s).procs 0) (sound.held.records.complete (id.Proc 0) (omega arith))

-- no process can run
pub idle_next : (s : PlantState) → IsSound s → s.in_user ≡ false → IsRest (records_held s) (now_of s) true → IsTrapNext s s trap.Idle
idle_next s sound in_kernel is =
    let none = none_of s sound in_kernel is.0 in
    let settled : IsSettled s s = stays_settled s sound (rest_live s sound is) (idle_stays s in_kernel none) in
    let (process, there) = record_in s sound in
    record {
      settled = settled;
      trap = settled_trap s s settled ∙ idle_trap s in_kernel none;
      step = refl;
      due = record { mode = in_kernel; slot = 0; had = (process, record { seat = (refl, there); suits = tt }) };
    }

-- control goes to a process
pub is_outside : (s : PlantState) (slot : ℕ) → IsWork (records_held s) (now_of s) slot (choice.User slot) → (process : ProcRec) × IsOutside s slot process
is_outside s slot is =
    let there = work_in (records_held s) (now_of s) slot (choice.User slot) is in
    let last = user_last slot (signal_by is.process ((records_held s).sigs slot)) is.process.state is.work in
    (is.process, record { there = there; outside = outside_state is.process there.live last.1 })

pub returned_settled : (s at : PlantState) (slot : ℕ) → IsSound s → s.in_user ≡ false → IsWork (records_held s) (now_of s) slot (choice.User slot) → IsReturned s slot at → IsSound at → IsSettled s at
returned_settled s at slot sound in_kernel own is sound_at =
    let pid : own.process.pid ≡ is.process.pid = ap (λ (p : ProcRec). p.pid) (one_process (records_held s) slot own.process is.process own.there is.there.there) in
    let (none, out) = user_last slot (signal_by own.process ((records_held s).sigs slot)) own.process.state own.work in
    record {
      how = inr (in_kernel, (slot, is));
      sound = sound_at;
      unix = is.unix ∙ sym (its_state s sound in_kernel slot (choice.User slot) own
          ∙ ((λ i. returned_as (unix_at s) own.process.pid (none i) (out_of_call own.process out i)) ∙ ap (at_process (unix_at s)) pid));
      live = lives s slot is.process sound is.there;
      steps = ap (λ (n : PlantState). n.steps) is.loaded;
      traps = ap (λ (n : PlantState). n.traps) is.loaded;
      same = record {
        shape = ap (λ (n : PlantState). n.shape) is.loaded;
        points = ap (λ (n : PlantState). n.points) is.loaded;
        live = ap (λ (n : PlantState). n.live) is.loaded;
        history = ap (λ (n : PlantState). n.history) is.loaded;
        reviving = ap (λ (n : PlantState). n.reviving) is.loaded;
      };
    }

-- a trap that was next is made
pub trap_turned : (s at new : PlantState) (t : Trap) → IsTrapNext s at t → IsTrapMade at new (after_trap (unix_at at) t) (steps_in t) → IsTurn s new turns.Trap
trap_turned s at new t is made = (
  record {
    sound = made.sound;
    turn = made.unix ∙ (ap (λ (u : Unix). after_trap u t) is.settled.unix ∙ sym (turn_is s.shape (unix_at s) ∙ ap (turned_by (settled no_keys (unix_at s))) is.trap));
    steps = made.steps ∙ (λ i. is.settled.steps i + is.step i);
    same = same_then s at new is.settled.same made.same;
  },
  made.traps ∙ ap (λ (n : ℕ). n + 1) is.settled.traps,
)

-- control has gone to a process, which is in user mode then
pub left_returned : (s at : PlantState) (slot : ℕ) → IsReturned s slot at → s.steps < s.shape.budget → at.steps < at.shape.budget
left_returned s at slot is left = subst (λ (n : PlantState). n.steps < n.shape.budget) (sym is.loaded) left

pub user_returned : (s at : PlantState) (slot : ℕ) → IsReturned s slot at → at.in_user ≡ true
user_returned s at slot is = ap (λ (n : PlantState). n.in_user) is.loaded

-- the closing trap may come
pub user_closing : (s : PlantState) (pid : ℕ) → IsSound s → s.in_user ≡ true → pid ≡ s.user_pid → IsDue s (trap.Closing (Some pid))
user_closing s pid sound in_user same =
    let (slot, process, runs) = sound.in_user in_user in
    record { mode = (in_user, sym same); slot = slot; had = (process, record { seat = (runs.there, runs.pid ∙ sym same); suits = runs.outside }) }

pub kernel_closing : (s : PlantState) → IsSound s → s.in_user ≡ false → IsDue s (trap.Closing None)
kernel_closing s sound in_kernel =
    let (process, there) = record_in s sound in
    record { mode = in_kernel; slot = 0; had = (process, record { seat = (refl, there); suits = tt }) }

pub user_closing_is : (s : PlantState) (pid : ℕ) → s.in_user ≡ true → pid ≡ s.user_pid → trap.Closing (Some pid) ≡ closing_of (unix_at s)
user_closing_is s pid in_user same = ap (λ (n : ℕ). trap.Closing (Some n)) same ∙ sym (ap (λ (p : Position). trap.Closing (user_of p)) (at_user s in_user))

pub kernel_closing_is : (s : PlantState) → s.in_user ≡ false → trap.Closing None ≡ closing_of (unix_at s)
kernel_closing_is s in_kernel = sym (ap (λ (p : Position). trap.Closing (user_of p)) (at_kernel s in_kernel))

pub closed_by : {E : Type 0} (r : Result (Unit {0}) E) (s new : PlantState) (t : Trap) → t ≡ closing_of (unix_at s)
    → OnOk r (IsTrapMade s new (after_trap (unix_at s) t) (steps_in t)) → OnOk r (IsTrapMade s new (closed (unix_at s)) 0)
unfolding after_trap
closed_by r s new t same made = subst (λ (t : Trap). OnOk r (IsTrapMade s new (after_trap (unix_at s) t) (steps_in t))) same made
