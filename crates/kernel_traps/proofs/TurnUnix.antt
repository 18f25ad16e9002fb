-- What the turn of a plant is in the Unix: whether it is settled, and which trap is next.
use Rattle.std.proofs.Common.{◌≡◌, ◌∙◌, ◌==◌, ◌+◌, ℕ, zero, suc, Bool, true, false, [], ◌∷◌, slice_index, Option, Some, None, is_some, inl, inr, refl, sym, ap}
use Rattle.std.proofs.lemmas.Bool.{cases_Bool}
use Rattle.ow_base.specs.declared.machine.Bank.{Bank}
use Rattle.phys_memory.specs.Memory.{words_of}
use Rattle.record_layouts.specs.declared.proc.ProcRec.{ProcRec}
use Rattle.record_layouts.specs.declared.traps.Trap.TheVariants as trap
use Rattle.record_layouts.specs.Unix.Choice.{Keys, chosen, deliverable, has_live_process, is_any_live, live_or, no_keys, returned_as, settled_to, settled, settled_at, settled_on}
use Rattle.record_layouts.specs.Decode.{Context, InKernel, InUser, process_at, processes_of, unix_of, with_bank}
use Rattle.record_layouts.specs.Sound.{IsIn, AreSound}
use Rattle.record_layouts.specs.Unix.Traps.{signal_or_piece_of, trap_at, trap_if_live, trap_of_turn, trap_or_idle}
use Rattle.record_layouts.specs.Unix.Turn.{turn, turn_at}
use Rattle.record_layouts.specs.Unix.State.{AtKernel, AtUser, CallState, Process, Unix, most_pids}
use Rattle.process_table.specs.Choosing.{IsChosen, IsNone, IsRest, keys_of}
use Rattle.process_table.specs.Slots.{has_such, is_live_one}
use Rattle.process_table.proofs.Chosen.{any_live_is, chosen_is, none_chosen}
use Rattle.process_table.proofs.Holding.{such_found}
use Rattle.ow_plant.specs.State.{PlantState, now_of}
use Rattle.intent_store.specs.Live.{records_held}
use Rattle.ow_plant.specs.Images.{tapes_of}
use Rattle.kernel_traps.specs.Due.{IsSettled}
use Rattle.kernel_traps.specs.Plants.{IsSound, context_of, unix_at}
use Rattle.kernel_traps.specs.Traps.{IsLiveAs}
use Rattle.kernel_traps.specs.Turning.{IsSameMachine, IsSomeLive}
use Rattle.kernel_traps.proofs.TrapKinds.{kernel_unix}

-- nothing is typed
none_typed : (tty : ℕ) → slice_index (0 ∷ 0 ∷ []) tty ≡ 0
none_typed zero = refl
none_typed (suc zero) = refl
none_typed (suc (suc n)) = refl

pub keys_none : (s : PlantState) → keys_of (now_of s) ≡ no_keys
keys_none s = λ i. record { arrived = λ tty. none_typed tty i; typed = λ tty. none_typed tty i }

-- where the plant is
pub at_kernel : (s : PlantState) → s.in_user ≡ false → (unix_at s).position ≡ AtKernel
unfolding unix_at unix_of
at_kernel s in_kernel = rw in_kernel refl

pub at_user : (s : PlantState) → s.in_user ≡ true → (unix_at s).position ≡ AtUser s.user_pid s.slice
unfolding unix_at unix_of
at_user s in_user = rw in_user refl

-- the turn of a plant that is settled, and its trap
pub settled_turn : (s at : PlantState) → IsSettled s at → turn s.shape (unix_at s) ≡ turn_at no_keys at.shape.quantum (unix_at at) (unix_at at).position
unfolding turn
settled_turn s at is = sym (λ i. turn_at no_keys (is.same.shape i).quantum (is.unix i) (is.unix i).position)

pub settled_trap : (s at : PlantState) → IsSettled s at → trap_of_turn no_keys s.shape (unix_at s) ≡ trap_at no_keys at.shape.quantum (unix_at at) (unix_at at).position
unfolding trap_of_turn
settled_trap s at is = sym (λ i. trap_at no_keys (is.same.shape i).quantum (is.unix i) (is.unix i).position)

-- from one machine to another of the same
pub same_then : (a b c : PlantState) → IsSameMachine a b → IsSameMachine b c → IsSameMachine a c
same_then a b c first then = record {
  shape = then.shape ∙ first.shape;
  points = then.points ∙ first.points;
  live = then.live ∙ first.live;
  history = then.history ∙ first.history;
  reviving = then.reviving ∙ first.reviving;
}

-- a plant that is settled as it is
pub stays_settled : (s : PlantState) → IsSound s → IsSomeLive s → settled no_keys (unix_at s) ≡ unix_at s → IsSettled s s
stays_settled s sound live stays = record {
  how = inl refl;
  sound = sound;
  unix = sym stays;
  live = live;
  steps = refl;
  traps = refl;
  same = record { shape = refl; points = refl; live = refl; history = refl; reviving = refl };
}

pub user_stays : (s : PlantState) → s.in_user ≡ true → settled no_keys (unix_at s) ≡ unix_at s
unfolding settled
user_stays s in_user = ap (settled_at no_keys (unix_at s)) (at_user s in_user)

-- a process that is chosen in the kernel, to which a signal goes, or which is in a call, or outside
module _ (s : PlantState) (in_kernel : s.in_user ≡ false) (pid : ℕ) (p : Process) (one : chosen no_keys (unix_at s) ≡ Some pid) (live : IsLiveAs s pid p) where
  pub settles : (signal : Option ℕ) (call : CallState) → deliverable p ≡ signal → p.call ≡ call → settled no_keys (unix_at s) ≡ returned_as (unix_at s) pid signal call
  unfolding settled
  settles signal call goes calls =
      let u = unix_at s in
      ap (settled_at no_keys u) (at_kernel s in_kernel) ∙ (ap (settled_on u) one ∙ (ap (settled_to u pid) live ∙ (λ i. returned_as u pid (goes i) (calls i))))

  pub chosen_trap : (signal : Option ℕ) → deliverable p ≡ signal → trap_at no_keys s.shape.quantum (unix_at s) (unix_at s).position ≡ Some (signal_or_piece_of pid signal)
  unfolding trap_at
  chosen_trap signal goes =
      let u = unix_at s in
      ap (trap_at no_keys s.shape.quantum u) (at_kernel s in_kernel) ∙ (ap (trap_or_idle u) one ∙ (ap (trap_if_live pid) live ∙ ap (λ (held : Option ℕ). Some (signal_or_piece_of pid held)) goes))

-- no process can run
pub idle_stays : (s : PlantState) → s.in_user ≡ false → chosen no_keys (unix_at s) ≡ None → settled no_keys (unix_at s) ≡ unix_at s
unfolding settled
idle_stays s in_kernel none = ap (settled_at no_keys (unix_at s)) (at_kernel s in_kernel) ∙ ap (settled_on (unix_at s)) none

pub idle_trap : (s : PlantState) → s.in_user ≡ false → chosen no_keys (unix_at s) ≡ None → trap_at no_keys s.shape.quantum (unix_at s) (unix_at s).position ≡ Some trap.Idle
unfolding trap_at
idle_trap s in_kernel none = ap (trap_at no_keys s.shape.quantum (unix_at s)) (at_kernel s in_kernel) ∙ ap (trap_or_idle (unix_at s)) none

-- some process is live, so not all have ended
live_by : (one other : Option Process) (some others : Bool) → is_some one ≡ is_some other → some ≡ others → live_or one some ≡ live_or other others
live_by (Some p) (Some q) some others same rest = refl
live_by (Some p) None some others same rest = cc
live_by None (Some q) some others same rest = cc
live_by None None some others same rest = rest

live_same : (f g : ℕ → Option Process) (first count : ℕ) → ((pid : ℕ) → is_some (f pid) ≡ is_some (g pid)) → is_any_live f first count ≡ is_any_live g first count
unfolding is_any_live
live_same f g first zero same = refl
live_same f g first (suc n) same = live_by (f first) (g first) (is_any_live f (first + 1) n) (is_any_live g (first + 1) n) (same first) (live_same f g (first + 1) n same)

banked : (bank : Bank) (held : Option Process) → is_some (with_bank bank held) ≡ is_some held
banked bank (Some p) = refl
banked bank None = refl

user_lives : (s : PlantState) (context : Context) (pid : ℕ) → is_some (processes_of (records_held s) (words_of s.memory) context pid) ≡ is_some (processes_of (records_held s) (words_of s.memory) InKernel pid)
unfolding processes_of
user_lives s InKernel pid = refl
user_lives s (InUser user count bank) pid = elim (cases_Bool (pid == user)) [
  | inl here ↦ rw here (banked bank (process_at (records_held s) (words_of s.memory) pid))
  | inr other ↦ rw other refl
]

any_live : (s : PlantState) → AreSound (records_held s) → has_live_process (unix_at s) ≡ has_such (records_held s) is_live_one
unfolding unix_at unix_of
any_live s sound =
    live_same (processes_of (records_held s) (words_of s.memory) (context_of s)) (processes_of (records_held s) (words_of s.memory) InKernel) 1 most_pids (user_lives s (context_of s))
    ∙ any_live_is (records_held s) (words_of s.memory) (tapes_of s) s.steps s.traps sound

pub lives : (s : PlantState) (slot : ℕ) (process : ProcRec) → IsSound s → IsIn (records_held s) slot process → IsSomeLive s
lives s slot process sound is = any_live s sound.held.records ∙ such_found (records_held s) is_live_one slot is.within (ap is_live_one is.there ∙ is.live)

-- what is chosen by the records
pub chosen_of : (s : PlantState) (slot : ℕ) (process : ProcRec) → IsSound s → s.in_user ≡ false → IsChosen (records_held s) (now_of s) slot → (records_held s).procs slot ≡ Some process
    → chosen no_keys (unix_at s) ≡ Some process.pid
chosen_of s slot process sound in_kernel is there =
    sym (ap (λ (u : Unix). chosen no_keys u) (kernel_unix s in_kernel)) ∙ (sym (ap (λ (keys : Keys). chosen keys (unix_of (records_held s) (words_of s.memory) (tapes_of s) InKernel s.steps s.traps)) (keys_none s))
    ∙ chosen_is (records_held s) (words_of s.memory) (tapes_of s) s.steps s.traps (now_of s) slot process sound.held.records is there)

pub none_of : (s : PlantState) → IsSound s → s.in_user ≡ false → IsNone (records_held s) (now_of s) 0 → chosen no_keys (unix_at s) ≡ None
none_of s sound in_kernel is =
    sym (ap (λ (u : Unix). chosen no_keys u) (kernel_unix s in_kernel)) ∙ (sym (ap (λ (keys : Keys). chosen keys (unix_of (records_held s) (words_of s.memory) (tapes_of s) InKernel s.steps s.traps)) (keys_none s))
    ∙ none_chosen (records_held s) (words_of s.memory) (tapes_of s) s.steps s.traps (now_of s) sound.held.records is)

pub rest_tells : (s : PlantState) (is_any : Bool) → IsSound s → IsRest (records_held s) (now_of s) is_any → has_live_process (unix_at s) ≡ is_any
rest_tells s is_any sound is = any_live s sound.held.records ∙ is.1
