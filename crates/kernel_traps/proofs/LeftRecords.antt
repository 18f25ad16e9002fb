-- What records stand for that a panic left: where the trap that it broke is undone, the state before with what that trap
-- counts, and where it is done, the state after it.
use Rattle.std.proofs.Common.{◌≡◌, ◌∙◌, ◌==◌, ◌||◌, ◌+◌, ◌≤◌, ℕ, zero, suc, Bool, true, false, if◌then◌else◌, List, Option, Some, None, IfSome, is_some, inl, inr, refl, sym, ap, arith}
use Rattle.std.proofs.lemmas.Bool.{cases_Bool}
use Rattle.std.proofs.lemmas.Bool.Decides.{nat_tests}
use Rattle.ow_base.specs.Sv32.{WordMap}
use Rattle.ow_base.specs.declared.machine.Bank.{Bank}
use Rattle.record_layouts.specs.declared.head.HeadRec.{HeadRec}
use Rattle.record_layouts.specs.declared.proc.ProcRec.{ProcRec}
use Rattle.record_layouts.specs.declared.traps.Trap.{Trap}
use Rattle.record_layouts.specs.declared.traps.Trap.TheVariants as trap
use Rattle.record_layouts.specs.Decode.{Context, InKernel, InUser, description_by, ended_by, ended_in, ended_of, is_ended_as, is_number, last_by, next_by, pid_in, process_at, process_in, processes_of, slot_by, status_by, terminal_by, unix_of, with_bank}
use Rattle.record_layouts.specs.Held.{Records}
use Rattle.record_layouts.specs.Left.{HandedOver, has_handed_bank, is_by_call, is_from_program, is_undone}
use Rattle.record_layouts.specs.LeftImages.{caller_left, last_left, next_by_left, with_bank_left, with_left}
use Rattle.record_layouts.specs.Unix.Broken.{done_of, last_after, undone_of}
use Rattle.record_layouts.specs.Unix.Choice.{least_from}
use Rattle.record_layouts.specs.Unix.State.{AtPanic, Description, Process, Unix, in_use, is_named, is_named_by}
use Rattle.record_layouts.specs.Unix.Traps.{after_trap, caller_of, came_of, or_zero, pid_of, steps_in}
use Rattle.record_layouts.specs.Unix.Turn.{closed, idled}
use Rattle.record_layouts.proofs.Least.{least_within}
use Rattle.kernel_traps.specs.Traps.{user_before}

-- Processes among which the same ones are live: the ended children of live ones are the same.
child_same : (ps qs : ℕ → Option Process) → ((q : ℕ) → is_some (ps q) ≡ is_some (qs q)) → (held : Option ProcRec) → ended_by ps held ≡ ended_by qs held
child_same ps qs live (Some process) = ap (λ (lives : Bool). if lives then Some (record { parent = process.parent; status = process.status }) else None) (live process.parent)
child_same ps qs live None = refl

children_same : (r : Records) (ps qs : ℕ → Option Process) → ((q : ℕ) → is_some (ps q) ≡ is_some (qs q)) → (slot : Option ℕ) → ended_in r ps slot ≡ ended_in r qs slot
children_same r ps qs live (Some slot) = child_same ps qs live (r.procs slot)
children_same r ps qs live None = refl

ended_same : (r : Records) (ps qs : ℕ → Option Process) → ((q : ℕ) → is_some (ps q) ≡ is_some (qs q)) → ended_of r ps ≡ ended_of r qs
unfolding ended_of
ended_same r ps qs live = λ i pid. children_same r ps qs live (least_from (λ slot. is_ended_as pid (r.procs slot)) 0 16) i

-- Processes that name the same descriptions: these are in use.
named_same : (ps qs : ℕ → Option Process) → ((number q : ℕ) → is_named_by number (ps q) ≡ is_named_by number (qs q)) → (number first count : ℕ)
    → is_named ps number first count ≡ is_named qs number first count
unfolding is_named
named_same ps qs names number first zero = refl
named_same ps qs names number first (suc count) = λ i. names number first i || named_same ps qs names number (first + 1) count i

used_same : (ps qs : ℕ → Option Process) (descriptions : ℕ → Option Description) → ((number q : ℕ) → is_named_by number (ps q) ≡ is_named_by number (qs q))
    → in_use ps descriptions ≡ in_use qs descriptions
unfolding in_use
used_same ps qs descriptions names = λ i number. if named_same ps qs names number 1 256 i then descriptions number else None

-- a bank tells neither that a process is live nor what it names
live_banked : (bank : Bank) (held : Option Process) → is_some held ≡ is_some (with_bank bank held)
live_banked bank (Some p) = refl
live_banked bank None = refl

named_banked : (bank : Bank) (number : ℕ) (held : Option Process) → is_named_by number held ≡ is_named_by number (with_bank bank held)
named_banked bank number (Some p) = refl
named_banked bank number None = refl

live_in : (r : Records) (words : WordMap) (context : Context) (q : ℕ) → is_some (processes_of r words InKernel q) ≡ is_some (processes_of r words context q)
unfolding processes_of
live_in r words InKernel q = refl
live_in r words (InUser user count bank) q = elim (cases_Bool (q == user)) [
  | inl here ↦ rw here (live_banked bank (process_at r words q))
  | inr other ↦ rw other refl
]

named_in : (r : Records) (words : WordMap) (context : Context) (number q : ℕ) → is_named_by number (processes_of r words InKernel q) ≡ is_named_by number (processes_of r words context q)
unfolding processes_of
named_in r words InKernel number q = refl
named_in r words (InUser user count bank) number q = elim (cases_Bool (q == user)) [
  | inl here ↦ rw here (named_banked bank number (process_at r words q))
  | inr other ↦ rw other refl
]

-- no process has pid 0
not_zero : (held : Option ℕ) → ((pid : ℕ) → held ≡ Some pid → 1 ≤ pid) → is_number held 0 ≡ false
not_zero (Some pid) some = let from : 1 ≤ pid = some pid refl in grind (arith, nat_tests, from)
not_zero None some = refl

none_in : (r : Records) (words : WordMap) (slot : Option ℕ) → process_in r words 0 slot ≡ None
unfolding pid_in
none_in r words (Some slot) =
    let other : is_number (pid_in r slot) 0 ≡ false = not_zero (pid_in r slot) (λ pid is. (least_within (λ q. is_number (slot_by (r.exits q)) slot) 1 256 pid is).0) in
    rw other refl
none_in r words None = refl

none_at_zero : (r : Records) (words : WordMap) (q : ℕ) → q ≡ 0 → process_at r words q ≡ None
unfolding process_at
none_at_zero r words q none = ap (λ (pid : ℕ). process_in r words pid (slot_by (r.exits pid))) none ∙ none_in r words (slot_by (r.exits 0))

-- What the processor had as a trap came, of the process that was in user mode, by what is handed over of the trap.
abbrev pub IsContextBy : Option ℕ → HandedOver → Context → Type 0
IsContextBy (Some pid) h context = (count : ℕ) × (context ≡ InUser pid count h.bank)
IsContextBy None h context = context ≡ InKernel

-- this is handed over of a trap
pub record IsHandedOf (t : Trap) (h : HandedOver) : Type 0 where
  pub came : h.came ≡ came_of t
  pub pid : h.pid ≡ or_zero (pid_of t)
  pub some : IfSome (pid_of t) (λ pid. 1 ≤ pid)

-- the process of the trap is the last one
pid_last : (pid own last : ℕ) → own ≡ pid → 1 ≤ pid → last_left own last ≡ pid
pid_last pid own last same some = let test : (own == 0) ≡ false = grind (arith, nat_tests, same, some) in rw test same

last_is : (t : Trap) (h : HandedOver) (last : ℕ) → IsHandedOf t h → last_left h.pid last ≡ last_after (pid_of t) last
last_is (trap.Entry pid) h last is = pid_last pid h.pid last is.pid is.some
last_is (trap.Piece pid) h last is = pid_last pid h.pid last is.pid is.some
last_is (trap.Fault pid cause) h last is = pid_last pid h.pid last is.pid is.some
last_is (trap.Slice pid) h last is = pid_last pid h.pid last is.pid is.some
last_is (trap.Signal pid signal) h last is = pid_last pid h.pid last is.pid is.some
last_is trap.Idle h last is = ap (λ (pid : ℕ). last_left pid last) is.pid
last_is (trap.Closing (Some pid)) h last is = pid_last pid h.pid last is.pid is.some
last_is (trap.Closing None) h last is = ap (λ (pid : ℕ). last_left pid last) is.pid

-- of a trap that no process has it is what it was
last_before : (t : Trap) (h : HandedOver) (head : Option HeadRec) (context : Context) → IsContextBy (user_before t) h context
    → last_after (pid_of t) (last_by head InKernel) ≡ last_after (pid_of t) (last_by head context)
last_before (trap.Entry pid) h head context had = refl
last_before (trap.Piece pid) h head context had = refl
last_before (trap.Fault pid cause) h head context had = refl
last_before (trap.Slice pid) h head context had = refl
last_before (trap.Signal pid signal) h head context had = refl
last_before trap.Idle h head context had = sym (ap (last_by head) had)
last_before (trap.Closing (Some pid)) h head context had = refl
last_before (trap.Closing None) h head context had = sym (ap (last_by head) had)

last_still : (t : Trap) (before : Unix) → last_after (pid_of t) (after_trap before t).last_pid ≡ last_after (pid_of t) before.last_pid
unfolding after_trap idled closed
last_still (trap.Entry pid) before = refl
last_still (trap.Piece pid) before = refl
last_still (trap.Fault pid cause) before = refl
last_still (trap.Slice pid) before = refl
last_still (trap.Signal pid signal) before = refl
last_still trap.Idle before = refl
last_still (trap.Closing (Some pid)) before = refl
last_still (trap.Closing None) before = refl

-- the state that records stand for at a panic
abbrev pub left_by : HandedOver → Records → WordMap → (tapes : ℕ → List ℕ) → (steps traps : ℕ) → Unix
left_by h r words tapes steps traps = with_left h r (unix_of r words tapes InKernel steps traps)

-- a trap that is undone
module _ (r : Records) (words : WordMap) (h : HandedOver) (head : HeadRec) (undone : is_undone h (Some head) ≡ true) where
  -- the process that it came from has the registers that were handed over
  has_bank : (pid count q : ℕ) → is_from_program h.came ≡ true → h.pid ≡ pid
      → with_bank_left h (Some head) q (process_at r words q) ≡ processes_of r words (InUser pid count h.bank) q
  unfolding processes_of
  has_bank pid count q program same = elim (cases_Bool (q == pid)) [
    | inl here ↦ let its : (h.pid == q) ≡ true = grind (arith, nat_tests, here, same) in rw (here, undone, program, its) refl
    | inr other ↦ let its : (h.pid == q) ≡ false = grind (arith, nat_tests, other, same) in rw (other, undone, program, its) refl
  ]

  -- it came from the kernel, or no process has it
  of_kernel : (q : ℕ) → is_from_program h.came ≡ false → with_bank_left h (Some head) q (process_at r words q) ≡ process_at r words q
  of_kernel q kernel = rw (undone, kernel) refl

  of_none : (q : ℕ) → h.pid ≡ 0 → with_bank_left h (Some head) q (process_at r words q) ≡ process_at r words q
  of_none q none = elim (cases_Bool (has_handed_bank (Some h) (Some head) q)) [
    | inl has ↦ let own : q ≡ 0 = grind (arith, nat_tests, has, none) in rw (has, none_at_zero r words q own) refl
    | inr has_not ↦ rw has_not refl
  ]

  from_program : (pid q : ℕ) (context : Context) → is_from_program h.came ≡ true → h.pid ≡ pid → IsContextBy (Some pid) h context
      → with_bank_left h (Some head) q (process_at r words q) ≡ processes_of r words context q
  from_program pid q context program same (count, is) = has_bank pid count q program same ∙ ap (λ (c : Context). processes_of r words c q) (sym is)

  from_kernel : (q : ℕ) (context : Context) → is_from_program h.came ≡ false → IsContextBy None h context
      → with_bank_left h (Some head) q (process_at r words q) ≡ processes_of r words context q
  unfolding processes_of
  from_kernel q context kernel is = of_kernel q kernel ∙ ap (λ (c : Context). processes_of r words c q) (sym is)

  from_none : (q : ℕ) (context : Context) → h.pid ≡ 0 → IsContextBy None h context
      → with_bank_left h (Some head) q (process_at r words q) ≡ processes_of r words context q
  unfolding processes_of
  from_none q context none is = of_none q none ∙ ap (λ (c : Context). processes_of r words c q) (sym is)

  process_left : (t : Trap) (context : Context) (q : ℕ) → IsHandedOf t h → IsContextBy (user_before t) h context
      → with_bank_left h (Some head) q (process_at r words q) ≡ processes_of r words context q
  process_left (trap.Entry pid) context q is had = from_program pid q context (ap is_from_program is.came) is.pid had
  process_left (trap.Piece pid) context q is had = from_kernel q context (ap is_from_program is.came) had
  process_left (trap.Fault pid cause) context q is had = from_program pid q context (ap is_from_program is.came) is.pid had
  process_left (trap.Slice pid) context q is had = from_program pid q context (ap is_from_program is.came) is.pid had
  process_left (trap.Signal pid signal) context q is had = from_kernel q context (ap is_from_program is.came) had
  process_left trap.Idle context q is had = from_kernel q context (ap is_from_program is.came) had
  process_left (trap.Closing (Some pid)) context q is had = from_program pid q context (ap is_from_program is.came) is.pid had
  process_left (trap.Closing None) context q is had = from_none q context is.pid had

  -- its call is found where it entered one
  by_call : (pid : ℕ) → is_by_call h.came ≡ true → h.pid ≡ pid → caller_left h (Some head) ≡ pid
  by_call pid call same = rw (undone, call) same

  by_none : is_by_call h.came ≡ false → caller_left h (Some head) ≡ 0
  by_none none = rw (undone, none) refl

  caller_is : (t : Trap) → IsHandedOf t h → caller_left h (Some head) ≡ caller_of t
  caller_is (trap.Entry pid) is = by_call pid (ap is_by_call is.came) is.pid
  caller_is (trap.Piece pid) is = by_none (ap is_by_call is.came)
  caller_is (trap.Fault pid cause) is = by_none (ap is_by_call is.came)
  caller_is (trap.Slice pid) is = by_none (ap is_by_call is.came)
  caller_is (trap.Signal pid signal) is = by_none (ap is_by_call is.came)
  caller_is trap.Idle is = by_none (ap is_by_call is.came)
  caller_is (trap.Closing pid) is = by_none (ap is_by_call is.came)

-- Records of which the head has not served the trap that broke stand for the state before, of which nothing is done.
pub left_undone : (r : Records) (words : WordMap) (tapes : ℕ → List ℕ) (t : Trap) (context : Context) (h : HandedOver) (head : HeadRec) (steps traps : ℕ)
    → r.head ≡ Some head → is_undone h (Some head) ≡ true → IsHandedOf t h → IsContextBy (user_before t) h context
    → left_by h r words tapes (steps + steps_in t) (traps + 1) ≡ undone_of t (unix_of r words tapes context steps traps)
unfolding unix_of undone_of processes_of
left_undone r words tapes t context h head steps traps is_head undone handed had =
    let before = processes_of r words context in
    let processes : (λ q. with_bank_left h r.head q (process_at r words q)) ≡ before =
    λ i q. (ap (λ (o : Option HeadRec). with_bank_left h o q (process_at r words q)) is_head ∙ process_left r words h head undone t context q handed had) i in
    λ i. record {
      processes = processes i;
      ended = ended_same r (processes_of r words InKernel) before (live_in r words context) i;
      descriptions = used_same (processes_of r words InKernel) before (λ number. description_by (r.descs number)) (named_in r words context) i;
      files = λ _. None;
      room = r.map.user_frames;
      terminals = λ tty. terminal_by (tapes tty) (r.terms tty);
      exits = λ pid. status_by (r.exits pid);
      next_pid = (ap (next_by_left r) is_head ∙ sym (ap next_by is_head)) i;
      last_pid = (last_is t h (last_by r.head InKernel) handed ∙ last_before t h r.head context had) i;
      steps = steps + steps_in t;
      traps = traps + 1;
      position = AtPanic ((ap (caller_left h) is_head ∙ caller_is r words h head undone t handed) i);
    }

-- a trap that is done leaves no bank and no caller
served_as : (r : Records) (words : WordMap) (tapes : ℕ → List ℕ) (h : HandedOver) (head : HeadRec) (steps traps : ℕ) → r.head ≡ Some head → is_undone h (Some head) ≡ false
    → left_by h r words tapes steps traps
    ≡ record (unix_of r words tapes InKernel steps traps) { last_pid = last_left h.pid (unix_of r words tapes InKernel steps traps).last_pid; position = AtPanic 0 }
unfolding unix_of
served_as r words tapes h head steps traps is_head done =
    let u = unix_of r words tapes InKernel steps traps in
    let processes : (q : ℕ) → with_bank_left h r.head q (u.processes q) ≡ u.processes q =
    λ q. ap (λ (o : Option HeadRec). with_bank_left h o q (u.processes q)) is_head ∙ rw done refl in
    let caller : caller_left h r.head ≡ 0 = ap (caller_left h) is_head ∙ rw done refl in
    λ i. record u {
      processes = λ q. processes q i;
      next_pid = (ap (next_by_left r) is_head ∙ sym (ap next_by is_head)) i;
      last_pid = last_left h.pid u.last_pid;
      position = AtPanic (caller i);
    }

-- Records of which the head has served the trap that broke stand for the state after it, all of which is done.
pub left_done : (r : Records) (words : WordMap) (tapes : ℕ → List ℕ) (t : Trap) (h : HandedOver) (head : HeadRec) (before : Unix)
    → r.head ≡ Some head → is_undone h (Some head) ≡ false → IsHandedOf t h
    → unix_of r words tapes InKernel (before.steps + steps_in t) (before.traps + 1) ≡ after_trap before t
    → left_by h r words tapes (before.steps + steps_in t) (before.traps + 1) ≡ done_of t before
unfolding unix_of done_of
left_done r words tapes t h head before is_head done handed after =
    let steps = before.steps + steps_in t in
    let traps = before.traps + 1 in
    served_as r words tapes h head steps traps is_head done
    ∙ (ap (λ (u : Unix). record u { steps = steps; traps = traps; last_pid = last_left h.pid u.last_pid; position = AtPanic 0 }) after
    ∙ ap (λ (last : ℕ). record (after_trap before t) { steps = steps; traps = traps; last_pid = last; position = AtPanic 0 })
    (last_is t h (after_trap before t).last_pid handed ∙ last_still t before))
