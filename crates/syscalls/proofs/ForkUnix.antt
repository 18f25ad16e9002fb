-- The records of a fork stand for the state with the child: the processes after it, the children that have ended, and the
-- rest.
use Rattle.std.proofs.Common.{◌≡◌, ◌==◌, ◌%◌, ◌^◌, if◌then◌else◌, ℕ, ◌+◌, ◌<◌, ◌≤◌, nat_lt, Bool, true, false, List, Option, Some, None, is_some, inl, inr, refl, sym, ap, subst, ◌∙◌, arith}
use Rattle.std.proofs.Math.Nat.{zero-div}
use Rattle.std.proofs.lemmas.Bool.{both_ways, cases_Bool, false_from_ne_true}
use Rattle.std.proofs.lemmas.Bool.Decides.{nat_tests}
use Rattle.ow_base.specs.Sv32.{WordMap}
use Rattle.ow_base.specs.UserStep.{with_register}
use Rattle.ow_base.specs.Words.{bits, updated, wrapped}
use Rattle.record_layouts.specs.declared.exit.ExitRec.{ExitRec}
use Rattle.record_layouts.specs.declared.head.HeadRec.{HeadRec}
use Rattle.record_layouts.specs.declared.proc.ProcRec.{ProcRec}
use Rattle.record_layouts.specs.declared.sig.SigRec.{SigRec}
use Rattle.record_layouts.specs.Unix.Calls.{answered, child_of_fork, trapped, with_child, with_process}
use Rattle.record_layouts.specs.Unix.Choice.{least_from}
use Rattle.record_layouts.specs.Unix.State.{AtKernel, Out, Process, Unix, in_use}
use Rattle.record_layouts.specs.Decode.{Context, InKernel, description_by, ended_by, ended_in, ended_of, handlers_of, is_ended_as, is_pending, next_by, process_at, process_of, processes_of, slot_by, status_by, terminal_by, unix_of}
use Rattle.record_layouts.specs.Held.{Records, with_items}
use Rattle.record_layouts.specs.Pages.{is_live, pages_of}
use Rattle.record_layouts.specs.Sound.{AreSound, IsIn, is_used}
use Rattle.address_space.specs.Spaces.{HasGrown, IsCopied, OnlyPrepares}
use Rattle.process_table.specs.Meaning.{IsOf}
use Rattle.process_table.specs.Patches.{answered_process, fork_items, forked_exit, forked_process, forked_signals, saved_process}
use Rattle.process_table.specs.Slots.{is_free, is_live_pid}
use Rattle.process_table.proofs.ChangedUnix.{in_use_still}
use Rattle.process_table.proofs.EndedUnix.{ended_there, live_not_ended, others_are}
use Rattle.process_table.proofs.Kept.{same_or_not, set_here, set_other}
use Rattle.process_table.proofs.Least.{least_none, least_passes}
use Rattle.process_table.proofs.Regions.{SameRegions, pages_same, pages_stay}
use Rattle.process_table.proofs.Running.{ended_place}
use Rattle.process_table.proofs.Seats.{Living, found_in, living, not_found, pid_range}
use Rattle.process_table.proofs.TakenSlots.{live_pid_is}
use Rattle.syscalls.specs.Done.{held_as}
use Rattle.syscalls.proofs.Becoming.{bank_by, caller_decodes, prepared}
use Rattle.syscalls.proofs.Forked.{CanFork, forked_are, forked_records}
use Rattle.syscalls.proofs.Grown.{others_stay}
use Rattle.syscalls.proofs.Joining.{in_use_joined}

-- a slot of a live process is not free, and one that is free is of a process without a live parent where it has ended
live_not_free : (r : Records) (process : ProcRec) → is_live process ≡ true → is_free r (Some process) ≡ false
live_not_free r process live = elim (cases_Bool (process.state == 3)) [
  | inl ended ↦ let three : process.state ≡ 3 = grind (arith, nat_tests) in absurd (grind (arith, nat_tests, live))
  | inr other ↦ rw other (grind (arith, nat_tests, live))
]

no_parent : (r : Records) (process : ProcRec) → is_free r (Some process) ≡ true → process.state ≡ 3 → is_live_pid r process.parent ≡ false
no_parent r process free ended = elim (cases_Bool (is_live_pid r process.parent)) [
  | inl live ↦
      let taken : is_free r (Some process) ≡ false = rw (ended, live) refl in
      absurd (both_ways (is_free r (Some process)) taken free)
  | inr dead ↦ dead
]

-- exit records that tell of a process
used_by : (held : Option ExitRec) (slot : ℕ) → slot_by held ≡ Some slot → is_used held ≡ true
used_by (Some exit) slot live = elim (cases_Bool (exit.state == 0)) [
  | inl none ↦ let zero : exit.state ≡ 0 = grind (arith, nat_tests) in absurd (cc (rw zero at live))
  | inr used ↦ rw used refl
]
used_by None slot live = absurd (cc live)

no_status : (held : Option ExitRec) → is_used held ≡ false → status_by held ≡ None
no_status (Some exit) unused = elim (cases_Bool (exit.state == 0)) [
  | inl none ↦ let zero : exit.state ≡ 0 = grind (arith, nat_tests) in rw zero refl
  | inr used ↦ absurd (cc (rw used at unused))
]
no_status None unused = refl

no_bit : (signal : ℕ) → (bits 0 signal 1 == 1) ≡ false
no_bit signal =
    let none : bits 0 signal 1 ≡ 0 = ap (λ (n : ℕ). n % 2) (zero-div (2 ^ signal)) in
    rw none refl

module _ (r : Records) (head : HeadRec) (slot child : ℕ) (process : ProcRec) (signals : SigRec) (trap : ℕ) (words then_words : WordMap) (context : Context)
    (owners : ℕ → ℕ) (tables : (slot table word : ℕ) → ℕ) (fork : CanFork r head slot child process signals) (of : IsOf context process.pid)
    (prepares : OnlyPrepares child (held_as r words) (held_as (prepared r owners tables) then_words))
    (copied : IsCopied (held_as r words) (held_as (prepared r owners tables) then_words) slot child process)
    (sound_then : AreSound (with_items (prepared r owners tables) (fork_items head slot child (saved_process process (bank_by context process)) signals trap))) where
  abbrev saved : ProcRec
  saved = saved_process process (bank_by context process)

  abbrev base : Records
  base = prepared r owners tables

  abbrev now : Records
  now = forked_records base head slot child saved signals trap

  abbrev parent_record : ProcRec
  parent_record = answered_process saved head.next

  abbrev child_record : ProcRec
  child_record = forked_process saved head.next

  sound_now : AreSound now
  sound_now = subst AreSound (forked_are base head slot child saved signals trap) sound_then

  -- the slots of the two are two
  free_not : (place : ℕ) (other : ProcRec) → IsIn r place other → place ≡ child → ⊥
  free_not place other is same =
      let free : is_free r (Some other) ≡ true = sym (ap (is_free r) is.there) ∙ (ap (λ (k : ℕ). is_free r (r.procs k)) same ∙ fork.free) in
      both_ways (is_free r (Some other)) (live_not_free r other is.live) free

  apart : slot ≡ child → ⊥
  apart = free_not slot process fork.is

  parent_there : now.procs slot ≡ Some parent_record
  parent_there = set_other (updated r.procs slot (Some parent_record)) child (Some child_record) slot apart ∙ set_here r.procs slot (Some parent_record)

  child_there : now.procs child ≡ Some child_record
  child_there = set_here (updated r.procs slot (Some parent_record)) child (Some child_record)

  other_there : (place : ℕ) → (place ≡ slot → ⊥) → (place ≡ child → ⊥) → now.procs place ≡ r.procs place
  other_there place elsewhere outside = set_other (updated r.procs slot (Some parent_record)) child (Some child_record) place outside ∙ set_other r.procs slot (Some parent_record) place elsewhere

  -- a live pid is below the next one
  next_is : head.next ≡ next_by r.head
  next_is = sym (ap next_by fork.is_head)

  live_below : (pid place : ℕ) → 1 ≤ pid → pid ≤ 256 → slot_by (r.exits pid) ≡ Some place → pid < head.next
  live_below pid place from to exit =
      let below : nat_lt pid (next_by r.head) ≡ true = sym (fork.sound.numbered.used pid from to) ∙ used_by (r.exits pid) place exit in
      grind (arith, nat_tests, below, next_is)

  range : (1 ≤ process.pid) × (process.pid ≤ 256)
  range = pid_range r slot process fork.sound.values fork.is

  own_exit : slot_by (r.exits process.pid) ≡ Some slot
  own_exit = fork.sound.numbered.exit slot process fork.is

  own_below : process.pid < head.next
  own_below = live_below process.pid slot range.0 range.1 own_exit

  own_apart : process.pid ≡ head.next → ⊥
  own_apart same = omega (arith, own_below, same)

  unused : is_used (r.exits head.next) ≡ false
  unused = fork.sound.numbered.used head.next (omega (arith, own_below)) fork.few ∙ grind (arith, nat_tests, next_is)

  no_slot : slot_by (r.exits head.next) ≡ None
  no_slot = elim (living r words head.next fork.sound) [
    | inl missing ↦ missing.exit
    | inr live ↦ absurd (both_ways (is_used (r.exits head.next)) unused (used_by (r.exits head.next) live.slot live.exit))
  ]

  -- the state before, and the two processes after
  abbrev before : ℕ → Option Process
  before = processes_of r words context

  abbrev caller : Process
  caller = record (process_of r words slot process) { bank = bank_by context process }

  abbrev parent_then : Process
  parent_then = record caller {
    call = Out;
    bank = record { pc = wrapped (caller.bank.pc + 4); regs = with_register caller.bank.regs 10 head.next };
  }

  abbrev child_then : Process
  child_then = child_of_fork process.pid caller

  abbrev joined : ℕ → Option Process
  joined = updated before head.next (Some child_then)

  abbrev after : ℕ → Option Process
  after = updated joined process.pid (Some parent_then)

  caller_there : before process.pid ≡ Some caller
  caller_there = caller_decodes r words context slot process fork.sound fork.is of

  none_next : before head.next ≡ None
  none_next = others_are r words context process.pid head.next of (λ same. own_apart (sym same)) ∙ not_found r words head.next no_slot

  -- the process keeps its pages and its signals
  parent_regions : SameRegions parent_record process
  parent_regions = record { live = refl; lives = fork.is.live; code = refl; values = refl; brk = refl }

  parent_pages : pages_of now then_words slot parent_record ≡ pages_of r words slot process
  parent_pages =
      pages_stay base now.head now.procs now.sigs now.exits then_words slot parent_record
      ∙ (pages_same base then_words slot parent_record process parent_regions
      ∙ (others_stay r words child owners tables then_words fork.sound prepares).pages slot process fork.is apart)

  parent_is : process_of now then_words slot parent_record ≡ parent_then
  unfolding process_of
  parent_is = λ i. record (process_of r words slot process) {
    call = Out;
    bank = record { pc = wrapped (saved.pc + 4); regs = with_register saved.regs 10 head.next };
    pages = parent_pages i;
    handlers = handlers_of (set_other r.sigs child (Some (forked_signals signals head.next)) slot apart i);
    pending = is_pending (set_other r.sigs child (Some (forked_signals signals head.next)) slot apart i);
  }

  -- the child has a copy of them, and no signal
  child_grown : HasGrown process 0 child_record
  child_grown = record { live = refl; code = refl; values = refl; heap = omega arith }

  child_pages : pages_of now then_words child child_record ≡ pages_of r words slot process
  child_pages = pages_stay base now.head now.procs now.sigs now.exits then_words child child_record ∙ copied.pages child_record child_grown

  child_handlers : handlers_of (now.sigs child) ≡ handlers_of (r.sigs slot)
  child_handlers = ap handlers_of (set_here r.sigs child (Some (forked_signals signals head.next))) ∙ sym (ap handlers_of fork.signalled)

  child_pending : is_pending (now.sigs child) ≡ (λ (_ : ℕ). false)
  child_pending = ap is_pending (set_here r.sigs child (Some (forked_signals signals head.next))) ∙ (λ i signal. no_bit signal i)

  child_is : process_of now then_words child child_record ≡ child_then
  unfolding process_of
  child_is = λ i. record (process_of r words slot process) {
    call = Out;
    bank = record { pc = wrapped (saved.pc + 4); regs = with_register saved.regs 10 0 };
    pages = child_pages i;
    handlers = child_handlers i;
    pending = child_pending i;
    parent = process.pid;
  }

  -- all others are what they were
  other_is : (place : ℕ) (other : ProcRec) → IsIn r place other → (place ≡ child → ⊥) → process_of now then_words place other ≡ process_of r words place other
  unfolding process_of
  other_is place other is outside = λ i. record (process_of r words place other) {
    pages = (pages_stay base now.head now.procs now.sigs now.exits then_words place other
        ∙ (others_stay r words child owners tables then_words fork.sound prepares).pages place other is outside) i;
    handlers = handlers_of (set_other r.sigs child (Some (forked_signals signals head.next)) place outside i);
    pending = is_pending (set_other r.sigs child (Some (forked_signals signals head.next)) place outside i);
  }

  parent_found : process_at now then_words process.pid ≡ Some parent_then
  parent_found =
      found_in now then_words slot parent_record sound_now (record { within = fork.is.within; there = parent_there; live = refl })
      ∙ ap (λ (p : Process). Some p) parent_is

  child_found : process_at now then_words head.next ≡ Some child_then
  child_found =
      found_in now then_words child child_record sound_now (record { within = fork.within; there = child_there; live = refl })
      ∙ ap (λ (p : Process). Some p) child_is

  exit_stays : (q : ℕ) → (q ≡ head.next → ⊥) → now.exits q ≡ r.exits q
  exit_stays q older = set_other r.exits head.next (Some (forked_exit child)) q older

  live_found : (q : ℕ) → (live : Living r words q) → (q ≡ process.pid → ⊥) → process_at now then_words q ≡ process_at r words q
  live_found q live another =
      let elsewhere : live.slot ≡ slot → ⊥ = λ same.
      another (fork.sound.numbered.one_slot q process.pid slot (subst (λ (k : ℕ). slot_by (r.exits q) ≡ Some k) same live.exit) own_exit) in
      let outside = free_not live.slot live.process live.is in
      let is : IsIn now live.slot live.process = record { within = live.is.within; there = other_there live.slot elsewhere outside ∙ live.is.there; live = live.is.live } in
      subst (λ (p : ℕ). process_at now then_words p ≡ Some (process_of now then_words live.slot live.process)) live.same (found_in now then_words live.slot live.process sound_now is)
      ∙ (ap (λ (p : Process). Some p) (other_is live.slot live.process live.is outside) ∙ sym live.decoded)

  other_found : (q : ℕ) → (q ≡ process.pid → ⊥) → (q ≡ head.next → ⊥) → process_at now then_words q ≡ process_at r words q
  other_found q another older = elim (living r words q fork.sound) [
    | inl missing ↦ not_found now then_words q (ap slot_by (exit_stays q older) ∙ missing.exit) ∙ sym missing.decoded
    | inr live ↦ live_found q live another
  ]

  joined_other : (q : ℕ) → (q ≡ process.pid → ⊥) → process_at now then_words q ≡ joined q
  joined_other q another = elim (same_or_not q head.next) [
    | inl new ↦ subst (λ (k : ℕ). process_at now then_words k ≡ joined k) (sym new) (child_found ∙ sym (set_here before head.next (Some child_then)))
    | inr older ↦
        other_found q another older
        ∙ (sym (others_are r words context process.pid q of another) ∙ sym (set_other before head.next (Some child_then) q older))
  ]

  process_then : (q : ℕ) → process_at now then_words q ≡ after q
  process_then q = elim (same_or_not q process.pid) [
    | inl own ↦ subst (λ (k : ℕ). process_at now then_words k ≡ after k) (sym own) (parent_found ∙ sym (set_here joined process.pid (Some parent_then)))
    | inr another ↦ joined_other q another ∙ sym (set_other joined process.pid (Some parent_then) q another)
  ]

  pub processes_then : processes_of now then_words InKernel ≡ after
  unfolding processes_of
  processes_then = λ i q. process_then q i

  -- descriptions that are in use
  joined_own : joined process.pid ≡ Some caller
  joined_own = set_other before head.next (Some child_then) process.pid own_apart ∙ caller_there

  described_then : (number : ℕ) → in_use (processes_of now then_words InKernel) (λ n. description_by (r.descs n)) number ≡ in_use before (λ n. description_by (r.descs n)) number
  described_then number =
      let ds = λ (n : ℕ). description_by (r.descs n) in
      ap (λ (ps : ℕ → Option Process). in_use ps ds number) processes_then
      ∙ (in_use_still joined process.pid caller parent_then ds number joined_own refl
      ∙ in_use_joined before process.pid head.next caller child_then caller_there none_next range.0 range.1 refl ds number)

  -- who was live is live, and of the others only the child
  lives_then : (q : ℕ) → (q ≡ head.next → ⊥) → is_some (after q) ≡ is_some (before q)
  lives_then q older = elim (same_or_not q process.pid) [
    | inl own ↦ subst (λ (k : ℕ). is_some (after k) ≡ is_some (before k)) (sym own)
        (ap is_some (set_here joined process.pid (Some parent_then)) ∙ sym (ap is_some caller_there))
    | inr another ↦ ap is_some (set_other joined process.pid (Some parent_then) q another ∙ set_other before head.next (Some child_then) q older)
  ]

  -- children that have ended
  own_test : (q : ℕ) → is_ended_as q (r.procs slot) ≡ false
  own_test q = ap (is_ended_as q) fork.is.there ∙ live_not_ended process q fork.is.live

  child_test : (q : ℕ) → is_ended_as q (now.procs child) ≡ false
  child_test q = ap (is_ended_as q) child_there ∙ live_not_ended child_record q refl

  test_then : (q place : ℕ) → (place ≡ child → ⊥) → is_ended_as q (now.procs place) ≡ is_ended_as q (r.procs place)
  test_then q place outside = elim (same_or_not place slot) [
    | inl own ↦ subst (λ (k : ℕ). is_ended_as q (now.procs k) ≡ is_ended_as q (r.procs k)) (sym own)
        (ap (is_ended_as q) parent_there ∙ (live_not_ended parent_record q refl ∙ sym (own_test q)))
    | inr elsewhere ↦ ap (is_ended_as q) (other_there place elsewhere outside)
  ]

  child_by : (other : ProcRec) (place : ℕ) → r.procs place ≡ Some other → ended_by after (Some other) ≡ ended_by before (Some other)
  child_by other place there =
      let below = fork.sound.numbered.parents place other there in
      let older : other.parent ≡ head.next → ⊥ = λ same. omega (arith, below, same, next_is) in
      ap (λ (lives : Bool). if lives then Some (record { parent = other.parent; status = other.status }) else None) (lives_then other.parent older)

  -- the process that was in the child's slot has ended with no live parent
  module _ (q : ℕ) (ended : is_ended_as q (r.procs child) ≡ true) where
    gone : (other : ProcRec) × (r.procs child ≡ Some other) × (other.state ≡ 3) × (other.pid ≡ q)
    gone = ended_there (r.procs child) q ended

    gone_before : ended_of r before q ≡ None
    unfolding ended_of
    gone_before =
        let place : least_from (λ k. is_ended_as q (r.procs k)) 0 16 ≡ Some child =
        subst (λ (p : ℕ). least_from (λ k. is_ended_as p (r.procs k)) 0 16 ≡ Some child) gone.3 (ended_place r child gone.0 fork.sound.numbered fork.within gone.1 gone.2) in
        let free : is_free r (Some gone.0) ≡ true = sym (ap (is_free r) gone.1) ∙ fork.free in
        let dead : is_some (before gone.0.parent) ≡ false = live_pid_is r words context gone.0.parent fork.sound ∙ no_parent r gone.0 free gone.2 in
        ap (ended_in r before) place ∙ (ap (ended_by before) gone.1 ∙ rw dead refl)

    none_else : (place : ℕ) → is_ended_as q (now.procs place) ≡ false
    none_else place = elim (same_or_not place child) [
      | inl here ↦ subst (λ (k : ℕ). is_ended_as q (now.procs k) ≡ false) (sym here) (child_test q)
      | inr outside ↦ test_then q place outside ∙ false_from_ne_true (is_ended_as q (r.procs place)) (λ passes.
          let other = ended_there (r.procs place) q passes in
          outside (fork.sound.numbered.one_ended place child other.0 gone.0 other.1 gone.1 other.2 gone.2 (other.3 ∙ sym gone.3)))
    ]

    gone_then : ended_of now after q ≡ None
    unfolding ended_of
    gone_then = ap (ended_in now after) (least_none (λ k. is_ended_as q (now.procs k)) 0 16 16 refl (record { none = λ place from to. none_else place }))

  module _ (q : ℕ) (not_child : is_ended_as q (r.procs child) ≡ false) where
    tests_alike : (place : ℕ) → is_ended_as q (now.procs place) ≡ is_ended_as q (r.procs place)
    tests_alike place = elim (same_or_not place child) [
      | inl here ↦ subst (λ (k : ℕ). is_ended_as q (now.procs k) ≡ is_ended_as q (r.procs k)) (sym here) (child_test q ∙ sym not_child)
      | inr outside ↦ test_then q place outside
    ]

    ended_at : (found : Option ℕ) → least_from (λ k. is_ended_as q (r.procs k)) 0 16 ≡ found → ended_in now after found ≡ ended_in r before found
    ended_at None there = refl
    ended_at (Some place) there =
        let passes : is_ended_as q (r.procs place) ≡ true = least_passes (λ k. is_ended_as q (r.procs k)) 0 16 place there in
        let other = ended_there (r.procs place) q passes in
        let outside : place ≡ child → ⊥ = λ same. both_ways (is_ended_as q (r.procs child)) not_child (subst (λ (k : ℕ). is_ended_as q (r.procs k) ≡ true) same passes) in
        let elsewhere : place ≡ slot → ⊥ = λ same. both_ways (is_ended_as q (r.procs slot)) (own_test q) (subst (λ (k : ℕ). is_ended_as q (r.procs k) ≡ true) same passes) in
        ap (ended_by after) (other_there place elsewhere outside ∙ other.1) ∙ (child_by other.0 place other.1 ∙ sym (ap (ended_by before) other.1))

    ended_alike : ended_of now after q ≡ ended_of r before q
    unfolding ended_of
    ended_alike =
        let tests : (λ (place : ℕ). is_ended_as q (now.procs place)) ≡ (λ (place : ℕ). is_ended_as q (r.procs place)) = λ i place. tests_alike place i in
        ap (λ (test : ℕ → Bool). ended_in now after (least_from test 0 16)) tests ∙ ended_at (least_from (λ k. is_ended_as q (r.procs k)) 0 16) refl

  ended_then : (q : ℕ) → ended_of now (processes_of now then_words InKernel) q ≡ ended_of r before q
  ended_then q = ap (λ (ps : ℕ → Option Process). ended_of now ps q) processes_then ∙ (elim (cases_Bool (is_ended_as q (r.procs child))) [
    | inl ended ↦ gone_then q ended ∙ sym (gone_before q ended)
    | inr other ↦ ended_alike q other
  ])

  -- status words
  status_then : (q : ℕ) → status_by (now.exits q) ≡ status_by (r.exits q)
  status_then q = elim (same_or_not q head.next) [
    | inl new ↦ subst (λ (k : ℕ). status_by (now.exits k) ≡ status_by (r.exits k)) (sym new)
        (ap status_by (set_here r.exits head.next (Some (forked_exit child))) ∙ sym (no_status (r.exits head.next) unused))
    | inr older ↦ ap status_by (exit_stays q older)
  ]

  -- the state with the child
  abbrev with_pid : Unix → (next : ℕ) → Unix
  with_pid u next = answered (record (with_process u next (child_of_fork process.pid caller)) { next_pid = next + 1 }) process.pid caller next

  pub forked_unix : (tapes : ℕ → List ℕ) (steps traps : ℕ)
      → unix_of (with_items (prepared r owners tables) (fork_items head slot child (saved_process process (bank_by context process)) signals trap)) then_words tapes InKernel (steps + 1) (traps + 1)
      ≡ answered (with_child (trapped (unix_of r words tapes context steps traps) process.pid) process.pid (record (process_of r words slot process) { bank = bank_by context process })) process.pid
      (record (process_of r words slot process) { bank = bank_by context process }) (next_by r.head)
  unfolding unix_of trapped answered fork_items
  forked_unix tapes steps traps =
      let told : unix_of now then_words tapes InKernel (steps + 1) (traps + 1) ≡ with_pid (trapped (unix_of r words tapes context steps traps) process.pid) head.next = λ i. record {
        processes = processes_then i;
        ended = λ q. ended_then q i;
        descriptions = λ number. described_then number i;
        files = λ _. None;
        room = r.map.user_frames;
        terminals = λ tty. terminal_by (tapes tty) (r.terms tty);
        exits = λ q. status_then q i;
        next_pid = head.next + 1;
        last_pid = process.pid;
        steps = steps + 1;
        traps = traps + 1;
        position = AtKernel;
      } in
      told ∙ ap (with_pid (trapped (unix_of r words tapes context steps traps) process.pid)) next_is
