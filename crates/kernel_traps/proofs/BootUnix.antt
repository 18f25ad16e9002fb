-- A kernel that has booted stands for the state that its load begins with.
use Rattle.std.proofs.Common.{◌≡◌, ℕ, zero, suc, ◌+◌, ◌-◌, ◌%◌, ◌^◌, ◌<◌, ◌≤◌, true, false, nat_le, nat_lt, ◌==◌, List, [], length, map, replicate, slice_get, Option, Some, None, option_and_then, refl, sym, ap, subst, ◌∙◌, inl, inr, arith}
use Rattle.std.proofs.lemmas.Bool.{cases_Bool, cases_lt}
use Rattle.std.proofs.lemmas.Bool.Decides.{nat_tests}
use Rattle.std.proofs.lemmas.Option.{slice_get_past}
use Rattle.std.proofs.Math.Nat.{zero-div}
use Rattle.ow_base.specs.Sv32.{WordMap}
use Rattle.ow_base.specs.Words.{bits}
use Rattle.ow_base.specs.declared.worlds.Load.{Load}
use Rattle.ow_base.specs.declared.worlds.Program.{Program}
use Rattle.ow_base.specs.declared.worlds.Start.{Start as Started}
use Rattle.record_layouts.specs.declared.head.HeadRec.{HeadRec}
use Rattle.record_layouts.specs.declared.proc.ProcRec.{ProcRec}
use Rattle.record_layouts.specs.declared.places.RecordId.TheVariants as id
use Rattle.record_layouts.specs.Decode.{InKernel, decodes, description_by, descriptor_of, ended_of, handlers_of, is_ended_as, is_number, is_pending, last_by, next_by, pid_in, process_at, process_in, process_of, processes_of, slot_by, status_by, terminal_by, unix_of}
use Rattle.record_layouts.specs.Held.{Records}
use Rattle.record_layouts.specs.Pages.{is_mapped, pages_of}
use Rattle.record_layouts.specs.Spelling.{lies_between}
use Rattle.record_layouts.specs.Unix.State.{AtKernel, OnTty, Process, in_use, is_among, is_named, is_named_by, silent_terminal, start_of, started_as, started_description, started_descriptors, started_pages, started_process}
use Rattle.process_table.proofs.Least.{least_found, least_none}
use Rattle.kernel_traps.specs.Boot.{IsBootable, program_in, pages_before}
use Rattle.kernel_traps.specs.BootRecords.{booted_description, booted_exit, booted_signals, description_for, started_descs, started_record}
use Rattle.kernel_traps.specs.BootState.{IsBooted}
use Rattle.kernel_traps.specs.BootTables.{HasWords}
use Rattle.kernel_traps.proofs.BootFrames.{is_mapped_there, pages_there}
use Rattle.kernel_traps.proofs.BootNumbers.{process_there, slot_live, slot_none, state_small}
use Rattle.kernel_traps.proofs.BootLayout.{start_loadable, start_there}

-- a process with a descriptor that names the description is among these, or none is
named_found : (processes : ℕ → Option Process) (number first count k : ℕ) → first ≤ k → k < first + count → is_named_by number (processes k) ≡ true
    → is_named processes number first count ≡ true
unfolding is_named
named_found processes number first zero k low high there = absurd (omega arith)
named_found processes number first (suc count) k low high there = elim (cases_lt first k) [
  | inl less ↦
      let rest = named_found processes number (first + 1) count k (omega arith) (omega arith) there in
      grind (arith, nat_tests, rest)
  | inr more ↦
      let same : k ≡ first = omega arith in
      let here : is_named_by number (processes first) ≡ true = subst (λ (n : ℕ). is_named_by number (processes n) ≡ true) same there in
      rw here refl
]

named_none : (processes : ℕ → Option Process) (number first count : ℕ) → ((k : ℕ) → is_named_by number (processes k) ≡ false)
    → is_named processes number first count ≡ false
unfolding is_named
named_none processes number first zero none = refl
named_none processes number first (suc count) none = rw (none first) (named_none processes number (first + 1) count none)

-- the descriptors of a process that starts
descriptor_some : (slot : ℕ) → descriptor_of (slot + 1) ≡ Some slot
descriptor_some slot =
    let some : (slot + 1 == 0) ≡ false = grind (arith, nat_tests) in
    let less : slot + 1 - 1 ≡ slot = omega arith in
    rw (some, less) refl

descriptors_of : (slot : ℕ) → map descriptor_of (started_descs (slot + 1)) ≡ started_descriptors slot
descriptors_of slot = rw (descriptor_some slot) refl

no_bit : (signal : ℕ) → (bits 0 signal 1 == 1) ≡ false
no_bit signal =
    let none : bits 0 signal 1 ≡ 0 = ap (λ (n : ℕ). n % 2) (zero-div (2 ^ signal)) in
    rw none refl

names_own : (number : ℕ) → is_among number (started_descriptors number) ≡ true
unfolding is_among
names_own number = let same : (number == number) ≡ true = grind (arith, nat_tests) in rw same refl

names_no_other : (number other : ℕ) → (other == number) ≡ false → is_among number (started_descriptors other) ≡ false
unfolding is_among
names_no_other number other apart = rw apart refl

-- the process of a start, by its program
by_program : (programs : List Program) (k : ℕ) (start : Option Started)
    → option_and_then (λ (s : Started). option_and_then (λ (p : Program). Some (started_process k p)) (slice_get programs s.program)) start
    ≡ option_and_then (λ (p : Program). Some (started_process k p)) (option_and_then (λ (s : Started). slice_get programs s.program) start)
by_program programs k (Some start) = refl
by_program programs k None = refl

starts_as : (load : Load) (slot : ℕ) (program : Program) → program_in load slot ≡ Some program → started_as load (slot + 1) ≡ Some (started_process slot program)
unfolding started_as program_in
starts_as load slot program found =
    let some : (slot + 1 == 0) ≡ false = grind (arith, nat_tests) in
    let less : slot + 1 - 1 ≡ slot = omega arith in
    rw (some, less) (by_program load.programs slot (slice_get load.starts slot)
    ∙ ap (λ o. option_and_then (λ (p : Program). Some (started_process slot p)) o) found)

starts_none : (load : Load) (pid : ℕ) → lies_between 1 (length load.starts) pid ≡ false → started_as load pid ≡ None
unfolding started_as
starts_none load zero out = refl
starts_none load (suc n) out =
    let some : (suc n == 0) ≡ false = grind (arith, nat_tests) in
    let past : length load.starts ≤ suc n - 1 = grind (arith, nat_tests) in
    rw (some, slice_get_past load.starts (suc n - 1) past) refl

module _ (r : Records) (words : WordMap) (load : Load) (is : IsBootable load) (booted : IsBooted r load)
    (has : (slot : ℕ) (program : Program) → slot < length load.starts → program_in load slot ≡ Some program
    → HasWords words (pages_before load slot) program) where
  -- the pid in a slot
  pid_there : (slot : ℕ) → slot < length load.starts → pid_in r slot ≡ Some (slot + 1)
  unfolding pid_in
  pid_there slot low =
      let less : slot + 1 - 1 ≡ slot = omega arith in
      let same : (slot == slot) ≡ true = grind (arith, nat_tests) in
      least_found (λ pid. is_number (slot_by (r.exits pid)) slot) 1 256 257 (slot + 1) refl (record {
        from = omega arith;
        to = omega (arith, is.most_starts);
        passes = rw (slot_live r load is booted (slot + 1) (omega arith) (omega arith), less, same) refl;
        below = record {
          none = λ k from to.
              let other : (k - 1 == slot) ≡ false = grind (arith, nat_tests) in
              rw (slot_live r load is booted k from (omega arith)) other;
        };
      })

  signals_none : (slot : ℕ) → slot < 16 → (handlers_of (r.sigs slot) ≡ replicate 15 0) × (is_pending (r.sigs slot) ≡ (λ signal. false))
  unfolding booted_signals
  signals_none slot low =
      let there = booted.records (id.Sig slot) low in
      (ap handlers_of there, rw there (λ i signal. no_bit signal i))

  module _ (slot : ℕ) (program : Program) (low : slot < length load.starts) (found : program_in load slot ≡ Some program) where
    within : slot < 16
    within = omega (arith, low, is.most_starts)

    process_is : process_of r words slot (started_record slot program) ≡ started_process slot program
    unfolding process_of started_process
    process_is =
        let loadable = start_loadable load slot program is low found in
        let pages : pages_of r words slot (started_record slot program) ≡ started_pages program =
        pages_there slot program loadable r (pages_before load slot) booted.base booted.pool (booted.tables slot program low found) words
        (has slot program low found) in
        let signals = signals_none slot within in
        rw (pages, descriptors_of slot, signals.0, signals.1) refl

    decodes_there : decodes r slot (slot + 1) (started_record slot program) ≡ true
    decodes_there =
        let loadable = start_loadable load slot program is low found in
        let mapped : is_mapped r slot (started_record slot program) ≡ true =
        is_mapped_there slot program loadable r (pages_before load slot) booted.base booted.pool (booted.tables slot program low found) in
        let same : (slot + 1 == slot + 1) ≡ true = grind (arith, nat_tests) in
        rw (mapped, same, (booted.records id.Head tt)) refl

    pub process_live : process_at r words (slot + 1) ≡ started_as load (slot + 1)
    unfolding process_at
    process_live =
        let less : slot + 1 - 1 ≡ slot = omega arith in
        let there : r.procs slot ≡ Some (started_record slot program) = booted.records (id.Proc slot) within ∙ ap Some (process_there load slot program found) in
        let same : (slot + 1 == slot + 1) ≡ true = grind (arith, nat_tests) in
        ap (λ o. process_in r words (slot + 1) o) (slot_live r load is booted (slot + 1) (omega arith) (omega arith) ∙ ap Some less)
        ∙ rw (pid_there slot low, same, there, decodes_there) (ap Some process_is)
        ∙ sym (starts_as load slot program found)

  process_none : (pid : ℕ) → lies_between 1 (length load.starts) pid ≡ false → process_at r words pid ≡ None
  unfolding process_at
  process_none pid out = ap (λ o. process_in r words pid o) (slot_none r load is booted pid out)

  process_same : (pid : ℕ) → process_at r words pid ≡ started_as load pid
  process_same pid = elim (cases_Bool (lies_between 1 (length load.starts) pid)) [
    | inl inside ↦
        let low : pid - 1 < length load.starts = grind (arith, nat_tests) in
        let back : pid - 1 + 1 ≡ pid = grind (arith, nat_tests) in
        let there = start_there load (pid - 1) is low in
        subst (λ (p : ℕ). process_at r words p ≡ started_as load p) back (process_live (pid - 1) there.0 low there.1)
    | inr out ↦ process_none pid out ∙ sym (starts_none load pid out)
  ]

  processes_same : processes_of r words InKernel ≡ started_as load
  unfolding processes_of
  processes_same = λ i pid. process_same pid i

  -- no process has ended
  never_ended : (pid slot : ℕ) → is_ended_as pid (r.procs slot) ≡ false
  never_ended pid slot = by_state (r.procs slot) refl
    where
      by_state : (process : Option ProcRec) → r.procs slot ≡ process → is_ended_as pid process ≡ false
      by_state (Some process) there =
          let small = (state_small r load is booted slot process there).0 in
          let other : (process.state == 3) ≡ false = grind (arith, nat_tests, small) in
          rw other refl
      by_state None there = refl

  ended_none : (processes : ℕ → Option Process) (pid : ℕ) → ended_of r processes pid ≡ None
  unfolding ended_of
  ended_none processes pid =
      let none = least_none (λ slot. is_ended_as pid (r.procs slot)) 0 16 16 refl (record { none = λ k from to. never_ended pid k }) in
      rw none refl

  -- the descriptions of the starts are in use, and no others
  description_named : (number : ℕ) → number < length load.starts → is_named (started_as load) number 1 256 ≡ true
  unfolding started_process
  description_named number low =
      let there = start_there load number is low in
      named_found (started_as load) number 1 256 (number + 1) (omega arith) (omega (arith, is.most_starts))
      (rw (starts_as load number there.0 there.1) (names_own number))

  description_unnamed : (number : ℕ) → length load.starts ≤ number → is_named (started_as load) number 1 256 ≡ false
  unfolding started_process
  description_unnamed number past = named_none (started_as load) number 1 256 (λ k. elim (cases_Bool (lies_between 1 (length load.starts) k)) [
    | inl inside ↦
        let low : k - 1 < length load.starts = grind (arith, nat_tests) in
        let back : k - 1 + 1 ≡ k = grind (arith, nat_tests) in
        let there = start_there load (k - 1) is low in
        let apart : (k - 1 == number) ≡ false = grind (arith, nat_tests) in
        subst (λ (p : ℕ). is_named_by number (started_as load p) ≡ false) back (rw (starts_as load (k - 1) there.0 there.1) (names_no_other number (k - 1) apart))
    | inr out ↦ rw (starts_none load k out) refl
  ])

  description_opened : (start : Option Started) → description_by (Some (description_for start))
      ≡ option_and_then (λ (s : Started). Some (record { object = OnTty s.tty; reads = true; writes = true; offset = 0 })) start
  description_opened (Some start) = refl
  description_opened None = refl

  description_same : (number : ℕ) → in_use (started_as load) (λ n. description_by (r.descs n)) number ≡ started_description load number
  unfolding in_use started_description booted_description
  description_same number = elim (cases_lt number (length load.starts)) [
    | inl low ↦ rw (description_named number low)
        (ap description_by (booted.records (id.Desc number) (omega (arith, is.most_starts))) ∙ description_opened (slice_get load.starts number))
    | inr past ↦ rw (description_unnamed number past, slice_get_past load.starts number past) refl
  ]

  -- nothing is written, and no process has a status
  terminal_same : (tapes : ℕ → List ℕ) → ((tty : ℕ) → tapes tty ≡ []) → (tty : ℕ) → terminal_by (tapes tty) (r.terms tty) ≡ silent_terminal
  terminal_same tapes silent tty = elim (cases_lt tty 2) [
    | inl low ↦ rw (silent tty, booted.records (id.Term tty) low) refl
    | inr past ↦
        let out : nat_lt tty 2 ≡ false = grind (arith, nat_tests, past) in
        rw (silent tty, booted.no_record (id.Term tty) out) refl
  ]

  never_status : (pid : ℕ) → status_by (Some (booted_exit load pid)) ≡ None
  unfolding booted_exit
  never_status pid = elim (cases_Bool (nat_le pid (length load.starts))) [ inl live ↦ rw live refl | inr unused ↦ rw unused refl ]

  status_none : (pid : ℕ) → status_by (r.exits pid) ≡ None
  status_none pid = elim (cases_Bool (lies_between 1 256 pid)) [
    | inl inside ↦
        let low : 1 ≤ pid = grind (arith, nat_tests) in
        let high : pid ≤ 256 = grind (arith, nat_tests) in
        rw (booted.records (id.Exit pid) (low, high)) (never_status pid)
    | inr out ↦ rw (booted.no_record (id.Exit pid) out) refl
  ]

  pub unix_same : (tapes : ℕ → List ℕ) → ((tty : ℕ) → tapes tty ≡ []) → unix_of r words tapes InKernel 0 0 ≡ start_of load
  unfolding unix_of start_of
  unix_same tapes silent = λ i. record {
    processes = processes_same i;
    ended = λ pid. ended_none (processes_of r words InKernel) pid i;
    descriptions = λ number. (ap (λ processes. in_use processes (λ n. description_by (r.descs n)) number) processes_same ∙ description_same number) i;
    files = λ _. None;
    room = booted.user_frames i;
    terminals = λ tty. terminal_same tapes silent tty i;
    exits = λ pid. status_none pid i;
    next_pid = ap next_by (booted.records id.Head tt) i;
    last_pid = ap (λ (head : Option HeadRec). last_by head InKernel) (booted.records id.Head tt) i;
    steps = 0;
    traps = 0;
    position = AtKernel;
  }
