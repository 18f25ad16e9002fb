-- The pids and the descriptions of a kernel that has booted.
use Rattle.std.proofs.Common.{◌≡◌, ◌≢◌, ℕ, zero, suc, ◌+◌, ◌-◌, ◌<◌, ◌≤◌, true, false, nat_lt, nat_le, length, slice_index, slice_get, Option, Some, None, refl, sym, ap, ◌∙◌, inl, inr, arith}
use Rattle.std.proofs.lemmas.Bool.{cases_lt, cases_Bool}
use Rattle.std.proofs.lemmas.Bool.Decides.{nat_tests}
use Rattle.std.proofs.lemmas.Option.{slice_get_past, slice_get-get_or}
use Rattle.ow_base.specs.declared.worlds.Load.{Load}
use Rattle.ow_base.specs.declared.worlds.Program.{Program}
use Rattle.ow_base.specs.declared.worlds.Start.{Start as Started}
use Rattle.record_layouts.specs.declared.desc.DescRec.{DescRec}
use Rattle.record_layouts.specs.declared.proc.ProcRec.{ProcRec}
use Rattle.record_layouts.specs.declared.places.RecordId.TheVariants as id
use Rattle.record_layouts.specs.declared.sig.SigRec.{SigRec}
use Rattle.record_layouts.specs.Decode.{next_by, slot_by}
use Rattle.record_layouts.specs.Held.{Records}
use Rattle.record_layouts.specs.Pages.{is_live}
use Rattle.record_layouts.specs.Sound.{AreInCalls, AreInBuiltCalls, AreNumbered, AreOnTerminals, IsIn, is_used}
use Rattle.record_layouts.specs.Spelling.{lies_between}
use Rattle.kernel_traps.specs.Boot.{IsBootable, program_in}
use Rattle.kernel_traps.specs.BootRecords.{booted_description, booted_exit, booted_process, booted_signals, description_for, free_process, started_descs, started_record}
use Rattle.kernel_traps.specs.BootState.{IsBooted}
use Rattle.kernel_traps.proofs.BootLayout.{start_there}

-- a slot has the process of its program, and none is behind the starts
pub process_there : (load : Load) (slot : ℕ) (program : Program) → program_in load slot ≡ Some program → booted_process load slot ≡ started_record slot program
unfolding booted_process
process_there load slot program found = rw found refl

pub process_none : (load : Load) (slot : ℕ) → length load.starts ≤ slot → booted_process load slot ≡ free_process
unfolding booted_process program_in
process_none load slot past = rw (slice_get_past load.starts slot past) refl

-- the exit record of a pid
exit_live : (load : Load) (pid : ℕ) → pid ≤ length load.starts → booted_exit load pid ≡ record { state = 1; value = pid - 1 }
unfolding booted_exit
exit_live load pid low = let here : nat_le pid (length load.starts) ≡ true = grind (arith, nat_tests) in rw here refl

exit_unused : (load : Load) (pid : ℕ) → length load.starts < pid → booted_exit load pid ≡ record { state = 0; value = 0 }
unfolding booted_exit
exit_unused load pid past = let out : nat_le pid (length load.starts) ≡ false = grind (arith, nat_tests) in rw out refl

-- the descriptor words of a process that starts
named_one : (word fd : ℕ) → fd < 8 → slice_index (started_descs word) fd ≢ 0 → slice_index (started_descs word) fd ≡ word
named_one word zero low some = refl
named_one word (suc zero) low some = refl
named_one word (suc (suc zero)) low some = refl
named_one word (suc (suc (suc zero))) low some = absurd (some refl)
named_one word (suc (suc (suc (suc zero)))) low some = absurd (some refl)
named_one word (suc (suc (suc (suc (suc zero))))) low some = absurd (some refl)
named_one word (suc (suc (suc (suc (suc (suc zero)))))) low some = absurd (some refl)
named_one word (suc (suc (suc (suc (suc (suc (suc zero))))))) low some = absurd (some refl)
named_one word (suc (suc (suc (suc (suc (suc (suc (suc n)))))))) low some = absurd (omega arith)

-- the description of a start is on its terminal
described_start : (load : Load) (slot : ℕ) → slot < length load.starts → (start : Started) × (slice_get load.starts slot ≡ Some start)
    × (booted_description load slot ≡ record { object = 2; index = start.tty; mode = 3; offset = 0 })
unfolding booted_description
described_start load slot low =
    let none : Started = record { program = 0; tty = 0 } in
    let found = slice_get-get_or load.starts slot none low in
    (_, found, rw found refl)

-- no description is on a file
never_file : (start : Option Started) → (description_for start).object ≢ 1
never_file (Some start) e = absurd (omega (arith, e))
never_file None e = absurd (omega (arith, e))

not_file : (load : Load) (i : ℕ) → (booted_description load i).object ≢ 1
unfolding booted_description
not_file load i = never_file (slice_get load.starts i)

-- a process that has started
pub record IsStartedIn (load : Load) (slot : ℕ) (process : ProcRec) : Type 0 where
  pub low : slot < length load.starts
  pub program : Program
  pub found : program_in load slot ≡ Some program
  pub is : process ≡ started_record slot program

module _ (r : Records) (load : Load) (is : IsBootable load) (booted : IsBooted r load) where
  -- each record of a process is that of a start, or free
  process_is : (slot : ℕ) (process : ProcRec) → r.procs slot ≡ Some process → (slot < 16) × (process ≡ booted_process load slot)
  process_is slot process there = elim (cases_lt slot 16) [
    | inl low ↦ let e = booted.records (id.Proc slot) low in (low, cc (e, there))
    | inr past ↦
        let out : nat_lt slot 16 ≡ false = grind (arith, nat_tests, past) in
        let e = booted.no_record (id.Proc slot) out in absurd (cc (e, there))
  ]

  pub in_started : (slot : ℕ) (process : ProcRec) → IsIn r slot process → IsStartedIn load slot process
  in_started slot process inside =
      let which = process_is slot process inside.there in
      elim (cases_lt slot (length load.starts)) [
        | inl low ↦
            let there = start_there load slot is low in
            record { low = low; program = there.0; found = there.1; is = which.1 ∙ process_there load slot there.0 there.1 }
        | inr past ↦
            let free : process ≡ free_process = which.1 ∙ process_none load slot past in
            absurd (cc (inside.live, ap is_live free))
      ]

  -- no process is in a call, and none has ended or has a parent
  pub state_small : (slot : ℕ) (process : ProcRec) → r.procs slot ≡ Some process → (process.state ≤ 1) × (process.parent ≡ 0)
  state_small slot process there =
      let which = process_is slot process there in
      elim (cases_lt slot (length load.starts)) [
        | inl low ↦
            let found = start_there load slot is low in
            let same : process ≡ started_record slot found.0 = which.1 ∙ process_there load slot found.0 found.1 in
            (omega (arith, ap (λ (p : ProcRec). p.state) same), ap (λ (p : ProcRec). p.parent) same)
        | inr past ↦
            let free : process ≡ free_process = which.1 ∙ process_none load slot past in
            (omega (arith, ap (λ (p : ProcRec). p.state) free), ap (λ (p : ProcRec). p.parent) free)
      ]

  pub slot_live : (pid : ℕ) → 1 ≤ pid → pid ≤ length load.starts → slot_by (r.exits pid) ≡ Some (pid - 1)
  slot_live pid low high = ap slot_by (booted.records (id.Exit pid) (low, omega (arith, is.most_starts)) ∙ ap Some (exit_live load pid high))

  pub slot_none : (pid : ℕ) → lies_between 1 (length load.starts) pid ≡ false → slot_by (r.exits pid) ≡ None
  slot_none pid out = elim (cases_Bool (lies_between 1 256 pid)) [
    | inl within ↦
        let low : 1 ≤ pid = grind (arith, nat_tests) in
        let high : pid ≤ 256 = grind (arith, nat_tests) in
        let past : length load.starts < pid = grind (arith, nat_tests) in
        ap slot_by (booted.records (id.Exit pid) (low, high) ∙ ap Some (exit_unused load pid past))
    | inr beyond ↦ ap slot_by (booted.no_record (id.Exit pid) beyond)
  ]

  pub slot_found : (pid slot : ℕ) → slot_by (r.exits pid) ≡ Some slot → (pid ≡ slot + 1) × (slot < length load.starts)
  slot_found pid slot e = elim (cases_Bool (lies_between 1 (length load.starts) pid)) [
    | inl within ↦
        let low : 1 ≤ pid = grind (arith, nat_tests) in
        let high : pid ≤ length load.starts = grind (arith, nat_tests) in
        let live = slot_live pid low high in
        let same : pid - 1 ≡ slot = cc (live, e) in
        (omega (arith, same), omega (arith, same))
    | inr out ↦ absurd (cc (slot_none pid out, e))
  ]

  started_there : (slot : ℕ) → slot < length load.starts → (process : ProcRec) × (IsIn r slot process) × (process.pid ≡ slot + 1)
  started_there slot low =
      let there = start_there load slot is low in (
        started_record slot there.0,
        record {
          within = omega (arith, is.most_starts);
          there = booted.records (id.Proc slot) (omega (arith, is.most_starts))
              ∙ ap Some (process_there load slot there.0 there.1);
          live = refl;
        },
        refl,
      )

  used : (pid : ℕ) → 1 ≤ pid → pid ≤ 256 → is_used (r.exits pid) ≡ nat_lt pid (next_by r.head)
  used pid low high =
      let next : next_by r.head ≡ length load.starts + 1 = ap next_by (booted.records id.Head tt) in
      elim (cases_lt (length load.starts) pid) [
        | inl past ↦
            let out : nat_lt pid (length load.starts + 1) ≡ false = grind (arith, nat_tests) in
            rw (next, out) (ap is_used (booted.records (id.Exit pid) (low, high) ∙ ap Some (exit_unused load pid past)))
        | inr within ↦
            let here : nat_lt pid (length load.starts + 1) ≡ true = grind (arith, nat_tests) in
            rw (next, here) (ap is_used (booted.records (id.Exit pid) (low, high) ∙ ap Some (exit_live load pid within)))
      ]

  signals_there : (slot : ℕ) → slot < length load.starts → (signals : SigRec) × (r.sigs slot ≡ Some signals) × (signals.pid ≡ slot + 1)
  unfolding booted_signals
  signals_there slot low =
      let here : nat_lt slot (length load.starts) ≡ true = grind (arith, nat_tests) in
      (booted_signals load slot, booted.records (id.Sig slot) (omega (arith, is.most_starts)), rw here refl)

  pub are_numbered : AreNumbered r
  are_numbered = record {
    used = used;
    one_slot = λ pid other slot e f. (slot_found pid slot e).0 ∙ sym (slot_found other slot f).0;
    exit = λ slot process inside.
        let started = in_started slot process inside in
        let pid : process.pid ≡ slot + 1 = ap (λ (p : ProcRec). p.pid) started.is in
        let less : slot + 1 - 1 ≡ slot = omega arith in
        rw pid (slot_live (slot + 1) (omega arith) (omega (arith, started.low)) ∙ ap Some less);
    process = λ pid slot e.
        let found = slot_found pid slot e in
        let there = started_there slot found.1 in
        (there.0, there.1, there.2 ∙ sym found.0);
    signals = λ slot process inside.
        let started = in_started slot process inside in
        let there = signals_there slot started.low in
        (there.0, there.1, there.2 ∙ sym (ap (λ (p : ProcRec). p.pid) started.is));
    ended = λ slot process there e. absurd (omega (arith, (state_small slot process there).0, e));
    one_ended = λ slot other process another there it e f same. absurd (omega (arith, (state_small slot process there).0, e));
    parents = λ slot process there. omega (arith, (state_small slot process there).1, ap next_by (booted.records id.Head tt));
  }

  described : (slot : ℕ) (process : ProcRec) → IsIn r slot process → (fd : ℕ) → fd < 8 → slice_index process.descs fd ≢ 0
      → (description : DescRec) × (r.descs (slice_index process.descs fd - 1) ≡ Some description) × (description.object ≢ 0)
  described slot process inside fd low some =
      let started = in_started slot process inside in
      let descs = ap (λ (p : ProcRec). slice_index p.descs fd) started.is in
      let word : slice_index process.descs fd ≡ slot + 1 = descs ∙ named_one (slot + 1) fd low (λ e. some (descs ∙ e)) in
      let number : slice_index process.descs fd - 1 ≡ slot = omega (arith, word) in
      let on = described_start load slot started.low in
      let there = booted.records (id.Desc slot) (omega (arith, started.low, is.most_starts)) in
      (booted_description load slot, rw number there, λ e. absurd (omega (arith, ap (λ (d : DescRec). d.object) on.2, e)))

  pub are_in_calls : AreInCalls r
  are_in_calls = record {
    calls = λ slot process inside e. absurd (omega (arith, (state_small slot process inside.there).0, e));
    described = described;
  }

  pub are_in_built_calls : AreInBuiltCalls r
  are_in_built_calls = record { each = λ slot process inside e. absurd (omega (arith, (state_small slot process inside.there).0, e)) }

  pub are_on_terminals : AreOnTerminals r
  are_on_terminals = record {
    each = λ slot process inside fd low some. elim (cases_lt (slice_index process.descs fd - 1) 32) [
      | inl there ↦ rw (booted.records (id.Desc (slice_index process.descs fd - 1)) there) (not_file load (slice_index process.descs fd - 1))
      | inr past ↦
          let out : nat_lt (slice_index process.descs fd - 1) 32 ≡ false = grind (arith, nat_tests, past) in
          rw (booted.no_record (id.Desc (slice_index process.descs fd - 1)) out) tt
    ];
  }
