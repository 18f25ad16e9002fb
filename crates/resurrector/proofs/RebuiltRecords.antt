-- The records of a kernel that was built after a panic which damaged nothing: head, exits, terminals and signals are those that
-- were left, and each process that was live has its record.
use Rattle.std.proofs.Common.{◌≡◌, ℕ, ◌+◌, ◌≤◌, ◌==◌, true, false, if◌then◌else◌, List, length, Option, Some, None, IfSome, is_some, inl, inr, refl, sym, ap, subst, ◌∙◌, arith}
use Rattle.std.proofs.lemmas.Bool.{cases_Bool, cases_lt, le-ltb}
use Rattle.std.proofs.lemmas.Bool.Decides.{nat_tests}
use Rattle.ow_base.specs.Images.{Image}
use Rattle.ow_base.specs.Sv32.{WordMap}
use Rattle.record_layouts.specs.declared.exit.ExitRec.{ExitRec}
use Rattle.record_layouts.specs.declared.head.HeadRec.{HeadRec}
use Rattle.record_layouts.specs.declared.places.RecordId.TheVariants as id
use Rattle.record_layouts.specs.declared.proc.ProcRec.{ProcRec}
use Rattle.record_layouts.specs.declared.sig.SigRec.{SigRec}
use Rattle.record_layouts.specs.declared.term.TermRec.{TermRec}
use Rattle.record_layouts.specs.Decode.{InKernel, is_number, last_by, next_by, pid_in, slot_by, tape_by, terminal_by}
use Rattle.record_layouts.specs.Held.{Records}
use Rattle.record_layouts.specs.Images.{records_of_image}
use Rattle.record_layouts.specs.Left.{HandedOver}
use Rattle.record_layouts.specs.LeftImages.{last_left, next_by_left}
use Rattle.record_layouts.specs.Reading.{records_in, records_of}
use Rattle.record_layouts.specs.SoundImages.{IsSoundAtPanic}
use Rattle.record_layouts.specs.Spelling.{lies_between}
use Rattle.record_layouts.specs.Terminals.{IsOfTape}
use Rattle.record_layouts.specs.Unix.Choice.{least_from}
use Rattle.record_layouts.specs.Unix.State.{most_pids}
use Rattle.record_layouts.specs.declared.fates.Fate.{Fate}
use Rattle.record_layouts.specs.declared.fates.Fate.TheVariants as fate
use Rattle.resurrector.specs.Procedures.{is_lost}
use Rattle.resurrector.specs.Rebuilt.{IsRevived, tapes_put}
use Rattle.resurrector.specs.Revived.{exit_by, exit_with, head_by, process_by, revived_exit, revived_head, revived_process, revived_signals, revived_terminal, signals_by, signals_or_none}
use Rattle.resurrector.proofs.Undamaged.{exit_out, is_there, signals_there, slot_low, terminals_there}
use Rattle.resurrector.proofs.Survivals.{after, fate_told, stays, survivor_there}

-- a process that is not lost leaves its exit as it is
exit_kept : (exit : ExitRec) (told : Fate) → is_lost told ≡ false → exit_with exit told ≡ exit
exit_kept exit (fate.Lost bits) kept = absurd (cc kept)
exit_kept exit fate.Goes kept = refl
exit_kept exit fate.Aborted kept = refl
exit_kept exit fate.Stands kept = refl
exit_kept exit (fate.Procedure mask) kept = refl

tape_stays : (tape : List ℕ) (terminal : TermRec) → terminal.written ≡ length (tape_by tape terminal) → tape_by (tape_by tape terminal) terminal ≡ tape_by tape terminal
tape_stays tape terminal counted =
    let whole : (terminal.written == length (tape_by tape terminal) + 1) ≡ false = grind (arith, nat_tests, counted) in
    rw whole refl

last_same : (pid last : ℕ) → (if pid == 0 then last else pid) ≡ last_left pid last
last_same pid last = refl

module _ (i : Image) (steps broken : ℕ) (sound : IsSoundAtPanic i steps broken) (h : HandedOver) (counts : List ℕ)
    (next : Records) (next_words : WordMap) (is : IsRevived (records_of_image i) (Some h) counts i.words next next_words) where
  abbrev r : Records
  r = records_of_image i

  exit_by_state : (pid : ℕ) (exit : ExitRec) → r.exits pid ≡ Some exit → exit_by r (Some h) pid (Some exit) ≡ exit
  exit_by_state pid exit there = elim (cases_Bool (exit.state == 1)) [
    | inl live ↦
        let found : slot_by (r.exits pid) ≡ Some exit.value = rw (there, live) refl in
        rw (live, fate_told i steps broken sound h pid exit.value found) (exit_kept exit _ (stays i steps broken sound h pid exit.value found))
    | inr over ↦ rw over refl
  ]

  pub exit_same : (pid : ℕ) → next.exits pid ≡ r.exits pid
  unfolding revived_exit
  exit_same pid = elim (cases_Bool (lies_between 1 256 pid)) [
    | inl inside ↦
        let within : (1 ≤ pid) × (pid ≤ 256) = (grind (arith, nat_tests, inside), grind (arith, nat_tests, inside)) in
        let (exit, there) = is_there (r.exits pid) (sound.complete (id.Exit pid) within) in
        is.records (id.Exit pid) within
        ∙ ap (λ (o : Option ExitRec). Some (exit_by r (Some h) pid o)) there ∙ ap Some (exit_by_state pid exit there) ∙ sym there
    | inr out ↦ is.others (id.Exit pid) out ∙ sym (exit_out i steps broken sound pid out)
  ]

  pub pid_same : (slot : ℕ) → pid_in next slot ≡ pid_in r slot
  unfolding pid_in
  pid_same slot = λ k. least_from (λ pid. is_number (slot_by (exit_same pid k)) slot) 1 most_pids

  -- the head
  pub head_there : is_some next.head ≡ true
  head_there = rw (is.records id.Head tt) refl

  head_by_left : (o : Option HeadRec) → is_some o ≡ true
      → (next_by (Some (head_by r (Some h) o)) ≡ next_by_left r o) × (last_by (Some (head_by r (Some h) o)) InKernel ≡ last_left h.pid (last_by o InKernel))
  head_by_left (Some head) there = (refl, refl)
  head_by_left None there = absurd (cc there)

  pub next_pid_same : next_by next.head ≡ next_by_left r r.head
  unfolding revived_head
  next_pid_same = ap next_by (is.records id.Head tt) ∙ (head_by_left r.head (sound.complete id.Head tt)).0

  pub last_pid_same : last_by next.head InKernel ≡ last_left h.pid (last_by r.head InKernel)
  unfolding revived_head
  last_pid_same = ap (λ (o : Option HeadRec). last_by o InKernel) (is.records id.Head tt) ∙ (head_by_left r.head (sound.complete id.Head tt)).1

  -- the terminals
  pub terminal_same : (tty : ℕ) → next.terms tty ≡ r.terms tty
  unfolding revived_terminal records_of records_in
  terminal_same tty = elim (cases_lt tty 2) [
    | inl low ↦
        let (terminal, there) = is_there (r.terms tty) (sound.complete (id.Term tty) low) in
        is.records (id.Term tty) low ∙ rw (terminals_there i steps broken sound h tty low) (rw there refl)
    | inr past ↦ is.others (id.Term tty) (le-ltb tty 2 past) ∙ rw (le-ltb tty 2 past) refl
  ]

  no_terminal : (tty : ℕ) → 2 ≤ tty → r.terms tty ≡ None
  unfolding records_of records_in
  no_terminal tty past = rw (le-ltb tty 2 past) refl

  put_by : (tty : ℕ) (o : Option TermRec) → r.terms tty ≡ o → terminal_by (tapes_put r i.tapes tty) o ≡ terminal_by (i.tapes tty) o
  put_by tty (Some terminal) there = elim (cases_lt tty 2) [
    | inl low ↦
        let of_tape : IfSome (Some terminal) (λ t. IsOfTape r tty (tape_by (i.tapes tty) t) t) =
        subst (λ (o : Option TermRec). IfSome o (λ t. IsOfTape r tty (tape_by (i.tapes tty) t) t)) there (sound.terminals.records tty low) in
        let counted : terminal.written ≡ length (tape_by (i.tapes tty) terminal) = of_tape.counted in
        ap (λ (o : Option TermRec). terminal_by ((terminal_by (i.tapes tty) o).tape) (Some terminal)) there
        ∙ ap (λ (tape : List ℕ). record { tape = tape; base = terminal.base; consumed = terminal.consumed }) (tape_stays (i.tapes tty) terminal counted)
    | inr past ↦ absurd (cc (rw (no_terminal tty past) at there))
  ]
  put_by tty None there = ap (λ (o : Option TermRec). terminal_by ((terminal_by (i.tapes tty) o).tape) None) there

  pub terminal_put : (tty : ℕ) → terminal_by (tapes_put r i.tapes tty) (next.terms tty) ≡ terminal_by (i.tapes tty) (r.terms tty)
  terminal_put tty = ap (λ (o : Option TermRec). terminal_by (tapes_put r i.tapes tty) o) (terminal_same tty) ∙ put_by tty (r.terms tty) refl

  -- a process that was live
  module _ (pid slot : ℕ) (found : slot_by (r.exits pid) ≡ Some slot) where
    pub process_there : next.procs slot ≡ Some (after i steps broken sound h pid slot found)
    unfolding revived_process
    process_there =
        is.records (id.Proc slot) (slot_low i steps broken sound h pid slot found)
        ∙ ap (λ (o : Option ProcRec). Some (process_by r (Some h) slot o)) (survivor_there i steps broken sound h pid slot found)

    signals_kept : (o : Option SigRec) (of_pid : ℕ) → is_some o ≡ true → Some (signals_or_none of_pid o) ≡ o
    signals_kept (Some signals) of_pid there = refl
    signals_kept None of_pid there = absurd (cc there)

    pub signals_same : next.sigs slot ≡ r.sigs slot
    unfolding revived_signals
    signals_same =
        is.records (id.Sig slot) (slot_low i steps broken sound h pid slot found)
        ∙ ap (λ (o : Option ProcRec). Some (signals_by r slot o)) (survivor_there i steps broken sound h pid slot found)
        ∙ signals_kept (r.sigs slot) (after i steps broken sound h pid slot found).pid (signals_there i steps broken sound h pid slot found)
