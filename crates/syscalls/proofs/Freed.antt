-- The slot of a process that has ended becomes free: what the records then stand for is the same but for that child.
use Rattle.std.proofs.Common.{◌≡◌, ◌==◌, ◌&&◌, if◌then◌else◌, ℕ, Bool, true, false, List, Option, Some, None, is_some, inl, inr, refl, sym, ap, subst, ◌∙◌, arith}
use Rattle.std.proofs.lemmas.Bool.{cases_Bool}
use Rattle.std.proofs.lemmas.Bool.Decides.{nat_tests}
use Rattle.ow_base.specs.Sv32.{WordMap}
use Rattle.ow_base.specs.Words.{updated}
use Rattle.record_layouts.specs.declared.proc.ProcRec.{ProcRec}
use Rattle.record_layouts.specs.Unix.State.{AtKernel, Process, in_use}
use Rattle.record_layouts.specs.Unix.Choice.{least_from}
use Rattle.record_layouts.specs.Held.{Records}
use Rattle.record_layouts.specs.Pages.{is_live}
use Rattle.record_layouts.specs.Decode.{InKernel, decodes, description_by, ended_by, ended_in, ended_of, is_ended_as, is_number, last_by, next_by, pid_in, process_at, process_by, process_in, process_of, processes_of, slot_by, status_by, terminal_by, unix_of}
use Rattle.process_table.specs.Patches.{free_process}
use Rattle.process_table.proofs.EndedUnix.{ended_there}
use Rattle.process_table.proofs.Kept.{same_or_not, set_here, set_other}
use Rattle.process_table.proofs.Least.{least_none, least_passes}
use Rattle.syscalls.proofs.Altered.{decoded_stays, mapped_stays}

-- the records in which a slot is free
abbrev pub freed : Records → (place : ℕ) → Records
freed r place = record r { procs = updated r.procs place (Some free_process) }

-- no other record of a process that has ended has the pid of the one in a slot
abbrev pub IsOnlyEnded : Records → (place pid : ℕ) → Type 0
IsOnlyEnded r place pid = (other : ℕ) (another : ProcRec) → r.procs other ≡ Some another → another.state ≡ 3 → another.pid ≡ pid → other ≡ place

module _ (r : Records) (place : ℕ) (child : ProcRec) (there : r.procs place ≡ Some child) (ended : child.state ≡ 3) (only : IsOnlyEnded r place child.pid) where
  -- all live processes stay
  not_live : is_live child ≡ false
  not_live = rw ended refl

  none_live : (words : WordMap) (pid : ℕ) (other : ProcRec) → is_live other ≡ false → process_by r words place pid (Some other) ≡ None
  none_live words pid other dead = elim (cases_Bool (is_some r.head)) [ inl head ↦ rw (head, dead) refl | inr none ↦ rw none refl ]

  by_same : (words : WordMap) (slot pid : ℕ) (held : Option ProcRec) → process_by (freed r place) words slot pid held ≡ process_by r words slot pid held
  by_same words slot pid None = refl
  by_same words slot pid (Some other) =
      let procs = updated r.procs place (Some free_process) in
      ap (λ (mapped : Bool). if is_some r.head && is_live other && other.pid == pid && mapped then Some (process_of (freed r place) words slot other) else None)
      (mapped_stays r r.head procs r.terms r.rows slot other)
      ∙ ap (λ (p : Process). if decodes r slot pid other then Some p else None) (decoded_stays r r.head procs r.terms r.rows words slot other)

  held_same : (words : WordMap) (slot pid : ℕ)
      → process_by (freed r place) words slot pid (updated r.procs place (Some free_process) slot) ≡ process_by r words slot pid (r.procs slot)
  held_same words slot pid = by_same words slot pid (updated r.procs place (Some free_process) slot) ∙ elim (same_or_not slot place) [
    | inl equal ↦ subst (λ (k : ℕ). process_by r words k pid (updated r.procs place (Some free_process) k) ≡ process_by r words k pid (r.procs k)) (sym equal)
        (ap (process_by r words place pid) (set_here r.procs place (Some free_process)) ∙ (none_live words pid free_process refl
        ∙ sym (ap (process_by r words place pid) there ∙ none_live words pid child not_live)))
    | inr apart ↦ ap (process_by r words slot pid) (set_other r.procs place (Some free_process) slot apart)
  ]

  in_same : (words : WordMap) (pid : ℕ) (found : Option ℕ) → process_in (freed r place) words pid found ≡ process_in r words pid found
  unfolding pid_in
  in_same words pid None = refl
  in_same words pid (Some slot) = ap (λ (p : Option Process). if is_number (pid_in r slot) pid then p else None) (held_same words slot pid)

  processes_same : (words : WordMap) → processes_of (freed r place) words InKernel ≡ processes_of r words InKernel
  unfolding processes_of process_at
  processes_same words = λ i pid. in_same words pid (slot_by (r.exits pid)) i

  -- the child is found no more
  not_here : (held : Option ProcRec) (k : ℕ) → r.procs k ≡ held → (k ≡ place → ⊥) → is_ended_as child.pid held ≡ false
  not_here held k is apart = elim (cases_Bool (is_ended_as child.pid held)) [
    | inl passes ↦ let other = ended_there held child.pid passes in absurd (apart (only k other.0 (is ∙ other.1) other.2 other.3))
    | inr fails ↦ fails
  ]

  none_here : (k : ℕ) → is_ended_as child.pid (updated r.procs place (Some free_process) k) ≡ false
  none_here k = elim (same_or_not k place) [
    | inl equal ↦ subst (λ (j : ℕ). is_ended_as child.pid (updated r.procs place (Some free_process) j) ≡ false) (sym equal)
        (ap (is_ended_as child.pid) (set_here r.procs place (Some free_process)))
    | inr apart ↦ ap (is_ended_as child.pid) (set_other r.procs place (Some free_process) k apart) ∙ not_here (r.procs k) k refl apart
  ]

  child_gone : (processes : ℕ → Option Process) → ended_of (freed r place) processes child.pid ≡ None
  unfolding ended_of
  child_gone processes = ap (ended_in (freed r place) processes) (least_none (λ k. is_ended_as child.pid (updated r.procs place (Some free_process) k)) 0 16 16 refl
      (record { none = λ k from to. none_here k }))

  -- the others are found where they were
  not_child : (pid : ℕ) → (pid ≡ child.pid → ⊥) → is_ended_as pid (Some child) ≡ false
  not_child pid apart = elim (cases_Bool (child.pid == pid)) [
    | inl same ↦ let equal : child.pid ≡ pid = grind (arith, nat_tests) in absurd (apart (sym equal))
    | inr other ↦ rw (ended, other) refl
  ]

  test_same : (pid : ℕ) → (pid ≡ child.pid → ⊥) → (k : ℕ) → is_ended_as pid (updated r.procs place (Some free_process) k) ≡ is_ended_as pid (r.procs k)
  test_same pid apart k = elim (same_or_not k place) [
    | inl equal ↦ subst (λ (j : ℕ). is_ended_as pid (updated r.procs place (Some free_process) j) ≡ is_ended_as pid (r.procs j)) (sym equal)
        (ap (is_ended_as pid) (set_here r.procs place (Some free_process)) ∙ sym (ap (is_ended_as pid) there ∙ not_child pid apart))
    | inr other ↦ ap (is_ended_as pid) (set_other r.procs place (Some free_process) k other)
  ]

  found_same : (processes : ℕ → Option Process) (pid : ℕ) (found : Option ℕ) → (pid ≡ child.pid → ⊥) → least_from (λ k. is_ended_as pid (r.procs k)) 0 16 ≡ found
      → ended_in (freed r place) processes found ≡ ended_in r processes found
  found_same processes pid None apart is = refl
  found_same processes pid (Some slot) apart is =
      let passes : is_ended_as pid (r.procs slot) ≡ true = least_passes (λ k. is_ended_as pid (r.procs k)) 0 16 slot is in
      let other : slot ≡ place → ⊥ = λ same.
      let fails : is_ended_as pid (r.procs slot) ≡ false = subst (λ (j : ℕ). is_ended_as pid (r.procs j) ≡ false) (sym same) (ap (is_ended_as pid) there ∙ not_child pid apart) in
      cc (sym passes ∙ fails) in
      ap (ended_by processes) (set_other r.procs place (Some free_process) slot other)

  other_same : (processes : ℕ → Option Process) (pid : ℕ) → (pid ≡ child.pid → ⊥) → ended_of (freed r place) processes pid ≡ ended_of r processes pid
  unfolding ended_of
  other_same processes pid apart =
      let tests : (λ (k : ℕ). is_ended_as pid (updated r.procs place (Some free_process) k)) ≡ (λ (k : ℕ). is_ended_as pid (r.procs k)) = λ i k. test_same pid apart k i in
      ap (λ (test : ℕ → Bool). ended_in (freed r place) processes (least_from test 0 16)) tests
      ∙ found_same processes pid (least_from (λ k. is_ended_as pid (r.procs k)) 0 16) apart refl

  ended_then : (processes : ℕ → Option Process) (pid : ℕ) → ended_of (freed r place) processes pid ≡ updated (ended_of r processes) child.pid None pid
  ended_then processes pid = elim (same_or_not pid child.pid) [
    | inl equal ↦ subst (λ (q : ℕ). ended_of (freed r place) processes q ≡ updated (ended_of r processes) child.pid None q) (sym equal)
        (child_gone processes ∙ sym (set_here (ended_of r processes) child.pid None))
    | inr apart ↦ other_same processes pid apart ∙ sym (set_other (ended_of r processes) child.pid None pid apart)
  ]

  ended_all : (words : WordMap) → ended_of (freed r place) (processes_of (freed r place) words InKernel) ≡ updated (ended_of r (processes_of r words InKernel)) child.pid None
  ended_all words = ap (ended_of (freed r place)) (processes_same words) ∙ (λ i pid. ended_then (processes_of r words InKernel) pid i)

  -- the state that the records then stand for
  pub freed_unix : (words : WordMap) (tapes : ℕ → List ℕ) (steps traps : ℕ)
      → unix_of (freed r place) words tapes InKernel steps traps
      ≡ record (unix_of r words tapes InKernel steps traps) { ended = updated (unix_of r words tapes InKernel steps traps).ended child.pid None }
  unfolding unix_of
  freed_unix words tapes steps traps = λ i. record {
    processes = processes_same words i;
    ended = ended_all words i;
    descriptions = in_use (processes_same words i) (λ n. description_by (r.descs n));
    files = λ _. None;
    room = r.map.user_frames;
    terminals = λ tty. terminal_by (tapes tty) (r.terms tty);
    exits = λ pid. status_by (r.exits pid);
    next_pid = next_by r.head;
    last_pid = last_by r.head InKernel;
    steps = steps;
    traps = traps;
    position = AtKernel;
  }
