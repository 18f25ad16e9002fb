-- An instruction of the process in user mode: what it does to the plant is what it does on the process's pages, and all
-- other processes are as they were.
use Rattle.std.proofs.Common.{◌≡◌, ◌≢◌, ◌==◌, ℕ, ◌+◌, true, List, Option, Some, None, is_some, inl, inr, refl, sym, ap, subst, ◌∙◌, arith}
use Rattle.std.proofs.lemmas.Bool.Decides.{nat_tests}
use Rattle.ow_base.specs.Pages.{Pages}
use Rattle.ow_base.specs.Sv32.{WordMap}
use Rattle.ow_base.specs.Words.{updated}
use Rattle.ow_base.specs.declared.machine.Bank.{Bank}
use Rattle.record_layouts.specs.declared.proc.ProcRec.{ProcRec}
use Rattle.record_layouts.specs.Unix.State.{Process, AtUser, Unix}
use Rattle.record_layouts.specs.Unix.Calls.{with_process}
use Rattle.record_layouts.specs.Unix.Choice.{least_from}
use Rattle.record_layouts.specs.Decode.{InUser, description_by, ended_by, ended_in, ended_of, is_ended_as, process_at, process_of, processes_of, slot_by, with_bank}
use Rattle.record_layouts.specs.Held.{Records}
use Rattle.record_layouts.specs.Pages.{pages_of}
use Rattle.record_layouts.specs.Sound.{AreSound, IsIn}
use Rattle.process_table.proofs.ChangedUnix.{in_use_still}
use Rattle.process_table.proofs.EndedUnix.{others_are}
use Rattle.process_table.proofs.Kept.{same_or_not, set_here, set_other}
use Rattle.process_table.proofs.Seats.{found_in, living, not_found}
use Rattle.frame_table.specs.Maps.{map_of as pages_map}
use Rattle.frame_table.proofs.Counting.{fits_there}
use Rattle.kernel_traps.proofs.UnixBy.{unix_by}
use Rattle.kernel_traps.proofs.Isolated.{AreKeptBeside, pages_stay}

-- an ended child is one of a live process, and who is live stays so
live_still : (ps : ℕ → Option Process) (pid : ℕ) (old new : Process) (q : ℕ) → ps pid ≡ Some old
    → is_some (updated ps pid (Some new) q) ≡ is_some (ps q)
live_still ps pid old new q there = elim (same_or_not q pid) [
  | inl equal ↦ subst (λ (k : ℕ). is_some (updated ps pid (Some new) k) ≡ is_some (ps k)) (sym equal)
      (ap is_some (set_here ps pid (Some new)) ∙ sym (ap is_some there))
  | inr apart ↦ ap is_some (set_other ps pid (Some new) q apart)
]

child_still : (ps : ℕ → Option Process) (pid : ℕ) (old new : Process) (held : Option ProcRec) → ps pid ≡ Some old
    → ended_by (updated ps pid (Some new)) held ≡ ended_by ps held
child_still ps pid old new (Some process) there = rw (live_still ps pid old new process.parent there) refl
child_still ps pid old new None there = refl

children_still : (r : Records) (ps : ℕ → Option Process) (pid : ℕ) (old new : Process) (found : Option ℕ) → ps pid ≡ Some old
    → ended_in r (updated ps pid (Some new)) found ≡ ended_in r ps found
children_still r ps pid old new (Some slot) there = child_still ps pid old new (r.procs slot) there
children_still r ps pid old new None there = refl

ended_still : (r : Records) (ps : ℕ → Option Process) (pid : ℕ) (old new : Process) (q : ℕ) → ps pid ≡ Some old
    → ended_of r (updated ps pid (Some new)) q ≡ ended_of r ps q
unfolding ended_of
ended_still r ps pid old new q there = children_still r ps pid old new (least_from (λ slot. is_ended_as q (r.procs slot)) 0 16) there

-- the state after an instruction that makes this of the process
abbrev pub stepped_to : Unix → (pid count : ℕ) → Process → Unix
stepped_to u pid count new = record (with_process u pid new) { steps = u.steps + 1; position = AtUser pid (count + 1) }

-- a process with the same descriptors in place of another changes nothing but itself
pub unix_with : (r : Records) (tapes : ℕ → List ℕ) (ps : ℕ → Option Process) (pid last steps traps count : ℕ) (old new : Process)
    → ps pid ≡ Some old → new.descriptors ≡ old.descriptors
    → unix_by r tapes (updated ps pid (Some new)) last (steps + 1) traps (AtUser pid (count + 1))
    ≡ stepped_to (unix_by r tapes ps last steps traps (AtUser pid count)) pid count new
unix_with r tapes ps pid last steps traps count old new there same =
    let after = unix_by r tapes (updated ps pid (Some new)) last (steps + 1) traps (AtUser pid (count + 1)) in
    λ i. record after {
      ended = λ q. ended_still r ps pid old new q there i;
      descriptions = λ number. in_use_still ps pid old new (λ n. description_by (r.descs n)) number there same i;
    }

-- a process of other words is the same but for its pages
of_pages : (r : Records) (words after : WordMap) (slot : ℕ) (process : ProcRec) (pages : Pages) → pages ≡ pages_of r after slot process
    → process_of r after slot process ≡ record (process_of r words slot process) { pages = pages }
unfolding process_of
of_pages r words after slot process pages same = ap (λ (p : Pages). record (process_of r words slot process) { pages = p }) (sym same)

module _ (r : Records) (words after : WordMap) (slot : ℕ) (its : ProcRec) (sound : AreSound r) (is : IsIn r slot its)
    (kept : AreKeptBeside (pages_map r slot its) words after) where
  -- another process is as it was
  in_other_slot : (other : ℕ) (process : ProcRec) → other ≢ slot → IsIn r other process → process_of r after other process ≡ process_of r words other process
  in_other_slot other process apart there =
      let fits = fits_there r slot its sound.values is.there in
      let its_fits = fits_there r other process sound.values there.there in
      let pages = pages_stay r words after slot other its process apart fits is.live its_fits there.live kept in
      of_pages r words after other process (pages_of r words other process) (sym pages) ∙ sym (of_pages r words words other process (pages_of r words other process) refl)

  other_stays : (q : ℕ) → (q ≡ its.pid → ⊥) → process_at r after q ≡ process_at r words q
  other_stays q apart = elim (living r words q sound) [
    | inl missing ↦ not_found r after q missing.exit ∙ sym missing.decoded
    | inr live ↦
        let exits : live.slot ≡ slot → slot_by (r.exits q) ≡ Some slot = λ same. live.exit ∙ ap (λ (k : ℕ). Some k) same in
        let places : live.slot ≢ slot = λ same. apart (sound.numbered.one_slot q its.pid slot (exits same) (sound.numbered.exit slot its is)) in
        let found : process_at r after q ≡ Some (process_of r after live.slot live.process) =
        subst (λ (k : ℕ). process_at r after k ≡ Some (process_of r after live.slot live.process)) live.same (found_in r after live.slot live.process sound live.is) in
        found ∙ (ap (λ (p : Process). Some p) (in_other_slot live.slot live.process places live.is) ∙ sym live.decoded)
  ]

  -- the process itself has its new registers and pages
  own_now : (user count : ℕ) (bank : Bank) (pages : Pages) → user ≡ its.pid → pages ≡ pages_of r after slot its
      → processes_of r after (InUser user count bank) user ≡ Some (record (process_of r words slot its) { bank = bank; pages = pages })
  unfolding processes_of
  own_now user count bank pages of same =
      let test : (user == user) ≡ true = grind (arith, nat_tests) in
      let decoded = process_of r after slot its in
      let found : process_at r after user ≡ Some decoded = subst (λ (k : ℕ). process_at r after k ≡ Some decoded) (sym of) (found_in r after slot its sound is) in
      rw test (ap (with_bank bank) found ∙ ap (λ (p : Process). Some (record p { bank = bank })) (of_pages r words after slot its pages same))

  -- the processes are those before with this one in its place
  pub processes_now : (user count later : ℕ) (bank next : Bank) (pages : Pages) → user ≡ its.pid → pages ≡ pages_of r after slot its → (q : ℕ)
      → processes_of r after (InUser user later next) q
      ≡ updated (processes_of r words (InUser user count bank)) user (Some (record (process_of r words slot its) { bank = next; pages = pages })) q
  processes_now user count later bank next pages of same q =
      let before = processes_of r words (InUser user count bank) in
      let then_is = processes_of r after (InUser user later next) in
      let new : Option Process = Some (record (process_of r words slot its) { bank = next; pages = pages }) in
      elim (same_or_not q user) [
        | inl equal ↦ subst (λ (k : ℕ). then_is k ≡ updated before user new k) (sym equal) (own_now user later next pages of same ∙ sym (set_here before user new))
        | inr apart ↦
            let elsewhere : q ≡ its.pid → ⊥ = λ equal. apart (equal ∙ sym of) in
            let here = others_are r after (InUser user later next) its.pid q of elsewhere in
            let there = others_are r words (InUser user count bank) its.pid q of elsewhere in
            here ∙ (other_stays q elsewhere ∙ (sym there ∙ sym (set_other before user new q apart)))
      ]
