-- The processes that are read of a kernel that was built after a panic which damaged nothing are those that Abort leaves.
use Rattle.std.proofs.Common.{◌≡◌, ℕ, ◌==◌, Bool, true, false, if◌then◌else◌, List, Option, Some, None, is_some, refl, sym, ap, ◌∙◌, arith}
use Rattle.std.proofs.lemmas.Bool.Decides.{nat_tests}
use Rattle.ow_base.specs.Images.{Image}
use Rattle.ow_base.specs.Sv32.{WordMap}
use Rattle.record_layouts.specs.declared.proc.ProcRec.{ProcRec}
use Rattle.record_layouts.specs.Decode.{InKernel, decodes, process_at, process_of, processes_of, slot_by, unix_of, with_bank}
use Rattle.record_layouts.specs.Held.{Records}
use Rattle.record_layouts.specs.Images.{records_of_image}
use Rattle.record_layouts.specs.Left.{HandedOver, call_found, dead_proc, has_handed_bank, left_rec}
use Rattle.record_layouts.specs.LeftImages.{unix_left, with_bank_left}
use Rattle.record_layouts.specs.Pages.{is_mapped, pages_of}
use Rattle.record_layouts.specs.SoundImages.{IsSoundAtPanic}
use Rattle.record_layouts.specs.Unix.Abort.{call_at, survivor}
use Rattle.record_layouts.specs.Unix.State.{Process, Unix}
use Rattle.record_layouts.specs.Unix.Wounds.{no_wounds}
use Rattle.record_layouts.proofs.LeftImages.{call_left, process_left}
use Rattle.resurrector.specs.Rebuilt.{IsRevived}
use Rattle.resurrector.proofs.RebuiltPages.{mapped, pages_same}
use Rattle.resurrector.proofs.RebuiltRecords.{exit_same, head_there, pid_same, process_there, signals_same}
use Rattle.resurrector.proofs.Survivals.{after, after_fits, after_lives, after_mapped, after_pid, dead, dead_lives, survivor_there}
use Rattle.resurrector.proofs.Undamaged.{decoded, few_owners, held, pid_there, process, slot_low}
use Rattle.resurrector.proofs.Unhurt.{carried_on, survivor_is}
use Rattle.resurrector.proofs.UnhurtRecords.{process_same}

-- a record with the same signals and the same pages stands for the same process
read_same : (r next : Records) (words next_words : WordMap) (slot : ℕ) (its : ProcRec) → next.sigs slot ≡ r.sigs slot
    → pages_of next next_words slot its ≡ pages_of r words slot its → process_of next next_words slot its ≡ process_of r words slot its
unfolding process_of
read_same r next words next_words slot its signals pages = rw (signals, pages) refl

no_bank : (h : HandedOver) (has : Bool) → (if has then with_bank h.bank None else None) ≡ None
no_bank h true = refl
no_bank h false = refl

module _ (i : Image) (most broken : ℕ) (sound : IsSoundAtPanic i most broken) (h : HandedOver) (steps traps : ℕ) where
  abbrev r : Records
  r = records_of_image i

  abbrev pub v : Unix
  v = unix_left i h steps traps

  -- what Abort leaves of each pid
  abbrev pub goes_on_as : (pid : ℕ) → Option Process
  goes_on_as pid = survivor v (no_wounds v) pid (v.processes pid)

  module _ (pid slot : ℕ) (found : slot_by (r.exits pid) ≡ Some slot) where
    abbrev its : ProcRec
    its = process i most broken sound h pid slot found

    abbrev pub left : Process
    left = process_of r i.words slot (left_rec (Some h) r.head its)

    pub was_left : v.processes pid ≡ Some left
    was_left = process_left i h steps traps slot pid its (pid_there i most broken sound pid slot found)
        (held i most broken sound h pid slot found) (decoded i most broken sound h pid slot found)

    pub its_call : call_at v pid left ≡ call_found (Some h) r.head its
    its_call = call_left i h steps traps slot pid its (pid_there i most broken sound pid slot found)
        (held i most broken sound h pid slot found) (decoded i most broken sound h pid slot found)

    pub survives : goes_on_as pid ≡ Some (carried_on (call_found (Some h) r.head its) left)
    survives =
        ap (λ (o : Option Process). survivor v (no_wounds v) pid o) was_left
        ∙ survivor_is v pid left was_left
        ∙ ap (λ (call : Option ℕ). Some (carried_on call left)) its_call

    pub was_there : process_at r i.words pid ≡ Some (process_of r i.words slot its)
    unfolding process_at
    was_there =
        let same : (pid == pid) ≡ true = grind (arith, nat_tests) in
        rw (found, pid_there i most broken sound pid slot found, same, held i most broken sound h pid slot found, decoded i most broken sound h pid slot found) refl

  module _ (pid : ℕ) (none : slot_by (r.exits pid) ≡ None) where
    pub was_nothing : process_at r i.words pid ≡ None
    unfolding process_at
    was_nothing = rw none refl

    pub none_left : v.processes pid ≡ None
    unfolding unix_left unix_of processes_of
    none_left = ap (λ (o : Option Process). with_bank_left h r.head pid o) was_nothing ∙ no_bank h (has_handed_bank (Some h) r.head pid)

    pub none_survives : goes_on_as pid ≡ None
    none_survives = ap (λ (o : Option Process). survivor v (no_wounds v) pid o) none_left

  -- who was live goes on
  pub all_survive : (pid : ℕ) → is_some (goes_on_as pid) ≡ is_some (process_at r i.words pid)
  all_survive pid = by_slot (slot_by (r.exits pid)) refl where
    by_slot : (o : Option ℕ) → slot_by (r.exits pid) ≡ o → is_some (goes_on_as pid) ≡ is_some (process_at r i.words pid)
    by_slot (Some slot) found = ap is_some (survives pid slot found) ∙ sym (ap is_some (was_there pid slot found))
    by_slot None none = ap is_some (none_survives pid none) ∙ sym (ap is_some (was_nothing pid none))

  module _ (counts : List ℕ) (next : Records) (next_words : WordMap) (is : IsRevived (records_of_image i) (Some h) counts i.words next next_words) where
    module _ (pid slot : ℕ) (found : slot_by (r.exits pid) ≡ Some slot) where
      abbrev now : ProcRec
      now = after i most broken sound h pid slot found

      now_mapped : is_mapped next slot now ≡ true
      now_mapped = mapped r next (Some h) counts i.words next_words is (few_owners i most broken sound) slot (slot_low i most broken sound h pid slot found)
          now (survivor_there i most broken sound h pid slot found) (after_fits i most broken sound h pid slot found) (after_lives i most broken sound h pid slot found)
          (after_mapped i most broken sound h pid slot found)

      now_pages : pages_of next next_words slot now ≡ pages_of r i.words slot now
      now_pages = pages_same r next (Some h) counts i.words next_words is (few_owners i most broken sound) slot (slot_low i most broken sound h pid slot found)
          now (survivor_there i most broken sound h pid slot found) (after_fits i most broken sound h pid slot found) (after_lives i most broken sound h pid slot found)

      now_decodes : decodes next slot pid now ≡ true
      now_decodes =
          let same : (now.pid == pid) ≡ true = grind (arith, nat_tests, after_pid i most broken sound h pid slot found) in
          rw (head_there i most broken sound h counts next next_words is, after_lives i most broken sound h pid slot found, same, now_mapped) refl

      now_there : process_at next next_words pid ≡ Some (process_of next next_words slot now)
      unfolding process_at
      now_there =
          let same : (pid == pid) ≡ true = grind (arith, nat_tests) in
          rw (
            exit_same i most broken sound h counts next next_words is pid,
            found,
            pid_same i most broken sound h counts next next_words is slot,
            pid_there i most broken sound pid slot found,
            same,
            process_there i most broken sound h counts next next_words is pid slot found,
            now_decodes,
          ) refl

      as_before : process_of next next_words slot now ≡ carried_on (call_found (Some h) r.head (its pid slot found)) (left pid slot found)
      unfolding dead_proc
      as_before =
          read_same r next i.words next_words slot now (signals_same i most broken sound h counts next next_words is pid slot found) now_pages
          ∙ process_same (dead i most broken sound h pid slot found) (call_found (Some h) r.head (its pid slot found)) refl refl r i.words slot (dead_lives i most broken sound h pid slot found)

      pub now_survives : process_at next next_words pid ≡ goes_on_as pid
      now_survives = now_there ∙ ap Some as_before ∙ sym (survives pid slot found)

    now_nothing : (pid : ℕ) → slot_by (r.exits pid) ≡ None → process_at next next_words pid ≡ None
    unfolding process_at
    now_nothing pid none = rw (exit_same i most broken sound h counts next next_words is pid, none) refl

    pub process_is : (pid : ℕ) → process_at next next_words pid ≡ goes_on_as pid
    process_is pid = by_slot (slot_by (r.exits pid)) refl where
      by_slot : (o : Option ℕ) → slot_by (r.exits pid) ≡ o → process_at next next_words pid ≡ goes_on_as pid
      by_slot (Some slot) found = now_survives pid slot found
      by_slot None none = now_nothing pid none ∙ sym (none_survives pid none)

    pub processes_same : processes_of next next_words InKernel ≡ goes_on_as
    unfolding processes_of
    processes_same = λ k pid. process_is pid k
