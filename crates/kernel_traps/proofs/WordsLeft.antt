-- A word of a process is stored, and no record tells of it: the state that the records then stand for.
use Rattle.std.proofs.Common.{◌≡◌, ℕ, List, Option, Some, None, inl, inr, refl, sym, ap, subst, ◌∙◌}
use Rattle.ow_base.specs.Pages.{Pages}
use Rattle.ow_base.specs.Sv32.{WordMap}
use Rattle.ow_base.specs.Words.{updated}
use Rattle.record_layouts.specs.declared.proc.ProcRec.{ProcRec}
use Rattle.record_layouts.specs.Unix.Calls.{with_process}
use Rattle.record_layouts.specs.Unix.Spaces.{with_word}
use Rattle.record_layouts.specs.Unix.State.{Process, in_use, least_from}
use Rattle.record_layouts.specs.Decode.{Context, description_by, ended_in, ended_of, is_ended_as, last_by, next_by, position_by, process_at, process_of, processes_of, slot_by, status_by, terminal_by, unix_of}
use Rattle.record_layouts.specs.Held.{Records}
use Rattle.record_layouts.specs.Sound.{AreSound, IsIn}
use Rattle.address_space.specs.Spaces.{IsWordPut}
use Rattle.process_table.specs.Meaning.{IsOf}
use Rattle.process_table.proofs.ChangedUnix.{in_use_still}
use Rattle.process_table.proofs.EndedUnix.{others_are}
use Rattle.process_table.proofs.Kept.{same_or_not, set_here, set_other}
use Rattle.process_table.proofs.Seats.{Living, found_in, living, not_found}
use Rattle.syscalls.specs.Done.{held_as}
use Rattle.syscalls.proofs.Becoming.{bank_by, caller_decodes, child_same}
use Rattle.syscalls.proofs.WordPut.{put_others, put_pages}
use Rattle.kernel_traps.proofs.UnixBy.{unix_by, unix_is}

module _ (r : Records) (words words_then : WordMap) (slot : ℕ) (process : ProcRec) (address value : ℕ) (context : Context) (sound : AreSound r) (is : IsIn r slot process)
    (of : IsOf context process.pid) (put : IsWordPut (held_as r words) (held_as r words_then) slot address value) where
  abbrev before : ℕ → Option Process
  before = processes_of r words context

  -- the process, and with the word
  abbrev caller : Process
  caller = record (process_of r words slot process) { bank = bank_by context process }

  abbrev stored : Process
  stored = record caller { pages = with_word caller.pages address value }

  caller_there : before process.pid ≡ Some caller
  caller_there = caller_decodes r words context slot process sound is of

  own_then : processes_of r words_then context process.pid ≡ Some stored
  unfolding process_of
  own_then =
      caller_decodes r words_then context slot process sound is of
      ∙ ap (λ (pages : Pages). Some (record caller { pages = pages })) (put_pages r words words_then slot process address value sound is put)

  -- all others are what they were
  there_too : (q : ℕ) → (live : Living r words q) → (q ≡ process.pid → ⊥) → process_at r words_then q ≡ process_at r words q
  unfolding process_of
  there_too q live apart =
      let places : live.slot ≡ slot → ⊥ = λ same.
      apart (sound.numbered.one_slot q process.pid slot (subst (λ (k : ℕ). slot_by (r.exits q) ≡ Some k) same live.exit) (sound.numbered.exit slot process is)) in
      let others = put_others r words words_then slot process address value sound is put in
      let pages = others.pages live.slot live.process live.is places in
      subst (λ (p : ℕ). process_at r words_then p ≡ Some (process_of r words_then live.slot live.process)) live.same (found_in r words_then live.slot live.process sound live.is)
      ∙ (ap (λ (pages : Pages). Some (record (process_of r words live.slot live.process) { pages = pages })) pages ∙ sym live.decoded)

  other_then : (q : ℕ) → (q ≡ process.pid → ⊥) → process_at r words_then q ≡ process_at r words q
  other_then q apart = elim (living r words q sound) [
    | inl missing ↦ not_found r words_then q missing.exit ∙ sym missing.decoded
    | inr live ↦ there_too q live apart
  ]

  processes_then : (q : ℕ) → processes_of r words_then context q ≡ updated before process.pid (Some stored) q
  processes_then q = elim (same_or_not q process.pid) [
    | inl equal ↦ subst (λ (k : ℕ). processes_of r words_then context k ≡ updated before process.pid (Some stored) k) (sym equal)
        (own_then ∙ sym (set_here before process.pid (Some stored)))
    | inr apart ↦ others_are r words_then context process.pid q of apart
        ∙ (other_then q apart ∙ (sym (others_are r words context process.pid q of apart) ∙ sym (set_other before process.pid (Some stored) q apart)))
  ]

  -- children that have ended, and descriptions
  child_then : (held : Option ℕ) → ended_in r (updated before process.pid (Some stored)) held ≡ ended_in r before held
  child_then (Some place) = child_same (r.procs place) before process.pid caller stored caller_there
  child_then None = refl

  ended_then : (q : ℕ) → ended_of r (updated before process.pid (Some stored)) q ≡ ended_of r before q
  unfolding ended_of
  ended_then q = child_then (least_from (λ place. is_ended_as q (r.procs place)) 0 16)

  described_then : (number : ℕ) → in_use (updated before process.pid (Some stored)) (λ n. description_by (r.descs n)) number ≡ in_use before (λ n. description_by (r.descs n)) number
  described_then number = in_use_still before process.pid caller stored (λ n. description_by (r.descs n)) number caller_there refl

  module _ (tapes : ℕ → List ℕ) (steps traps : ℕ) where
    rest_then : unix_by r tapes (updated before process.pid (Some stored)) (last_by r.head context) steps traps (position_by context)
        ≡ with_process (unix_of r words tapes context steps traps) process.pid stored
    unfolding unix_of
    rest_then = λ i. record {
      processes = updated before process.pid (Some stored);
      ended = λ q. ended_then q i;
      descriptions = λ number. described_then number i;
      files = λ _. None;
      room = r.map.user_frames;
      terminals = λ tty. terminal_by (tapes tty) (r.terms tty);
      exits = λ pid. status_by (r.exits pid);
      next_pid = next_by r.head;
      last_pid = last_by r.head context;
      steps = steps;
      traps = traps;
      position = position_by context;
    }

    pub word_left : unix_of r words_then tapes context steps traps ≡ with_process (unix_of r words tapes context steps traps) process.pid stored
    word_left =
        unix_is r words_then tapes context steps traps
        ∙ (ap (λ (ps : ℕ → Option Process). unix_by r tapes ps (last_by r.head context) steps traps (position_by context)) (λ i q. processes_then q i) ∙ rest_then)
