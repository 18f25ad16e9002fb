-- What a panic left: an image of which nothing is hurt has no wounds, and the processes that are read of its records are
-- those of the Unix.
use Rattle.std.proofs.Common.{◌≡◌, ℕ, ◌+◌, ◌*◌, ◌<◌, ◌≤◌, Bool, true, false, nat_lt, not, ◌==◌, ◌&&◌, if◌then◌else◌, Option, Some, None, is_some, inl, inr, refl, ap, ◌∙◌, arith}
use Rattle.std.proofs.lemmas.Bool.{cases_Bool, cases_lt, le-ltb, lt-ltb}
use Rattle.std.proofs.lemmas.Bool.Decides.{nat_tests}
use Rattle.ow_base.specs.Images.{Image}
use Rattle.ow_base.specs.declared.machine.Bank.{Bank}
use Rattle.record_layouts.specs.declared.desc.DescRec.{DescRec}
use Rattle.record_layouts.specs.declared.places.RecordId.TheVariants as id
use Rattle.record_layouts.specs.declared.proc.ProcRec.{ProcRec}
use Rattle.record_layouts.specs.Decode.{InKernel, decodes, description_by, is_ended_as, is_number, pid_in, process_at, process_of, processes_of, slot_by, unix_of, with_bank}
use Rattle.record_layouts.specs.Images.{records_of_image, unix_of_image}
use Rattle.record_layouts.specs.Least.{NonePasses}
use Rattle.record_layouts.specs.Left.{HandedOver, call_found, has_handed_bank, is_lost_entry, left_rec, may_lack_page}
use Rattle.record_layouts.specs.LeftImages.{has_lost_ended, is_wounded, lacks_ended, lacks_signals, unix_left, with_bank_left, wounds_of}
use Rattle.record_layouts.specs.Pages.{frame_of, pages_of, region_of}
use Rattle.record_layouts.specs.Records.{Records}
use Rattle.record_layouts.specs.SoundImages.{IsSoundAtPanic}
use Rattle.record_layouts.specs.Terminals.{is_lost_row, lacks_row, terminal_decodes}
use Rattle.record_layouts.specs.Unix.Abort.{call_at}
use Rattle.record_layouts.specs.Unix.Choice.{least_from}
use Rattle.record_layouts.specs.Unix.State.{Process, in_use}
use Rattle.record_layouts.specs.Unix.Wounds.{bytes_by, no_wounds}
use Rattle.record_layouts.proofs.Least.{any_none, least_passes, least_within}

none_of : (test : Bool) → (test && false) ≡ false
none_of true = refl
none_of false = refl

-- what stays as it is has no wound
unwounded : (test : Bool) → is_wounded test test ≡ false
unwounded true = refl
unwounded false = refl

unwounded_there : (before after : Bool) → after ≡ true → is_wounded before after ≡ false
unwounded_there before after there = rw there (none_of before)

ended_there : (pid : ℕ) (o : Option ProcRec) → is_ended_as pid o ≡ true → is_some o ≡ true
ended_there pid (Some process) is = refl
ended_there pid None is = absurd (cc is)

desc_there : (named : Bool) (o : Option DescRec) → is_wounded (is_some (if named then description_by o else None)) (is_some o) ≡ false
desc_there named (Some d) = none_of (is_some (if named then description_by (Some d) else None))
desc_there true None = refl
desc_there false None = refl

same_bytes : (has : Bool) (bank : Bank) (o : Option Process) (address : ℕ) → bytes_by o address ≡ bytes_by (if has then with_bank bank o else o) address
same_bytes true bank (Some p) address = refl
same_bytes true bank None address = refl
same_bytes false bank o address = refl

module _ (i : Image) (steps broken : ℕ) (is : IsSoundAtPanic i steps broken) where
  abbrev r : Records
  r = records_of_image i

  ended_held : (pid : ℕ) → has_lost_ended r r pid ≡ false
  ended_held pid = by_slot (least_from (λ slot. is_ended_as pid (r.procs slot)) 0 16) refl
    where
      by_slot : (o : Option ℕ) → least_from (λ slot. is_ended_as pid (r.procs slot)) 0 16 ≡ o → lacks_ended r o ≡ false
      by_slot (Some slot) found =
          let there : is_some (r.procs slot) ≡ true = ended_there pid (r.procs slot) (least_passes (λ slot. is_ended_as pid (r.procs slot)) 0 16 slot found) in
          rw there refl
      by_slot None found = refl

  signals_held : (pid : ℕ) (o : Option ℕ) → slot_by (r.exits pid) ≡ o → lacks_signals r o ≡ false
  signals_held pid (Some slot) found =
      let (process, inside, same) = is.numbered.process pid slot found in
      let (signals, there, own) = is.numbered.signals slot process inside in
      rw there refl
  signals_held pid None found = refl

  file_held : (file : ℕ) → is_wounded (nat_lt file 32) (is_some (r.files file)) ≡ false
  file_held file = elim (cases_lt file 32) [
    | inl low ↦ unwounded_there (nat_lt file 32) (is_some (r.files file)) (is.complete (id.File file) low)
    | inr past ↦ rw (le-ltb file 32 past) refl
  ]

  pages_held : (file : ℕ) → may_lack_page r file ≡ false
  unfolding may_lack_page
  pages_held file = any_none (is_lost_entry r file) 0 64 64 refl (record {
    none = λ entry from to. let there : is_some (r.caches entry) ≡ true = is.complete (id.Cache entry) to in rw there refl;
  })

  terminal_held : (tty : ℕ) → tty < 2 → terminal_decodes r tty ≡ true
  unfolding terminal_decodes lacks_row
  terminal_held tty low =
      let there : is_some (r.terms tty) ≡ true = is.complete (id.Term tty) low in
      let rows : NonePasses (is_lost_row r tty) 0 24 = record {
        none = λ place from to. let row : is_some (r.rows (24 * tty + place)) ≡ true = is.complete (id.Row (24 * tty + place)) (omega arith) in rw row refl;
      } in
      rw (there, any_none (is_lost_row r tty) 0 24 24 refl rows) refl

  headed : not (is_some r.head) ≡ false
  headed = let there : is_some r.head ≡ true = is.complete id.Head tt in rw there refl

  described : (number : ℕ) → is_wounded (is_some ((unix_of_image i InKernel 0 0).descriptions number)) (is_some (r.descs number)) ≡ false
  unfolding unix_of in_use
  described number = desc_there _ (r.descs number)

  stands : (arrived : ℕ → ℕ) (tty : ℕ) → (wounds_of i i arrived).ttys tty ≡ None
  unfolding wounds_of
  stands arrived tty = elim (cases_lt tty 2) [
    | inl low ↦ rw (lt-ltb tty 2 low, terminal_held tty low) refl
    | inr past ↦ rw (le-ltb tty 2 past) refl
  ]

  pub whole : (h : HandedOver) (arrived : ℕ → ℕ) (made traps : ℕ) → wounds_of i i arrived ≡ no_wounds (unix_left i h made traps)
  unfolding wounds_of no_wounds unix_left unix_of processes_of in_use
  whole h arrived made traps = λ k. record {
    core = λ pid. unwounded (is_some (process_at r i.words pid)) k;
    gone = λ pid. (ap (λ (test : Bool). is_some ((unix_of_image i InKernel 0 0).ended pid) && test) (ended_held pid) ∙ none_of (is_some ((unix_of_image i InKernel 0 0).ended pid))) k;
    descs = λ number. described number k;
    reset = λ file. file_held file k;
    paged = λ file. pages_held file k;
    head = headed k;
    ttys = λ tty. stands arrived tty k;
    sigs = λ pid. (ap (λ (test : Bool). is_some (process_at r i.words pid) && test) (signals_held pid (slot_by (r.exits pid)) refl) ∙ none_of (is_some (process_at r i.words pid))) k;
    files = λ number. None;
    pages = λ pid address. same_bytes (has_handed_bank (Some h) r.head pid) h.bank (process_at r i.words pid) address k;
  }

number_is : (o : Option ℕ) (slot : ℕ) → is_number o slot ≡ true → o ≡ Some slot
number_is (Some n) slot is = let same : n ≡ slot = grind (arith, nat_tests, is) in ap Some same
number_is None slot is = absurd (cc is)

-- a process of the records, as the panic left it
module _ (i : Image) (h : HandedOver) (steps traps slot pid : ℕ) (process : ProcRec)
    (live : pid_in (records_of_image i) slot ≡ Some pid) (there : (records_of_image i).procs slot ≡ Some process)
    (is : decodes (records_of_image i) slot pid process ≡ true) where
  abbrev held : Records
  held = records_of_image i

  abbrev left : Process
  left = process_of held i.words slot (left_rec (Some h) held.head process)

  in_slot : slot_by (held.exits pid) ≡ Some slot
  unfolding pid_in
  in_slot = number_is (slot_by (held.exits pid)) slot (least_passes (λ q. is_number (slot_by (held.exits q)) slot) 1 256 pid live)

  some_pid : 1 ≤ pid
  unfolding pid_in
  some_pid = (least_within (λ q. is_number (slot_by (held.exits q)) slot) 1 256 pid live).0

  own_pid : process.pid ≡ pid
  own_pid = grind (arith, nat_tests, is)

  itself : (pid == pid) ≡ true
  itself = grind (arith, nat_tests)

  process_held : process_at held i.words pid ≡ Some (process_of held i.words slot process)
  unfolding process_at
  process_held = rw (in_slot, live, itself, there, is) refl

  with_registers : with_bank_left h held.head pid (Some (process_of held i.words slot process)) ≡ Some left
  unfolding process_of left_rec pages_of region_of frame_of
  with_registers = elim (cases_Bool (has_handed_bank (Some h) held.head pid)) [
    | inl has ↦ rw (own_pid, has) refl
    | inr none ↦ rw (own_pid, none) refl
  ]

  pub process_left : (unix_left i h steps traps).processes pid ≡ Some left
  unfolding unix_left unix_of processes_of
  process_left = ap (with_bank_left h held.head pid) process_held ∙ with_registers

  pub call_left : call_at (unix_left i h steps traps) pid left ≡ call_found (Some h) held.head process
  unfolding unix_left process_of call_found left_rec
  call_left = grind (arith, nat_tests, own_pid, some_pid)
