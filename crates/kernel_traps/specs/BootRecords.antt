-- The records of a kernel that has booted.
use Rattle.std.specs.Prelude.{ℕ, ◌+◌, ◌-◌, nat_lt, nat_le, if◌then◌else◌, List, [], ◌∷◌, length, replicate, slice_get, Option, Some, None}
use Rattle.ow_base.specs.World.{page_count}
use Rattle.ow_base.specs.declared.worlds.Load.{Load}
use Rattle.ow_base.specs.declared.worlds.Program.{Program}
use Rattle.ow_base.specs.declared.worlds.Start.{Start as Started}
use Rattle.record_layouts.specs.Unix.State.{started_bank}
use Rattle.record_layouts.specs.declared.places.RecordId.{RecordId}
use Rattle.record_layouts.specs.declared.places.RecordId.TheVariants as id
use Rattle.record_layouts.specs.declared.patch.AnyRec.{AnyRec}
use Rattle.record_layouts.specs.declared.patch.AnyRec.TheVariants as any
use Rattle.record_layouts.specs.declared.head.HeadRec.{HeadRec}
use Rattle.record_layouts.specs.declared.proc.ProcRec.{ProcRec}
use Rattle.record_layouts.specs.declared.sig.SigRec.{SigRec}
use Rattle.record_layouts.specs.declared.desc.DescRec.{DescRec}
use Rattle.record_layouts.specs.declared.term.TermRec.{TermRec}
use Rattle.record_layouts.specs.declared.exit.ExitRec.{ExitRec}
pub use Rattle.kernel_builder.specs.Blank.{blank_bank, blank_row_record, empty_entry, free_process, unused_description, unused_file}
use Rattle.kernel_traps.specs.Boot.{program_in}

-- no trap is served, no process was the last one, and the next pid is the one behind the starts
abbrev pub booted_head : Load → HeadRec
booted_head load = record { layout = 1; served = 0; last = 0; next = length load.starts + 1; hand = 0 }

-- the descriptors 0, 1 and 2 name one description, by its number and one
abbrev pub started_descs : (word : ℕ) → List ℕ
started_descs word = word ∷ word ∷ word ∷ 0 ∷ 0 ∷ 0 ∷ 0 ∷ 0 ∷ []

-- the process of a program that starts in a slot
abbrev pub started_record : (slot : ℕ) → Program → ProcRec
started_record slot program = record {
  state = 1;
  pid = slot + 1;
  parent = 0;
  call = 0;
  done = 0;
  code_pages = page_count program.code;
  data_pages = page_count program.values;
  brk = 0;
  procedure = 0;
  mask = 0;
  flags = 0;
  status = 0;
  descs = started_descs (slot + 1);
  regs = started_bank.regs;
  pc = started_bank.pc;
  handler_save = blank_bank;
  crash_save = blank_bank;
}

abbrev pub process_for : (slot : ℕ) → Option Program → ProcRec
process_for slot (Some program) = started_record slot program
process_for slot None = free_process

unfoldable pub booted_process : Load → (slot : ℕ) → ProcRec
booted_process load slot = process_for slot (program_in load slot)

-- no signal is pending, and there is no handler
unfoldable pub booted_signals : Load → (slot : ℕ) → SigRec
booted_signals load slot = record {
  pid = if nat_lt slot (length load.starts) then slot + 1 else 0;
  pending = 0;
  handlers = replicate 15 0;
}

-- the description of a start is open on its terminal, to read and to write
abbrev pub description_for : Option Started → DescRec
description_for (Some start) = record { object = 2; index = start.tty; mode = 3; offset = 0 }
description_for None = unused_description

unfoldable pub booted_description : Load → (index : ℕ) → DescRec
booted_description load index = description_for (slice_get load.starts index)

-- nothing is written on a terminal
abbrev pub silent_record : (tty : ℕ) → TermRec
silent_record tty = record { tty = tty; written = 0; last = 0; consumed = 0; top = 0; row = 0; col = 0; base = 0 }

-- the pids of the starts are live, each in the slot of its start
unfoldable pub booted_exit : Load → (pid : ℕ) → ExitRec
booted_exit load pid = if nat_le pid (length load.starts) then record { state = 1; value = pid - 1 } else record { state = 0; value = 0 }

-- the record with which a new kernel begins, by its id
abbrev pub booted_record : Load → RecordId → AnyRec
booted_record load id.Head = any.Head (booted_head load)
booted_record load (id.Proc slot) = any.Proc (booted_process load slot)
booted_record load (id.Sig slot) = any.Sig (booted_signals load slot)
booted_record load (id.Desc index) = any.Desc (booted_description load index)
booted_record load (id.File index) = any.File unused_file
booted_record load (id.Cache index) = any.Cache empty_entry
booted_record load (id.Term tty) = any.Term (silent_record tty)
booted_record load (id.Row place) = any.Row (blank_row_record place)
booted_record load (id.Exit pid) = any.Exit (booted_exit load pid)
