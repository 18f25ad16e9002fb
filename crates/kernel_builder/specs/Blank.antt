-- Records of what a kernel does not have.
use Rattle.std.specs.Prelude.{ℕ, replicate}
use Rattle.ow_base.specs.Screen.{blank_row}
use Rattle.ow_base.specs.declared.machine.Bank.{Bank}
use Rattle.record_layouts.specs.declared.proc.ProcRec.{ProcRec}
use Rattle.record_layouts.specs.declared.sig.SigRec.{SigRec}
use Rattle.record_layouts.specs.declared.desc.DescRec.{DescRec}
use Rattle.record_layouts.specs.declared.file.FileRec.{FileRec}
use Rattle.record_layouts.specs.declared.cache.CacheRec.{CacheRec}
use Rattle.record_layouts.specs.declared.row.RowRec.{RowRec}

abbrev pub blank_bank : Bank
blank_bank = record { pc = 0; regs = replicate 31 0 }

-- a slot without a process
abbrev pub free_process : ProcRec
free_process = record {
  state = 0;
  pid = 0;
  parent = 0;
  call = 0;
  done = 0;
  code_pages = 0;
  data_pages = 0;
  brk = 0;
  procedure = 0;
  mask = 0;
  flags = 0;
  status = 0;
  descs = replicate 8 0;
  regs = replicate 31 0;
  pc = 0;
  handler_save = blank_bank;
  crash_save = blank_bank;
}

-- no signal is pending, and there is no handler; without a process the pid is 0
abbrev pub no_signals : (pid : ℕ) → SigRec
no_signals pid = record { pid = pid; pending = 0; handlers = replicate 15 0 }

-- a description that is not open
abbrev pub unused_description : DescRec
unused_description = record { object = 0; index = 0; mode = 0; offset = 0 }

-- no file
abbrev pub unused_file : FileRec
unused_file = record { state = 0; name_len = 0; name = replicate 24 0; size = 0; kept = 0; sectors = replicate 64 0 }

abbrev pub empty_entry : CacheRec
empty_entry = record { state = 0; file = 0; page = 0 }

abbrev pub blank_row_record : (place : ℕ) → RowRec
blank_row_record place = record { place = place; text = blank_row }
