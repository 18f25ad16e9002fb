-- The records of what a kernel does not have can be spelled.
use Rattle.std.proofs.Common.{ℕ, ◌<◌, replicate, refl, arith}
use Rattle.std.proofs.lemmas.List.{get_or-replicate}
use Rattle.std.proofs.lemmas.List.Elements.{All-nil}
use Rattle.record_layouts.specs.Spelling.{AreZero}
use Rattle.record_layouts.specs.Proc.{FitsProc, IsBlankBank, IsOver}
use Rattle.record_layouts.specs.File.{FitsFile}
use Rattle.kernel_builder.specs.Blank.{blank_bank, free_process, unused_file}

zeros : (count : ℕ) → AreZero (replicate count 0) 0 count
zeros count k from to = get_or-replicate count k 0 0 to

blank : IsBlankBank blank_bank
blank = record { regs = zeros 31; pc = refl }

over : IsOver free_process
over = record {
  call = refl;
  done = refl;
  code_pages = refl;
  data_pages = refl;
  brk = refl;
  procedure = refl;
  mask = refl;
  flags = refl;
  descs = zeros 8;
  regs = zeros 31;
  pc = refl;
  handler_save = blank;
  crash_save = blank;
}

-- a free slot can be spelled
pub free_fits : FitsProc free_process
free_fits = record {
  state = omega arith;
  free = λ e. record { over = over; pid = refl; parent = refl; status = refl };
  live = λ e. absurd (grind (arith, e));
  no_call = λ e. refl;
  none_done = λ e. refl;
  ended = λ e. absurd (omega (arith, e));
}

-- where there is no file, that can be spelled
pub unused_file_fits : FitsFile unused_file
unused_file_fits = record {
  state = record { known = omega arith; none = λ e. (refl, refl, refl); named = λ e. absurd (omega (arith, e)) };
  name_length = omega arith;
  past_name = zeros 24;
  kept = omega arith;
  sectors = All-nil (λ (sector : ℕ). sector < 2048);
  past_kept = zeros 64;
}
