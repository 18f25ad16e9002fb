-- What is left of a process that has ended, and a slot that is free, can be spelled.
use Rattle.std.proofs.Common.{◌≡◌, ℕ, true, replicate, inl, inr, refl, arith}
use Rattle.std.proofs.lemmas.Bool.Decides.{nat_tests}
use Rattle.std.proofs.lemmas.List.{get_or-replicate}
use Rattle.record_layouts.specs.declared.proc.ProcRec.{ProcRec}
use Rattle.record_layouts.specs.Pages.{is_live}
use Rattle.record_layouts.specs.Proc.{FitsProc, FitsLive, IsOver, IsBlankBank}
use Rattle.record_layouts.specs.Spelling.{AreZero, IsStatus}
use Rattle.process_table.specs.Patches.{blank_bank, ended_process, free_process}

pub live_fits : (process : ProcRec) → FitsProc process → is_live process ≡ true → FitsLive process
live_fits process fits live = fits.live (grind (arith, nat_tests))

zeros : (count : ℕ) → AreZero (replicate count 0) 0 count
zeros count k from to = get_or-replicate count k 0 0 to

blank : IsBlankBank blank_bank
blank = record { regs = zeros 31; pc = refl }

pub over : (process : ProcRec) (status : ℕ) → IsOver (ended_process process status)
over process status = record {
  call = refl;
  done = refl;
  code_pages = refl;
  data_pages = refl;
  brk = refl;
  procedure = refl;
  mask = refl;
  flags = refl;
  descs = zeros 8;
  regs = zeros 31;
  pc = refl;
  handler_save = blank;
  crash_save = blank;
}

pub ended_fits : (process : ProcRec) (status : ℕ) → FitsProc process → is_live process ≡ true → IsStatus status → FitsProc (ended_process process status)
ended_fits process status fits live is =
    let held = live_fits process fits live in
    record {
      state = omega arith;
      free = λ free. absurd (omega (arith, free));
      live = λ lives. elim lives [ inl one ↦ absurd (omega (arith, one)) | inr two ↦ absurd (omega (arith, two)) ];
      no_call = λ out. absurd (omega (arith, out));
      none_done = λ out. absurd (omega (arith, out));
      ended = λ ended. record { over = over process status; pid = held.pid; parent = held.parent; status = is };
    }

-- nothing is in a free slot
free_over : IsOver free_process
free_over = record {
  call = refl;
  done = refl;
  code_pages = refl;
  data_pages = refl;
  brk = refl;
  procedure = refl;
  mask = refl;
  flags = refl;
  descs = zeros 8;
  regs = zeros 31;
  pc = refl;
  handler_save = blank;
  crash_save = blank;
}

pub free_fits : FitsProc free_process
free_fits = record {
  state = omega arith;
  free = λ free. record { over = free_over; pid = refl; parent = refl; status = refl };
  live = λ lives. elim lives [ inl one ↦ absurd (omega (arith, one)) | inr two ↦ absurd (omega (arith, two)) ];
  no_call = λ out. absurd (omega (arith, out));
  none_done = λ out. absurd (omega (arith, out));
  ended = λ ended. absurd (omega (arith, ended));
}
