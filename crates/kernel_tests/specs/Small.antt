-- The records of a small view for tests: one process with pid 9, whose pages have frames in slot 3.
use Rattle.std.proofs.Common.{◌≡◌, ◌≢◌, ℕ, zero, suc, ◌+◌, ◌-◌, ◌*◌, ◌<◌, ◌≤◌, ◌==◌, ◌&&◌, Bool, true, false, if◌then◌else◌, List, [], ◌∷◌, replicate, slice_index, Option, Some, None, inl, inr, refl, rules, arith}
use Rattle.std.specs.Prelude.{nat_le}
use Rattle.std.proofs.lemmas.Bool.{cases_Bool}
use Rattle.std.proofs.lemmas.List.{get_or-replicate}
use Rattle.std.proofs.lemmas.Grind.{common_steps}
use Rattle.record_layouts.specs.declared.places.RecordId.TheVariants as id
use Rattle.record_layouts.specs.declared.proc.ProcRec.{ProcRec}
use Rattle.record_layouts.specs.declared.desc.DescRec.{DescRec}
use Rattle.record_layouts.specs.declared.file.FileRec.{FileRec}
use Rattle.record_layouts.specs.Held.{Records, AreComplete, AreValues}
use Rattle.record_layouts.specs.Desc.{FitsDesc}
use Rattle.record_layouts.specs.File.{FitsFile, FitsState}
use Rattle.record_layouts.specs.Proc.{FitsProc, FitsLive}
use Rattle.record_layouts.specs.Spelling.{AreZero}
use Rattle.record_layouts.specs.Pages.{entry_for, frame_of, have_frames, is_mapped, region_of}
use Rattle.process_table.specs.Patches.{blank_bank}
use Rattle.syscalls.specs.Serving.{CanCall}

-- outside a call, or in the one of this number, of which so many bytes are done
abbrev pub small_process : (inside : Bool) → (call done : ℕ) → (regs : List ℕ) → ProcRec
small_process inside call done regs = record {
  state = if inside then 2 else 1;
  pid = 9;
  parent = 0;
  call = if inside then call else 0;
  done = if inside then done else 0;
  code_pages = 1;
  data_pages = 0;
  brk = 0;
  procedure = 0;
  mask = 0;
  flags = 0;
  status = 0;
  descs = 1 ∷ 2 ∷ replicate 6 0;
  regs = regs;
  pc = 0x10010;
  handler_save = blank_bank;
  crash_save = blank_bank;
}

-- description 0 is on terminal 1, and no other is open
abbrev pub small_description : (reads_only : Bool) → (i : ℕ) → DescRec
small_description reads_only i =
    if i == 0 then record { object = 2; index = 1; mode = if reads_only then 1 else 3; offset = 0 } else
    record { object = 0; index = 0; mode = 0; offset = 0 }

abbrev pub no_file : FileRec
no_file = record { state = 0; name_len = 0; name = replicate 24 0; size = 0; kept = 0; sectors = replicate 64 0 }

-- the tables lead to frame 130 for the page of code, and to the frames from 131 on for the stack
abbrev pub small_table_word : (table word : ℕ) → ℕ
small_table_word table word =
    if table == 0 then (if word == 0 then 26625 else if word == 511 then 27649 else 0) else
    if table == 1 then (if word == 16 then 133211 else 0) else
    if nat_le 1020 word then 134359 + 1024 * (word - 1020) else 0

-- these frames belong to the pages of slot 3
abbrev pub small_owner : (frame : ℕ) → ℕ
small_owner frame = if frame == 2 then 0x400010 else if nat_le 3 frame && nat_le frame 6 then 0x47fffc + (frame - 3) else 0

abbrev pub small_records : (inside reads_only : Bool) → (call done : ℕ) → (regs : List ℕ) → Records
small_records inside reads_only call done regs = record {
  map = record { area_base = 0; cache_base = 64; pool_base = 128; user_frames = 16; sectors = 4 };
  head = Some (record { layout = 1; served = 40; last = 0; next = 10; hand = 0 });
  procs = λ _. Some (small_process inside call done regs);
  sigs = λ _. Some (record { pid = 0; pending = 0; handlers = replicate 15 0 });
  descs = λ i. Some (small_description reads_only i);
  files = λ _. Some no_file;
  caches = λ _. Some (record { state = 0; file = 0; page = 0 });
  terms = λ _. Some (record { tty = 0; written = 0; last = 0; consumed = 0; top = 0; row = 0; col = 0; base = 0 });
  rows = λ _. Some (record { place = 0; text = replicate 80 32 });
  exits = λ _. Some (record { state = 0; value = 0 });
  owners = small_owner;
  cache_owners = λ _. 0;
  table_words = λ _ table word. small_table_word table word;
}

-- these records can be spelled
descs_fit : (k : ℕ) → k < 8 → slice_index (1 ∷ 2 ∷ replicate 6 0) k ≤ 32
descs_fit zero within = omega arith
descs_fit (suc zero) within = omega arith
descs_fit (suc (suc k)) within = omega (arith, get_or-replicate {A = ℕ} 6 k 0 0 (omega arith))

live_fits : (inside : Bool) (call done : ℕ) (regs : List ℕ) → FitsLive (small_process inside call done regs)
live_fits inside call done regs = record {
  pid = (omega arith, omega arith);
  parent = omega arith;
  code_pages = (omega arith, omega arith);
  data_pages = omega arith;
  heap_end = omega arith;
  flags = omega arith;
  status = refl;
  descs = descs_fit;
}

process_fits : (inside : Bool) (call done : ℕ) (regs : List ℕ) → FitsProc (small_process inside call done regs)
process_fits true call done regs = record {
  state = omega arith;
  free = λ s. absurd (omega (arith, s));
  live = λ s. live_fits true call done regs;
  no_call = λ s. absurd (omega (arith, s));
  none_done = λ s. absurd (omega (arith, s));
  ended = λ s. absurd (omega (arith, s));
}
process_fits false call done regs = record {
  state = omega arith;
  free = λ s. absurd (omega (arith, s));
  live = λ s. live_fits false call done regs;
  no_call = λ s. refl;
  none_done = λ s. refl;
  ended = λ s. absurd (omega (arith, s));
}

open_fits : (reads_only : Bool) → FitsDesc (small_description reads_only 0)
open_fits true = inr (inr (record { object = refl; index = omega arith; mode = (omega arith, omega arith); offset = refl }))
open_fits false = inr (inr (record { object = refl; index = omega arith; mode = (omega arith, omega arith); offset = refl }))

description_fits : (reads_only : Bool) (i : ℕ) → FitsDesc (small_description reads_only i)
description_fits reads_only i = elim (cases_Bool (i == 0)) [
  | inl first ↦ rw first (open_fits reads_only)
  | inr other ↦ rw other (inl (record { object = refl; index = refl; mode = refl; offset = refl }))
]

zeros : (count : ℕ) → AreZero (replicate count 0) 0 count
zeros count k from to = get_or-replicate count k 0 0 to

pub file_fits : FitsFile no_file
file_fits = record {
  state = record { known = omega arith; none = λ _. (refl, refl, refl); named = λ is. absurd (omega (arith, is)) };
  name_length = omega arith;
  past_name = zeros 24;
  kept = omega arith;
  sectors = search rules;
  past_kept = zeros 64;
}

pub small_values : (inside reads_only : Bool) (call done : ℕ) (regs : List ℕ) → AreValues (small_records inside reads_only call done regs)
small_values inside reads_only call done regs id.Head = record { layout = refl; next_from = omega arith; next_to = omega arith; hand = omega arith }
small_values inside reads_only call done regs (id.Proc slot) = process_fits inside call done regs
small_values inside reads_only call done regs (id.Sig slot) = record { highest = omega arith; lowest = refl }
small_values inside reads_only call done regs (id.Desc index) = description_fits reads_only index
small_values inside reads_only call done regs (id.File index) = file_fits
small_values inside reads_only call done regs (id.Cache index) = search rules
small_values inside reads_only call done regs (id.Term tty) = record { tty = omega arith; last = omega arith; top = omega arith; row = omega arith; col = omega arith }
small_values inside reads_only call done regs (id.Row index) = record { place = omega arith }
small_values inside reads_only call done regs (id.Exit pid) = inl (record { state = refl; value = refl })

small_complete : (inside reads_only : Bool) (call done : ℕ) (regs : List ℕ) → AreComplete (small_records inside reads_only call done regs)
small_complete inside reads_only call done regs id.Head there = refl
small_complete inside reads_only call done regs one there = refl

mapped : (inside reads_only : Bool) (call done : ℕ) (regs : List ℕ) → is_mapped (small_records inside reads_only call done regs) 3 (small_process inside call done regs) ≡ true
unfolding is_mapped have_frames frame_of region_of entry_for
mapped true reads_only call done regs = refl
mapped false reads_only call done regs = refl

-- calls of the process can be served
pub small_can_call : (inside reads_only : Bool) (call done : ℕ) (regs : List ℕ) → CanCall (small_records inside reads_only call done regs) 3
small_can_call inside reads_only call done regs = record {
  within = omega arith;
  complete = small_complete inside reads_only call done regs;
  mapped = mapped inside reads_only call done regs;
}
