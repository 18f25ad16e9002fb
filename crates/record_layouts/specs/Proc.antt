-- The record of a process.
use Rattle.std.specs.Prelude.{◌≡◌, ℕ, ◌+◌, ◌*◌, ◌≤◌, ◌⊎◌, Bool, nat_le, ◌==◌, ◌&&◌, ◌||◌, List, length, take, drop, slice_index, EachIndex, Option}
use Rattle.ow_base.specs.Seals.{AreWords, IsSealed}
use Rattle.ow_base.specs.declared.machine.Bank.{Bank}
use Rattle.record_layouts.specs.Spelling.{AreZero, IsStatus, are_below, are_zero, is_sealed_record, is_status, lies_between, only_where}
use Rattle.record_layouts.specs.declared.proc.ProcRec.{ProcRec}

-- the address where the heap begins: on the page behind the code and the data
abbrev pub heap_start : (code_pages data_pages : ℕ) → ℕ
heap_start code_pages data_pages = 0x10000 + 4096 * (code_pages + data_pages)

-- one of these numbers, the last included
abbrev pub IsWithin : (first last n : ℕ) → Type 0
IsWithin first last n = (first ≤ n) × (n ≤ last)

-- all registers and the pc are 0
pub record IsBlankBank (bank : Bank) : Type 0 where
  pub regs : AreZero bank.regs 0 31
  pub pc : bank.pc ≡ 0

-- a process that goes on is outside a call or in one
abbrev pub IsLiveState : ℕ → Type 0
IsLiveState state = (state ≡ 1) ⊎ (state ≡ 2)

-- the fields of a process that goes on are in their ranges; it has not ended, so it has no status
pub record FitsLive (process : ProcRec) : Type 0 where
  pub pid : IsWithin 1 256 process.pid
  pub parent : process.parent ≤ 256
  pub code_pages : IsWithin 1 64 process.code_pages
  pub data_pages : process.data_pages ≤ 64
  pub heap_end : heap_start process.code_pages process.data_pages + process.brk ≤ 0x400000
  pub flags : process.flags ≤ 3
  pub status : process.status ≡ 0
  pub descs : EachIndex process.descs (λ k. slice_index process.descs k ≤ 32)

-- nothing is left of a process but its pid, its parent and how it ended
pub record IsOver (process : ProcRec) : Type 0 where
  pub call : process.call ≡ 0
  pub done : process.done ≡ 0
  pub code_pages : process.code_pages ≡ 0
  pub data_pages : process.data_pages ≡ 0
  pub brk : process.brk ≡ 0
  pub procedure : process.procedure ≡ 0
  pub mask : process.mask ≡ 0
  pub flags : process.flags ≡ 0
  pub descs : AreZero process.descs 0 8
  pub regs : AreZero process.regs 0 31
  pub pc : process.pc ≡ 0
  pub handler_save : IsBlankBank process.handler_save
  pub crash_save : IsBlankBank process.crash_save

-- a free slot: nothing at all
pub record FitsFree (process : ProcRec) : Type 0 where
  pub over : IsOver process
  pub pid : process.pid ≡ 0
  pub parent : process.parent ≡ 0
  pub status : process.status ≡ 0

-- a process that has ended
pub record FitsEnded (process : ProcRec) : Type 0 where
  pub over : IsOver process
  pub pid : IsWithin 1 256 process.pid
  pub parent : process.parent ≤ 256
  pub status : IsStatus process.status

-- each field is in its range, and is 0 where the state does not use it: state 0 is a free slot, 1 a process
-- outside a call, 2 one in a call, and 3 one that has ended
pub record FitsProc (process : ProcRec) : Type 0 where
  pub state : process.state ≤ 3
  pub free : process.state ≡ 0 → FitsFree process
  pub live : IsLiveState process.state → FitsLive process
  pub no_call : process.state ≡ 1 → process.call ≡ 0
  pub none_done : process.state ≡ 1 → process.done ≡ 0
  pub ended : process.state ≡ 3 → FitsEnded process

-- from word `at` on, the registers x1 to x31 and then the pc
pub record IsBankAt (words : List ℕ) (at : ℕ) (bank : Bank) : Type 0 where
  pub regs : take 31 (drop at words) ≡ bank.regs
  pub pc : slice_index words (at + 31) ≡ bank.pc

-- the words begin with the kind of a process record and the numbers of this process
pub record IsFront (words : List ℕ) (process : ProcRec) : Type 0 where
  pub kind : slice_index words 0 ≡ 0x50524f43
  pub state : slice_index words 1 ≡ process.state
  pub pid : slice_index words 2 ≡ process.pid
  pub parent : slice_index words 3 ≡ process.parent
  pub call : slice_index words 4 ≡ process.call
  pub done : slice_index words 5 ≡ process.done
  pub code_pages : slice_index words 6 ≡ process.code_pages
  pub data_pages : slice_index words 7 ≡ process.data_pages
  pub brk : slice_index words 8 ≡ process.brk
  pub procedure : slice_index words 9 ≡ process.procedure
  pub mask : slice_index words 10 ≡ process.mask
  pub flags : slice_index words 11 ≡ process.flags
  pub status : slice_index words 12 ≡ process.status

-- the words are the record of this process
pub record IsProc (words : List ℕ) (process : ProcRec) : Type 0 where
  pub long : length words ≡ 128
  pub all_words : AreWords words
  pub front : IsFront words process
  pub descs : take 8 (drop 13 words) ≡ process.descs
  pub bank : IsBankAt words 21 (record { pc = process.pc; regs = process.regs })
  pub handler_save : IsBankAt words 53 process.handler_save
  pub crash_save : IsBankAt words 85 process.crash_save
  pub unused : AreZero words 117 127
  pub fits : FitsProc process
  pub seal : IsSealed words

-- the registers x1 to x31 and the pc that words would have from `at` on
abbrev pub bank_in : (words : List ℕ) (at : ℕ) → Bank
bank_in words at = record { pc = slice_index words (at + 31); regs = take 31 (drop at words) }

-- the fields that words would have as a record
abbrev pub proc_fields : (words : List ℕ) → ProcRec
proc_fields words = record {
  state = slice_index words 1;
  pid = slice_index words 2;
  parent = slice_index words 3;
  call = slice_index words 4;
  done = slice_index words 5;
  code_pages = slice_index words 6;
  data_pages = slice_index words 7;
  brk = slice_index words 8;
  procedure = slice_index words 9;
  mask = slice_index words 10;
  flags = slice_index words 11;
  status = slice_index words 12;
  descs = take 8 (drop 13 words);
  regs = take 31 (drop 21 words);
  pc = slice_index words 52;
  handler_save = bank_in words 53;
  crash_save = bank_in words 85;
}

-- whether the fields fit
unfoldable pub is_blank_bank : Bank → Bool
is_blank_bank bank = are_zero bank.regs 0 31 && bank.pc == 0

unfoldable pub fits_live : ProcRec → Bool
fits_live process =
    lies_between 1 256 process.pid && nat_le process.parent 256 && lies_between 1 64 process.code_pages && nat_le process.data_pages 64
    && nat_le (heap_start process.code_pages process.data_pages + process.brk) 0x400000
    && nat_le process.flags 3 && process.status == 0 && are_below 33 process.descs

unfoldable pub is_over : ProcRec → Bool
is_over process =
    process.call == 0 && process.done == 0 && process.code_pages == 0 && process.data_pages == 0 && process.brk == 0
    && process.procedure == 0 && process.mask == 0 && process.flags == 0 && are_zero process.descs 0 8
    && are_zero process.regs 0 31 && process.pc == 0 && is_blank_bank process.handler_save && is_blank_bank process.crash_save

unfoldable pub fits_free : ProcRec → Bool
fits_free process = is_over process && process.pid == 0 && process.parent == 0 && process.status == 0

unfoldable pub fits_ended : ProcRec → Bool
fits_ended process = is_over process && lies_between 1 256 process.pid && nat_le process.parent 256 && is_status process.status

unfoldable pub fits_proc : ProcRec → Bool
fits_proc process =
    (process.state == 0 && fits_free process)
    || (process.state == 1 && fits_live process && process.call == 0 && process.done == 0)
    || (process.state == 2 && fits_live process)
    || (process.state == 3 && fits_ended process)

-- the process whose record the words are
unfoldable pub proc_in : (words : List ℕ) → Option ProcRec
proc_in words =
    only_where (is_sealed_record 128 0x50524f43 words && are_zero words 117 127 && fits_proc (proc_fields words)) (proc_fields words)
