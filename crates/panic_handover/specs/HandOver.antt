-- The hand-over of a panic: which words spell which value.
use Rattle.std.specs.Prelude.{◌≡◌, ℕ, ◌-◌, ◌^◌, ◌≤◌, Bool, nat_lt, nat_le, nat_eq, ◌==◌, ◌&&◌, ◌||◌, not, true, false, if◌then◌else◌, List, length, take, drop, replicate, slice_index, Option, Some, None}
use Rattle.std.specs.List.{list_all}
use Rattle.ow_base.specs.Seals.{AreWords, IsSealed, seal_of}
use Rattle.ow_base.specs.declared.machine.Bank.{Bank}
use Rattle.ow_base.specs.declared.machine.Came.{Came}
use Rattle.ow_base.specs.declared.machine.Came.TheVariants.{Kernel, User, Call, Closing}
use Rattle.panic_handover.specs.declared.hand_over.HandOver.{HandOver}
use lib.Pointwise.{pointwise}

-- the word for how the processor came
abbrev pub came_word : Came → ℕ
came_word Kernel = 0
came_word User = 1
came_word Call = 2
came_word Closing = 3

-- the pc and all registers 0
abbrev pub zero_bank : Bank
zero_bank = record { pc = 0; regs = replicate 31 0 }

-- a hand-over that can be spelled: its pid is one that there can be, and it tells no registers where no program had
-- been running
pub record FitsHandOver (h : HandOver) : Type 0 where
  pub pid : h.pid ≤ 256
  pub kernel : h.came ≡ Kernel → h.bank ≡ zero_bank
  pub closing : h.came ≡ Closing → h.pid ≡ 0 → h.bank ≡ zero_bank

-- the words spell this hand-over
pub record IsHandOver (words : List ℕ) (h : HandOver) : Type 0 where
  pub long : length words ≡ 40
  pub all_words : AreWords words
  pub kind : slice_index words 0 ≡ 0x48414e44
  pub trap : slice_index words 1 ≡ h.trap
  pub pid : slice_index words 2 ≡ h.pid
  pub came : slice_index words 3 ≡ came_word h.came
  pub pc : slice_index words 4 ≡ h.bank.pc
  pub regs : take 31 (drop 5 words) ≡ h.bank.regs
  pub unused : take 3 (drop 36 words) ≡ replicate 3 0
  pub fits : FitsHandOver h
  pub seal : IsSealed words

-- The same as tests, for what a list of words is read as.

-- how the processor came, where the word is one of the four, and the value that words would spell
abbrev pub came_by : (word : ℕ) → Came
came_by word = if word == 0 then Kernel else if word == 1 then User else if word == 2 then Call else Closing

abbrev pub hand_over_fields : (words : List ℕ) → HandOver
hand_over_fields words = record {
  trap = slice_index words 1;
  pid = slice_index words 2;
  came = came_by (slice_index words 3);
  bank = record { pc = slice_index words 4; regs = take 31 (drop 5 words) };
}

-- whether that value can be spelled: a program had been running, or no registers are told
unfoldable pub is_zero_bank : Bank → Bool
is_zero_bank bank = bank.pc == 0 && pointwise nat_eq bank.regs (replicate 31 0)

abbrev pub may_tell_registers : Came → (pid : ℕ) → Bool
may_tell_registers Kernel pid = false
may_tell_registers User pid = true
may_tell_registers Call pid = true
may_tell_registers Closing pid = not (pid == 0)

unfoldable pub fits_hand_over : HandOver → Bool
fits_hand_over h = nat_le h.pid 256 && (may_tell_registers h.came h.pid || is_zero_bank h.bank)

-- whether the words spell it, and the value that they do spell
unfoldable pub are_hand_over : List ℕ → Bool
are_hand_over words =
    length words == 40 && list_all (λ word. nat_lt word (2 ^ 32)) words && slice_index words 0 == 0x48414e44
    && nat_le (slice_index words 3) 3 && pointwise nat_eq (take 3 (drop 36 words)) (replicate 3 0)
    && slice_index words (length words - 1) == seal_of words && fits_hand_over (hand_over_fields words)

unfoldable pub hand_over_in : (words : List ℕ) → Option HandOver
hand_over_in words = if are_hand_over words then Some (hand_over_fields words) else None
