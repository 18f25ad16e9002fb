-- The signal record of a process.
use Rattle.std.specs.Prelude.{◌≡◌, ℕ, ◌%◌, ◌^◌, ◌<◌, Bool, nat_lt, ◌==◌, ◌&&◌, List, length, take, drop, slice_index, Option}
use Rattle.record_layouts.specs.declared.sig.SigRec.{SigRec}
use Rattle.ow_base.specs.Seals.{AreWords, IsSealed}
use Rattle.record_layouts.specs.Spelling.{AreZero, are_zero, is_sealed_record, only_where}

-- the pending signals are the bits 1 to 15
pub record FitsSig (signals : SigRec) : Type 0 where
  pub highest : signals.pending < 2 ^ 16
  pub lowest : signals.pending % 2 ≡ 0

-- the words are the record of these signals
pub record IsSig (words : List ℕ) (signals : SigRec) : Type 0 where
  pub long : length words ≡ 32
  pub all_words : AreWords words
  pub kind : slice_index words 0 ≡ 0x53494753
  pub pid : slice_index words 1 ≡ signals.pid
  pub pending : slice_index words 2 ≡ signals.pending
  pub handlers : take 15 (drop 3 words) ≡ signals.handlers
  pub unused : AreZero words 18 31
  pub fits : FitsSig signals
  pub seal : IsSealed words

-- the fields that words would have as a record, whether they fit, and the signals whose record the words are
abbrev pub sig_fields : (words : List ℕ) → SigRec
sig_fields words = record { pid = slice_index words 1; pending = slice_index words 2; handlers = take 15 (drop 3 words) }

unfoldable pub fits_sig : SigRec → Bool
fits_sig signals = nat_lt signals.pending (2 ^ 16) && signals.pending % 2 == 0

unfoldable pub sig_in : (words : List ℕ) → Option SigRec
sig_in words = only_where (is_sealed_record 32 0x53494753 words && are_zero words 18 31 && fits_sig (sig_fields words)) (sig_fields words)
