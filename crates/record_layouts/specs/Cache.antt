-- The record of an entry of the page cache.
use Rattle.std.specs.Prelude.{◌≡◌, ℕ, ◌≤◌, ◌⊎◌, Bool, nat_le, ◌==◌, ◌&&◌, ◌||◌, List, length, slice_index, Option}
use Rattle.ow_base.specs.Seals.{AreWords, IsSealed}
use Rattle.record_layouts.specs.Spelling.{AreZero, are_zero, is_sealed_record, only_where}
use Rattle.record_layouts.specs.declared.cache.CacheRec.{CacheRec}

-- the entry holds no page
pub record IsEmptyCache (entry : CacheRec) : Type 0 where
  pub state : entry.state ≡ 0
  pub file : entry.file ≡ 0
  pub page : entry.page ≡ 0

-- the entry holds a page, which is clean or dirty
pub record IsFullCache (entry : CacheRec) : Type 0 where
  pub state : (entry.state ≡ 1) ⊎ (entry.state ≡ 2)
  pub file : entry.file ≤ 31
  pub page : entry.page ≤ 63

-- the fields are in their ranges, and 0 where the state does not use them
abbrev pub FitsCache : CacheRec → Type 0
FitsCache entry = IsEmptyCache entry ⊎ IsFullCache entry

-- its page was written to, and the disk does not have it so yet
abbrev pub is_dirty : CacheRec → Bool
is_dirty entry = entry.state == 2

-- the words are the record of this value
pub record IsCache (words : List ℕ) (entry : CacheRec) : Type 0 where
  pub long : length words ≡ 8
  pub all_words : AreWords words
  pub kind : slice_index words 0 ≡ 0x43414348
  pub state : slice_index words 1 ≡ entry.state
  pub file : slice_index words 2 ≡ entry.file
  pub page : slice_index words 3 ≡ entry.page
  pub unused : AreZero words 4 7
  pub fits : FitsCache entry
  pub seal : IsSealed words

-- the fields that words would have as a record, whether they fit, and the value whose record the words are
abbrev pub cache_fields : (words : List ℕ) → CacheRec
cache_fields words = record { state = slice_index words 1; file = slice_index words 2; page = slice_index words 3 }

unfoldable pub fits_cache : CacheRec → Bool
fits_cache entry =
    (entry.state == 0 && entry.file == 0 && entry.page == 0)
    || ((entry.state == 1 || entry.state == 2) && nat_le entry.file 31 && nat_le entry.page 63)

unfoldable pub cache_in : (words : List ℕ) → Option CacheRec
cache_in words =
    only_where (is_sealed_record 8 0x43414348 words && are_zero words 4 7 && fits_cache (cache_fields words)) (cache_fields words)
