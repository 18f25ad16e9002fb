-- Words of records that are counted one after the other.
use Rattle.std.proofs.Common.{◌≡◌, ℕ, ◌+◌, ◌-◌, ◌*◌, ◌≤◌, refl, subst, arith}
use Rattle.std.proofs.lemmas.Grind.{common_steps}
use Rattle.std.proofs.lemmas.Bool.Decides.{nat_tests}
use Rattle.record_layouts.specs.declared.places.RecordId.{RecordId}
use Rattle.record_layouts.specs.declared.places.RecordId.TheVariants as id
use Rattle.record_layouts.specs.Places.{IsRecordId, length_of}
use Rattle.kernel_builder.specs.Counts.{record_words, words_below}
use Rattle.kernel_builder.specs.Sets.{index_of}
use Rattle.kernel_builder.proofs.Sets.{all_numbered}

-- what a range of records makes of their words
module _ (n i : ℕ) where
  proc_below : n ≡ 1 + i → i ≤ 16 → words_below n ≡ 16 + 128 * i
  unfolding words_below
  proc_below is few = grind (arith, nat_tests, is, few)

  sig_below : n ≡ 17 + i → i ≤ 16 → words_below n ≡ 2064 + 32 * i
  unfolding words_below
  sig_below is few = grind (arith, nat_tests, is, few)

  desc_below : n ≡ 33 + i → i ≤ 32 → words_below n ≡ 2576 + 16 * i
  unfolding words_below
  desc_below is few = grind (arith, nat_tests, is, few)

  file_below : n ≡ 65 + i → i ≤ 32 → words_below n ≡ 3088 + 96 * i
  unfolding words_below
  file_below is few = grind (arith, nat_tests, is, few)

  cache_below : n ≡ 97 + i → i ≤ 64 → words_below n ≡ 6160 + 8 * i
  unfolding words_below
  cache_below is few = grind (arith, nat_tests, is, few)

  term_below : n ≡ 161 + i → i ≤ 2 → words_below n ≡ 6672 + 16 * i
  unfolding words_below
  term_below is few = grind (arith, nat_tests, is, few)

  row_below : n ≡ 163 + i → i ≤ 48 → words_below n ≡ 6704 + 24 * i
  unfolding words_below
  row_below is few = grind (arith, nat_tests, is, few)

  exits_below : n ≡ 210 + i → 1 ≤ i → words_below n ≡ 7856 + 4 * (i - 1)
  unfolding words_below
  exits_below is low = grind (arith, nat_tests, is, low)

head_words : words_below 1 ≡ words_below 0 + 16
unfolding words_below
head_words = refl

-- a record has its words behind those of the records before it
pub words_with : (one : RecordId) → IsRecordId one → words_below (index_of one + 1) ≡ words_below (index_of one) + length_of one
words_with id.Head there = head_words
words_with (id.Proc slot) there = omega (arith, proc_below (1 + slot) slot refl (omega (arith, there)), proc_below (1 + slot + 1) (slot + 1) (omega arith) (omega (arith, there)))
words_with (id.Sig slot) there = omega (arith, sig_below (17 + slot) slot refl (omega (arith, there)), sig_below (17 + slot + 1) (slot + 1) (omega arith) (omega (arith, there)))
words_with (id.Desc index) there = omega (arith, desc_below (33 + index) index refl (omega (arith, there)), desc_below (33 + index + 1) (index + 1) (omega arith) (omega (arith, there)))
words_with (id.File index) there = omega (arith, file_below (65 + index) index refl (omega (arith, there)), file_below (65 + index + 1) (index + 1) (omega arith) (omega (arith, there)))
words_with (id.Cache index) there = omega (arith, cache_below (97 + index) index refl (omega (arith, there)), cache_below (97 + index + 1) (index + 1) (omega arith) (omega (arith, there)))
words_with (id.Term tty) there = omega (arith, term_below (161 + tty) tty refl (omega (arith, there)), term_below (161 + tty + 1) (tty + 1) (omega arith) (omega (arith, there)))
words_with (id.Row index) there = omega (arith, row_below (163 + index) index refl (omega (arith, there)), row_below (163 + index + 1) (index + 1) (omega arith) (omega (arith, there)))
words_with (id.Exit pid) there = omega (arith, there.0, exits_below (210 + pid) pid refl there.0, exits_below (210 + pid + 1) (pid + 1) (omega arith) (omega arith))

-- so one record more takes no more than its words
pub record_more : (one : RecordId) (count first before after : ℕ) → IsRecordId one → index_of one ≡ count
    → before ≤ first + words_below count → after ≤ before + length_of one → after ≤ first + words_below (count + 1)
record_more one count first before after there is counted more =
    let here : words_below (count + 1) ≡ words_below count + length_of one =
    subst (λ (n : ℕ). words_below (n + 1) ≡ words_below n + length_of one) is (words_with one there) in
    omega (arith, here, counted, more)

pub none_below : words_below 0 ≡ 0
unfolding words_below
none_below = refl

pub below_all : (count : ℕ) → count ≤ 467 → words_below count ≤ record_words
unfolding words_below
below_all count few = grind (arith, nat_tests, common_steps, few)

-- and none takes more than the words of all
pub record_within : (one : RecordId) (count first before after : ℕ) → IsRecordId one → index_of one ≡ count
    → before ≤ first + words_below count → after ≤ before + length_of one → after ≤ first + record_words
record_within one count first before after there is counted more =
    omega (arith, record_more one count first before after there is counted more, below_all (count + 1) (omega (arith, is, all_numbered one there)))
