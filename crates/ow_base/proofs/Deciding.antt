-- What tests of words decide, and what is read where nothing is spelled.
use Rattle.std.proofs.Common.{◌≡◌, ℕ, ◌^◌, ◌<◌, nat_lt, List, length, slice_index, All, Option, Some, None, refl, arith, inl, inr}
use Rattle.std.proofs.lemmas.Grind.{common_steps}
use Rattle.std.proofs.lemmas.Bool.{cases_lt}
use Rattle.std.proofs.lemmas.Bool.Decides.{Decides-by_and, Decides-like, Decides-ltb}
use Rattle.std.proofs.lemmas.List.Elements.{All-from_get_or, All-get_or}
use Rattle.std.specs.Bool.{Decides}
use Rattle.std.specs.List.{list_all}
use Rattle.ow_base.specs.Seals.{AreWords}

pub decides_below : (bound : ℕ) (words : List ℕ) → Decides (list_all (λ word. nat_lt word bound) words) (All (λ word. word < bound) words)
decides_below bound words =
    Decides-by_and (λ word. nat_lt word bound) (λ word. word < bound) (list_all (λ word. nat_lt word bound))
    (λ word. Decides-ltb word bound) refl (λ _ _. refl) words

-- a list is below a bound at each place where all of its words are, and behind its end it is 0
below_at : (bound : ℕ) (words : List ℕ) → 0 < bound → All (λ word. word < bound) words → (k : ℕ) → slice_index words k < bound
below_at bound words some all k =
    elim (cases_lt k (length words)) [
      | inl within ↦ All-get_or (λ word. word < bound) words k 0 within all
      | inr behind ↦ grind (arith, common_steps)
    ]

pub decides_words : (words : List ℕ) → Decides (list_all (λ word. nat_lt word (2 ^ 32)) words) (AreWords words)
decides_words words =
    Decides-like (list_all (λ word. nat_lt word (2 ^ 32)) words) (below_at (2 ^ 32) words (omega arith))
    (λ fits. All-from_get_or (λ word. word < 2 ^ 32) words 0 (λ k within. fits k)) (decides_below (2 ^ 32) words)

-- where nothing can be read there is nothing
pub reads_none : {A : Type 0} (P : A → Type 0) (read : Option A) → ((a : A) → read ≡ Some a → P a) → ((a : A) → P a → ⊥) → None ≡ read
reads_none P (Some a) is none = absurd (none a (is a refl))
reads_none P None is none = refl
