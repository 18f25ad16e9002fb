-- The first sixteen fates.
use Rattle.std.proofs.Common.{◌≡◌, ℕ, zero, suc, ◌+◌, ◌<◌, ◌≤◌, List, [], ◌∷◌, ◌++◌, length, take, Option, refl, sym, ap, ◌∙◌, arith}
use Rattle.record_layouts.specs.Held.{Records}
use Rattle.record_layouts.specs.Left.{HandedOver}
use Rattle.resurrector.specs.Survivors.{fate_of, fates_to, told_of}
use Rattle.record_layouts.specs.declared.fates.Fate.{Fate}

module _ {A : Type 0} where
  take_again : (n : ℕ) (some more : List A) → take n (take n some ++ more) ≡ take n (some ++ more)
  take_again zero some more = refl
  take_again (suc n) [] more = refl
  take_again (suc n) (x ∷ some) more = ap (λ (rest : List A). x ∷ rest) (take_again n some more)

  -- where all are taken already, and where there is room for one more
  take_front : (n : ℕ) (some more : List A) → length some ≡ n → some ≡ take n (some ++ more)
  take_front zero [] more long = refl
  take_front zero (x ∷ some) more long = absurd (omega (arith, long))
  take_front (suc n) [] more long = absurd (omega (arith, long))
  take_front (suc n) (x ∷ some) more long = ap (λ (rest : List A). x ∷ rest) (take_front n some more (omega (arith, long)))

  take_whole : (n : ℕ) (some : List A) → length some ≤ n → some ≡ take n some
  take_whole zero [] few = refl
  take_whole zero (x ∷ some) few = absurd (omega (arith, few))
  take_whole (suc n) [] few = refl
  take_whole (suc n) (x ∷ some) few = ap (λ (rest : List A). x ∷ rest) (take_whole n some (omega (arith, few)))

  none_more : (some : List A) → some ++ [] ≡ some
  none_more [] = refl
  none_more (x ∷ some) = ap (λ (rest : List A). x ∷ rest) (none_more some)

  one_longer : (some : List A) (x : A) → length (some ++ x ∷ []) ≡ suc (length some)
  one_longer [] x = refl
  one_longer (y ∷ some) x = ap (λ (n : ℕ). suc n) (one_longer some x)

pub told_none : (some : List (ℕ × Fate)) → length some ≤ 16 → some ≡ take 16 (some ++ [])
told_none some few = take_whole 16 some few ∙ ap (λ (list : List (ℕ × Fate)). take 16 list) (sym (none_more some))

pub told_full : (some more : List (ℕ × Fate)) → length some ≡ 16 → some ≡ take 16 (some ++ more)
told_full some more full = take_front 16 some more full

pub told_one : (some : List (ℕ × Fate)) (one : ℕ × Fate) → length some < 16 → some ++ one ∷ [] ≡ take 16 (some ++ one ∷ [])
told_one some one room = take_whole 16 (some ++ one ∷ []) (omega (arith, room, one_longer some one))

-- no fate is told yet, and that of one pid more
pub first_fates : (r : Records) (handed : Option HandedOver) → [] ≡ take 16 (fates_to r handed 0)
unfolding fates_to
first_fates r handed = refl

to_next : (r : Records) (handed : Option HandedOver) (pid : ℕ) → fates_to r handed (suc pid) ≡ fates_to r handed pid ++ told_of (suc pid) (fate_of r handed (suc pid))
unfolding fates_to
to_next r handed pid = refl

next_is : (pid : ℕ) → suc pid ≡ pid + 1
next_is pid = omega arith

pub next_fates : (r : Records) (handed : Option HandedOver) (pid : ℕ) (before now : List (ℕ × Fate)) → before ≡ take 16 (fates_to r handed pid)
    → now ≡ take 16 (before ++ told_of (pid + 1) (fate_of r handed (pid + 1))) → now ≡ take 16 (fates_to r handed (pid + 1))
next_fates r handed pid before now is told =
    told ∙ ap (λ (list : List (ℕ × Fate)). take 16 (list ++ told_of (pid + 1) (fate_of r handed (pid + 1)))) is
    ∙ take_again 16 (fates_to r handed pid) (told_of (pid + 1) (fate_of r handed (pid + 1)))
    ∙ ap (λ (n : ℕ). take 16 (fates_to r handed pid ++ told_of n (fate_of r handed n))) (sym (next_is pid))
    ∙ ap (λ (list : List (ℕ × Fate)). take 16 list) (sym (to_next r handed pid))
    ∙ ap (λ (n : ℕ). take 16 (fates_to r handed n)) (next_is pid)
