-- Rows that move up.
use Rattle.std.proofs.Common.{◌≡◌, ℕ, suc, ◌+◌, ◌-◌, ◌<◌, ◌≤◌, List, [], ◌∷◌, ◌++◌, length, get_or, set, drop, sym, ap, ◌∙◌, arith, length-drop, drop-cons}
use Rattle.std.proofs.lemmas.List.{set-append_right, drop_all}
use Rattle.std.proofs.lemmas.List.Edits.{paste_all}
use Rattle.std.proofs.Math.Seq.{paste}

module _ {X : Type 0} where
  one_left : (xs : List X) (n : ℕ) (d : X) → length xs ≡ suc n → drop n xs ≡ get_or xs n d ∷ []
  one_left xs n d e =
      let fits : n < length xs = omega arith in
      let all : length xs ≤ suc n = omega arith in
      drop-cons xs n d fits ∙ ap (λ (ys : List X). get_or xs n d ∷ ys) (drop_all (suc n) xs all)

  -- a list of n + 1 items moves up by one place, and its last item is replaced
  pub scrolled : (xs : List X) (n : ℕ) (d : X) → length xs ≡ suc n → set (paste xs 0 (drop 1 xs) n) n d ≡ drop 1 xs ++ d ∷ []
  scrolled xs n d e =
      let front : length (drop 1 xs) ≡ n = length-drop 1 xs ∙ omega arith in
      let start : 0 + n ≡ n = omega arith in
      let none : n - n ≡ 0 = omega arith in
      let moved : paste xs 0 (drop 1 xs) n ≡ drop 1 xs ++ drop n xs = paste_all xs 0 (drop 1 xs) n (sym front) ∙ ap (λ k. drop 1 xs ++ drop k xs) start in
      ap (λ ys. set ys n d) moved
      ∙ set-append_right (drop 1 xs) (drop n xs) n n d front (omega arith)
      ∙ ap (λ k. drop 1 xs ++ set (drop n xs) k d) none
      ∙ ap (λ ys. drop 1 xs ++ set ys 0 d) (one_left xs n d e)
