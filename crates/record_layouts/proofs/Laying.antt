-- Lists that are laid one behind the other, and their seals.
use Rattle.std.proofs.Common.{◌≡◌, ℕ, ◌+◌, ◌-◌, ◌≤◌, ap, arith, List, length, slice_set, take, drop, get_or, ◌++◌}
use Rattle.std.proofs.lemmas.Grind.{common_steps}
use Rattle.std.proofs.lemmas.List.{length-set, get_or-set_same, get_or-set_other, set-append_right}
use Rattle.std.proofs.Math.Seq.{drop-append-add}
use Rattle.ow_base.specs.Seals.{IsSealed, seal_of, sealed}

-- the first of two lists, and what lies in the second
pub front : (xs ys : List ℕ) (n : ℕ) → length xs ≡ n → take n (xs ++ ys) ≡ xs
front xs ys n long = grind (arith, common_steps)

pub behind : (xs ys : List ℕ) (n k : ℕ) → length xs ≡ n → drop (n + k) (xs ++ ys) ≡ drop k ys
behind xs ys n k long = rw long at (drop-append-add xs ys k)

pub place_behind : (xs ys : List ℕ) (n k : ℕ) → length xs ≡ n → get_or (xs ++ ys) (n + k) 0 ≡ get_or ys k 0
place_behind xs ys n k long = grind (arith, common_steps)

pub set_behind : (xs ys : List ℕ) (n k value : ℕ) → length xs ≡ n → slice_set (xs ++ ys) (n + k) value ≡ xs ++ slice_set ys k value
set_behind xs ys n k value long =
    let same : n + k - n ≡ k = omega arith in
    rw same at (set-append_right xs ys n (n + k) value long (omega arith))

-- sealed words are sealed
pub seal_put : (words : List ℕ) → 2 ≤ length words → IsSealed (sealed words)
seal_put words long =
    let end = length words - 1 in
    let seal = seal_of words in
    let same_length = length-set words end seal in
    let first : get_or (slice_set words end seal) 0 0 ≡ get_or words 0 0 = get_or-set_other words end 0 seal 0 (omega arith) in
    let last : get_or (slice_set words end seal) end 0 ≡ seal = get_or-set_same words end seal 0 (omega arith) in
    let body : take (length words - 2) (drop 1 (slice_set words end seal)) ≡ take (length words - 2) (drop 1 words) = grind (arith, common_steps) in
    rw (same_length, first, last, body)

-- the seal of words goes to their last place
pub seal_at : (words : List ℕ) (end : ℕ) → length words ≡ end + 1 → sealed words ≡ slice_set words end (seal_of words)
seal_at words end long =
    let last : length words - 1 ≡ end = omega arith in
    ap (λ n. slice_set words n (seal_of words)) last
