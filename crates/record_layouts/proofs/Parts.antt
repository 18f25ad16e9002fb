-- Parts of a list of words, when other parts of it are written.
use Rattle.std.proofs.Common.{◌≡◌, ℕ, ◌+◌, ◌-◌, ◌<◌, ◌≤◌, ◌∙◌, sym, ap, arith, List, length, take, drop, get_or}
use Rattle.std.proofs.lemmas.List.{get_or-take, get_or-drop, drop-take, take-take, take-set-le}
use Rattle.ow_base.specs.Seals.{seal_of, sealed}
use Rattle.record_layouts.specs.Spelling.{AreZero}

-- what two lists have in common that begin alike
pub word_before : (a b : List ℕ) (m k : ℕ) → take m a ≡ take m b → k < m → get_or a k 0 ≡ get_or b k 0
word_before a b m k same within =
    sym (get_or-take m a k 0 within) ∙ ap (λ ws. get_or ws k 0) same ∙ get_or-take m b k 0 within

pub front_before : (a b : List ℕ) (m n : ℕ) → take m a ≡ take m b → n ≤ m → take n a ≡ take n b
front_before a b m n same within =
    sym (take-take n m a within) ∙ ap (take n) same ∙ take-take n m b within

pub part_before : (a b : List ℕ) (m at n : ℕ) → take m a ≡ take m b → at + n ≤ m → take n (drop at a) ≡ take n (drop at b)
part_before a b m at n same within =
    sym (drop-take at n a) ∙ ap (drop at) (front_before a b m (at + n) same within) ∙ drop-take at n b

-- words that are 0 stay 0 where only words behind them, or only words before them, are written
pub zeros_before : (a b : List ℕ) (m first end : ℕ) → take m a ≡ take m b → end ≤ m → AreZero b first end → AreZero a first end
zeros_before a b m first end same within zero k from to = word_before a b m k same (omega arith) ∙ zero k from to

pub zeros_behind : (a b : List ℕ) (m first end : ℕ) → drop m a ≡ drop m b → m ≤ first → AreZero b first end → AreZero a first end
zeros_behind a b m first end same past zero k from to =
    let place : m + (k - m) ≡ k = omega arith in
    ap (λ n. get_or a n 0) (sym place) ∙ sym (get_or-drop m a (k - m) 0) ∙ ap (λ ws. get_or ws (k - m) 0) same
    ∙ get_or-drop m b (k - m) 0 ∙ ap (λ n. get_or b n 0) place ∙ zero k from to

-- putting the seal writes none of the words before it
pub before_seal : (words : List ℕ) (end : ℕ) → length words ≡ end + 1 → take end (sealed words) ≡ take end words
before_seal words end long =
    let place : length words - 1 ≡ end = omega arith in
    rw place (take-set-le end words end (seal_of words) (omega arith))
