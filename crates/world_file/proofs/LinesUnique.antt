-- A text has at most one first line, and a line at most one first word; what is spelled so has at most one value.
use Rattle.std.proofs.Common.{◌≡◌, ℕ, ◌^◌, ◌<◌, true, ◌==◌, List, [], ◌∷◌, ◌++◌, length, decimal, arith, ap, ◌∙◌, sym, refl, append_assoc, eq-eqb}
use Rattle.std.specs.Str.Parse.{digits_value}
use Rattle.std.specs.List.{AllByRecursion, flat_map}
use Rattle.std.proofs.lemmas.Fmt.{decimal_injective}
use Rattle.ow_base.specs.Lines.{line, hex8}
use Rattle.world_file.proofs.WorldPieces.{free, free_parts}
use Rattle.world_file.proofs.WorldNumbers.{value_of_word}
use Rattle.world_file.proofs.WorldSpelled.{word_text}

not_free : {P : Type 0} (s b : ℕ) (bs : List ℕ) → free s (b ∷ bs) ≡ true → s ≡ b → P
not_free s b bs clean e =
    let missing = (free_parts (b == s) (free s bs) clean).0 in
    let hit : (b == s) ≡ true = eq-eqb b s (sym e) in
    cc

-- two values are the same, and what is behind them is
abbrev pub AreSame : {A : Type 0} (a b : A) (r t : List ℕ) → Type 0
AreSame a b r t = (a ≡ b) × (r ≡ t)

head_same : (a b : ℕ) (x y : List ℕ) → a ∷ x ≡ b ∷ y → a ≡ b
head_same a b x y e = cc

pub tail_same : (a b : ℕ) (x y : List ℕ) → a ∷ x ≡ b ∷ y → x ≡ y
tail_same a b x y e = cc

-- what is before the first separator
pub cut_unique : (s : ℕ) (x y r t : List ℕ) → free s x ≡ true → free s y ≡ true → x ++ (s ∷ r) ≡ y ++ (s ∷ t) → AreSame x y r t
cut_unique s [] [] r t clean_x clean_y e = (refl, tail_same s s r t e)
cut_unique s [] (b ∷ y) r t clean_x clean_y e = not_free s b y clean_y (head_same s b r (y ++ (s ∷ t)) e)
cut_unique s (a ∷ x) [] r t clean_x clean_y e = not_free s a x clean_x (sym (head_same a s (x ++ (s ∷ r)) t e))
cut_unique s (a ∷ x) (b ∷ y) r t clean_x clean_y e =
    let clean_a = free_parts (a == s) (free s x) clean_x in
    let clean_b = free_parts (b == s) (free s y) clean_y in
    let same = head_same a b (x ++ (s ∷ r)) (y ++ (s ∷ t)) e in
    let more = cut_unique s x y r t clean_a.1 clean_b.1 (tail_same a b (x ++ (s ∷ r)) (y ++ (s ∷ t)) e) in
    (ap (λ c. c ∷ x) same ∙ ap (λ z. b ∷ z) more.0, more.1)

pub line_unique : (x y r t : List ℕ) → free 10 x ≡ true → free 10 y ≡ true → line x ++ r ≡ line y ++ t → AreSame x y r t
line_unique x y r t clean_x clean_y e =
    cut_unique 10 x y r t clean_x clean_y (sym (append_assoc x (10 ∷ []) r) ∙ e ∙ append_assoc y (10 ∷ []) t)

-- two fronts of one length
pub front_unique : (x y r t : List ℕ) → length x ≡ length y → x ++ r ≡ y ++ t → AreSame x y r t
front_unique [] [] r t long e = (refl, e)
front_unique [] (b ∷ y) r t long e = absurd (omega arith)
front_unique (a ∷ x) [] r t long e = absurd (omega arith)
front_unique (a ∷ x) (b ∷ y) r t long e =
    let same = head_same a b (x ++ r) (y ++ t) e in
    let more = front_unique x y r t (omega arith) (tail_same a b (x ++ r) (y ++ t) e) in
    (ap (λ c. c ∷ x) same ∙ ap (λ z. b ∷ z) more.0, more.1)

pub decimal_unique : (m n : ℕ) → m < 2 ^ 32 → n < 2 ^ 32 → decimal m ≡ decimal n → m ≡ n
decimal_unique m n small_m small_n e = decimal_injective m n (omega arith) (omega arith) e

pub word_unique : (v w : ℕ) (r t : List ℕ) → v < 2 ^ 32 → w < 2 ^ 32 → hex8 v ++ r ≡ hex8 w ++ t → AreSame v w r t
unfolding hex8
word_unique v w r t small_v small_w e =
    let same = front_unique (hex8 v) (hex8 w) r t refl e in
    (sym (value_of_word v small_v) ∙ ap (digits_value 16) same.0 ∙ value_of_word w small_w, same.1)

pub words_unique : (vs ws : List ℕ) → AllByRecursion (λ w. w < 2 ^ 32) vs → AllByRecursion (λ w. w < 2 ^ 32) ws → flat_map word_text vs ≡ flat_map word_text ws → vs ≡ ws
words_unique [] [] small_v small_w e = refl
words_unique [] (w ∷ ws) small_v small_w e = absurd (omega (arith, ap length e))
words_unique (v ∷ vs) [] small_v small_w e = absurd (omega (arith, ap length e))
words_unique (v ∷ vs) (w ∷ ws) small_v small_w e =
    let same = word_unique v w (flat_map word_text vs) (flat_map word_text ws) small_v.0 small_w.0 (tail_same 32 32 (hex8 v ++ flat_map word_text vs) (hex8 w ++ flat_map word_text ws) e) in
    ap (λ u. u ∷ vs) same.0 ∙ ap (λ us. w ∷ us) (words_unique vs ws small_v.1 small_w.1 same.1)
