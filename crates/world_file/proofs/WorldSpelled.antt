-- The words of lines that are spelled, and how a line of words is spelled.
use Rattle.std.proofs.Common.{◌≡◌, ℕ, ◌^◌, ◌<◌, ◌≤◌, true, false, List, [], ◌∷◌, ◌++◌, length, map, arith, ap, ◌∙◌, sym, refl, append_assoc, append-nil, decimal}
use Rattle.std.specs.List.{AllByRecursion, flat_map, list_all, list_any, filter_map}
use Rattle.std.proofs.lemmas.Fmt.{decimal_is_IsNumeral}
use Rattle.ow_base.specs.Lines.{spaced, hex8}
use Rattle.world_file.specs.WorldLines.{Line, tokens, pieces, word_of, is_word, is_empty}
use Rattle.world_file.proofs.WorldPieces.{free, free-append, pieces_front, pieces_only, joined, joined-pieces}
use Rattle.world_file.proofs.WorldNumbers.{word_of_accepts}
use Rattle.world_file.proofs.WorldFields.{free_hex8}

pub two_words : (a b : List ℕ) → free 32 a ≡ true → free 32 b ≡ true → tokens (spaced a b) ≡ a ∷ b ∷ []
unfolding tokens
two_words a b ha hb = pieces_front 32 a b ha ∙ ap (λ ws. a ∷ ws) (pieces_only 32 b hb)

pub three_words : (a b c : List ℕ) → free 32 a ≡ true → free 32 b ≡ true → free 32 c ≡ true → tokens (spaced (spaced a b) c) ≡ a ∷ b ∷ c ∷ []
unfolding tokens
three_words a b c ha hb hc =
    ap (pieces 32) (append_assoc a (32 ∷ b) (32 ∷ c)) ∙ pieces_front 32 a (b ++ (32 ∷ c)) ha
    ∙ ap (λ ws. a ∷ ws) (pieces_front 32 b c hb ∙ ap (λ ws. b ∷ ws) (pieces_only 32 c hc))

-- a space and a word
abbrev pub word_text : ℕ → List ℕ
word_text w = 32 ∷ hex8 w

pub word_line_words : (a ws : List ℕ) → free 32 a ≡ true → tokens (a ++ flat_map word_text ws) ≡ a ∷ map hex8 ws
unfolding tokens
word_line_words a [] ha = ap (pieces 32) (append-nil a) ∙ pieces_only 32 a ha
word_line_words a (w ∷ ws) ha =
    pieces_front 32 a (hex8 w ++ flat_map word_text ws) ha
    ∙ ap (λ others. a ∷ others) (word_line_words (hex8 w) ws (free_hex8 32 w (omega arith)))

pub free_words : (ws : List ℕ) → free 10 (flat_map word_text ws) ≡ true
free_words [] = refl
free_words (w ∷ ws) = free-append 10 (word_text w) (flat_map word_text ws) (free_hex8 10 w (omega arith)) (free_words ws)

-- neither a number nor a word is empty
pub some_number : (n : ℕ) → n < 2 ^ 32 → is_empty (decimal n) ≡ false
some_number n small = some (decimal n) (decimal_is_IsNumeral n (omega arith)).0.0
  where
    some : (ds : List ℕ) → 0 < length ds → is_empty ds ≡ false
    some [] h = absurd (omega arith)
    some (d ∷ ds) h = refl

pub some_text : (bs : List ℕ) → 1 ≤ length bs → is_empty bs ≡ false
some_text [] h = absurd (omega arith)
some_text (b ∷ bs) h = refl

pub some_words : (ws : List ℕ) → list_any is_empty (map hex8 ws) ≡ false
unfolding hex8
some_words [] = refl
some_words (w ∷ ws) = some_words ws

pub are_words : (ws : List ℕ) → AllByRecursion (λ w. w < 2 ^ 32) ws → list_all is_word (map hex8 ws) ≡ true
are_words [] all = refl
are_words (w ∷ ws) all = let read = word_of_accepts w all.0 in rw read (are_words ws all.1)

pub values_of_words : (ws : List ℕ) → AllByRecursion (λ w. w < 2 ^ 32) ws → filter_map word_of (map hex8 ws) ≡ ws
values_of_words [] all = refl
values_of_words (w ∷ ws) all = let read = word_of_accepts w all.0 in rw read (ap (λ others. w ∷ others) (values_of_words ws all.1))

pub count_of_words : (ws : List ℕ) → length (map hex8 ws) ≡ length ws
count_of_words [] = refl
count_of_words (w ∷ ws) = omega (arith, count_of_words ws)

-- a line is its words with spaces between
pub spelled_words : (l : Line) → l ≡ joined 32 (tokens l)
unfolding tokens
spelled_words l = sym (joined-pieces 32 l)

pub spelled_two : (l : Line) (a b : List ℕ) → tokens l ≡ a ∷ b ∷ [] → l ≡ spaced a b
spelled_two l a b h = spelled_words l ∙ ap (joined 32) h ∙ ap (λ t. a ++ (32 ∷ t)) (append-nil b)

pub spelled_three : (l : Line) (a b c : List ℕ) → tokens l ≡ a ∷ b ∷ c ∷ [] → l ≡ spaced (spaced a b) c
spelled_three l a b c h =
    spelled_words l ∙ ap (joined 32) h ∙ ap (λ t. a ++ (32 ∷ (b ++ (32 ∷ t)))) (append-nil c)
    ∙ sym (append_assoc a (32 ∷ b) (32 ∷ c))
