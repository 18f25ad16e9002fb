-- What a line is from what its key says, and what its fields are.
use Rattle.std.proofs.Common.{◌≡◌, ℕ, ◌^◌, ◌<◌, ◌≤◌, Bool, true, false, not, ◌||◌, ◌==◌, nat_le, List, [], ◌∷◌, length, map, get_or, drop, Option, Some, None, codes, decimal, bytes_eq, arith, ap, ◌∙◌, sym, refl, subst, if◌then◌else◌}
use Rattle.std.specs.List.{AllByRecursion, list_all}
use Rattle.std.proofs.lemmas.Bool.{eqb-true}
use Rattle.ow_base.specs.Lines.{hex8}
use Rattle.world_file.specs.declared.key.Key.{Key}
use Rattle.world_file.specs.declared.key.Key.TheVariants.{World, Frames, Sectors, Quantum, Budget, Program, Code, Data, Start, Panic, End, Unbuilt, Unknown}
use Rattle.world_file.specs.WorldLines.{Line, tokens, token_at, fields, key, key_of, is_unbuilt_word, number_of, is_number, is_in, is_there, word_of, is_word}
use Rattle.world_file.proofs.WorldPieces.{HasPiece, has_piece}
use Rattle.world_file.proofs.WorldNumbers.{both_true, same_bytes, number_of_reads, word_of_reads}
use Rattle.world_file.proofs.WorldFields.{le_true}

pub neither : (a b : Bool) → (a || b) ≡ false → (a ≡ false) × (b ≡ false)
neither true b h = cc
neither false b h = (refl, h)

pub not_false : (a : Bool) → not a ≡ false → a ≡ true
not_false true h = refl
not_false false h = cc

-- the word of a key
abbrev pub IsWordOf : Key → List ℕ → Type 0
IsWordOf World w = w ≡ codes "world"
IsWordOf Frames w = w ≡ codes "frames"
IsWordOf Sectors w = w ≡ codes "sectors"
IsWordOf Quantum w = w ≡ codes "quantum"
IsWordOf Budget w = w ≡ codes "budget"
IsWordOf Program w = w ≡ codes "program"
IsWordOf Code w = w ≡ codes "code"
IsWordOf Data w = w ≡ codes "data"
IsWordOf Start w = w ≡ codes "start"
IsWordOf Panic w = w ≡ codes "panic"
IsWordOf End w = w ≡ codes "end"
IsWordOf other w = Unit {0}

one_of : (b : Bool) (k more : Key) (w : List ℕ) → (b ≡ true → IsWordOf k w) → IsWordOf more w → IsWordOf (if b then k else more) w
one_of true k more w here others = here refl
one_of false k more w here others = others

pub word_of_key : (w : List ℕ) → IsWordOf (key_of w) w
unfolding key_of
word_of_key w =
    one_of (bytes_eq w (codes "world")) World _ w (same_bytes w (codes "world"))
    (one_of (bytes_eq w (codes "frames")) Frames _ w (same_bytes w (codes "frames"))
    (one_of (bytes_eq w (codes "sectors")) Sectors _ w (same_bytes w (codes "sectors"))
    (one_of (bytes_eq w (codes "quantum")) Quantum _ w (same_bytes w (codes "quantum"))
    (one_of (bytes_eq w (codes "budget")) Budget _ w (same_bytes w (codes "budget"))
    (one_of (bytes_eq w (codes "program")) Program _ w (same_bytes w (codes "program"))
    (one_of (bytes_eq w (codes "code")) Code _ w (same_bytes w (codes "code"))
    (one_of (bytes_eq w (codes "data")) Data _ w (same_bytes w (codes "data"))
    (one_of (bytes_eq w (codes "start")) Start _ w (same_bytes w (codes "start"))
    (one_of (bytes_eq w (codes "panic")) Panic _ w (same_bytes w (codes "panic"))
    (one_of (bytes_eq w (codes "end")) End _ w (same_bytes w (codes "end"))
    (one_of (is_unbuilt_word w) Unbuilt Unknown w (λ h. tt) tt)))))))))))

-- a line of a key begins with the key's word
pub first_word : (l : Line) (k : Key) → key l ≡ k → IsWordOf k (token_at 0 l)
first_word l k e = subst (λ k. IsWordOf k (token_at 0 l)) e (word_of_key (token_at 0 l))

split_words : (ws : List (List ℕ)) → HasPiece ws → ws ≡ get_or ws 0 [] ∷ drop 1 ws
split_words ws h = rw h.2 refl

pub words_split : (l : Line) → tokens l ≡ token_at 0 l ∷ fields l
unfolding tokens
words_split l = split_words (tokens l) (has_piece 32 l)

-- lines of a key and one field, two fields, or none
pub no_field : (fs : List (List ℕ)) → (length fs == 0) ≡ true → fs ≡ []
no_field [] h = refl
no_field (f ∷ fs) h = absurd (omega (arith, eqb-true (length (f ∷ fs)) 0 h))

pub one_field : (fs : List (List ℕ)) → (length fs == 1) ≡ true → fs ≡ get_or fs 0 [] ∷ []
one_field [] h = cc
one_field (f ∷ []) h = refl
one_field (f ∷ g ∷ fs) h = absurd (omega (arith, eqb-true (length (f ∷ g ∷ fs)) 1 h))

pub two_fields : (fs : List (List ℕ)) → (length fs == 2) ≡ true → fs ≡ get_or fs 0 [] ∷ get_or fs 1 [] ∷ []
two_fields [] h = cc
two_fields (f ∷ []) h = cc
two_fields (f ∷ g ∷ []) h = refl
two_fields (f ∷ g ∷ i ∷ fs) h = absurd (omega (arith, eqb-true (length (f ∷ g ∷ i ∷ fs)) 2 h))

pub words_one : (l : Line) (word : List ℕ) → token_at 0 l ≡ word → (length (fields l) == 1) ≡ true → tokens l ≡ word ∷ token_at 1 l ∷ []
words_one l word e h =
    let all = words_split l ∙ ap (λ fs. token_at 0 l ∷ fs) (one_field (fields l) h) ∙ ap (λ w. w ∷ get_or (fields l) 0 [] ∷ []) e in
    let second : token_at 1 l ≡ get_or (fields l) 0 [] = ap (λ ws. get_or ws 1 []) all in
    all ∙ ap (λ f. word ∷ f ∷ []) (sym second)

pub words_two : (l : Line) (word : List ℕ) → token_at 0 l ≡ word → (length (fields l) == 2) ≡ true → tokens l ≡ word ∷ token_at 1 l ∷ token_at 2 l ∷ []
words_two l word e h =
    let all = words_split l ∙ ap (λ fs. token_at 0 l ∷ fs) (two_fields (fields l) h) ∙ ap (λ w. w ∷ get_or (fields l) 0 [] ∷ get_or (fields l) 1 [] ∷ []) e in
    let second : token_at 1 l ≡ get_or (fields l) 0 [] = ap (λ ws. get_or ws 1 []) all in
    let third : token_at 2 l ≡ get_or (fields l) 1 [] = ap (λ ws. get_or ws 2 []) all in
    all ∙ ap (λ f. word ∷ f ∷ get_or (fields l) 1 [] ∷ []) (sym second) ∙ ap (λ f. word ∷ token_at 1 l ∷ f ∷ []) (sym third)

-- a field that is a number in a range
in_range : (low high : ℕ) (o : Option ℕ) → is_in low high o ≡ true → (n : ℕ) × (o ≡ Some n) × (low ≤ n) × (n ≤ high)
in_range low high None h = cc
in_range low high (Some n) h =
    let parts = both_true (nat_le low n) (nat_le n high) h in
    (n, refl, le_true low n parts.0, le_true n high parts.1)

abbrev pub IsNumber : (low high : ℕ) (field : List ℕ) → Type 0
IsNumber low high field = (n : ℕ) × (field ≡ decimal n) × (low ≤ n) × (n ≤ high) × (n < 2 ^ 32)

pub number_found : (low high : ℕ) (field : List ℕ) → is_number low high field ≡ true → IsNumber low high field
number_found low high field h =
    let is = in_range low high (number_of field) h in
    let spelled = number_of_reads field is.0 is.1 in
    (is.0, spelled.0, is.2, is.3, spelled.1)

-- fields that are words
word_found : (field : List ℕ) (o : Option ℕ) → word_of field ≡ o → is_there o ≡ true → (w : ℕ) × (field ≡ hex8 w) × (w < 2 ^ 32)
word_found field None e h = cc
word_found field (Some w) e h = let is = word_of_reads field w e in (w, is.0, is.1)

pub words_found : (fs : List (List ℕ)) → list_all is_word fs ≡ true → (ws : List ℕ) × (fs ≡ map hex8 ws) × AllByRecursion (λ w. w < 2 ^ 32) ws
words_found [] h = ([], refl, tt)
words_found (f ∷ fs) h =
    let parts = both_true (is_word f) (list_all is_word fs) h in
    let here = word_found f (word_of f) refl parts.0 in
    let others = words_found fs parts.1 in (
      here.0 ∷ others.0,
      ap (λ x. x ∷ fs) here.1 ∙ ap (λ xs. hex8 here.0 ∷ xs) others.1,
      (here.2, others.2),
    )
