-- The words of a line, seen through references.
use Rattle.std.proofs.Common.{◌≡◌, ℕ, Bool, List, [], ◌∷◌, ◌++◌, map, filter_map, Option, ap, ◌∙◌, sym, refl, Bor, ◌||◌}
use Rattle.std.specs.List.{list_any, list_all, cons_option}
use Rattle.std.proofs.lemmas.List.{map-append}
use Rattle.std.proofs.lemmas.List.Folds.{list_all-map}
use Rattle.world_file.specs.WorldLines.{pieces, tokens, word_of}

-- the bytes of each
abbrev pub seen : List (Bor (List ℕ)) → List (List ℕ)
seen refs = map (λ word. word.now) refs

list_any-map : (test : List ℕ → Bool) (refs : List (Bor (List ℕ))) → list_any test (seen refs) ≡ list_any (λ word. test word.now) refs
list_any-map test [] = refl
list_any-map test (r ∷ refs) = ap (λ b. test r.now || b) (list_any-map test refs)

pub any_of_map : (test : List ℕ → Bool) (refs : List (Bor (List ℕ))) (all : List (List ℕ)) → seen refs ≡ all → list_any (λ word. test word.now) refs ≡ list_any test all
any_of_map test refs all h = sym (list_any-map test refs) ∙ ap (list_any test) h

pub all_of_map : (test : List ℕ → Bool) (refs : List (Bor (List ℕ))) (all : List (List ℕ)) → seen refs ≡ all → list_all (λ word. test word.now) refs ≡ list_all test all
all_of_map test refs all h = sym (list_all-map test (λ word. word.now) refs) ∙ ap (list_all test) h

filter_by : {A B C : Type 0} → (h : B → Option C) (v : A → B) (xs : List A) → filter_map h (map v xs) ≡ filter_map (λ x. h (v x)) xs
filter_by h v [] = refl
filter_by h v (x ∷ xs) = ap (cons_option (h (v x))) (filter_by h v xs)

pub words_of_map : (refs : List (Bor (List ℕ))) (all : List (List ℕ)) → seen refs ≡ all → filter_map (λ field. word_of field.now) refs ≡ filter_map word_of all
words_of_map refs all h = sym (filter_by word_of (λ field. field.now) refs) ∙ ap (filter_map word_of) h

-- one more word, and those of the rest
pub words_end : (refs : List (Bor (List ℕ))) (last : Bor (List ℕ)) (line : List ℕ) → pieces 32 last.now ≡ last.now ∷ [] → seen refs ++ pieces 32 last.now ≡ pieces 32 line → seen (refs ++ last ∷ []) ≡ tokens line
unfolding tokens
words_end refs last line whole h = map-append (λ word. word.now) refs (last ∷ []) ∙ ap (λ more. seen refs ++ more) (sym whole) ∙ h
