-- Of a text that is some items and something else, the items are the same however it is cut, where the something else
-- does not open as an item does.
use Rattle.std.proofs.Common.{◌≡◌, ℕ, ◌+◌, ◌*◌, ◌≤◌, List, [], ◌∷◌, ◌++◌, length, arith, ap, ◌∙◌, sym, refl, subst, append_assoc}
use Rattle.std.specs.List.{AllByRecursion, flat_map}
use Rattle.ow_base.specs.World.{AreTexts}
use Rattle.world_file.proofs.LinesUnique.{AreSame}

-- the two bytes that a text begins with, as one number: they tell the key words apart
abbrev pub opening : List ℕ → ℕ
opening (a ∷ b ∷ text) = 256 * a + b
opening text = 0

-- a text of three parts, and what is behind it
pub three : (a b c r : List ℕ) → (a ++ (b ++ c)) ++ r ≡ a ++ (b ++ (c ++ r))
three a b c r = simp append_assoc

-- nothing is asked of what stands behind
abbrev pub Anything : ℕ → Type 0
Anything k = Unit {0}

-- an item that opens with the key, and its text, are told by a text of which they are the front, if what is behind
-- the item may stand there
pub record AreUnique {A : Type 0} (Is : List ℕ → A → Type 0) (key : ℕ) (MayFollow : ℕ → Type 0) : Type 0 where
  pub opens : (text : List ℕ) (item : A) (r : List ℕ) → Is text item → opening (text ++ r) ≡ key
  pub follows : MayFollow key
  pub one : (text_a text_b : List ℕ) (a b : A) (r t : List ℕ) → Is text_a a → Is text_b b → MayFollow (opening r) → MayFollow (opening t)
      → text_a ++ r ≡ text_b ++ t → AreSame a b r t

-- what is true of the key, and of what is behind the items, is true of their text
pub opening_by : {A : Type 0} (Is : List ℕ → A → Type 0) (key : ℕ) (Has : ℕ → Type 0) → ((text : List ℕ) (item : A) (r : List ℕ) → Is text item → opening (text ++ r) ≡ key)
    → (text : List ℕ) (items : List A) (r : List ℕ) → AreTexts Is text items → Has key → Has (opening r) → Has (opening (text ++ r))
unfolding AreTexts
opening_by Is key Has opens text [] r are has_key has = subst (λ t. Has (opening (t ++ r))) (sym are) has
opening_by Is key Has opens text (item ∷ items) r are has_key has =
    let first : opening (text ++ r) ≡ key = ap (λ t. opening (t ++ r)) are.2 ∙ ap opening (append_assoc are.0 are.1 r) ∙ opens are.0 item (are.1 ++ r) are.3 in
    subst Has (sym first) has_key

-- where there is an item, its key is first
pub opening_some : {A : Type 0} (Is : List ℕ → A → Type 0) (key : ℕ) → ((text : List ℕ) (item : A) (r : List ℕ) → Is text item → opening (text ++ r) ≡ key)
    → (text : List ℕ) (items : List A) (r : List ℕ) → AreTexts Is text items → 1 ≤ length items → opening (text ++ r) ≡ key
unfolding AreTexts
opening_some Is key opens text [] r are some = absurd (omega arith)
opening_some Is key opens text (item ∷ items) r are some =
    ap (λ t. opening (t ++ r)) are.2 ∙ ap opening (append_assoc are.0 are.1 r) ∙ opens are.0 item (are.1 ++ r) are.3

pub texts_unique : {A : Type 0} (Is : List ℕ → A → Type 0) (key : ℕ) (MayFollow : ℕ → Type 0) → AreUnique Is key MayFollow
    → (text_a text_b : List ℕ) (xs ys : List A) (r t : List ℕ) → AreTexts Is text_a xs → AreTexts Is text_b ys
    → (opening r ≡ key → ⊥) → (opening t ≡ key → ⊥) → MayFollow (opening r) → MayFollow (opening t) → text_a ++ r ≡ text_b ++ t → AreSame xs ys r t
unfolding AreTexts
texts_unique Is key MayFollow unique text_a text_b [] [] r t are_a are_b end_r end_t may_r may_t e =
    (refl, ap (λ x. x ++ r) (sym are_a) ∙ e ∙ ap (λ x. x ++ t) are_b)
texts_unique Is key MayFollow unique text_a text_b [] (b ∷ ys) r t are_a are_b end_r end_t may_r may_t e =
    absurd (end_r (ap opening (ap (λ x. x ++ r) (sym are_a) ∙ e) ∙ opening_some Is key unique.opens text_b (b ∷ ys) t are_b (omega arith)))
texts_unique Is key MayFollow unique text_a text_b (a ∷ xs) [] r t are_a are_b end_r end_t may_r may_t e =
    absurd (end_t (ap opening (ap (λ x. x ++ t) (sym are_b) ∙ sym e) ∙ opening_some Is key unique.opens text_a (a ∷ xs) r are_a (omega arith)))
texts_unique Is key MayFollow unique text_a text_b (a ∷ xs) (b ∷ ys) r t are_a are_b end_r end_t may_r may_t e =
    let whole : are_a.0 ++ (are_a.1 ++ r) ≡ are_b.0 ++ (are_b.1 ++ t) =
    sym (append_assoc are_a.0 are_a.1 r) ∙ ap (λ x. x ++ r) (sym are_a.2) ∙ e ∙ ap (λ x. x ++ t) are_b.2 ∙ append_assoc are_b.0 are_b.1 t in
    let may_a = opening_by Is key MayFollow unique.opens are_a.1 xs r are_a.4 unique.follows may_r in
    let may_b = opening_by Is key MayFollow unique.opens are_b.1 ys t are_b.4 unique.follows may_t in
    let first = unique.one are_a.0 are_b.0 a b (are_a.1 ++ r) (are_b.1 ++ t) are_a.3 are_b.3 may_a may_b whole in
    let more = texts_unique Is key MayFollow unique are_a.1 are_b.1 xs ys r t are_a.4 are_b.4 end_r end_t may_r may_t first.1 in
    (ap (λ c. c ∷ xs) first.0 ∙ ap (λ cs. b ∷ cs) more.0, more.1)

-- lines, each spelled by its value
abbrev pub IsLineOf : {A : Type 0} (spelled : A → List ℕ) (Fits : A → Type 0) → List ℕ → A → Type 0
IsLineOf spelled Fits text item = (text ≡ spelled item) × Fits item

pub lines_are : {A : Type 0} (spelled : A → List ℕ) (Fits : A → Type 0) (items : List A) → AllByRecursion Fits items → AreTexts (IsLineOf spelled Fits) (flat_map spelled items) items
unfolding AreTexts
lines_are spelled Fits [] all = refl
lines_are spelled Fits (item ∷ items) all = (spelled item, flat_map spelled items, refl, (refl, all.0), lines_are spelled Fits items all.1)
