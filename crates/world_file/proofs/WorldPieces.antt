-- Pieces of a text, cut at a separator and joined again.
use Rattle.std.proofs.Common.{◌≡◌, ℕ, zero, suc, ◌<◌, ◌≤◌, Bool, true, false, not, ◌&&◌, ◌==◌, List, [], ◌∷◌, ◌++◌, length, get_or, take, drop, arith, ap, ◌∙◌, sym, refl, append_assoc, eq-eqb, if◌then◌else◌}
use Rattle.std.specs.List.{AllByRecursion}
use Rattle.std.proofs.lemmas.Grind.{common_steps}
use Rattle.ow_base.specs.Lines.{line}
use Rattle.world_file.specs.WorldLines.{with_byte, pieces}

-- no separator is in a text
abbrev pub free : (separator : ℕ) → List ℕ → Bool
free separator [] = true
free separator (b ∷ bs) = not (b == separator) && free separator bs

pub free-append : (s : ℕ) (a b : List ℕ) → free s a ≡ true → free s b ≡ true → free s (a ++ b) ≡ true
free-append s [] b ha hb = hb
free-append s (x ∷ a) b ha hb = by_head (not (x == s)) (free s a) (free s (a ++ b)) ha (λ h. free-append s a b h hb)
  where
    by_head : (head front whole : Bool) → (head && front) ≡ true → (front ≡ true → whole ≡ true) → (head && whole) ≡ true
    by_head true front whole h more = more h
    by_head false front whole h more = h

pub other : (b s : ℕ) → (b ≡ s → ⊥) → (b == s) ≡ false
other b s h = grind (arith, common_steps)

pub free_parts : (hit rest : Bool) → (not hit && rest) ≡ true → (hit ≡ false) × (rest ≡ true)
free_parts true rest h = cc
free_parts false rest h = (refl, h)

-- a text of bytes above the separator
pub free_above : (s : ℕ) (bs : List ℕ) → s < 33 → AllByRecursion (λ b. 33 ≤ b) bs → free s bs ≡ true
free_above s [] small low = refl
free_above s (b ∷ bs) small low = let e = other b s (λ e. omega (arith, low.0)) in rw e (free_above s bs small low.1)

-- a piece at the front of a text
pub pieces_front : (s : ℕ) (a r : List ℕ) → free s a ≡ true → pieces s (a ++ (s ∷ r)) ≡ a ∷ pieces s r
unfolding pieces
pieces_front s [] r h = let e : (s == s) ≡ true = eq-eqb s s refl in rw e refl
pieces_front s (b ∷ a) r h =
    let parts = free_parts (b == s) (free s a) h in
    rw parts.0 (ap (with_byte b) (pieces_front s a r parts.1))

-- a text that is one piece
pub pieces_only : (s : ℕ) (a : List ℕ) → free s a ≡ true → pieces s a ≡ a ∷ []
unfolding pieces
pieces_only s [] h = refl
pieces_only s (b ∷ a) h =
    let parts = free_parts (b == s) (free s a) h in
    rw parts.0 (ap (with_byte b) (pieces_only s a parts.1))

-- a line at the front of a text
pub pieces_line : (l r : List ℕ) → free 10 l ≡ true → pieces 10 (line l ++ r) ≡ l ∷ pieces 10 r
pieces_line l r h = ap (pieces 10) (append_assoc l (10 ∷ []) r) ∙ pieces_front 10 l r h

-- the first separator ends the first piece
pub pieces_found : (s : ℕ) (t : List ℕ) (i : ℕ) → ((k : ℕ) → k < i → get_or t k 0 ≡ s → ⊥) → i < length t → get_or t i 0 ≡ s → pieces s t ≡ take i t ∷ pieces s (drop (suc i) t)
unfolding pieces
pieces_found s [] i before within here = absurd (omega arith)
pieces_found s (b ∷ bs) zero before within here = let e : (b == s) ≡ true = eq-eqb b s here in rw e refl
pieces_found s (b ∷ bs) (suc i) before within here =
    let e : (b == s) ≡ false = other b s (before 0 (omega arith)) in
    rw e (ap (with_byte b) (pieces_found s bs i (λ k low. before (suc k) (omega arith)) (omega arith) here))

-- without a separator there is one piece
pub pieces_none : (s : ℕ) (t : List ℕ) → ((k : ℕ) → k < length t → get_or t k 0 ≡ s → ⊥) → pieces s t ≡ t ∷ []
unfolding pieces
pieces_none s [] missing = refl
pieces_none s (b ∷ bs) missing =
    let e : (b == s) ≡ false = other b s (missing 0 (omega arith)) in
    rw e (ap (with_byte b) (pieces_none s bs (λ k low. missing (suc k) (omega arith))))

-- there is a first piece
abbrev pub HasPiece : List (List ℕ) → Type 0
HasPiece rest = (p : List ℕ) × (ps : List (List ℕ)) × (rest ≡ p ∷ ps)

has_piece_by : (hit : Bool) (b : ℕ) (rest : List (List ℕ)) → HasPiece rest → HasPiece (if hit then [] ∷ rest else with_byte b rest)
has_piece_by true b rest m = ([], rest, refl)
has_piece_by false b rest m = (b ∷ m.0, m.1, ap (with_byte b) m.2)

pub has_piece : (s : ℕ) (t : List ℕ) → HasPiece (pieces s t)
unfolding pieces
has_piece s [] = ([], [], refl)
has_piece s (b ∷ bs) = has_piece_by (b == s) b (pieces s bs) (has_piece s bs)

-- pieces with separators between them
abbrev pub behind : (s : ℕ) → List (List ℕ) → List ℕ
behind s [] = []
behind s (l ∷ ls) = s ∷ (l ++ behind s ls)

abbrev pub joined : (s : ℕ) → List (List ℕ) → List ℕ
joined s [] = []
joined s (l ∷ ls) = l ++ behind s ls

joined_with_byte : (s b : ℕ) (rest : List (List ℕ)) → HasPiece rest → joined s (with_byte b rest) ≡ b ∷ joined s rest
joined_with_byte s b rest h = rw h.2 refl

joined_behind : (s : ℕ) (rest : List (List ℕ)) → HasPiece rest → behind s rest ≡ s ∷ joined s rest
joined_behind s rest h = rw h.2 refl

joined_by : (hit : Bool) (s b : ℕ) (rest : List (List ℕ)) → HasPiece rest → (hit ≡ true → b ≡ s) → joined s (if hit then [] ∷ rest else with_byte b rest) ≡ b ∷ joined s rest
joined_by true s b rest h is = joined_behind s rest h ∙ ap (λ x. x ∷ joined s rest) (sym (is refl))
joined_by false s b rest h is = joined_with_byte s b rest h

pub joined-pieces : (s : ℕ) (t : List ℕ) → joined s (pieces s t) ≡ t
unfolding pieces
joined-pieces s [] = refl
joined-pieces s (b ∷ bs) = joined_by (b == s) s b (pieces s bs) (has_piece s bs) (λ h. grind (arith, common_steps)) ∙ ap (λ r. b ∷ r) (joined-pieces s bs)

-- a piece with others behind it is a line
pub joined_line : (l next : List ℕ) (ahead : List (List ℕ)) → joined 10 (l ∷ next ∷ ahead) ≡ line l ++ joined 10 (next ∷ ahead)
joined_line l next ahead = sym (append_assoc l (10 ∷ []) (joined 10 (next ∷ ahead)))
