-- How writes are put together: pieces written one behind the other, and fronts of them.
use Rattle.std.proofs.Common.{◌≡◌, ℕ, ◌+◌, ◌-◌, ◌<◌, List, [], ◌∷◌, ◌++◌, length, take, drop, get_or, Option, Some, None, Result, Ok, Err, refl, sym, ap, ◌∙◌, arith, append_assoc, append-nil, length-append, length-drop, add-one}
use Rattle.std.specs.Prelude.{flat_map}
use Rattle.std.proofs.Math.Seq.{take-append-add, take-add, take-length, drop-cons}
use Rattle.std.proofs.lemmas.List.{take-append-le, take-append-drop, take_more}
use Rattle.std.proofs.lemmas.Grind.{flat_map-append}
use Rattle.ow_base.specs.Outside.{appended, IsFront, Writes}

-- what a piece and then another append is what both at once append
pub appended-appended : (old : Option (List ℕ)) (a b : List ℕ) → appended (appended old a) b ≡ appended old (a ++ b)
appended-appended (Some bytes) a b = ap (λ (x : List ℕ). Some x) (append_assoc bytes a b)
appended-appended None a b = refl

-- no bytes append nothing
pub appended-nil : (old : Option (List ℕ)) → appended old [] ≡ old
appended-nil (Some bytes) = ap (λ (x : List ℕ). Some x) (append-nil bytes)
appended-nil None = refl

-- two pieces, one behind the other
pub both : (a b : List ℕ) (u v w : Option (List ℕ)) → v ≡ appended u a → w ≡ appended v b → w ≡ appended u (a ++ b)
both a b u v w e f = f ∙ ap (λ (x : Option (List ℕ)). appended x b) e ∙ appended-appended u a b

-- where nothing was written, a front was
pub front_none : (text : List ℕ) (u : Option (List ℕ)) → IsFront text u u
front_none text u = (0, omega arith, sym (appended-nil u))

-- a front of the first piece is a front of the whole
pub cut : (a b : List ℕ) (u v : Option (List ℕ)) → IsFront a u v → IsFront (a ++ b) u v
cut a b u v (k, short, e) = (k, omega (arith, length-append {A = ℕ}), rw (take-append-le k a b short) e)

-- behind a first piece that is written, a front of the next is a front of the whole
pub shifted : (a b : List ℕ) (u v w : Option (List ℕ)) → v ≡ appended u a → IsFront b v w → IsFront (a ++ b) u w
shifted a b u v w e (k, short, f) = (
  length a + k,
  omega (arith, length-append {A = ℕ}),
  rw (take-append-add a b k) (f ∙ ap (λ (x : Option (List ℕ)). appended x (take k b)) e ∙ appended-appended u a (take k b)),
)

-- behind a first piece that is written, a call that writes the next has written the whole, or a front of it
pub then_writes : {T E : Type 0} (r : Result T E) (a b : List ℕ) (u v w : Option (List ℕ)) → v ≡ appended u a → Writes r b v w → Writes r (a ++ b) u w
then_writes (Ok x) a b u v w e f = both a b u v w e f
then_writes (Err x) a b u v w e f = shifted a b u v w e f

-- behind a part of a text that is written, a front of the part behind it is a front of the text
pub front_within : (text a b c : List ℕ) (u v w : Option (List ℕ)) → text ≡ a ++ (b ++ c) → v ≡ appended u a → IsFront b v w → IsFront text u w
front_within text a b c u v w parts e front = rw parts (shifted a (b ++ c) u v w e (cut b c v w front))

-- behind a part of a text that is written, the part behind it makes a longer one
pub longer_within : (text a b c : List ℕ) (u v w : Option (List ℕ)) → text ≡ a ++ (b ++ c) → v ≡ appended u a → w ≡ appended v b → (text ≡ (a ++ b) ++ c) × (w ≡ appended u (a ++ b))
longer_within text a b c u v w parts e f = (parts ∙ sym (append_assoc a b c), both a b u v w e f)

-- all of what a slice from a place on has
pub whole_rest : (done : ℕ) (text : List ℕ) → take (length text - done) (drop done text) ≡ drop done text
whole_rest done text = ap (λ (n : ℕ). take n (drop done text)) (sym (length-drop done text)) ∙ take-length (drop done text)

-- behind so many bytes of a text that are written, a front of the others is a front of the text
pub front_of_rest : (done : ℕ) (text : List ℕ) (u v w : Option (List ℕ)) → v ≡ appended u (take done text) → IsFront (drop done text) v w → IsFront text u w
front_of_rest done text u v w e f =
    rw (← (take-append-drop done text)) (shifted (take done text) (drop done text) u v w e f)

-- behind so many bytes of a text that are written, more of it is written
pub more_of_rest : (done more : ℕ) (text : List ℕ) (u v w : Option (List ℕ)) → v ≡ appended u (take done text) → w ≡ appended v (take more (drop done text)) → w ≡ appended u (take (done + more) text)
more_of_rest done more text u v w e f =
    rw (take-add done more text) (both (take done text) (take more (drop done text)) u v w e f)

-- the texts of the items are those of so many, that of the next, and those of the others
pub parted : {X : Type 0} (f : X → List ℕ) (xs : List X) (i : ℕ) (d : X) → i < length xs → flat_map f xs ≡ flat_map f (take i xs) ++ (f (get_or xs i d) ++ flat_map f (drop (i + 1) xs))
parted f xs i d h =
    sym (ap (flat_map f) (take-append-drop i xs))
    ∙ flat_map-append f (take i xs) (drop i xs)
    ∙ rw (drop-cons xs i d h, add-one) refl

-- behind the texts of so many items that are written, a front of the next one's is a front of the whole
pub front_at : {X : Type 0} (f : X → List ℕ) (xs : List X) (i : ℕ) (d : X) (u v w : Option (List ℕ)) → i < length xs → v ≡ appended u (flat_map f (take i xs)) → IsFront (f (get_or xs i d)) v w → IsFront (flat_map f xs) u w
front_at f xs i d u v w h e front =
    rw (parted f xs i d h) (shifted (flat_map f (take i xs)) (f (get_or xs i d) ++ flat_map f (drop (i + 1) xs)) u v w e (cut (f (get_or xs i d)) (flat_map f (drop (i + 1) xs)) v w front))

-- behind the texts of so many items that are written, the next one's is written too
pub one_more : {X : Type 0} (f : X → List ℕ) (xs : List X) (i : ℕ) (d : X) (u v w : Option (List ℕ)) → i < length xs → v ≡ appended u (flat_map f (take i xs)) → w ≡ appended v (f (get_or xs i d)) → w ≡ appended u (flat_map f (take (i + 1) xs))
one_more f xs i d u v w h e more =
    rw (take_more xs i d h, flat_map-append f (take i xs) (get_or xs i d ∷ []), append-nil)
    (both (flat_map f (take i xs)) (f (get_or xs i d)) u v w e more)
