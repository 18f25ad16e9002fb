-- The typed lines and the damage lines of a text are told one way.
use Rattle.std.proofs.Common.{◌≡◌, ℕ, ◌^◌, ◌<◌, ◌≤◌, true, if◌then◌else◌, List, [], ◌∷◌, ◌++◌, codes, decimal, bytes_eq, arith, ap, ◌∙◌, sym, refl, subst, append_assoc}
use Rattle.std.proofs.lemmas.List.{append_cancel_left}
use Rattle.ow_base.specs.Lines.{spaced, hex8, escaped}
use Rattle.ow_base.specs.World.{Typed, type_line, IsTyped, kind_name, index_count, word_count, page_number_count, damage_place, damage_line, IsDamage}
use Rattle.ow_base.specs.declared.worlds.Damage.{Damage}
use Rattle.ow_base.specs.declared.worlds.DamageKind.{DamageKind}
use Rattle.ow_base.specs.declared.worlds.DamageKind.TheVariants.{Head, Proc, Sig, Open, File, Cache, Term, Row, Owner, Table, Cached, Page}
use Rattle.world_file.proofs.WorldPieces.{free, free-append}
use Rattle.world_file.proofs.LinesUnique.{AreSame, cut_unique, line_unique, decimal_unique, word_unique}
use Rattle.world_file.proofs.WorldFields.{free_decimal, free_hex8}
use Rattle.world_file.proofs.EscapesUnique.{escaped_unique, free_escaped}
use Rattle.world_file.proofs.TextsUnique.{opening, Anything, AreUnique, IsLineOf}

-- a number with a space behind it
pub number_unique : (m n : ℕ) (r t : List ℕ) → m < 2 ^ 32 → n < 2 ^ 32 → decimal m ++ (32 ∷ r) ≡ decimal n ++ (32 ∷ t) → AreSame m n r t
number_unique m n r t small_m small_n e =
    let cut = cut_unique 32 (decimal m) (decimal n) r t (free_decimal 32 m (omega arith) small_m) (free_decimal 32 n (omega arith) small_n) e in
    (decimal_unique m n small_m small_n cut.0, cut.1)

-- fields before the last
free_spaced : (front last : List ℕ) → free 10 front ≡ true → free 10 last ≡ true → free 10 (spaced front last) ≡ true
free_spaced front last clean_front clean_last = free-append 10 front (32 ∷ last) clean_front clean_last

pub free_number : (front : List ℕ) (n : ℕ) → n < 2 ^ 32 → free 10 front ≡ true → free 10 (spaced front (decimal n)) ≡ true
free_number front n small clean = free_spaced front (decimal n) clean (free_decimal 10 n (omega arith) small)

three_fields : (key a b c : List ℕ) → spaced (spaced (spaced key a) b) c ≡ key ++ (32 ∷ (a ++ (32 ∷ (b ++ (32 ∷ c)))))
three_fields key a b c = simp append_assoc

-- typed bytes
abbrev type_text : Typed → List ℕ
type_text t = spaced (spaced (spaced (codes "type") (decimal t.tty)) (decimal t.trap)) (escaped t.bytes)

free_typed : (t : Typed) → IsTyped t → free 10 (type_text t) ≡ true
free_typed t is =
    free_spaced (spaced (spaced (codes "type") (decimal t.tty)) (decimal t.trap)) (escaped t.bytes)
    (free_number (spaced (codes "type") (decimal t.tty)) t.trap is.last_trap (free_number (codes "type") t.tty (omega (arith, is.tty)) refl)) (free_escaped t.bytes)

abbrev typed_with : (tty trap : ℕ) (bytes : List ℕ) → Typed
typed_with tty trap bytes = record { tty = tty; trap = trap; bytes = bytes }

type_line_unique : (a b : Typed) (r t : List ℕ) → IsTyped a → IsTyped b → type_line a ++ r ≡ type_line b ++ t → AreSame a b r t
type_line_unique a b r t is_a is_b e =
    let same = line_unique (type_text a) (type_text b) r t (free_typed a is_a) (free_typed b is_b) e in
    let parts_a = three_fields (codes "type") (decimal a.tty) (decimal a.trap) (escaped a.bytes) in
    let parts_b = three_fields (codes "type") (decimal b.tty) (decimal b.trap) (escaped b.bytes) in
    let more_a = decimal a.trap ++ (32 ∷ escaped a.bytes) in
    let more_b = decimal b.trap ++ (32 ∷ escaped b.bytes) in
    let fields = append_cancel_left (codes "type ") (decimal a.tty ++ (32 ∷ more_a)) (decimal b.tty ++ (32 ∷ more_b)) (sym parts_a ∙ same.0 ∙ parts_b) in
    let tty = number_unique a.tty b.tty more_a more_b (omega (arith, is_a.tty)) (omega (arith, is_b.tty)) fields in
    let trap = number_unique a.trap b.trap (escaped a.bytes) (escaped b.bytes) is_a.last_trap is_b.last_trap tty.1 in
    let bytes = escaped_unique a.bytes b.bytes is_a.bytes is_b.bytes trap.1 in
    (ap (λ n. typed_with n a.trap a.bytes) tty.0 ∙ ap (λ n. typed_with b.tty n a.bytes) trap.0 ∙ ap (λ bs. typed_with b.tty b.trap bs) bytes, same.1)

abbrev pub type_key : ℕ
type_key = opening (codes "type")

pub types_unique : AreUnique (IsLineOf type_line IsTyped) type_key Anything
types_unique = record {
  opens = λ text typed r is. ap (λ t. opening (t ++ r)) is.0;
  follows = tt;
  one = λ text_a text_b a b r t is_a is_b may_r may_t e. type_line_unique a b r t is_a.1 is_b.1 (ap (λ x. x ++ r) (sym is_a.0) ∙ e ∙ ap (λ x. x ++ t) is_b.0);
}

-- the kind of a name
abbrev kind_of : List ℕ → DamageKind
kind_of name =
    if bytes_eq name (codes "head") then Head else
    if bytes_eq name (codes "proc") then Proc else
    if bytes_eq name (codes "sig") then Sig else
    if bytes_eq name (codes "open") then Open else
    if bytes_eq name (codes "file") then File else
    if bytes_eq name (codes "cache") then Cache else
    if bytes_eq name (codes "term") then Term else
    if bytes_eq name (codes "row") then Row else
    if bytes_eq name (codes "owner") then Owner else
    if bytes_eq name (codes "table") then Table else
    if bytes_eq name (codes "cached") then Cached else
    Page

kind_named : (kind : DamageKind) → kind_of (kind_name kind) ≡ kind
kind_named Head = refl
kind_named kind = refl

free_kind : (kind : DamageKind) → (free 10 (kind_name kind) ≡ true) × (free 32 (kind_name kind) ≡ true)
free_kind Head = (refl, refl)
free_kind kind = (refl, refl)

-- the numbers of a damage line, by its kind
record AreSmall (kind : DamageKind) (d : Damage) : Type 0 where
  index : d.index < 2 ^ 32
  page : d.page < page_number_count kind
  word : d.word < 2 ^ 32

index_small : (kind : DamageKind) (frames n : ℕ) → frames ≤ 384 → n < index_count frames kind → n < 2 ^ 32
index_small Head frames n few below = omega arith
index_small kind frames n few below = omega arith

word_small : (kind : DamageKind) (n : ℕ) → n < word_count kind → n < 2 ^ 32
word_small Head n below = omega arith
word_small kind n below = omega arith

are_small : (frames : ℕ) (d : Damage) → frames ≤ 384 → IsDamage frames d → AreSmall d.kind d
are_small frames d few is = record {
  index = index_small d.kind frames d.index few is.index;
  page = is.page;
  word = word_small d.kind d.word is.word;
}

abbrev numbers_of : DamageKind → Damage → List ℕ → List ℕ
numbers_of Page d r = decimal d.index ++ (32 ∷ (decimal d.page ++ (32 ∷ (decimal d.word ++ (32 ∷ r)))))
numbers_of kind d r = decimal d.index ++ (32 ∷ (decimal d.word ++ (32 ∷ r)))

place_parts : (kind : DamageKind) (d : Damage) (r : List ℕ) → damage_place kind d ++ (32 ∷ r) ≡ kind_name kind ++ (32 ∷ numbers_of kind d r)
place_parts Page d r = simp append_assoc
place_parts kind d r = simp append_assoc

free_place : (kind : DamageKind) (d : Damage) → AreSmall kind d → free 10 (damage_place kind d) ≡ true
free_place Page d small =
    free_number (spaced (spaced (kind_name Page) (decimal d.index)) (decimal d.page)) d.word small.word
    (free_number (spaced (kind_name Page) (decimal d.index)) d.page (omega (arith, small.page)) (free_number (kind_name Page) d.index small.index refl))
free_place kind d small = free_number (spaced (kind_name kind) (decimal d.index)) d.word small.word (free_number (kind_name kind) d.index small.index refl)

numbers_unique : (kind : DamageKind) (c d : Damage) (r t : List ℕ) → AreSmall kind c → AreSmall kind d → numbers_of kind c r ≡ numbers_of kind d t
    → (c.index ≡ d.index) × (c.page ≡ d.page) × (c.word ≡ d.word) × (r ≡ t)
numbers_unique Page c d r t is_c is_d e =
    let word_c = decimal c.word ++ (32 ∷ r) in
    let word_d = decimal d.word ++ (32 ∷ t) in
    let index = number_unique c.index d.index (decimal c.page ++ (32 ∷ word_c)) (decimal d.page ++ (32 ∷ word_d)) is_c.index is_d.index e in
    let page = number_unique c.page d.page word_c word_d (omega (arith, is_c.page)) (omega (arith, is_d.page)) index.1 in
    let word = number_unique c.word d.word r t is_c.word is_d.word page.1 in
    (index.0, page.0, word.0, word.1)
numbers_unique kind c d r t is_c is_d e =
    let index = number_unique c.index d.index (decimal c.word ++ (32 ∷ r)) (decimal d.word ++ (32 ∷ t)) is_c.index is_d.index e in
    let word = number_unique c.word d.word r t is_c.word is_d.word index.1 in
    (index.0, omega (arith, is_c.page, is_d.page), word.0, word.1)

abbrev damage_text : Damage → List ℕ
damage_text d = spaced (spaced (codes "damage") (damage_place d.kind d)) (hex8 d.mask)

free_damage : (d : Damage) → AreSmall d.kind d → free 10 (damage_text d) ≡ true
free_damage d small =
    free_spaced (spaced (codes "damage") (damage_place d.kind d)) (hex8 d.mask) (free_spaced (codes "damage") (damage_place d.kind d) refl (free_place d.kind d small)) (free_hex8 10 d.mask (omega arith))

damage_parts : (d : Damage) → damage_text d ≡ codes "damage " ++ (kind_name d.kind ++ (32 ∷ numbers_of d.kind d (hex8 d.mask)))
damage_parts d = append_assoc (codes "damage ") (damage_place d.kind d) (32 ∷ hex8 d.mask) ∙ ap (λ x. codes "damage " ++ x) (place_parts d.kind d (hex8 d.mask))

abbrev damage_with : (kind : DamageKind) (index page word mask : ℕ) → Damage
damage_with kind index page word mask = record { kind = kind; index = index; page = page; word = word; mask = mask }

damage_line_unique : (c d : Damage) (r t : List ℕ) → AreSmall c.kind c → AreSmall d.kind d → c.mask < 2 ^ 32 → d.mask < 2 ^ 32 → damage_line c ++ r ≡ damage_line d ++ t → AreSame c d r t
damage_line_unique c d r t is_c is_d mask_c mask_d e =
    let same = line_unique (damage_text c) (damage_text d) r t (free_damage c is_c) (free_damage d is_d) e in
    let more_c = numbers_of c.kind c (hex8 c.mask) in
    let more_d = numbers_of d.kind d (hex8 d.mask) in
    let fields = append_cancel_left (codes "damage ") (kind_name c.kind ++ (32 ∷ more_c)) (kind_name d.kind ++ (32 ∷ more_d)) (sym (damage_parts c) ∙ same.0 ∙ damage_parts d) in
    let name = cut_unique 32 (kind_name c.kind) (kind_name d.kind) more_c more_d (free_kind c.kind).1 (free_kind d.kind).1 fields in
    let kind : c.kind ≡ d.kind = sym (kind_named c.kind) ∙ ap kind_of name.0 ∙ kind_named d.kind in
    let of_one_kind = name.1 ∙ ap (λ k. numbers_of k d (hex8 d.mask)) (sym kind) in
    let numbers = numbers_unique c.kind c d (hex8 c.mask) (hex8 d.mask) is_c (subst (λ k. AreSmall k d) (sym kind) is_d) of_one_kind in
    let mask = word_unique c.mask d.mask [] [] mask_c mask_d (ap (λ x. x ++ []) numbers.3) in
    let all : c ≡ d =
    ap (λ k. damage_with k c.index c.page c.word c.mask) kind
    ∙ ap (λ n. damage_with d.kind n c.page c.word c.mask) numbers.0
    ∙ ap (λ n. damage_with d.kind d.index n c.word c.mask) numbers.1
    ∙ ap (λ n. damage_with d.kind d.index d.page n c.mask) numbers.2
    ∙ ap (λ n. damage_with d.kind d.index d.page d.word n) mask.0 in
    (all, same.1)

abbrev pub damage_key : ℕ
damage_key = opening (codes "damage")

pub damages_unique : (frames : ℕ) → frames ≤ 384 → AreUnique (IsLineOf damage_line (IsDamage frames)) damage_key Anything
damages_unique frames few = record {
  opens = λ text damage r is. ap (λ t. opening (t ++ r)) is.0;
  follows = tt;
  one = λ text_c text_d c d r t is_c is_d may_r may_t e.
      damage_line_unique c d r t (are_small frames c few is_c.1) (are_small frames d few is_d.1) is_c.1.mask is_d.1.mask (ap (λ x. x ++ r) (sym is_c.0) ∙ e ∙ ap (λ x. x ++ t) is_d.0);
}
