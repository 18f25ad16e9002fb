-- The panics of a text are told one way.
use Rattle.std.proofs.Common.{◌≡◌, ℕ, ◌^◌, ◌<◌, ◌≤◌, true, List, ◌∷◌, ◌++◌, codes, decimal, arith, ap, ◌∙◌, sym, refl, append_assoc}
use Rattle.std.specs.List.{flat_map}
use Rattle.std.proofs.lemmas.List.{append_cancel_left}
use Rattle.std.proofs.lemmas.List.Elements.{recursion_from_All}
use Rattle.ow_base.specs.Lines.{line, spaced}
use Rattle.ow_base.specs.World.{AreTexts, damage_line, IsDamage, again_line, IsPanic}
use Rattle.ow_base.specs.declared.worlds.Damage.{Damage}
use Rattle.ow_base.specs.declared.worlds.PanicLine.{PanicLine}
use Rattle.world_file.proofs.WorldPieces.{free}
use Rattle.world_file.proofs.LinesUnique.{AreSame, line_unique, decimal_unique}
use Rattle.world_file.proofs.TextsUnique.{opening, Anything, AreUnique, three, opening_by, texts_unique, IsLineOf, lines_are}
use Rattle.world_file.proofs.FilesUnique.{number_line_unique}
use Rattle.world_file.proofs.DamagesUnique.{number_unique, free_number, damage_key, damages_unique}

abbrev again_key : ℕ
again_key = opening (codes "again")

abbrev pub IsWord : ℕ → Type 0
IsWord n = n < 2 ^ 32

agains_unique : AreUnique (IsLineOf again_line IsWord) again_key Anything
agains_unique = record {
  opens = λ text store r is. ap (λ t. opening (t ++ r)) is.0;
  follows = tt;
  one = λ text_a text_b a b r t is_a is_b may_r may_t e.
      number_line_unique (codes "again") a b r t refl is_a.1 is_b.1 (ap (λ x. x ++ r) (sym is_a.0) ∙ e ∙ ap (λ x. x ++ t) is_b.0);
}

-- the panic line itself
abbrev pub panic_text : (trap store : ℕ) → List ℕ
panic_text trap store = spaced (spaced (codes "panic") (decimal trap)) (decimal store)

pub free_panic : (trap store : ℕ) → IsWord trap → IsWord store → free 10 (panic_text trap store) ≡ true
free_panic trap store small_trap small_store = free_number (spaced (codes "panic") (decimal trap)) store small_store (free_number (codes "panic") trap small_trap refl)

panic_line_unique : (j k m n : ℕ) (r t : List ℕ) → IsWord j → IsWord k → IsWord m → IsWord n → line (panic_text j m) ++ r ≡ line (panic_text k n) ++ t → (j ≡ k) × (m ≡ n) × (r ≡ t)
panic_line_unique j k m n r t small_j small_k small_m small_n e =
    let same = line_unique (panic_text j m) (panic_text k n) r t (free_panic j m small_j small_m) (free_panic k n small_k small_n) e in
    let fields = append_cancel_left (codes "panic ") (decimal j ++ (32 ∷ decimal m)) (decimal k ++ (32 ∷ decimal n))
    (sym (append_assoc (codes "panic ") (decimal j) (32 ∷ decimal m)) ∙ same.0 ∙ append_assoc (codes "panic ") (decimal k) (32 ∷ decimal n)) in
    let trap = number_unique j k (decimal m) (decimal n) small_j small_k fields in
    (trap.0, decimal_unique m n small_m small_n trap.1, same.1)

abbrev IsNoDamage : ℕ → Type 0
IsNoDamage k = k ≡ damage_key → ⊥

-- behind a panic no line of it stands
abbrev pub IsNoPartOfPanic : ℕ → Type 0
IsNoPartOfPanic k = IsNoDamage k × (k ≡ again_key → ⊥)

damages_are : (frames : ℕ) (text : List ℕ) (panic : PanicLine) → IsPanic frames text panic → AreTexts (IsLineOf damage_line (IsDamage frames)) (flat_map damage_line panic.damages) panic.damages
damages_are frames text panic is = lines_are damage_line (IsDamage frames) panic.damages (recursion_from_All (IsDamage frames) panic.damages is.damages)

agains_are : (frames : ℕ) (text : List ℕ) (panic : PanicLine) → IsPanic frames text panic → AreTexts (IsLineOf again_line IsWord) (flat_map again_line panic.agains) panic.agains
agains_are frames text panic is = lines_are again_line IsWord panic.agains (recursion_from_All IsWord panic.agains is.agains)

no_damage : (frames : ℕ) (text r : List ℕ) (panic : PanicLine) → IsPanic frames text panic → IsNoDamage (opening r) → IsNoDamage (opening (flat_map again_line panic.agains ++ r))
no_damage frames text r panic is end =
    opening_by (IsLineOf again_line IsWord) again_key IsNoDamage agains_unique.opens (flat_map again_line panic.agains) panic.agains r (agains_are frames text panic is) (λ e. omega (arith, e)) end

abbrev pub panic_with : (trap store : ℕ) (damages : List Damage) (agains : List ℕ) → PanicLine
panic_with trap store damages agains = record { trap = trap; store = store; damages = damages; agains = agains }

panic_one : (frames : ℕ) → frames ≤ 384 → (text_a text_b : List ℕ) (a b : PanicLine) (r t : List ℕ) → IsPanic frames text_a a → IsPanic frames text_b b
    → IsNoPartOfPanic (opening r) → IsNoPartOfPanic (opening t) → text_a ++ r ≡ text_b ++ t → AreSame a b r t
panic_one frames few text_a text_b a b r t is_a is_b may_r may_t e =
    let line_a = line (panic_text a.trap a.store) in
    let line_b = line (panic_text b.trap b.store) in
    let damages_a = flat_map damage_line a.damages in
    let damages_b = flat_map damage_line b.damages in
    let agains_a = flat_map again_line a.agains in
    let agains_b = flat_map again_line b.agains in
    let whole : line_a ++ (damages_a ++ (agains_a ++ r)) ≡ line_b ++ (damages_b ++ (agains_b ++ t)) =
    sym (three line_a damages_a agains_a r) ∙ ap (λ x. x ++ r) (sym is_a.spelled) ∙ e ∙ ap (λ x. x ++ t) is_b.spelled ∙ three line_b damages_b agains_b t in
    let first = panic_line_unique a.trap b.trap a.store b.store (damages_a ++ (agains_a ++ r)) (damages_b ++ (agains_b ++ t)) is_a.last_trap is_b.last_trap is_a.store is_b.store whole in
    let damages = texts_unique (IsLineOf damage_line (IsDamage frames)) damage_key Anything (damages_unique frames few) damages_a damages_b a.damages b.damages (agains_a ++ r) (agains_b ++ t)
    (damages_are frames text_a a is_a) (damages_are frames text_b b is_b) (no_damage frames text_a r a is_a may_r.0) (no_damage frames text_b t b is_b may_t.0) tt tt first.2 in
    let agains = texts_unique (IsLineOf again_line IsWord) again_key Anything agains_unique agains_a agains_b a.agains b.agains r t
    (agains_are frames text_a a is_a) (agains_are frames text_b b is_b) may_r.1 may_t.1 tt tt damages.1 in
    let same : a ≡ b =
    ap (λ n. panic_with n a.store a.damages a.agains) first.0
    ∙ ap (λ n. panic_with b.trap n a.damages a.agains) first.1
    ∙ ap (λ ds. panic_with b.trap b.store ds a.agains) damages.0
    ∙ ap (λ ss. panic_with b.trap b.store b.damages ss) agains.0 in
    (same, agains.1)

abbrev pub panic_key : ℕ
panic_key = opening (codes "panic")

pub panics_unique : (frames : ℕ) → frames ≤ 384 → AreUnique (IsPanic frames) panic_key IsNoPartOfPanic
panics_unique frames few = record {
  opens = λ text panic r is. ap (λ t. opening (t ++ r)) is.spelled;
  follows = (λ e. omega (arith, e), λ e. omega (arith, e));
  one = panic_one frames few;
}
