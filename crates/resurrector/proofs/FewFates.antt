-- At most sixteen fates are told after a panic which damaged nothing, as no two pids are live in one slot.
use Rattle.std.proofs.Common.{◌≡◌, ℕ, zero, suc, ◌+◌, ◌<◌, ◌≤◌, true, false, List, [], ◌∷◌, length, All, Option, Some, None, inl, inr, refl, sym, ap, ◌∙◌, arith}
use Rattle.std.proofs.lemmas.Bool.{cases_Bool, cases_lt}
use Rattle.std.proofs.lemmas.Bool.Decides.{nat_tests}
use Rattle.std.proofs.lemmas.List.{length-append}
use Rattle.std.proofs.lemmas.List.Elements.{All-cons, All-nil}
use Rattle.std.proofs.lemmas.List.Folds.{list_any_none}
use Rattle.std.proofs.lemmas.Map.Keys.{IsDistinct-cons, IsDistinct-from_apart}
use Rattle.std.proofs.lemmas.Map.Steps.{length-le_from_distinct_below}
use Rattle.std.specs.List.{AllByRecursion, IsDistinct, list_any}
use lib.Dec.{eqb}
use Rattle.ow_base.specs.Images.{Image}
use Rattle.record_layouts.specs.Decode.{slot_by}
use Rattle.record_layouts.specs.Held.{Records}
use Rattle.record_layouts.specs.Images.{records_of_image}
use Rattle.record_layouts.specs.Left.{HandedOver}
use Rattle.record_layouts.specs.SoundImages.{IsSoundAtPanic}
use Rattle.resurrector.specs.Survivors.{fate_of, fates_to, told_of}
use Rattle.resurrector.proofs.Survivals.{fate_told}
use Rattle.resurrector.proofs.Undamaged.{slot_low}

before : Option ℕ → List ℕ → List ℕ
before (Some slot) slots = slot ∷ slots
before None slots = slots

none_differ : IsDistinct eqb []
none_differ = IsDistinct-from_apart eqb [] (λ i j d l m. absurd (omega (arith, m)))

module _ (i : Image) (most broken : ℕ) (sound : IsSoundAtPanic i most broken) (h : HandedOver) where
  abbrev r : Records
  r = records_of_image i

  -- the slots of the pids up to one
  slots : (last : ℕ) → List ℕ
  slots zero = []
  slots (suc pid) = before (slot_by (r.exits (suc pid))) (slots pid)

  none_high : (q last : ℕ) → 16 ≤ q → All (λ slot. eqb q slot ≡ false) (slots last)
  unfolding slots before
  none_high q zero high = All-nil (λ slot. eqb q slot ≡ false)
  none_high q (suc pid) high = by_slot (slot_by (r.exits (suc pid))) refl (none_high q pid high) where
    by_slot : (o : Option ℕ) → slot_by (r.exits (suc pid)) ≡ o → All (λ slot. eqb q slot ≡ false) (slots pid) → All (λ slot. eqb q slot ≡ false) (before o (slots pid))
    by_slot (Some slot) found rest =
        let low = slot_low i most broken sound h (suc pid) slot found in
        let other : eqb q slot ≡ false = grind (arith, nat_tests, low, high) in
        All-cons (λ slot. eqb q slot ≡ false) slot (slots pid) other rest
    by_slot None none rest = rest

  slots_low : (q last : ℕ) → list_any (eqb q) (slots last) ≡ true → q < 16
  slots_low q last among = elim (cases_lt q 16) [
    | inl low ↦ low
    | inr high ↦ absurd (cc (sym among ∙ list_any_none (eqb q) (slots last) (none_high q last high)))
  ]

  -- a slot is that of one pid
  slots_apart : (pid slot last : ℕ) → last < pid → slot_by (r.exits pid) ≡ Some slot → AllByRecursion (λ other. eqb slot other ≡ false) (slots last)
  unfolding slots before
  slots_apart pid slot zero less found = tt
  slots_apart pid slot (suc last) less found = by_slot (slot_by (r.exits (suc last))) refl (slots_apart pid slot last (omega (arith, less)) found) where
    by_slot : (o : Option ℕ) → slot_by (r.exits (suc last)) ≡ o → AllByRecursion (λ other. eqb slot other ≡ false) (slots last)
        → AllByRecursion (λ other. eqb slot other ≡ false) (before o (slots last))
    by_slot (Some other) its rest =
        let apart : eqb slot other ≡ false = elim (cases_Bool (eqb slot other)) [
          | inl same ↦
              let one : other ≡ slot = grind (arith, nat_tests, same) in
              let equal : suc last ≡ pid = sound.numbered.one_slot (suc last) pid slot (its ∙ ap Some one) found in
              absurd (omega (arith, equal, less))
          | inr differ ↦ differ
        ] in
        (apart, rest)
    by_slot None none rest = rest

  slots_differ : (last : ℕ) → IsDistinct eqb (slots last)
  unfolding slots before
  slots_differ zero = none_differ
  slots_differ (suc pid) = by_slot (slot_by (r.exits (suc pid))) refl (slots_differ pid) where
    by_slot : (o : Option ℕ) → slot_by (r.exits (suc pid)) ≡ o → IsDistinct eqb (slots pid) → IsDistinct eqb (before o (slots pid))
    by_slot (Some slot) found rest = IsDistinct-cons eqb slot (slots pid) (slots_apart (suc pid) slot pid (omega arith) found) rest
    by_slot None none rest = rest

  no_fate : (pid : ℕ) → slot_by (r.exits pid) ≡ None → fate_of r (Some h) pid ≡ None
  unfolding fate_of
  no_fate pid none = rw none refl

  -- each of them has a fate
  as_many : (last : ℕ) → length (fates_to r (Some h) last) ≡ length (slots last)
  unfolding fates_to slots before
  as_many zero = refl
  as_many (suc pid) =
      length-append (fates_to r (Some h) pid) (told_of (suc pid) (fate_of r (Some h) (suc pid)))
      ∙ by_slot (slot_by (r.exits (suc pid))) refl (as_many pid)
    where
      by_slot : (o : Option ℕ) → slot_by (r.exits (suc pid)) ≡ o → length (fates_to r (Some h) pid) ≡ length (slots pid)
          → length (fates_to r (Some h) pid) + length (told_of (suc pid) (fate_of r (Some h) (suc pid))) ≡ length (before o (slots pid))
      by_slot (Some slot) found rest = rw (fate_told i most broken sound h (suc pid) slot found) (omega (arith, rest))
      by_slot None none rest = rw (no_fate (suc pid) none) (omega (arith, rest))

  pub few_fates : (last : ℕ) → length (fates_to r (Some h) last) ≤ 16
  few_fates last = omega (arith, as_many last, length-le_from_distinct_below (slots last) 16 (slots_differ last) (λ q among. slots_low q last among))
