-- What became of slots, one after the other.
use Rattle.std.proofs.Common.{◌≡◌, ◌≢◌, ℕ, zero, suc, ◌+◌, ◌<◌, ◌≤◌, List, [], ◌∷◌, length, slice_get, slice_set, Some, refl, sym, ap, subst, ◌∙◌, inl, inr, arith}
use Rattle.std.proofs.lemmas.Bool.{cases_eq, le-ltb}
use Rattle.ow_base.specs.Sv32.{WordMap}
use Rattle.record_layouts.specs.declared.memory_map.MemoryMap.{MemoryMap}
use Rattle.record_layouts.specs.Reading.{records_in, records_of}
use Rattle.resurrector.specs.declared.survivors.Outcome.{Outcome}

module _ {A : Type 0} where
  set_long : (values : List A) (k : ℕ) (value : A) → length (slice_set values k value) ≡ length values
  set_long [] k value = refl
  set_long (v ∷ values) zero value = refl
  set_long (v ∷ values) (suc k) value = ap (λ (n : ℕ). suc n) (set_long values k value)

  get_same : (values : List A) (k : ℕ) (value : A) → k < length values → slice_get (slice_set values k value) k ≡ Some value
  get_same [] k value less = absurd (omega (arith, less))
  get_same (v ∷ values) zero value less = refl
  get_same (v ∷ values) (suc k) value less = get_same values k value (omega (arith, less))

  get_other : (values : List A) (k other : ℕ) (value : A) → other ≢ k → slice_get (slice_set values k value) other ≡ slice_get values other
  get_other [] k other value apart = refl
  get_other (v ∷ values) zero zero value apart = absurd (apart refl)
  get_other (v ∷ values) zero (suc other) value apart = refl
  get_other (v ∷ values) (suc k) zero value apart = refl
  get_other (v ∷ values) (suc k) (suc other) value apart = get_other values k other value (λ e. apart (ap (λ (n : ℕ). suc n) e))

-- one more passes
pub added_all : (P : ℕ → Type 0) (count : ℕ) → ((slot : ℕ) → slot < count → P slot) → P count → (slot : ℕ) → slot < count + 1 → P slot
added_all P count each here slot less = elim (cases_eq slot count) [
  | inl same ↦ subst P (sym same) here
  | inr apart ↦ each slot (omega (arith, less, apart))
]

pub stays_long : (now : List Outcome) (count : ℕ) (value : Outcome) → length now ≡ 16 → length (slice_set now count value) ≡ 16
stays_long now count value long = set_long now count value ∙ long

pub added_each : (expected : ℕ → Outcome) (now : List Outcome) (count : ℕ) (value : Outcome) → count < length now
    → ((slot : ℕ) → slot < count → slice_get now slot ≡ Some (expected slot)) → value ≡ expected count
    → (slot : ℕ) → slot < count + 1 → slice_get (slice_set now count value) slot ≡ Some (expected slot)
added_each expected now count value within each is slot less = elim (cases_eq slot count) [
  | inl same ↦ rw same (get_same now count value within ∙ ap Some is)
  | inr apart ↦ get_other now count slot value apart ∙ each slot (omega (arith, less, apart))
]

-- behind the last user frame there is no owner
pub no_owner : (map : MemoryMap) (words : WordMap) (frame : ℕ) → (records_of map words).map.user_frames ≤ frame → (records_of map words).owners frame ≡ 0
unfolding records_of records_in
no_owner map words frame past = rw (le-ltb frame map.user_frames past) refl

pub frames_few : (map : MemoryMap) (words : WordMap) → map.user_frames ≤ 384 → (records_of map words).map.user_frames ≤ 384
unfolding records_of records_in
frames_few map words few = few

pub same_frames : (map : MemoryMap) (words : WordMap) → (records_of map words).map.user_frames ≡ map.user_frames
unfolding records_of records_in
same_frames map words = refl
