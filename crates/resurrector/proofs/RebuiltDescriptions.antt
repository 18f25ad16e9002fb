-- The descriptions of a kernel that was built after a panic which damaged nothing are those that Abort leaves in use.
use Rattle.std.proofs.Common.{◌≡◌, ℕ, zero, suc, ◌+◌, ◌-◌, ◌<◌, ◌==◌, Bool, true, false, if◌then◌else◌, List, [], ◌∷◌, length, map, slice_index, Option, Some, None, inl, inr, refl, sym, ap, ◌∙◌, arith}
use Rattle.std.proofs.lemmas.Bool.{cases_Bool, cases_lt, le-ltb}
use Rattle.std.proofs.lemmas.Bool.Decides.{nat_tests}
use Rattle.ow_base.specs.Images.{Image}
use Rattle.ow_base.specs.Sv32.{WordMap}
use Rattle.record_layouts.specs.declared.places.RecordId.TheVariants as id
use Rattle.record_layouts.specs.Decode.{description_by, descriptor_of, process_at, process_of, slot_by}
use Rattle.record_layouts.specs.Held.{Records}
use Rattle.record_layouts.specs.Images.{records_of_image}
use Rattle.record_layouts.specs.Left.{HandedOver, call_found, dead_proc, left_rec}
use Rattle.record_layouts.specs.Reading.{records_in, records_of}
use Rattle.record_layouts.specs.SoundImages.{IsSoundAtPanic}
use Rattle.record_layouts.specs.Unix.State.{Description, Process, in_use, is_among, is_named, is_named_by, is_this, most_pids}
use Rattle.record_layouts.proofs.Least.{any_found}
use Rattle.resurrector.specs.Rebuilt.{IsRevived}
use Rattle.resurrector.specs.Revived.{revived_description}
use Rattle.resurrector.specs.Survivors.{names, names_by, survivor_in}
use Rattle.resurrector.specs.Survivors.{is_named as is_named_of}
use Rattle.resurrector.proofs.RebuiltProcesses.{goes_on_as, left, none_survives, survives, was_nothing, was_there}
use Rattle.resurrector.proofs.Survivals.{after_descs, survivor_there}
use Rattle.resurrector.proofs.Undamaged.{eight, held, is_there, process, same_descs, slot_low}
use Rattle.resurrector.proofs.Unhurt.{carried_on}

-- one of so many numbers from the first on
pub record Place (descs : List ℕ) (word : ℕ) : Type 0 where
  pub k : ℕ
  pub within : k < length descs
  pub is : slice_index descs k ≡ word

-- a description that a descriptor names stands as a word of the record
named_word : (descs : List ℕ) (number : ℕ) → is_among number (map descriptor_of descs) ≡ true → Place descs (number + 1)
unfolding is_among
named_word [] number among = absurd (cc among)
named_word (word ∷ descs) number among = elim (cases_Bool (is_this (descriptor_of word) number)) [
  | inl here ↦ record { k = 0; within = omega arith; is = this word here }
  | inr other ↦
      let rest : Place descs (number + 1) = named_word descs number (rw other at among) in
      record { k = suc rest.k; within = omega (arith, rest.within); is = rest.is }
]
  where
    this : (word : ℕ) → is_this (descriptor_of word) number ≡ true → word ≡ number + 1
    this word here = elim (cases_Bool (word == 0)) [
      | inl none ↦ absurd (cc (rw none at here))
      | inr some ↦ let same : (word - 1 == number) ≡ true = rw some at here in grind (arith, nat_tests, same, some)
    ]

-- a process that has a descriptor of the description, among so many
pub record Naming (processes : ℕ → Option Process) (number : ℕ) : Type 0 where
  pub pid : ℕ
  pub names : is_named_by number (processes pid) ≡ true

named_some : (processes : ℕ → Option Process) (number first count : ℕ) → is_named processes number first count ≡ true → Naming processes number
unfolding is_named
named_some processes number first zero named = absurd (cc named)
named_some processes number first (suc count) named = elim (cases_Bool (is_named_by number (processes first))) [
  | inl here ↦ record { pid = first; names = here }
  | inr other ↦ named_some processes number (first + 1) count (rw other at named)
]

named_same : (some others : ℕ → Option Process) (number : ℕ) → ((pid : ℕ) → is_named_by number (some pid) ≡ is_named_by number (others pid))
    → (first count : ℕ) → is_named some number first count ≡ is_named others number first count
unfolding is_named
named_same some others number same first zero = refl
named_same some others number same first (suc count) = rw (same first, named_same some others number same (first + 1) count) refl

carried_descriptors : (call : Option ℕ) (p : Process) → (carried_on call p).descriptors ≡ p.descriptors
carried_descriptors call p = elim (cases_Bool (p.procedure == 0)) [
  | inl plain ↦ rw plain refl
  | inr own ↦ rw own refl
]

use_both : (named : Bool) (o : Option Description) → (if named then (if named then o else None) else None) ≡ (if named then o else None)
use_both true o = refl
use_both false o = refl

module _ (i : Image) (most broken : ℕ) (sound : IsSoundAtPanic i most broken) (h : HandedOver) (steps traps : ℕ)
    (counts : List ℕ) (next : Records) (next_words : WordMap) (is : IsRevived (records_of_image i) (Some h) counts i.words next next_words) where
  abbrev r : Records
  r = records_of_image i

  abbrev later : ℕ → Option Process
  later = goes_on_as i most broken sound h steps traps

  abbrev earlier : ℕ → Option Process
  earlier = process_at r i.words

  -- a process that goes on has the descriptors of its record
  descriptors_of : (pid slot : ℕ) (found : slot_by (r.exits pid) ≡ Some slot) (number : ℕ)
      → is_named_by number (later pid) ≡ is_among number (map descriptor_of (process i most broken sound h pid slot found).descs)
  unfolding process_of left_rec dead_proc
  descriptors_of pid slot found number =
      ap (λ (o : Option Process). is_named_by number o) (survives i most broken sound h steps traps pid slot found)
      ∙ ap (λ (ds : List (Option ℕ)). is_among number ds) (carried_descriptors (call_found (Some h) r.head (process i most broken sound h pid slot found)) (left i most broken sound h steps traps pid slot found))
      ∙ ap (λ (descs : List ℕ). is_among number (map descriptor_of descs)) (same_descs i most broken sound h pid slot found)

  named_as_before : (pid number : ℕ) → is_named_by number (later pid) ≡ is_named_by number (earlier pid)
  unfolding process_of
  named_as_before pid number = by_slot (slot_by (r.exits pid)) refl where
    by_slot : (o : Option ℕ) → slot_by (r.exits pid) ≡ o → is_named_by number (later pid) ≡ is_named_by number (earlier pid)
    by_slot (Some slot) found =
        descriptors_of pid slot found number
        ∙ sym (ap (λ (o : Option Process). is_named_by number o) (was_there i most broken sound h steps traps pid slot found))
    by_slot None none =
        ap (λ (o : Option Process). is_named_by number o) (none_survives i most broken sound h steps traps pid none)
        ∙ sym (ap (λ (o : Option Process). is_named_by number o) (was_nothing i most broken sound h steps traps pid none))

  -- so what is named by one of them is named by a record
  in_record : (pid number : ℕ) → is_named_by number (later pid) ≡ true → is_named_of r (Some h) (number + 1) ≡ true
  unfolding is_named_of names
  in_record pid number named = by_slot (slot_by (r.exits pid)) refl where
    by_slot : (o : Option ℕ) → slot_by (r.exits pid) ≡ o → is_named_of r (Some h) (number + 1) ≡ true
    by_slot (Some slot) found =
        let descs = (process i most broken sound h pid slot found).descs in
        let place : Place descs (number + 1) = named_word descs number (sym (descriptors_of pid slot found number) ∙ named) in
        let long : length descs ≡ 8 = eight i most broken sound slot (process i most broken sound h pid slot found) (held i most broken sound h pid slot found) in
        let own : (slice_index descs place.k == number + 1) ≡ true = rw place.is (grind (arith, nat_tests)) in
        let word : names_by (number + 1) (survivor_in r (Some h) slot) ≡ true =
        rw (survivor_there i most broken sound h pid slot found, after_descs i most broken sound h pid slot found)
        (any_found (λ k. slice_index descs k == number + 1) 0 8 8 place.k refl (omega arith) (omega (arith, place.within, long)) own) in
        any_found (λ s. names_by (number + 1) (survivor_in r (Some h) s)) 0 16 16 slot refl (omega arith) (slot_low i most broken sound h pid slot found) word
    by_slot None none = absurd (cc (rw (none_survives i most broken sound h steps traps pid none) at named))

  description_kept : (number : ℕ) → is_named later number 1 most_pids ≡ true → description_by (next.descs number) ≡ description_by (r.descs number)
  unfolding revived_description records_of records_in
  description_kept number named = elim (cases_lt number 32) [
    | inl low ↦
        let naming = named_some later number 1 most_pids named in
        let (description, there) = is_there (r.descs number) (sound.complete (id.Desc number) low) in
        ap description_by (is.records (id.Desc number) low) ∙ rw (in_record naming.pid number naming.names, there) refl
    | inr past ↦ ap description_by (is.others (id.Desc number) (le-ltb number 32 past)) ∙ rw (le-ltb number 32 past) refl
  ]

  pub description_same : (number : ℕ) → in_use later (λ n. description_by (next.descs n)) number
      ≡ in_use later (in_use earlier (λ n. description_by (r.descs n))) number
  unfolding in_use
  description_same number =
      let same : is_named earlier number 1 most_pids ≡ is_named later number 1 most_pids =
      sym (named_same later earlier number (λ pid. named_as_before pid number) 1 most_pids) in
      elim (cases_Bool (is_named later number 1 most_pids)) [
        | inl named ↦ rw (same, named) (description_kept number named)
        | inr none ↦ rw none refl
      ]
