-- What is read of an area that changes in its block.
use Rattle.std.proofs.Common.{◌≡◌, ℕ, ◌+◌, ◌<◌, ◌≤◌, Bool, true, false, List, [], ◌∷◌, length, Option, None, refl, sym, ap, ◌∙◌, arith}
use Rattle.std.proofs.lemmas.Bool.Decides.{nat_tests}
use Rattle.record_layouts.specs.declared.intent.Gate.TheVariants.{Open}
use Rattle.record_layouts.specs.declared.memory_map.MemoryMap.{MemoryMap}
use Rattle.record_layouts.specs.declared.patch.PatchItem.{PatchItem}
use Rattle.record_layouts.specs.Held.{Records, with_items}
use Rattle.record_layouts.specs.Overlay.{Area, EndsOpen, WordRange, gate_of, gate_word, laid, open_ranges, or_none, overlay, payload_word}
use Rattle.record_layouts.specs.Patch.{IsPatch}
use Rattle.record_layouts.specs.Reading.{is_readable_gate, records_in}
use Rattle.record_layouts.proofs.Intents.{open_ranges_of}
use Rattle.record_layouts.proofs.Seam.{patch_sets}
use Rattle.record_layouts.proofs.Stores.{block_stays}
use Rattle.intent_store.specs.Blocks.{IsSeenAs, IsSeenSet, IsShutLike, ReadsAs, is_of_block, opened, rolled, seen}
use Rattle.intent_store.specs.Payloads.{IsPayload}
use Rattle.intent_store.proofs.Openings.{ends_by_gate, opened-beside, opened-gate, opened-intent, opened-overlay}
use Rattle.intent_store.proofs.Payloads.{allowed_by}

-- no record has a word of the block
pub records-same : (some other : Area) → ((number : ℕ) → is_of_block number ≡ false → some number ≡ other number) → (map : MemoryMap) (is_readable : Bool)
    → records_in map is_readable some ≡ records_in map is_readable other
records-same some other same map is_readable =
    block_stays map is_readable some other (λ number low. same number (grind (arith, nat_tests))) (λ number high. same number (grind (arith, nat_tests)))

-- where no intent is open, the area's own words are read
shut-ranges : (area : Area) → area gate_word ≡ 0 → open_ranges area ≡ None
unfolding open_ranges
shut-ranges area shut = grind (arith, nat_tests, shut)

shut-overlay : (area : Area) → area gate_word ≡ 0 → overlay area ≡ area
unfolding overlay laid
shut-overlay area shut = λ i m. ap (λ (o : Option (List WordRange)). laid (or_none o) m (area m)) (shut-ranges area shut) i

shut-seen : (map : MemoryMap) (area : Area) → area gate_word ≡ 0 → seen map area ≡ records_in map true area
shut-seen map area shut = rw (shut-overlay area shut, shut) refl

-- the same is read of an area once its intent is carried out
pub seen-rolled : (area new : Area) → is_readable_gate (gate_of area) ≡ true → new ≡ rolled area → IsSeenAs area new
seen-rolled area new readable e =
    let shut : rolled area gate_word ≡ 0 = grind (arith, nat_tests) in
    let same : (number : ℕ) → is_of_block number ≡ false → rolled area number ≡ overlay area number = λ number out. grind (arith, nat_tests, out) in
    record {
      same = λ map. rw e (shut-seen map (rolled area) shut ∙ records-same (rolled area) (overlay area) same map true ∙ ap (λ (b : Bool). records_in map b (overlay area)) (sym readable));
    }

pub seen-reads : (area new : Area) → ReadsAs area new → IsSeenAs area new
seen-reads area new reads = record { same = λ map. rw (reads.gate, reads.words) refl }

pub seen-shut : (area new : Area) → area gate_word ≡ 0 → IsShutLike area new → IsSeenAs area new
seen-shut area new shut like = record { same = λ map. shut-seen map new like.shut ∙ records-same new area like.beside map true ∙ sym (shut-seen map area shut) }

pub seen-then : (old middle new : Area) → IsSeenAs old middle → IsSeenAs middle new → IsSeenAs old new
seen-then old middle new first second = record { same = λ map. second.same map ∙ first.same map }

-- an intent that is opened sets the records
module _ (area : Area) (items : List PatchItem) (payload : List ℕ) (shut : area gate_word ≡ 0) (is : IsPayload items payload) (patch : IsPatch items) (some : 0 < length payload) (fits : length payload ≤ 1006) where
  gate-opened : gate_of (opened area payload) ≡ Open
  gate-opened =
      let intent = opened-intent area payload fits is.ranges is.spelled (allowed_by is.ranges items is.sets) some in
      let ranges = open_ranges_of (opened area payload) is.ranges intent in
      let gate = intent.opened in
      grind (arith, nat_tests, ranges, gate)

  opened-laid : (number : ℕ) → is_of_block number ≡ false → overlay (opened area payload) number ≡ laid is.ranges number (area number)
  opened-laid number out =
      opened-overlay area payload fits is.ranges is.spelled (allowed_by is.ranges items is.sets) some number
      ∙ ap (λ (w : ℕ). laid is.ranges number w) (opened-beside area payload fits number out)

  pub seen-opened : (new : Area) → new ≡ opened area payload → IsSeenSet items area new
  seen-opened new e = record {
    set = λ map room on_disk. rw e (rw gate-opened (records-same (overlay (opened area payload)) (λ n. laid is.ranges n (area n)) opened-laid map true
        ∙ patch_sets map room area is.ranges items patch on_disk is.sets
        ∙ ap (λ (r : Records). with_items r items) (sym (shut-seen map area shut))));
  }

  pub readable-opened : (new : Area) → new ≡ opened area payload → is_readable_gate (gate_of new) ≡ true
  readable-opened new e = rw (e, gate-opened) refl

  ends-there : EndsOpen (opened area payload) (payload_word + length payload)
  ends-there =
      let ends = ends_by_gate (opened area payload) is.ranges (opened-intent area payload fits is.ranges is.spelled (allowed_by is.ranges items is.sets) some) in
      rw (opened-gate area payload fits) at ends

  pub ends-opened : (new : Area) (end : ℕ) → new ≡ opened area payload → end ≡ payload_word + length payload → EndsOpen new end
  ends-opened new end e ends = rw (e, ends) ends-there

pub set-after : (items : List PatchItem) (old middle new : Area) → IsSeenAs old middle → IsSeenSet items middle new → IsSeenSet items old new
set-after items old middle new first second = record { set = λ map room on_disk. second.set map room on_disk ∙ ap (λ (r : Records). with_items r items) (first.same map) }

pub set-before : (items : List PatchItem) (old middle new : Area) → IsSeenSet items old middle → IsSeenAs middle new → IsSeenSet items old new
set-before items old middle new first second = record { set = λ map room on_disk. second.same map ∙ first.set map room on_disk }

-- no record is set by a patch of none
pub set-none : (items : List PatchItem) (old new : Area) → length items ≡ 0 → IsSeenAs old new → IsSeenSet items old new
set-none [] old new none seen_as = record { set = λ map room on_disk. seen_as.same map }
set-none (item ∷ items) old new none seen_as = absurd (omega arith)

pub rolled-gate : (old new : Area) → new ≡ rolled old → new gate_word ≡ 0
rolled-gate old new e = rw e (grind (arith, nat_tests))

-- from the area before a commit to that with the intent open
pub set-opened : (items : List PatchItem) (payload : List ℕ) (old first new : Area) → is_readable_gate (gate_of old) ≡ true → first ≡ rolled old → IsPayload items payload → IsPatch items
    → 0 < length payload → length payload ≤ 1006 → new ≡ opened first payload → IsSeenSet items old new
set-opened items payload old first new readable rolls is patch some fits opens =
    set-after items old first new (seen-rolled old first readable rolls) (seen-opened first items payload (rolled-gate old first rolls) is patch some fits new opens)
