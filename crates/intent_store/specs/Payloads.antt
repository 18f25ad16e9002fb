-- How an intent spells the records that it sets.
use Rattle.std.specs.Prelude.{◌≡◌, ℕ, ◌+◌, ◌*◌, ◌≤◌, List, [], ◌∷◌, length}
use Rattle.ow_base.specs.Seals.{seal_from}
use Rattle.record_layouts.specs.declared.patch.AnyRec.{AnyRec}
use Rattle.record_layouts.specs.declared.patch.PatchItem.{PatchItem}
use Rattle.record_layouts.specs.Overlay.{Area, WordRange, most_payload, payload_of, payload_word}
use Rattle.record_layouts.specs.Seam.{AreSpelled, IsSpelled, Spells}
use Rattle.intent_store.specs.Blocks.{opened, with_words_at}
use Rattle.intent_store.specs.declared.opening.Spelling.{Spelling}

-- the payload spells ranges that set these records
pub record IsPayload (items : List PatchItem) (payload : List ℕ) : Type 0 where
  pub ranges : List WordRange
  pub spelled : payload ≡ payload_of ranges
  pub sets : AreSpelled ranges items
  pub fits : length payload ≤ 131 * length items

-- words are stored behind what is stored of a payload, and taken into its seal
pub record IsSpelledOn (words : List ℕ) (old new : Area) (before after : Spelling) : Type 0 where
  pub stored : new ≡ with_words_at old before.end words
  pub ends : after.end ≡ before.end + length words
  pub sealed : after.seal ≡ seal_from before.seal words

-- those of a record are
pub record IsRecordSpelled (rec : AnyRec) (old new : Area) (before after : Spelling) : Type 0 where
  pub words : List ℕ
  pub spelled : IsSpelled rec words
  pub on : IsSpelledOn words old new before after

-- those of a range that sets a record are
pub record IsItemSpelled (item : PatchItem) (old new : Area) (before after : Spelling) : Type 0 where
  pub range : WordRange
  pub sets : Spells range item
  pub on : IsSpelledOn (payload_of (range ∷ [])) old new before after

-- those of a payload that sets records are
pub record IsPatchSpelled (items : List PatchItem) (old new : Area) (before after : Spelling) : Type 0 where
  pub payload : List ℕ
  pub is : IsPayload items payload
  pub on : IsSpelledOn payload old new before after

-- an intent that sets these records is open, and its payload ends here
pub record IsOpened (items : List PatchItem) (old new : Area) (end : ℕ) : Type 0 where
  pub payload : List ℕ
  pub is : IsPayload items payload
  pub fits : length payload ≤ most_payload
  pub opens : new ≡ opened old payload
  pub ends : end ≡ payload_word + length payload
