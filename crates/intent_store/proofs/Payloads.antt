-- Payloads that grow by a range.
use Rattle.std.proofs.Common.{◌≡◌, ℕ, ◌+◌, ◌*◌, ◌<◌, ◌≤◌, true, List, [], ◌∷◌, ◌++◌, length, refl, sym, ap, subst, ◌∙◌, arith, append_assoc, length-append, All}
use Rattle.std.proofs.lemmas.Grind.{common_steps}
use Rattle.std.proofs.lemmas.List.Elements.{All-cons, All-nil}
use Rattle.record_layouts.specs.declared.patch.AnyRec.{AnyRec}
use Rattle.record_layouts.specs.declared.patch.AnyRec.TheVariants as any
use Rattle.record_layouts.specs.declared.patch.PatchItem.{PatchItem}
use Rattle.record_layouts.specs.declared.places.RecordId.{RecordId}
use Rattle.record_layouts.specs.declared.places.RecordId.TheVariants as id
use Rattle.ow_base.specs.Seals.{seal_from}
use Rattle.ow_base.specs.Words.{updated}
use Rattle.record_layouts.specs.Overlay.{Area, IsAllowed, WordRange, gate_word, intent_kind, may_change, most_payload, payload_of, payload_word, seal_word}
use Rattle.record_layouts.specs.Patch.{IsOfKind, IsPatchItem}
use Rattle.record_layouts.specs.Places.{first_word, length_of}
use Rattle.record_layouts.specs.Seam.{AreSpelled, IsSpelled, Spells}
use Rattle.intent_store.specs.Blocks.{seal_of_payload, with_words_at}
use Rattle.intent_store.specs.Payloads.{IsItemSpelled, IsOpened, IsPatchSpelled, IsPayload, IsRecordSpelled, IsSpelledOn}
use Rattle.intent_store.specs.declared.opening.Spelling.{Spelling}
use Rattle.intent_store.proofs.Openings.{seal_from-behind, seal_from-gate, with_words_at-behind, with_words_at-none}
use Rattle.record_layouts.proofs.Items.{record_length, sets_item}

pub payload_of-push : (ranges : List WordRange) (range : WordRange) → payload_of (ranges ++ range ∷ []) ≡ payload_of ranges ++ payload_of (range ∷ [])
unfolding payload_of
payload_of-push [] range = refl
payload_of-push (one ∷ ranges) range =
    ap (λ ws. one.frame ∷ one.first ∷ length one.words ∷ ws) (ap (λ ws. one.words ++ ws) (payload_of-push ranges range) ∙ sym (append_assoc one.words (payload_of ranges) (payload_of (range ∷ []))))

pub are_spelled-push : (ranges : List WordRange) (items : List PatchItem) (range : WordRange) (item : PatchItem) → AreSpelled ranges items → Spells range item
    → AreSpelled (ranges ++ range ∷ []) (items ++ item ∷ [])
are_spelled-push [] [] range item are sets = (sets, tt)
are_spelled-push [] (i ∷ items) range item are sets = absurd are
are_spelled-push (r ∷ ranges) [] range item are sets = absurd are
are_spelled-push (r ∷ ranges) (i ∷ items) range item are sets = (are.0, are_spelled-push ranges items range item are.1 sets)

pub allowed_by : (ranges : List WordRange) (items : List PatchItem) → AreSpelled ranges items → All IsAllowed ranges
allowed_by [] [] are = All-nil IsAllowed
allowed_by [] (i ∷ items) are = absurd are
allowed_by (r ∷ ranges) [] are = absurd are
allowed_by (r ∷ ranges) (i ∷ items) are = All-cons IsAllowed r ranges are.0.allowed (allowed_by ranges items are.1)

-- the payload of one range
pub range_words : (frame first count : ℕ) (words : List ℕ) → count ≡ length words
    → (frame ∷ first ∷ count ∷ []) ++ words ≡ payload_of (record { frame = frame; first = first; words = words } ∷ [])
unfolding payload_of
range_words frame first count words e = rw e (grind (arith, common_steps))

range_length : (range : WordRange) → length (payload_of (range ∷ [])) ≡ 3 + length range.words
unfolding payload_of
range_length range = omega (arith, length-append {A = ℕ})

pub length_of-most : (id : RecordId) → length_of id ≤ 128
length_of-most id.Head = omega arith
length_of-most (id.Proc slot) = omega arith
length_of-most (id.Sig slot) = omega arith
length_of-most (id.Desc index) = omega arith
length_of-most (id.File index) = omega arith
length_of-most (id.Cache index) = omega arith
length_of-most (id.Term terminal) = omega arith
length_of-most (id.Row index) = omega arith
length_of-most (id.Exit pid) = omega arith

pub payload-more : (items : List PatchItem) (item : PatchItem) (payload : List ℕ) (range : WordRange) → IsPayload items payload → Spells range item
    → IsPayload (items ++ item ∷ []) (payload ++ payload_of (range ∷ []))
payload-more items item payload range is sets = record {
  ranges = is.ranges ++ range ∷ [];
  spelled = ap (λ ws. ws ++ payload_of (range ∷ [])) is.spelled ∙ sym (payload_of-push is.ranges range);
  sets = are_spelled-push is.ranges items range item is.sets sets;
  fits = omega (arith, length-append {A = PatchItem}, length-append {A = ℕ}, range_length range, sets.long, length_of-most item.id, is.fits);
}

pub payload-none : IsPayload [] []
unfolding payload_of
payload-none = record { ranges = []; spelled = refl; sets = tt; fits = omega arith }

-- how many words the ranges take that set records
unfoldable pub spelled_length : List PatchItem → ℕ
spelled_length [] = 0
spelled_length (item ∷ items) = 3 + length_of item.id + spelled_length items

pub spelled_length-none : spelled_length [] ≡ 0
unfolding spelled_length
spelled_length-none = refl

pub spelled_length-push : (items : List PatchItem) (item : PatchItem) → spelled_length (items ++ item ∷ []) ≡ spelled_length items + (3 + length_of item.id)
unfolding spelled_length
spelled_length-push [] item = omega arith
spelled_length-push (one ∷ items) item = omega (arith, spelled_length-push items item)

spelled_length-ranges : (ranges : List WordRange) (items : List PatchItem) → AreSpelled ranges items → length (payload_of ranges) ≡ spelled_length items
unfolding payload_of spelled_length
spelled_length-ranges [] [] are = refl
spelled_length-ranges [] (i ∷ items) are = absurd are
spelled_length-ranges (r ∷ ranges) [] are = absurd are
spelled_length-ranges (r ∷ ranges) (i ∷ items) are =
    let rest = spelled_length-ranges ranges items are.1 in
    omega (arith, length-append {A = ℕ}, are.0.long, rest)

pub payload-length : (items : List PatchItem) (payload : List ℕ) → IsPayload items payload → length payload ≡ spelled_length items
payload-length items payload is = ap (λ (ws : List ℕ). length ws) is.spelled ∙ spelled_length-ranges is.ranges items is.sets

-- the payload of some record has words
pub payload-some : (items : List PatchItem) (payload : List ℕ) → IsPayload items payload → 0 < length items → 0 < length payload
unfolding spelled_length
payload-some [] payload is some = absurd (omega arith)
payload-some (item ∷ items) payload is some = omega (arith, payload-length (item ∷ items) payload is)

-- words that are stored one behind the other
pub spelled_on-none : (area : Area) (at : Spelling) → IsSpelledOn [] area area at at
unfolding seal_from
spelled_on-none area at = record { stored = with_words_at-none area at.end; ends = omega arith; sealed = refl }

pub spelled_on-behind : (some others : List ℕ) (first middle last : Area) (a b c : Spelling) → IsSpelledOn some first middle a b → IsSpelledOn others middle last b c
    → IsSpelledOn (some ++ others) first last a c
spelled_on-behind some others first middle last a b c one other = record {
  stored = other.stored ∙ ap (λ (area : Area). with_words_at area b.end others) one.stored
      ∙ ap (λ (n : ℕ). with_words_at (with_words_at first a.end some) n others) one.ends ∙ with_words_at-behind first a.end some others;
  ends = omega (arith, one.ends, other.ends, length-append {A = ℕ});
  sealed = other.sealed ∙ ap (λ (s : ℕ). seal_from s others) one.sealed ∙ seal_from-behind some others a.seal;
}

pub item-spelled : (item : PatchItem) (frame place count : ℕ) (first middle last : Area) (a b c : Spelling) → IsPatchItem item
    → 1024 * frame + place ≡ first_word item.id → place < 1024 → may_change (first_word item.id) (first_word item.id + length_of item.id) ≡ true → count ≡ length_of item.id
    → IsSpelledOn (frame ∷ place ∷ count ∷ []) first middle a b → IsRecordSpelled item.rec middle last b c → IsItemSpelled item first last a c
item-spelled item frame place count first middle last a b c of_patch begins low changes counted head rec = record {
  range = record { frame = frame; first = place; words = rec.words };
  sets = sets_item item frame place rec.words of_patch rec.spelled begins low changes;
  on = subst (λ ws. IsSpelledOn ws first last a c)
      (range_words frame place count rec.words (counted ∙ sym (record_length item.id item.rec rec.words of_patch.kind rec.spelled)))
      (spelled_on-behind (frame ∷ place ∷ count ∷ []) rec.words first middle last a b c head rec.on);
}

pub patch-none : (area : Area) (at : Spelling) → IsPatchSpelled [] area area at at
patch-none area at = record { payload = []; is = payload-none; on = spelled_on-none area at }

pub patch-more : (items : List PatchItem) (item : PatchItem) (first middle last : Area) (a b c : Spelling) → IsPatchSpelled items first middle a b → IsItemSpelled item middle last b c
    → IsPatchSpelled (items ++ item ∷ []) first last a c
patch-more items item first middle last a b c before more = record {
  payload = before.payload ++ payload_of (more.range ∷ []);
  is = payload-more items item before.payload more.range before.is more.sets;
  on = spelled_on-behind before.payload (payload_of (more.range ∷ [])) first middle last a b c before.on more.on;
}

-- the payload is stored, then its seal, and last the gate
pub patch-opened : (items : List PatchItem) (old stored new : Area) (count begun : ℕ) (after : Spelling) → IsPatchSpelled items old stored (record { end = payload_word; seal = begun }) after
    → ((payload : List ℕ) → IsPayload items payload → length payload ≡ count) → count ≤ most_payload → begun ≡ seal_from intent_kind (count ∷ [])
    → new ≡ updated (updated stored seal_word after.seal) gate_word count → IsOpened items old new after.end
patch-opened items old stored new count begun after spelled counted few first e =
    let payload = spelled.payload in
    let long : length payload ≡ count = counted payload spelled.is in
    let seal : after.seal ≡ seal_of_payload payload
    = spelled.on.sealed ∙ ap (λ (k : ℕ). seal_from k payload) first ∙ seal_from-gate count payload ∙ ap (λ (k : ℕ). seal_from intent_kind (k ∷ payload)) (sym long) in
    record {
      payload = payload;
      is = spelled.is;
      fits = omega (arith, long);
      opens = e ∙ ap (λ (k : ℕ). updated (updated stored seal_word after.seal) gate_word k) (sym long)
          ∙ ap (λ (k : ℕ). updated (updated stored seal_word k) gate_word (length payload)) seal
          ∙ ap (λ (a : Area). updated (updated a seal_word (seal_of_payload payload)) gate_word (length payload)) spelled.on.stored;
      ends = spelled.on.ends;
    }
