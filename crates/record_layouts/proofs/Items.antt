-- Records of a patch as ranges of words.
use Rattle.std.proofs.Common.{◌≡◌, ℕ, ◌+◌, ◌*◌, ◌<◌, true, List, length}
use Rattle.record_layouts.specs.declared.patch.AnyRec.{AnyRec}
use Rattle.record_layouts.specs.declared.patch.AnyRec.TheVariants as any
use Rattle.record_layouts.specs.declared.patch.PatchItem.{PatchItem}
use Rattle.record_layouts.specs.declared.places.RecordId.{RecordId}
use Rattle.record_layouts.specs.declared.places.RecordId.TheVariants as id
use Rattle.record_layouts.specs.Overlay.{may_change}
use Rattle.record_layouts.specs.Patch.{IsOfKind, IsPatchItem}
use Rattle.record_layouts.specs.Places.{first_word, length_of}
use Rattle.record_layouts.specs.Seam.{IsSpelled, Spells}

-- a record has the words of its kind
pub record_length : (id : RecordId) (rec : AnyRec) (words : List ℕ) → IsOfKind id rec → IsSpelled rec words → length words ≡ length_of id
record_length id.Head (any.Head rec) words kind is = is.long
record_length (id.Proc slot) (any.Proc rec) words kind is = is.long
record_length (id.Sig slot) (any.Sig rec) words kind is = is.long
record_length (id.Desc slot) (any.Desc rec) words kind is = is.long
record_length (id.File slot) (any.File rec) words kind is = is.long
record_length (id.Cache slot) (any.Cache rec) words kind is = is.long
record_length (id.Term slot) (any.Term rec) words kind is = is.long
record_length (id.Row slot) (any.Row rec) words kind is = is.long
record_length (id.Exit slot) (any.Exit rec) words kind is = is.long
record_length other rec words kind is = absurd kind

pub sets_item : (item : PatchItem) (frame first : ℕ) (words : List ℕ) → IsPatchItem item → IsSpelled item.rec words → 1024 * frame + first ≡ first_word item.id → first < 1024
    → may_change (first_word item.id) (first_word item.id + length_of item.id) ≡ true → Spells (record { frame = frame; first = first; words = words }) item
sets_item item frame first words of_patch is place low changes = record {
  begin = place;
  long = record_length item.id item.rec words of_patch.kind is;
  allowed = record { placed = low; changes = rw (place, record_length item.id item.rec words of_patch.kind is) changes };
  spelled = is;
}
