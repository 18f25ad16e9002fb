-- Records that are set where they stand.
use Rattle.record_layouts.specs.declared.patch.AnyRec.{AnyRec}
use Rattle.record_layouts.specs.declared.patch.AnyRec.TheVariants as any
use Rattle.record_layouts.specs.declared.patch.PatchItem.{PatchItem}
use Rattle.record_layouts.specs.declared.patch.PatchPart.{PatchPart}
use Rattle.record_layouts.specs.declared.patch.RecordRef.{RecordRef}
use Rattle.record_layouts.specs.declared.patch.RecordRef.TheVariants as ref

-- the record that stands there
abbrev pub record_of : RecordRef → AnyRec
record_of (ref.Head head) = any.Head head.now
record_of (ref.Proc process) = any.Proc process.now
record_of (ref.Sig signals) = any.Sig signals.now
record_of (ref.Desc description) = any.Desc description.now
record_of (ref.File file) = any.File file.now
record_of (ref.Cache entry) = any.Cache entry.now
record_of (ref.Term terminal) = any.Term terminal.now
record_of (ref.Row row) = any.Row row.now
record_of (ref.Exit exit) = any.Exit exit.now

-- the record and its place
abbrev pub item_of : PatchPart → PatchItem
item_of part = record { id = part.id; rec = record_of part.rec }
