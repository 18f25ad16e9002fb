-- Records that are set together.
use Rattle.std.specs.Prelude.{◌≢◌, List, All, AllPairs}
use Rattle.record_layouts.specs.declared.places.RecordId.{RecordId}
use Rattle.record_layouts.specs.declared.places.RecordId.TheVariants as id
use Rattle.record_layouts.specs.declared.patch.AnyRec.{AnyRec}
use Rattle.record_layouts.specs.declared.patch.AnyRec.TheVariants as any
use Rattle.record_layouts.specs.declared.patch.PatchItem.{PatchItem}
use Rattle.record_layouts.specs.Places.{IsRecordId}
use Rattle.record_layouts.specs.Head.{FitsHead}
use Rattle.record_layouts.specs.Proc.{FitsProc}
use Rattle.record_layouts.specs.Sig.{FitsSig}
use Rattle.record_layouts.specs.Desc.{FitsDesc}
use Rattle.record_layouts.specs.File.{FitsFile}
use Rattle.record_layouts.specs.Cache.{FitsCache}
use Rattle.record_layouts.specs.Term.{FitsTerm}
use Rattle.record_layouts.specs.Row.{FitsRow}
use Rattle.record_layouts.specs.Exit.{FitsExit}

-- the record is one that can be spelled
abbrev pub FitsAny : AnyRec → Type 0
FitsAny (any.Head head) = FitsHead head
FitsAny (any.Proc process) = FitsProc process
FitsAny (any.Sig signals) = FitsSig signals
FitsAny (any.Desc description) = FitsDesc description
FitsAny (any.File file) = FitsFile file
FitsAny (any.Cache entry) = FitsCache entry
FitsAny (any.Term terminal) = FitsTerm terminal
FitsAny (any.Row row) = FitsRow row
FitsAny (any.Exit exit) = FitsExit exit

-- the record is of the kind that the id names
abbrev pub IsOfKind : RecordId → AnyRec → Type 0
IsOfKind id.Head (any.Head head) = Unit {0}
IsOfKind (id.Proc slot) (any.Proc process) = Unit {0}
IsOfKind (id.Sig slot) (any.Sig signals) = Unit {0}
IsOfKind (id.Desc index) (any.Desc description) = Unit {0}
IsOfKind (id.File index) (any.File file) = Unit {0}
IsOfKind (id.Cache index) (any.Cache entry) = Unit {0}
IsOfKind (id.Term number) (any.Term terminal) = Unit {0}
IsOfKind (id.Row index) (any.Row row) = Unit {0}
IsOfKind (id.Exit pid) (any.Exit exit) = Unit {0}
IsOfKind other rec = ⊥

-- an area has such a record, and this one can be put there
pub record IsPatchItem (item : PatchItem) : Type 0 where
  pub there : IsRecordId item.id
  pub kind : IsOfKind item.id item.rec
  pub fits : FitsAny item.rec

-- each can be set, and no record is set twice
pub record IsPatch (items : List PatchItem) : Type 0 where
  pub each : All IsPatchItem items
  pub distinct : AllPairs (λ one other. one.id ≢ other.id) items
