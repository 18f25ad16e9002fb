-- What changes the words of an area, and what it makes of the records: ranges that spell the records of a patch, and
-- words of a frame that are set one by one.
use Rattle.std.specs.Prelude.{◌≡◌, ℕ, ◌/◌, ◌%◌, Bool, ◌==◌, ◌&&◌, if◌then◌else◌, List, length}
use Rattle.std.specs.List.{AllZip}
use Rattle.record_layouts.specs.declared.patch.AnyRec.{AnyRec}
use Rattle.record_layouts.specs.declared.patch.AnyRec.TheVariants.{Head, Proc, Sig, Desc, File, Cache, Term, Row, Exit}
use Rattle.record_layouts.specs.declared.patch.PatchItem.{PatchItem}
use Rattle.record_layouts.specs.Places.{first_word, length_of}
use Rattle.record_layouts.specs.Overlay.{Area, IsAllowed, WordRange, begin_of}
use Rattle.record_layouts.specs.Head.{IsHead}
use Rattle.record_layouts.specs.Proc.{IsProc}
use Rattle.record_layouts.specs.Sig.{IsSig}
use Rattle.record_layouts.specs.Desc.{IsDesc}
use Rattle.record_layouts.specs.File.{IsFile}
use Rattle.record_layouts.specs.Cache.{IsCache}
use Rattle.record_layouts.specs.Term.{IsTerm}
use Rattle.record_layouts.specs.Row.{IsRow}
use Rattle.record_layouts.specs.Exit.{IsExit}

-- the words are the record of this value
abbrev pub IsSpelled : AnyRec → (words : List ℕ) → Type 0
IsSpelled (Head head) words = IsHead words head
IsSpelled (Proc process) words = IsProc words process
IsSpelled (Sig signals) words = IsSig words signals
IsSpelled (Desc description) words = IsDesc words description
IsSpelled (File file) words = IsFile words file
IsSpelled (Cache entry) words = IsCache words entry
IsSpelled (Term terminal) words = IsTerm words terminal
IsSpelled (Row row) words = IsRow words row
IsSpelled (Exit exit) words = IsExit words exit

-- the range has the words of this record, at its place
pub record Spells (range : WordRange) (item : PatchItem) : Type 0 where
  pub begin : begin_of range ≡ first_word item.id
  pub long : length range.words ≡ length_of item.id
  pub allowed : IsAllowed range
  pub spelled : IsSpelled item.rec range.words

-- one range for each record, in their order
abbrev pub AreSpelled : List WordRange → List PatchItem → Type 0
AreSpelled ranges items = AllZip Spells ranges items

-- an area with those words of a frame set that pass a test, each to what is said for it
abbrev pub with_frame_words : Area → (frame : ℕ) → (hit : ℕ → Bool) → (value : ℕ → ℕ) → Area
with_frame_words area frame hit value number =
    if number / 1024 == frame && hit (number % 1024) then value (number % 1024) else area number
