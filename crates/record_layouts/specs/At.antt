-- The records of an area by their ids, so that what holds of records of every kind is said once.
use Rattle.std.specs.Prelude.{ℕ, Bool, false, true, ◌==◌, List, Option, Some, None}
use Rattle.record_layouts.specs.declared.head.HeadRec.{HeadRec}
use Rattle.record_layouts.specs.declared.proc.ProcRec.{ProcRec}
use Rattle.record_layouts.specs.declared.sig.SigRec.{SigRec}
use Rattle.record_layouts.specs.declared.desc.DescRec.{DescRec}
use Rattle.record_layouts.specs.declared.file.FileRec.{FileRec}
use Rattle.record_layouts.specs.declared.cache.CacheRec.{CacheRec}
use Rattle.record_layouts.specs.declared.term.TermRec.{TermRec}
use Rattle.record_layouts.specs.declared.row.RowRec.{RowRec}
use Rattle.record_layouts.specs.declared.exit.ExitRec.{ExitRec}
use Rattle.record_layouts.specs.declared.places.RecordId.{RecordId}
use Rattle.record_layouts.specs.declared.places.RecordId.TheVariants as id
use Rattle.record_layouts.specs.declared.patch.AnyRec.{AnyRec}
use Rattle.record_layouts.specs.declared.patch.AnyRec.TheVariants as any
use Rattle.record_layouts.specs.Patch.{FitsAny}
use Rattle.record_layouts.specs.Records.{Records}
use Rattle.record_layouts.specs.Head.{head_in}
use Rattle.record_layouts.specs.Proc.{proc_in}
use Rattle.record_layouts.specs.Sig.{sig_in}
use Rattle.record_layouts.specs.Desc.{desc_in}
use Rattle.record_layouts.specs.File.{file_on_disk}
use Rattle.record_layouts.specs.Cache.{cache_in}
use Rattle.record_layouts.specs.Term.{term_in}
use Rattle.record_layouts.specs.Row.{row_in}
use Rattle.record_layouts.specs.Exit.{exit_in}

-- what a record of the kind that an id names has
abbrev pub RecOf : RecordId → Type 0
RecOf id.Head = HeadRec
RecOf (id.Proc slot) = ProcRec
RecOf (id.Sig slot) = SigRec
RecOf (id.Desc index) = DescRec
RecOf (id.File index) = FileRec
RecOf (id.Cache index) = CacheRec
RecOf (id.Term tty) = TermRec
RecOf (id.Row index) = RowRec
RecOf (id.Exit pid) = ExitRec

-- a record of any kind as one of the kind that an id names, none where it is of another
abbrev pub fitted : (one : RecordId) → AnyRec → Option (RecOf one)
fitted id.Head (any.Head head) = Some head
fitted (id.Proc slot) (any.Proc process) = Some process
fitted (id.Sig slot) (any.Sig signals) = Some signals
fitted (id.Desc index) (any.Desc description) = Some description
fitted (id.File index) (any.File file) = Some file
fitted (id.Cache index) (any.Cache entry) = Some entry
fitted (id.Term tty) (any.Term terminal) = Some terminal
fitted (id.Row index) (any.Row row) = Some row
fitted (id.Exit pid) (any.Exit exit) = Some exit
fitted one rec = None

-- and the other way round
abbrev pub as_any : (one : RecordId) → RecOf one → AnyRec
as_any id.Head head = any.Head head
as_any (id.Proc slot) process = any.Proc process
as_any (id.Sig slot) signals = any.Sig signals
as_any (id.Desc index) description = any.Desc description
as_any (id.File index) file = any.File file
as_any (id.Cache index) entry = any.Cache entry
as_any (id.Term tty) terminal = any.Term terminal
as_any (id.Row index) row = any.Row row
as_any (id.Exit pid) exit = any.Exit exit

-- the record that an id names
abbrev pub at : Records → (one : RecordId) → Option (RecOf one)
at r id.Head = r.head
at r (id.Proc slot) = r.procs slot
at r (id.Sig slot) = r.sigs slot
at r (id.Desc index) = r.descs index
at r (id.File index) = r.files index
at r (id.Cache index) = r.caches index
at r (id.Term tty) = r.terms tty
at r (id.Row index) = r.rows index
at r (id.Exit pid) = r.exits pid

-- the record that words are, of the kind that an id names; for a file, on a disk of so many data sectors
abbrev pub read_as : (sectors : ℕ) → (one : RecordId) → List ℕ → Option (RecOf one)
read_as sectors id.Head words = head_in words
read_as sectors (id.Proc slot) words = proc_in words
read_as sectors (id.Sig slot) words = sig_in words
read_as sectors (id.Desc index) words = desc_in words
read_as sectors (id.File index) words = file_on_disk sectors words
read_as sectors (id.Cache index) words = cache_in words
read_as sectors (id.Term tty) words = term_in words
read_as sectors (id.Row index) words = row_in words
read_as sectors (id.Exit pid) words = exit_in words

-- the record can be spelled
abbrev pub Fits : (one : RecordId) → RecOf one → Type 0
Fits one value = FitsAny (as_any one value)

-- the ids name the same record
abbrev pub is_same : (one other : RecordId) → Bool
is_same id.Head id.Head = true
is_same (id.Proc a) (id.Proc b) = a == b
is_same (id.Sig a) (id.Sig b) = a == b
is_same (id.Desc a) (id.Desc b) = a == b
is_same (id.File a) (id.File b) = a == b
is_same (id.Cache a) (id.Cache b) = a == b
is_same (id.Term a) (id.Term b) = a == b
is_same (id.Row a) (id.Row b) = a == b
is_same (id.Exit a) (id.Exit b) = a == b
is_same one other = false
