-- Each record that is read from words is one that can be spelled.
use Rattle.std.proofs.Common.{◌≡◌, ℕ, Bool, true, false, if◌then◌else◌, List, slice_index, Option, Some, None, IfSome, refl}
use Rattle.std.proofs.lemmas.Bool.{and_parts}
use Rattle.std.proofs.lemmas.Bool.Decides.{Decides-ltb}
use Rattle.ow_base.specs.Sv32.{WordMap}
use Rattle.record_layouts.specs.declared.memory_map.MemoryMap.{MemoryMap}
use Rattle.record_layouts.specs.declared.file.FileRec.{FileRec}
use Rattle.record_layouts.specs.Spelling.{only_where}
use Rattle.record_layouts.specs.Overlay.{Area}
use Rattle.record_layouts.specs.declared.places.RecordId.{RecordId}
use Rattle.record_layouts.specs.declared.places.RecordId.TheVariants as id
use Rattle.record_layouts.specs.At.{Fits, at, read_as}
use Rattle.record_layouts.specs.Held.{AreValues}
use Rattle.record_layouts.specs.Reading.{record_in, records_in, records_of}
use Rattle.record_layouts.specs.Head.{FitsHead, head_fields, head_in}
use Rattle.record_layouts.specs.Proc.{FitsProc, proc_fields, proc_in}
use Rattle.record_layouts.specs.Sig.{FitsSig, sig_fields, sig_in}
use Rattle.record_layouts.specs.Desc.{FitsDesc, desc_fields, desc_in}
use Rattle.record_layouts.specs.File.{FitsFile, file_fields, file_in, if_on_disk}
use Rattle.record_layouts.specs.Cache.{FitsCache, cache_fields, cache_in}
use Rattle.record_layouts.specs.Term.{FitsTerm, term_fields, term_in}
use Rattle.record_layouts.specs.Row.{FitsRow, row_in}
use Rattle.record_layouts.specs.Exit.{FitsExit, exit_fields, exit_in}
use Rattle.record_layouts.specs.Fitting.{fits_head-decides, fits_proc-decides, fits_sig-decides, fits_desc-decides, fits_file-decides, fits_cache-decides, fits_term-decides, fits_exit-decides}

-- a value that counts where a test says so fits where the test says that it does
some_fits : {A : Type 0} (Fits : A → Type 0) (test : Bool) (value : A) → (test ≡ true → Fits value)
    → IfSome (only_where test value) Fits
some_fits Fits true value told = told refl
some_fits Fits false value told = tt

-- and so does one that is read only where a number is one of the layout's
guarded : {A : Type 0} (Fits : A → Type 0) (test : Bool) (read : Option A) → IfSome read Fits
    → IfSome (if test then read else None) Fits
guarded Fits true read fits = fits
guarded Fits false read fits = tt

on_disk_fits : (sectors : ℕ) (held : Option FileRec) → IfSome held FitsFile → IfSome (if_on_disk sectors held) FitsFile
on_disk_fits sectors (Some file) fits = some_fits FitsFile _ file (λ holds. fits)
on_disk_fits sectors None fits = tt

pub read_fits : (sectors : ℕ) (one : RecordId) (words : List ℕ) → IfSome (read_as sectors one words) (Fits one)
unfolding head_in proc_in sig_in desc_in file_in cache_in term_in row_in exit_in
read_fits sectors id.Head words = some_fits FitsHead _ _ (λ holds. (fits_head-decides (head_fields words)).0 (and_parts _ _ holds).1)
read_fits sectors (id.Proc slot) words = some_fits FitsProc _ _ (λ holds. (fits_proc-decides (proc_fields words)).0 (and_parts _ _ holds).1)
read_fits sectors (id.Sig slot) words = some_fits FitsSig _ _ (λ holds. (fits_sig-decides (sig_fields words)).0 (and_parts _ _ holds).1)
read_fits sectors (id.Desc index) words = some_fits FitsDesc _ _ (λ holds. (fits_desc-decides (desc_fields words)).0 (and_parts _ _ holds).1)
read_fits sectors (id.File index) words = on_disk_fits sectors _
    (some_fits FitsFile _ _ (λ holds. (fits_file-decides (file_fields words)).0 (and_parts _ _ holds).1))
read_fits sectors (id.Cache index) words = some_fits FitsCache _ _ (λ holds. (fits_cache-decides (cache_fields words)).0 (and_parts _ _ holds).1)
read_fits sectors (id.Term tty) words = some_fits FitsTerm _ _ (λ holds. (fits_term-decides (term_fields words)).0 (and_parts _ _ holds).1)
read_fits sectors (id.Row index) words = some_fits FitsRow _ _
    (λ holds. record { place = (Decides-ltb (slice_index words 1) 48).0 (and_parts _ _ holds).1 })
read_fits sectors (id.Exit pid) words = some_fits FitsExit _ _ (λ holds. (fits_exit-decides (exit_fields words)).0 (and_parts _ _ holds).1)

-- what is read of an area
pub at_read : (map : MemoryMap) (is_readable : Bool) (area : Area) (one : RecordId)
    → at (records_in map is_readable area) one ≡ record_in map is_readable area one
unfolding records_in
at_read map is_readable area id.Head = refl
at_read map is_readable area (id.Proc slot) = refl
at_read map is_readable area (id.Sig slot) = refl
at_read map is_readable area (id.Desc index) = refl
at_read map is_readable area (id.File index) = refl
at_read map is_readable area (id.Cache index) = refl
at_read map is_readable area (id.Term tty) = refl
at_read map is_readable area (id.Row index) = refl
at_read map is_readable area (id.Exit pid) = refl

pub are_values : (map : MemoryMap) (words : WordMap) → AreValues (records_of map words)
unfolding records_of
are_values map words one = rw (at_read map _ _ one) (guarded (Fits one) _ _ (read_fits map.sectors one _))
