-- The pages of files that only the cache has.
use Rattle.std.specs.Prelude.{ℕ, Bool, false, nat_lt, ◌&&◌, if◌then◌else◌, Option, Some, None}
use Rattle.record_layouts.specs.declared.cache.CacheRec.{CacheRec}
use Rattle.record_layouts.specs.declared.file.FileRec.{FileRec}
use Rattle.record_layouts.specs.Cache.{is_dirty}
use Rattle.record_layouts.specs.File.{is_present}
use Rattle.record_layouts.specs.Held.{Records}

-- there is such a file, and it keeps the page
abbrev pub keeps_page : (page : ℕ) → Option FileRec → Bool
keeps_page page (Some file) = is_present file && nat_lt page file.kept
keeps_page page None = false

-- the file and the page of an entry that is dirty, where that file keeps the page
abbrev pub dirty_by : Records → Option CacheRec → Option (ℕ × ℕ)
dirty_by r (Some entry) = if is_dirty entry && keeps_page entry.page (r.files entry.file) then Some (entry.file, entry.page) else None
dirty_by r None = None
