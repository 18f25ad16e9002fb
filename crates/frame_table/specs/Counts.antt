-- How many pages the regions of a process hold, and all live processes together.
use Rattle.std.specs.Prelude.{ℕ, zero, suc, ◌+◌, Option, Some, None}
use Rattle.ow_base.specs.declared.machine.Rights.{Rights}
use Rattle.record_layouts.specs.declared.proc.ProcRec.{ProcRec}
use Rattle.record_layouts.specs.Held.{Records}
use Rattle.record_layouts.specs.Pages.{live_one, page_total, region_of}

abbrev pub one_page : Option Rights → ℕ
one_page (Some rights) = 1
one_page None = 0

-- of so many pages from page 0 on those that have rights
unfoldable pub pages_held : ProcRec → (count : ℕ) → ℕ
pages_held process zero = 0
pages_held process (suc count) = pages_held process count + one_page (region_of process count)

-- how many pages the process has that is there, if one is
abbrev pub total_of : Option ProcRec → ℕ
total_of (Some process) = page_total process
total_of None = 0

-- the pages of all live processes in the first slots, so many
unfoldable pub pages_of_all : Records → (slots : ℕ) → ℕ
pages_of_all r zero = 0
pages_of_all r (suc slot) = pages_of_all r slot + total_of (live_one (r.procs slot))
