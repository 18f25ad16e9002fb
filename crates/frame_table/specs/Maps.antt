-- The pages of a process by their frames.
use Rattle.std.specs.Prelude.{ℕ, Option, Some, None}
use Rattle.ow_base.specs.Pages.{Pages}
use Rattle.ow_base.specs.Sv32.{WordMap}
use Rattle.ow_base.specs.declared.machine.Rights.{Rights}
use Rattle.sv32_tables.specs.Spaces.{Mapping, pages_in}
use Rattle.record_layouts.specs.declared.proc.ProcRec.{ProcRec}
use Rattle.record_layouts.specs.Held.{Records}
use Rattle.record_layouts.specs.Pages.{region_of, frame_of}

-- a page is there where it has a frame and rights
abbrev pub mapping_by : (frame : Option ℕ) → Option Rights → Option Mapping
mapping_by (Some frame) (Some rights) = Some (record { frame = frame; rights = rights })
mapping_by (Some frame) None = None
mapping_by None rights = None

-- where each page of a process in a slot lies, and what the process may do with it
unfoldable pub map_of : Records → (slot : ℕ) → ProcRec → (page : ℕ) → Option Mapping
map_of r slot process page = mapping_by (frame_of r slot process page) (region_of process page)

-- the same of the process that the slot's record is, none where it does not decode
abbrev pub map_if : Records → (slot page : ℕ) → Option ProcRec → Option Mapping
map_if r slot page (Some process) = map_of r slot process page
map_if r slot page None = None

unfoldable pub map_in : Records → (slot page : ℕ) → Option Mapping
map_in r slot page = map_if r slot page (r.procs slot)

-- the pages of a slot that have a frame, whatever its record and its tables are
abbrev pub framed_pages : Records → WordMap → (slot : ℕ) → Pages
framed_pages r words slot = pages_in (map_in r slot) words
