-- Where the pages of a load lie: in user frames one behind the other, start after start, those of a start by their page.
use Rattle.std.specs.Prelude.{ℕ, ◌+◌, ◌-◌, ◌*◌, Bool, nat_lt, if◌then◌else◌, length, slice_index, Option, Some, None}
use Rattle.ow_base.specs.World.{page_count}
use Rattle.ow_base.specs.declared.worlds.Load.{Load}
use Rattle.ow_base.specs.declared.worlds.Program.{Program}
use Rattle.ow_base.specs.declared.machine.AreaId.TheVariants.{A}
use Rattle.record_layouts.specs.Halves.{half_map}
use Rattle.record_layouts.specs.declared.memory_map.MemoryMap.{MemoryMap}
use Rattle.record_layouts.specs.Unix.Choice.{least_from}
use Rattle.record_layouts.specs.Unix.State.{is_within}
use Rattle.kernel_builder.specs.declared.blueprint.Placed.{Placed}
use Rattle.kernel_builder.specs.declared.blueprint.Holder.{Holder}
use Rattle.kernel_traps.specs.Boot.{program_in, pages_before}
use Rattle.kernel_builder.specs.Plan.{Plan}
use Rattle.kernel_traps.specs.BootRecords.{booted_record}
use Rattle.kernel_traps.specs.BootTables.{low_rights}

-- the pages of code and data
abbrev pub low_pages : Program → ℕ
low_pages program = page_count program.code + page_count program.values

-- the number of a page among those of its program, the four of the stack last; and the page of a number
unfoldable pub number_in : Program → (page : ℕ) → Option ℕ
number_in program page =
    if is_within 16 (low_pages program) page then Some (page - 16)
    else if is_within 0x7fffc 4 page then Some (low_pages program + (page - 0x7fffc))
    else None

unfoldable pub page_in : Program → (number : ℕ) → ℕ
page_in program number = if nat_lt number (low_pages program) then 16 + number else 0x7fffc + (number - low_pages program)

-- a word of the page of a number: of the code, of the data, or 0
unfoldable pub word_in : Program → (number word : ℕ) → ℕ
word_in program number word =
    if nat_lt number (page_count program.code) then slice_index program.code (1024 * number + word)
    else if nat_lt number (low_pages program) then slice_index program.values (1024 * (number - page_count program.code) + word)
    else 0

-- the page of a number, of a program whose first page has this frame
abbrev pub placed_in : Program → (first : ℕ) → Option ℕ → Option Placed
placed_in program first (Some number) = Some (record { frame = first + number; rights = low_rights (page_count program.code) number })
placed_in program first None = None

abbrev pub placed_by : Option Program → (first page : ℕ) → Option Placed
placed_by (Some program) first page = placed_in program first (number_in program page)
placed_by None first page = None

abbrev pub page_by : Option Program → (number : ℕ) → ℕ
page_by (Some program) number = page_in program number
page_by None number = 0

abbrev pub word_at : Program → Option ℕ → (word : ℕ) → ℕ
word_at program (Some number) word = word_in program number word
word_at program None word = 0

abbrev pub word_by : Option Program → (page word : ℕ) → ℕ
word_by (Some program) page word = word_at program (number_in program page) word
word_by None page word = 0

-- the start that has a frame: the least whose pages end behind it
abbrev pub ends_behind : Load → (frame slot : ℕ) → Bool
ends_behind load frame slot = nat_lt frame (pages_before load (slot + 1))

abbrev pub start_with : Load → (frame : ℕ) → Option ℕ
start_with load frame = least_from (ends_behind load frame) 0 (length load.starts)

-- what a frame holds
abbrev pub held_from : Load → (frame : ℕ) → Option ℕ → Option Holder
held_from load frame (Some slot) = Some (record { slot = slot; page = page_by (program_in load slot) (frame - pages_before load slot) })
held_from load frame None = None

unfoldable pub holder_of : Load → (frame : ℕ) → Option Holder
holder_of load frame = held_from load frame (start_with load frame)

-- what a new kernel begins with
abbrev pub booted_plan : Load → Plan
booted_plan load = record {
  record_of = booted_record load;
  is_live = λ slot. nat_lt slot (length load.starts);
  page_at = λ slot page. placed_by (program_in load slot) (pages_before load slot) page;
  holder = holder_of load;
  word_at = λ slot page word. word_by (program_in load slot) page word;
}

-- where the frames of half A are
abbrev pub boot_map : Load → MemoryMap
boot_map load = half_map A load.shape.user_frames load.shape.sectors
