-- What a process lost, by its descriptors and its signals.
use Rattle.std.specs.Prelude.{ℕ, ◌+◌, ◌-◌, Bool, true, false, not, ◌==◌, ◌&&◌, if◌then◌else◌, List, slice_index, Option, Some, None, is_some}
use Rattle.record_layouts.specs.declared.desc.DescRec.{DescRec}
use Rattle.record_layouts.specs.Unix.Choice.{is_any}
use Rattle.record_layouts.specs.Desc.{is_on_file, is_on_terminal}
use Rattle.record_layouts.specs.Held.{Records}
pub use Rattle.record_layouts.specs.Left.{is_lost_entry, names_file}
unfoldable pub use Rattle.record_layouts.specs.Left.{may_lack_page}
use Rattle.dead_reader.specs.Terminals.{terminal_decodes}
use Rattle.dead_reader.specs.declared.losses.Loss.{Loss}
use Rattle.dead_reader.specs.declared.losses.Loss.TheVariants as loss

-- What a descriptor lost, by its description. It is closed where its description does not decode, and then nothing else is
-- asked of it, or where that is on a file whose record does not decode. A page may be lost of its file; its terminal is
-- reset where this does not decode.
abbrev pub loses_by : Records → Loss → Option DescRec → Bool
loses_by r loss.Closed (Some d) = is_on_file d && not (is_some (r.files d.index))
loses_by r loss.Page (Some d) = is_on_file d && may_lack_page r d.index
loses_by r loss.Terminal (Some d) = is_on_terminal d && not (terminal_decodes r d.index)
loses_by r loss.Closed None = true
loses_by r loss.Page None = false
loses_by r loss.Terminal None = false

-- descriptor words: 0 is none, else the description's number and one
abbrev pub loses : Records → Loss → (word : ℕ) → Bool
loses r loss word = not (word == 0) && loses_by r loss (r.descs (word - 1))

-- one of the eight descriptors lost this
abbrev pub loses_at : Records → Loss → (descriptors : List ℕ) → (k : ℕ) → Bool
loses_at r loss descriptors k = loses r loss (slice_index descriptors k)

unfoldable pub one_loses : Records → Loss → (descriptors : List ℕ) → Bool
one_loses r loss descriptors = is_any (loses_at r loss descriptors) 0 8

abbrev pub bit_if : Bool → (bit : ℕ) → ℕ
bit_if test bit = if test then bit else 0

-- the bits of what the process in a slot lost: 1 a descriptor was closed, 2 a page of its file may be lost, 4 its terminal
-- was reset, 8 its signals do not decode
unfoldable pub bits_lost : Records → (slot : ℕ) → (descriptors : List ℕ) → ℕ
bits_lost r slot descriptors =
    bit_if (one_loses r loss.Closed descriptors) 1 + bit_if (one_loses r loss.Page descriptors) 2
    + bit_if (one_loses r loss.Terminal descriptors) 4 + bit_if (not (is_some (r.sigs slot))) 8
