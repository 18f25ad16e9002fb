-- What calls make of the pages of a process.
use Rattle.std.specs.Prelude.{ℕ, ◌+◌, ◌-◌, ◌*◌, ◌/◌, ◌%◌, Bool, true, false, not, ◌==◌, ◌&&◌, if◌then◌else◌, List, length, slice_index, Option, Some, None, is_some}
use Rattle.ow_base.specs.Pages.{Pages, rights_at}
use Rattle.ow_base.specs.Sv32.{byte_of}
use Rattle.ow_base.specs.declared.machine.Rights.{Rights}
use Rattle.ow_base.specs.declared.machine.Rights.TheVariants.{Code, Values}
use Rattle.record_layouts.specs.Unix.State.{Process, count_from, is_within, least_from, most_pids, sum_from}

-- so many pages from one on are new: pages of values of which each byte is 0
unfoldable pub with_zero_pages : Pages → (first count : ℕ) → Pages
with_zero_pages pages first count = record {
  rights = λ page. if is_within first count page then Some Values else pages.rights page;
  bytes = λ a. if is_within first count (a / 4096) then 0 else pages.bytes a;
}

-- bytes are written from an address on
unfoldable pub with_bytes : Pages → (address : ℕ) → List ℕ → Pages
with_bytes pages address bytes = record {
  rights = pages.rights;
  bytes = λ a. if is_within address (length bytes) a then slice_index bytes (a - address) else pages.bytes a;
}

-- a word is stored at an address
unfoldable pub with_word : Pages → (address value : ℕ) → Pages
with_word pages address value = record {
  rights = pages.rights;
  bytes = λ a. if is_within address 4 a then byte_of value (a - address) else pages.bytes a;
}

-- a word can be stored at an address: it is a multiple of four in a page that can be written
abbrev pub are_values : Option Rights → Bool
are_values (Some Values) = true
are_values (Some Code) = false
are_values None = false

abbrev pub takes_word : Pages → (address : ℕ) → Bool
takes_word pages address = address % 4 == 0 && are_values (rights_at pages address)

-- how many pages a process has: they lie below 0x00400000, but for the four of its stack
abbrev pub pages_of_one : Option Process → ℕ
pages_of_one (Some p) = count_from (λ page. is_some (p.pages.rights page)) 0 1024 + count_from (λ page. is_some (p.pages.rights page)) 0x7fffc 4
pages_of_one None = 0

-- how many all live processes have
unfoldable pub pages_of_all : (processes : ℕ → Option Process) → ℕ
pages_of_all processes = sum_from (λ pid. pages_of_one (processes pid)) 1 most_pids

-- the page behind the heap: the least from page 16 on that there is not
abbrev pub or_last : Option ℕ → ℕ
or_last (Some page) = page
or_last None = 1024

unfoldable pub heap_end : Pages → ℕ
heap_end pages = or_last (least_from (λ page. not (is_some (pages.rights page))) 16 1008)

-- the pages into which so many bytes of heap reach
abbrev pub heap_pages : (bytes : ℕ) → ℕ
heap_pages bytes = (bytes + 4095) / 4096

-- the address of the break
unfoldable pub break_of : Process → ℕ
break_of p = 4096 * (heap_end p.pages - heap_pages p.brk) + p.brk
