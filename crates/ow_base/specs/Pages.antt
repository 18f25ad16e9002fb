-- The pages of a process, as bytes at addresses.
use Rattle.std.specs.Prelude.{ℕ, zero, suc, ◌+◌, ◌-◌, ◌*◌, ◌/◌, ◌%◌, ◌^◌, Bool, true, nat_lt, nat_le, ◌&&◌, if◌then◌else◌, List, [], ◌∷◌, Result, Ok, Err, Option, Some, None, is_some}
use Rattle.ow_base.specs.declared.machine.Width.{Width}
use Rattle.ow_base.specs.declared.machine.Width.TheVariants.{Byte, Half, Word}
use Rattle.ow_base.specs.declared.machine.Fault.{Fault}
use Rattle.ow_base.specs.declared.machine.Rights.{Rights}
use Rattle.ow_base.specs.declared.machine.Rights.TheVariants.{Code, Values}
use Rattle.ow_base.specs.UserStep.{Spaces, size_of, fault_at}

-- the rights of each page that there is, by its number (the address / 4096), and the byte at each address;
-- it is 0 where there is no page
pub record Pages : Type 0 where
  pub rights : ℕ → Option Rights
  pub bytes : ℕ → ℕ

-- the rights at an address
abbrev pub rights_at : Pages → (address : ℕ) → Option Rights
rights_at pages address = pages.rights (address / 4096)

-- the number that the bytes of a width make, the lowest byte first
abbrev pub value_at : (bytes : ℕ → ℕ) → (address : ℕ) → Width → ℕ
value_at bytes a Byte = bytes a
value_at bytes a Half = bytes a + 256 * bytes (a + 1)
value_at bytes a Word = bytes a + 256 * bytes (a + 1) + 65536 * bytes (a + 2) + 16777216 * bytes (a + 3)

-- the bytes after the low bytes of a value are written at an address
abbrev pub with_value : (bytes : ℕ → ℕ) → (address : ℕ) → Width → (value : ℕ) → ℕ → ℕ
with_value bytes address width value a =
    if nat_le address a && nat_lt a (address + size_of width) then value / 256 ^ (a - address) % 256 else bytes a

abbrev pub fetched_from : (bytes : ℕ → ℕ) → (address : ℕ) → Option Rights → Result ℕ Fault
fetched_from bytes a (Some Code) = Ok (value_at bytes a Word)
fetched_from bytes a (Some Values) = Err (fault_at 12 a)
fetched_from bytes a None = Err (fault_at 12 a)

abbrev pub loaded_from : (bytes : ℕ → ℕ) → (address : ℕ) → Width → Option Rights → Result ℕ Fault
loaded_from bytes a width (Some rights) = Ok (value_at bytes a width)
loaded_from bytes a width None = Err (fault_at 13 a)

abbrev pub stored_in : Pages → (address : ℕ) → Width → (value : ℕ) → Option Rights → Result Pages Fault
stored_in pages a width value (Some Values) = Ok (record { rights = pages.rights; bytes = with_value pages.bytes a width value })
stored_in pages a width value (Some Code) = Err (fault_at 15 a)
stored_in pages a width value None = Err (fault_at 15 a)

-- a fetch needs a code page, a load any page, a store a page of values; else it is a page fault at the address
unfoldable pub page_space : Spaces Pages
page_space = record {
  fetched = λ pages a. fetched_from pages.bytes a (rights_at pages a);
  loaded = λ pages a width. loaded_from pages.bytes a width (rights_at pages a);
  stored = λ pages a width value. stored_in pages a width value (rights_at pages a);
}

-- each of so many bytes from an address on lies in a page
unfoldable pub is_readable : Pages → (address count : ℕ) → Bool
is_readable pages address zero = true
is_readable pages address (suc n) = is_some (rights_at pages address) && is_readable pages (address + 1) n

-- so many bytes from an address on
unfoldable pub bytes_at : Pages → (address count : ℕ) → List ℕ
bytes_at pages address zero = []
bytes_at pages address (suc n) = pages.bytes address ∷ bytes_at pages (address + 1) n
