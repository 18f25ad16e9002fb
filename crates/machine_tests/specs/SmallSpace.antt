-- A space of 64 bytes: code below 32, and values from there. The tests run on it.
use Rattle.std.specs.Prelude.{ℕ, ◌+◌, ◌*◌, ◌/◌, ◌%◌, nat_lt, if◌then◌else◌, List, slice_index, slice_set, Ok, Err}
use Rattle.ow_base.specs.declared.machine.Width.{Width}
use Rattle.ow_base.specs.declared.machine.Width.TheVariants.{Byte, Half, Word}
use Rattle.ow_base.specs.UserStep.{Spaces, fault_at}

-- the number that the bytes of a width make, the lowest byte first
abbrev pub number_at : List ℕ → (address : ℕ) → Width → ℕ
number_at bytes a Byte = slice_index bytes a
number_at bytes a Half = slice_index bytes a + 256 * slice_index bytes (a + 1)
number_at bytes a Word = slice_index bytes a + 256 * slice_index bytes (a + 1)
    + 65536 * slice_index bytes (a + 2) + 16777216 * slice_index bytes (a + 3)

-- the bytes after the low bytes of a value are written
abbrev pub written : List ℕ → (address : ℕ) → Width → (value : ℕ) → List ℕ
written bytes a Byte v = slice_set bytes a (v % 256)
written bytes a Half v = slice_set (slice_set bytes a (v % 256)) (a + 1) (v / 256 % 256)
written bytes a Word v = slice_set (slice_set (slice_set (slice_set bytes a (v % 256)) (a + 1) (v / 256 % 256))
    (a + 2) (v / 65536 % 256)) (a + 3) (v / 16777216)

abbrev pub small_space : Spaces (List ℕ)
small_space = record {
  fetched = λ bytes a. if nat_lt a 32 then Ok (number_at bytes a Word) else Err (fault_at 12 a);
  loaded = λ bytes a width. if nat_lt a 64 then Ok (number_at bytes a width) else Err (fault_at 13 a);
  stored = λ bytes a width v. if nat_lt a 32 then Err (fault_at 15 a) else
      if nat_lt a 64 then Ok (written bytes a width v) else Err (fault_at 15 a);
}
