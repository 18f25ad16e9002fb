-- Sources and sinks in memory: what contracts see of them, and what one call makes of them.
use Rattle.std.specs.Prelude.{◌≡◌, ◌≢◌, ℕ, ◌+◌, ◌-◌, ◌^◌, Bool, nat_lt, ◌==◌, ◌&&◌, if◌then◌else◌, min, List, ◌++◌, length, drop}
use Rattle.std.specs.List.{list_any}

-- a source: the bytes that are left, the numbers of the calls that fail, how many calls were counted, how
-- often it has failed, and how many bytes one call may give (0: any number)
pub record Reading : Type 0 where
  pub left : List ℕ
  pub fails : List ℕ
  pub calls : ℕ
  pub faults : ℕ
  pub pace : ℕ

-- a sink: the bytes that were written, how many bytes its room has, and the rest as of a source
pub record Writing : Type 0 where
  pub written : List ℕ
  pub room : ℕ
  pub fails : List ℕ
  pub calls : ℕ
  pub faults : ℕ
  pub pace : ℕ

-- a sink that fails only where its room is full
pub record Filling : Type 0 where
  pub written : List ℕ
  pub room : ℕ
  pub faults : ℕ

-- the next call fails: it is counted, and its number, from 1, is listed
abbrev pub is_failing : (fails : List ℕ) → (calls : ℕ) → Bool
is_failing fails calls = nat_lt calls (2 ^ 32 - 1) && list_any (λ n. n == calls + 1) fails

-- how many calls are counted after one more; those past number 2^32 - 1 are not
abbrev pub counted : (calls : ℕ) → ℕ
counted calls = min (calls + 1) (2 ^ 32 - 1)

-- the count of faults after one more
abbrev pub next_count : (faults : ℕ) → ℕ
next_count faults = min (faults + 1) (2 ^ 64 - 1)

-- how many bytes of so many one call may move
abbrev pub paced : (pace count : ℕ) → ℕ
paced pace count = if pace == 0 then count else min pace count

-- a piece that is not empty finds the room full
abbrev pub IsStuck : (piece written : List ℕ) → (room : ℕ) → Type 0
IsStuck piece written room = (length piece ≢ 0) × (length written ≡ room)

-- how many bytes a call gives to a buffer of this size
abbrev pub read_count : Reading → (size : ℕ) → ℕ
read_count r size = min (paced r.pace size) (length r.left)

-- a source after a call that gave so many bytes
abbrev pub after_read : Reading → (count : ℕ) → Reading
after_read r count = record r { left = drop count r.left; calls = counted r.calls }

-- a source after a call that failed
abbrev pub after_failed_read : Reading → Reading
after_failed_read r = record r { calls = counted r.calls; faults = next_count r.faults }

-- how many bytes of a piece a call takes
abbrev pub write_count : Writing → (size : ℕ) → ℕ
write_count w size = min (paced w.pace size) (w.room - length w.written)

-- a sink after a call that took these bytes
abbrev pub after_write : Writing → (bytes : List ℕ) → Writing
after_write w bytes = record w { written = w.written ++ bytes; calls = counted w.calls }

-- a sink after a call that failed
abbrev pub after_failed_write : Writing → Writing
after_failed_write w = record w { calls = counted w.calls; faults = next_count w.faults }

-- how many bytes of a piece a sink takes that fails only where its room is full
abbrev pub fill_count : Filling → (size : ℕ) → ℕ
fill_count f size = min size (f.room - length f.written)

-- that sink after a call that took these bytes
abbrev pub after_fill : Filling → (bytes : List ℕ) → Filling
after_fill f bytes = record f { written = f.written ++ bytes }

-- that sink after a call that failed
abbrev pub after_failed_fill : Filling → Filling
after_failed_fill f = record f { faults = next_count f.faults }
