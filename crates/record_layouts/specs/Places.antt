-- Where the records of an area lie. The words of an area are numbered through its frames: word w of frame f has the
-- number 1024 * f + w.
use Rattle.std.specs.Prelude.{ℕ, ◌+◌, ◌-◌, ◌*◌, ◌<◌, ◌≤◌, ◌⊎◌, Bool, true, nat_lt}
use Rattle.record_layouts.specs.declared.places.RecordId.{RecordId}
use Rattle.record_layouts.specs.declared.places.RecordId.TheVariants.{Head, Proc, Sig, Desc, File, Cache, Term, Row, Exit}
use Rattle.record_layouts.specs.Spelling.{lies_between}

-- an area has such a record
abbrev pub IsRecordId : RecordId → Type 0
IsRecordId Head = Unit {0}
IsRecordId (Proc slot) = slot < 16
IsRecordId (Sig slot) = slot < 16
IsRecordId (Desc index) = index < 32
IsRecordId (File index) = index < 32
IsRecordId (Cache index) = index < 64
IsRecordId (Term terminal) = terminal < 2
IsRecordId (Row index) = index < 48
IsRecordId (Exit pid) = (1 ≤ pid) × (pid ≤ 256)

-- the same as a test
abbrev pub is_id : RecordId → Bool
is_id Head = true
is_id (Proc slot) = nat_lt slot 16
is_id (Sig slot) = nat_lt slot 16
is_id (Desc index) = nat_lt index 32
is_id (File index) = nat_lt index 32
is_id (Cache index) = nat_lt index 64
is_id (Term terminal) = nat_lt terminal 2
is_id (Row index) = nat_lt index 48
is_id (Exit pid) = lies_between 1 256 pid

-- how many words it has
abbrev pub length_of : RecordId → ℕ
length_of Head = 16
length_of (Proc slot) = 128
length_of (Sig slot) = 32
length_of (Desc index) = 16
length_of (File index) = 96
length_of (Cache index) = 8
length_of (Term terminal) = 16
length_of (Row index) = 24
length_of (Exit pid) = 4

-- the number of its first word. Signal records share frame 3 with descriptions, and cache records frame 7 with
-- terminals; the others begin with a frame of their own
abbrev pub first_word : RecordId → ℕ
first_word Head = 0
first_word (Proc slot) = 1024 * 1 + 128 * slot
first_word (Sig slot) = 1024 * 3 + 32 * slot
first_word (Desc index) = 1024 * 3 + 32 * 16 + 16 * index
first_word (File index) = 1024 * 4 + 96 * index
first_word (Cache index) = 1024 * 7 + 8 * index
first_word (Term terminal) = 1024 * 7 + 8 * 64 + 16 * terminal
first_word (Row index) = 1024 * 8 + 24 * index
first_word (Exit pid) = 1024 * 11 + 4 * (pid - 1)

-- the words of the two have no word in common
abbrev pub AreApart : RecordId → RecordId → Type 0
AreApart one other = (first_word one + length_of one ≤ first_word other) ⊎ (first_word other + length_of other ≤ first_word one)
