-- How many stores a new kernel takes at most: each word of it is stored once.
use Rattle.std.specs.Prelude.{ℕ, ◌+◌, ◌-◌, ◌*◌, nat_lt, if◌then◌else◌}

-- the words of a frame: of a table, of the owners, and of a page
abbrev pub frame_words : ℕ
frame_words = 1024

-- those of the three tables of a slot, and of all sixteen slots
abbrev pub slot_words : ℕ
slot_words = 3 * frame_words

abbrev pub tables_words : ℕ
tables_words = 16 * slot_words

-- how many words the records have whose number is below this one: the head, 16 processes, 16 records of signals, 32
-- descriptions, 32 files, 64 entries of the cache, 2 terminals, 48 rows, and 256 exits
unfoldable pub words_below : (number : ℕ) → ℕ
words_below number =
    if nat_lt number 1 then 0
    else if nat_lt number 17 then 16 + 128 * (number - 1)
    else if nat_lt number 33 then 2064 + 32 * (number - 17)
    else if nat_lt number 65 then 2576 + 16 * (number - 33)
    else if nat_lt number 97 then 3088 + 96 * (number - 65)
    else if nat_lt number 161 then 6160 + 8 * (number - 97)
    else if nat_lt number 163 then 6672 + 16 * (number - 161)
    else if nat_lt number 211 then 6704 + 24 * (number - 163)
    else 7856 + 4 * (number - 211)

-- and those of all records
abbrev pub record_words : ℕ
record_words = 16 + 16 * 128 + 16 * 32 + 32 * 16 + 32 * 96 + 64 * 8 + 2 * 16 + 48 * 24 + 256 * 4

-- the gate of the intent block, the records, the tables and the owners
abbrev pub most_in_area : ℕ
most_in_area = 1 + record_words + tables_words + frame_words

-- the pages in so many user frames
abbrev pub most_in_pages : (user_frames : ℕ) → ℕ
most_in_pages user_frames = frame_words * user_frames

-- a kernel with so many user frames
abbrev pub most_built : (user_frames : ℕ) → ℕ
most_built user_frames = most_in_area + most_in_pages user_frames
