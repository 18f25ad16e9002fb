-- The records of an area, read from its words.
use Rattle.std.specs.Prelude.{ℕ, ◌+◌, ◌*◌, ◌^◌, ◌≤◌, Bool, true, false, nat_lt, ◌&&◌, if◌then◌else◌, List, Option, None}
use Rattle.ow_base.specs.Sv32.{WordMap}
use Rattle.record_layouts.specs.declared.memory_map.MemoryMap.{MemoryMap}
use Rattle.record_layouts.specs.declared.intent.Gate.{Gate}
use Rattle.record_layouts.specs.declared.intent.Gate.TheVariants.{Closed, Open, Broken}
use Rattle.record_layouts.specs.declared.places.RecordId.{RecordId}
use Rattle.record_layouts.specs.declared.places.RecordId.TheVariants.{Head, Proc, Sig, Desc, File, Cache, Term, Row, Exit}
use Rattle.record_layouts.specs.Places.{first_word, is_id, length_of}
use Rattle.record_layouts.specs.Overlay.{Area, area_at, gate_of, overlay, words_from}
use Rattle.record_layouts.specs.Records.{Records}
use Rattle.record_layouts.specs.At.{RecOf, read_as}

-- the frames of the area, of the cache and of users have numbers of 32 bits, and users have no more than owners can be
-- named of
pub record FitsMap (map : MemoryMap) : Type 0 where
  pub area : map.area_base + 64 ≤ 2 ^ 32
  pub cache : map.cache_base + 64 ≤ 2 ^ 32
  pub pool : map.pool_base + 384 ≤ 2 ^ 32
  pub user_frames : map.user_frames ≤ 384

-- the words of a record of an area
abbrev pub words_of : Area → RecordId → List ℕ
words_of area id = words_from area (first_word id) (length_of id)

-- a record of this id is looked for: it is one of the layout's, and the head only in an area that is readable
abbrev pub is_read : (is_readable : Bool) → RecordId → Bool
is_read is_readable Head = is_readable
is_read is_readable one = is_id one

-- the record that stands in an area at its place; a file's data sectors are on the disk
abbrev pub record_in : MemoryMap → (is_readable : Bool) → Area → (one : RecordId) → Option (RecOf one)
record_in map is_readable area one = if is_read is_readable one then read_as map.sectors one (words_of area one) else None

-- The records of an area. Frame 10 has the owners of user frames, and from word 960 on those of cache entries; the
-- three tables of each slot stand in the frames from 16 on.
unfoldable pub records_in : MemoryMap → (is_readable : Bool) → Area → Records
records_in map is_readable area = record {
  map = map;
  head = record_in map is_readable area Head;
  procs = λ slot. record_in map is_readable area (Proc slot);
  sigs = λ slot. record_in map is_readable area (Sig slot);
  descs = λ i. record_in map is_readable area (Desc i);
  files = λ i. record_in map is_readable area (File i);
  caches = λ i. record_in map is_readable area (Cache i);
  terms = λ tty. record_in map is_readable area (Term tty);
  rows = λ i. record_in map is_readable area (Row i);
  exits = λ pid. record_in map is_readable area (Exit pid);
  owners = λ i. if nat_lt i map.user_frames then area (10 * 1024 + i) else 0;
  cache_owners = λ i. if nat_lt i 64 then area (10 * 1024 + 960 + i) else 0;
  table_words = λ slot table word.
      if nat_lt slot 16 && nat_lt table 3 && nat_lt word 1024 then area (1024 * (16 + 3 * slot + table) + word) else 0;
}

-- an area can be read but where its gate is open and no valid intent is
abbrev pub is_readable_gate : Gate → Bool
is_readable_gate Closed = true
is_readable_gate Open = true
is_readable_gate Broken = false

-- the records of the area that begins where the map says, with a valid open intent laid over it
unfoldable pub records_of : MemoryMap → WordMap → Records
records_of map words =
    records_in map (is_readable_gate (gate_of (area_at words map.area_base))) (overlay (area_at words map.area_base))
