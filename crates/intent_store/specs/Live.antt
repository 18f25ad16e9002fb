-- What contracts see of the kernel that runs on a plant.
use Rattle.std.specs.Prelude.{◌≡◌, ℕ, ◌+◌, Bool, true, not, ◌&&◌, List, [], length, replicate, is_some, None, IfSome}
use Rattle.std.specs.List.{list_any}
use Rattle.ow_plant.specs.Points.{is_in}
use Rattle.ow_plant.specs.declared.refusal.Refusal.TheVariants as refusal
use Rattle.ow_plant.specs.State.{IsArmed, PlantState, is_refused}
use Rattle.phys_memory.specs.Memory.{MemoryParts, words_of}
use Rattle.record_layouts.specs.declared.memory_map.MemoryMap.{MemoryMap}
pub use Rattle.record_layouts.specs.Halves.{base_of}
use Rattle.record_layouts.specs.Halves.{half_map}
use Rattle.record_layouts.specs.Held.{Held, Records, StaysUnstored, beside}
use Rattle.record_layouts.specs.Overlay.{area_at, gate_of}
use Rattle.record_layouts.specs.Reading.{records_of}
use Rattle.record_layouts.specs.declared.intent.Gate.{Gate}

-- where the frames of the kernel are that runs
abbrev pub map_of : PlantState → MemoryMap
map_of s = half_map s.live s.shape.user_frames s.shape.sectors

-- its records
abbrev pub records_held : PlantState → Records
records_held s = records_of (map_of s) (words_of s.memory)

-- memory of the same size with 0 in each word
abbrev pub blank_words : List ℕ → List ℕ
blank_words words = replicate (length words) 0

unfoldable pub blank : MemoryParts → MemoryParts
blank m = record { boot = blank_words m.boot; a = blank_words m.a; b = blank_words m.b }

-- the plant but for its words, the refusal and the counts of stores
abbrev pub rest_of : PlantState → PlantState
rest_of s = record s { memory = blank s.memory; refusal = None; stores = 0; all_stores = 0 }

-- it is armed, and no refusal stands
abbrev pub is_able : PlantState → Bool
is_able s = s.armed && not (is_refused s)

-- a store may be refused: a panic is to come in the trap that was begun last
abbrev pub may_refuse : PlantState → Bool
may_refuse s = list_any (is_in s.traps) s.points

-- it is armed, and the head decodes
pub record IsStanding (s : PlantState) : Type 0 where
  pub armed : IsArmed s
  pub decodes : is_some (records_held s).head ≡ true

-- It stands, and the end of its trap was not refused: where a refusal stands a store was refused.
pub record IsBeforeEnd (s : PlantState) : Type 0 where
  pub standing : IsStanding s
  pub of_store : IfSome s.refusal (λ one. one ≡ refusal.Store)

-- what it holds; there is no disk yet
abbrev pub held_of : PlantState → Held PlantState
held_of s = record { records = records_held s; contents = beside (records_held s).map.area_base (words_of s.memory); disk = []; rest = rest_of s }

-- where no store is made at the end none was made before, and all that is held is as it was
abbrev pub IsUnstored : (old new : PlantState) → Type 0
IsUnstored old new = StaysUnstored old.stores new.stores (held_of old) (held_of new)

-- what the intent block of the area says
abbrev pub gate_held : PlantState → Gate
gate_held s = gate_of (area_at (words_of s.memory) (map_of s).area_base)
