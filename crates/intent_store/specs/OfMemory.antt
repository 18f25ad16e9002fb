-- The records of a kernel that runs are of the words of its memory.
use Rattle.std.proofs.Common.{◌≡◌, ℕ, ◌+◌, ◌*◌, ◌/◌, ◌%◌, ◌^◌, ◌<◌, ◌≤◌, true, false, ◌&&◌, nat_lt, Option, Some, None, is_some, refl, sym, ap, ◌∙◌, arith}
use Rattle.std.proofs.lemmas.Bool.Decides.{nat_tests}
use Rattle.ow_base.specs.declared.machine.AreaId.{AreaId}
use Rattle.ow_base.specs.declared.machine.AreaId.TheVariants.{A, B}
use Rattle.phys_memory.specs.Memory.{words_of}
use Rattle.phys_memory.proofs.Words.{frame_count-sized, words_of-some}
use Rattle.record_layouts.specs.Memory.{AreOfMemory}
use Rattle.record_layouts.specs.Overlay.{HasArea, area_at, may_change, or_zero}
use Rattle.record_layouts.specs.Pages.{table_frame}
use Rattle.record_layouts.specs.Reading.{records_in, records_of}
use Rattle.record_layouts.proofs.Intents.{overlay-beside}
use Rattle.ow_plant.specs.State.{PlantState, IsArmed}
use Rattle.intent_store.specs.Live.{base_of, map_of, records_held}

-- an armed plant has the area of the kernel that runs
base_fits : (live : AreaId) (u frame : ℕ) → u ≤ 384 → frame < 64 → base_of live u + frame < 1 + 2 * (128 + u)
base_fits A u frame few low = omega arith
base_fits B u frame few low = omega arith

base_room : (live : AreaId) (u : ℕ) → u ≤ 384 → base_of live u + 64 ≤ 4294967296
base_room A u few = omega arith
base_room B u few = omega arith

area_there : (s : PlantState) → IsArmed s → (frame word : ℕ) → frame < 64 → word < 1024 → is_some (words_of s.memory ((map_of s).area_base + frame) word) ≡ true
unfolding words_of
area_there s is frame word low fits =
    let u = s.shape.user_frames in
    let below = base_fits s.live u frame is.few_frames low in
    let count = frame_count-sized u s.memory is.sized in
    grind (arith, nat_tests, below, count)

pub has_area : (s : PlantState) → IsArmed s → HasArea (words_of s.memory) (map_of s).area_base
has_area s is = record { numbered = base_room s.live s.shape.user_frames is.few_frames; there = area_there s is }

-- a word that is there is the word of its area
some_word : (found : Option ℕ) → is_some found ≡ true → found ≡ Some (or_zero found)
some_word (Some word) there = refl
some_word None there = grind arith

-- the user frames follow the cache's in each half, and lie in memory
users_fit : (live : AreaId) (user_frames i : ℕ) → i < user_frames → base_of live user_frames + 128 + i < 1 + 2 * (128 + user_frames)
users_fit A user_frames i below = omega arith
users_fit B user_frames i below = omega arith

users_small : (live : AreaId) (user_frames : ℕ) → user_frames ≤ 384 → base_of live user_frames + 128 + user_frames ≤ 2 ^ 22
users_small A user_frames few = omega arith
users_small B user_frames few = omega arith

module _ (s : PlantState) (armed : IsArmed s) where
  -- the frames of users are whole
  users_whole : (i word : ℕ) → i < s.shape.user_frames → word < 1024 → is_some (words_of s.memory ((map_of s).pool_base + i) word) ≡ true
  users_whole i word below small =
      let count = frame_count-sized s.shape.user_frames s.memory armed.sized in
      let fits = users_fit s.live s.shape.user_frames i below in
      words_of-some s.memory ((map_of s).pool_base + i) word (omega (arith, count, fits)) small

  -- no intent changes a word of a table
  table_word : (slot table word : ℕ) → slot < 16 → table < 3 → word < 1024
      → (records_held s).table_words slot table word ≡ area_at (words_of s.memory) (map_of s).area_base (1024 * (16 + 3 * slot + table) + word)
  unfolding records_of records_in
  table_word slot table word low few small =
      let number : ℕ = 1024 * (16 + 3 * slot + table) + word in
      let stays : may_change number (number + 1) ≡ false = grind (arith, nat_tests) in
      let inside : (nat_lt slot 16 && nat_lt table 3 && nat_lt word 1024) ≡ true = grind (arith, nat_tests) in
      rw inside (overlay-beside (area_at (words_of s.memory) (map_of s).area_base) number stays)

  tables_there : (slot table word : ℕ) → slot < 16 → table < 3 → word < 1024
      → words_of s.memory ((map_of s).area_base + table_frame slot table) word ≡ Some ((records_held s).table_words slot table word)
  tables_there slot table word low few small =
      let number : ℕ = 1024 * (16 + 3 * slot + table) + word in
      let frame : number / 1024 ≡ 16 + 3 * slot + table = omega arith in
      let place : number % 1024 ≡ word = omega arith in
      let there = (has_area s armed).there (16 + 3 * slot + table) word (omega arith) small in
      let held : area_at (words_of s.memory) (map_of s).area_base number
      ≡ or_zero (words_of s.memory ((map_of s).area_base + (16 + 3 * slot + table)) word) = rw (frame, place) refl in
      some_word _ there ∙ ap Some (sym (table_word slot table word low few small ∙ held))

  no_owner : (i : ℕ) → s.shape.user_frames ≤ i → (records_held s).owners i ≡ 0
  unfolding records_of records_in
  no_owner i behind = grind (arith, nat_tests)

-- the words of the tables are those of memory, and so are the frames of users
pub of_memory : (s : PlantState) → IsArmed s → AreOfMemory (records_held s) (words_of s.memory)
unfolding records_of records_in
of_memory s armed = record {
  area = has_area s armed;
  few = armed.few_frames;
  tables = tables_there s armed;
  whole = users_whole s armed;
  no_owner = no_owner s armed;
  apart = omega arith;
  fits = users_small s.live s.shape.user_frames armed.few_frames;
}
