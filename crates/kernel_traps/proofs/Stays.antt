-- The state that records stand for depends on no words but those beside the area; and what is known of the records that
-- a plant holds.
use Rattle.std.proofs.Common.{◌≡◌, ◌∙◌, ◌+◌, ◌≤◌, ℕ, nat_lt, if◌then◌else◌, List, length, take, drop, Some, None, inl, inr, refl, sym, ap, arith}
use Rattle.std.proofs.lemmas.Bool.{cases_Bool}
use Rattle.std.proofs.lemmas.Bool.Decides.{nat_tests}
use Rattle.std.proofs.lemmas.Grind.{common_steps}
use Rattle.ow_base.specs.Sv32.{WordMap}
use Rattle.phys_memory.specs.Memory.{words_of}
use Rattle.record_layouts.specs.declared.memory_map.MemoryMap.{MemoryMap}
use Rattle.record_layouts.specs.declared.proc.ProcRec.{ProcRec}
use Rattle.record_layouts.specs.Held.{Records, beside, is_of_area}
use Rattle.record_layouts.specs.Pages.{pages_of}
use Rattle.record_layouts.specs.Sound.{AreSound}
use Rattle.record_layouts.specs.Decode.{Context, unix_of}
use Rattle.record_layouts.specs.Proc.{proc_in}
use Rattle.record_layouts.specs.Reading.{records_in, records_of}
use Rattle.record_layouts.proofs.Reading.{proc_is}
use Rattle.record_layouts.proofs.Words.{pages_same, unix_by_words}
use Rattle.ow_plant.specs.State.{IsArmed, PlantState}
use Rattle.frame_table.proofs.Users.{free_or_pages}
use Rattle.syscalls.specs.Done.{AreCountedFrames}
use Rattle.intent_store.specs.Live.{map_of, records_held}
use Rattle.intent_store.specs.OfMemory.{of_memory}

-- the user frames lie behind the area
abbrev pub HasRoomForArea : Records → Type 0
HasRoomForArea r = r.map.area_base + 64 ≤ r.map.pool_base

word_beside : (base frame : ℕ) (words : WordMap) (word : ℕ) → base + 64 ≤ frame → words frame word ≡ beside base words frame word
unfolding beside
word_beside base frame words word behind = grind (arith, nat_tests)

-- the state is the same where the words beside the area are
pub unix_same : (r : Records) (words others : WordMap) → HasRoomForArea r → beside r.map.area_base words ≡ beside r.map.area_base others
    → (tapes : ℕ → List ℕ) (context : Context) (steps traps : ℕ) → unix_of r words tapes context steps traps ≡ unix_of r others tapes context steps traps
unix_same r words others room same = unix_by_words r words others room (λ frame word behind.
    word_beside r.map.area_base frame words word behind ∙ ap (λ (f : WordMap). f frame word) same ∙ sym (word_beside r.map.area_base frame others word behind))

-- the map of a plant
pub map_held : (s : PlantState) → (records_held s).map ≡ map_of s
unfolding records_of records_in
map_held s = refl

pub room_held : (s : PlantState) → HasRoomForArea (records_held s)
unfolding records_of records_in
room_held s = omega arith

-- the words of a plant beside its area
abbrev pub contents_of : PlantState → WordMap
contents_of s = beside (records_held s).map.area_base (words_of s.memory)

twice_at : (base : ℕ) (words : WordMap) (frame word : ℕ) → beside base (beside base words) frame word ≡ beside base words frame word
unfolding beside
twice_at base words frame word = elim (cases_Bool (is_of_area base frame)) [ inl of ↦ rw of refl | inr other ↦ rw other refl ]

-- the state by these words, and the pages by them
pub unix_beside : (s : PlantState) (tapes : ℕ → List ℕ) (context : Context) (steps traps : ℕ)
    → unix_of (records_held s) (contents_of s) tapes context steps traps ≡ unix_of (records_held s) (words_of s.memory) tapes context steps traps
unix_beside s tapes context steps traps =
    unix_same (records_held s) (contents_of s) (words_of s.memory) (room_held s) (λ i frame word. twice_at (records_held s).map.area_base (words_of s.memory) frame word i) tapes context steps traps

pub pages_beside : (s : PlantState) (slot : ℕ) (process : ProcRec) → pages_of (records_held s) (words_of s.memory) slot process ≡ pages_of (records_held s) (contents_of s) slot process
pages_beside s slot process = pages_same (records_held s) (words_of s.memory) (contents_of s) (room_held s)
    (λ frame word behind. word_beside (records_held s).map.area_base frame (words_of s.memory) word behind) slot process

-- the free user frames and the pages are all user frames
pub counted_frames : (s : PlantState) → IsArmed s → AreSound (records_held s) → AreCountedFrames (records_held s)
counted_frames s armed sound = free_or_pages (records_held s) (words_of s.memory) (of_memory s armed) sound.values sound.mapped.mapped

-- a process has eight words of descriptors
eight_words : (words descs : List ℕ) → length words ≡ 128 → take 8 (drop 13 words) ≡ descs → length descs ≡ 8
eight_words words descs long is = sym (ap (λ (ws : List ℕ). length ws) is) ∙ grind (arith, common_steps, long)

eight_if : (slot : ℕ) (read : List ℕ) (process : ProcRec) → (if nat_lt slot 16 then proc_in read else None) ≡ Some process → length process.descs ≡ 8
eight_if slot read process there = elim (cases_Bool (nat_lt slot 16)) [
  | inl low ↦ let is = proc_is read process (rw low at there) in eight_words read process.descs is.long is.descs
  | inr high ↦ let none : None ≡ Some process = rw high at there in cc
]

pub eight_held : (s : PlantState) (slot : ℕ) (process : ProcRec) → (records_held s).procs slot ≡ Some process → length process.descs ≡ 8
unfolding records_of records_in
eight_held s slot process there = eight_if slot _ process there

-- a view of a plant is of the records that are held
pub view_is : (s source : PlantState) (map : MemoryMap) → source ≡ s → map ≡ map_of s → records_of map (words_of source.memory) ≡ records_held s
view_is s source map same is = λ i. records_of (is i) (words_of (same i).memory)
