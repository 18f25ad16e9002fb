-- What a program leaves of memory that stores in its pages alone: the records, the gate of the area, and the pages of
-- all other processes.
use Rattle.std.proofs.Common.{◌≡◌, ◌≢◌, ◌==◌, ◌&&◌, if◌then◌else◌, ℕ, ◌+◌, ◌-◌, ◌/◌, ◌%◌, ◌^◌, ◌<◌, ◌≤◌, true, List, Option, Some, None, inl, inr, refl, sym, ap, ◌∙◌, arith}
use Rattle.std.proofs.lemmas.Bool.{cases_Bool, cases_lt}
use Rattle.std.proofs.lemmas.Bool.Decides.{nat_tests}
use Rattle.ow_base.specs.Sv32.{WordMap, byte_of, word_or_zero}
use Rattle.phys_memory.specs.Memory.{IsSized, words_of, with_word}
use Rattle.phys_memory.proofs.Words.{words_of-set, IsSized-set}
use Rattle.sv32_tables.specs.Spaces.{Mapping, IsWritable}
use Rattle.sv32_tables.proofs.Spaces.{SetsWords, elsewhere}
use Rattle.record_layouts.specs.declared.intent.Gate.TheVariants.{Closed}
use Rattle.record_layouts.specs.declared.memory_map.MemoryMap.{MemoryMap}
use Rattle.record_layouts.specs.declared.proc.ProcRec.{ProcRec}
use Rattle.record_layouts.specs.Held.{Records}
use Rattle.record_layouts.specs.Overlay.{Area, WordRange, area_at, gate_of, gate_word, open_or_broken, open_ranges, or_zero}
use Rattle.record_layouts.specs.Pages.{byte_on, frame_of, is_live, pages_of, region_of}
use Rattle.record_layouts.specs.Proc.{FitsProc}
use Rattle.record_layouts.specs.Reading.{records_of}
use Rattle.record_layouts.specs.Seam.{with_frame_words}
use Rattle.frame_table.specs.Maps.{map_of as pages_map}
use Rattle.frame_table.proofs.Counting.{low_end, region_none}
use Rattle.frame_table.proofs.Found.{frame_found, one_page_each}
use Rattle.frame_table.proofs.Tables.{map_tells}
use Rattle.ow_plant.specs.State.{PlantState, Seen}
use Rattle.ow_plant.proofs.Programs.{root_seen, with_seen, words_seen}
use Rattle.intent_store.specs.Live.{gate_held, map_of, records_held}
use Rattle.intent_store.proofs.Behind.{behind_words_kept}
use Rattle.intent_store.proofs.Holding.{shut_gate}
use Rattle.intent_store.proofs.Plants.{frame_there}

-- no page of a map lies in the frame
abbrev pub IsBesidePages : (map : ℕ → Option Mapping) → (frame : ℕ) → Type 0
IsBesidePages map frame = (page : ℕ) (mapping : Mapping) → map page ≡ Some mapping → mapping.frame ≢ frame

-- words are those of another memory but in the frames of a map's pages
pub record AreKeptBeside (map : ℕ → Option Mapping) (old new : WordMap) : Type 0 where
  pub same : (frame word : ℕ) → IsBesidePages map frame → new frame word ≡ old frame word

-- what a program with these pages leaves of the memory of a plant
pub record IsKept (s : PlantState) (map : ℕ → Option Mapping) (m : Seen) : Type 0 where
  pub sized : IsSized s.shape.user_frames m.memory
  pub records : records_of (map_of s) (words_of m.memory) ≡ records_held s
  pub beside : AreKeptBeside map (words_of s.memory) (words_of m.memory)

-- a word that is set behind the first frame of an area
set_behind : (words after : WordMap) (base frame place value : ℕ) → base ≤ frame
    → ((f w : ℕ) → after f w ≡ (if (f == frame) && (w == place) then Some value else words f w))
    → (number : ℕ) → area_at after base number ≡ with_frame_words (area_at words base) (frame - base) (λ w. w == place) (λ w. value) number
set_behind words after base frame place value from set number =
    ap or_zero (set (base + number / 1024) (number % 1024)) ∙ grind (arith, nat_tests)

module _ (s : PlantState) (map : ℕ → Option Mapping) (few : s.shape.user_frames ≤ 384)
    (behind : (page : ℕ) (mapping : Mapping) → map page ≡ Some mapping → (map_of s).pool_base ≤ mapping.frame) where
  -- a store in a page of the program
  module _ (m : Seen) (frame place value : ℕ) (kept : IsKept s map m) (writable : IsWritable map frame place) (old : ℕ)
      (is : words_of m.memory frame place ≡ Some old) where
    there : (f w : ℕ) → words_of (with_word m.memory frame place value) f w ≡ (if (f == frame) && (w == place) then Some value else words_of m.memory f w)
    there f w = words_of-set m.memory frame place value f w (frame_there m.memory frame place (rw is refl)) writable.within

    far : (map_of s).pool_base ≤ frame
    far = let low = behind writable.page writable.mapping writable.there in omega (arith, low, writable.at)

    still_kept : IsKept s map (with_seen m frame place value)
    still_kept = record {
      sized = IsSized-set s.shape.user_frames m.memory frame place value kept.sized;
      records = behind_words_kept (map_of s) few (words_of m.memory) (words_of (with_word m.memory frame place value)) (frame - (map_of s).area_base)
          (λ w. w == place) (λ w. value) (omega (arith, far))
          (set_behind (words_of m.memory) (words_of (with_word m.memory frame place value)) (map_of s).area_base frame place value (omega (arith, far)) there)
          ∙ kept.records;
      beside = record {
        same = λ f w apart.
            let other : f ≢ frame = λ equal. apart writable.page writable.mapping writable.there (writable.at ∙ sym equal) in
            there f w ∙ (elsewhere f w frame place (Some value) (words_of m.memory f w) (inl other) ∙ kept.beside.same f w apart);
      };
    }

  pub sets_kept : SetsWords words_seen root_seen with_seen (IsKept s map) map
  sets_kept = record {
    set = λ m frame place value f w kept writable old is. there m frame place value kept writable old is f w;
    kept = λ m frame place value kept writable old is. still_kept m frame place value kept writable old is;
    same_satp = λ m frame place value. refl;
  }

-- memory as it is
pub kept_first : (s : PlantState) (map : ℕ → Option Mapping) → IsSized s.shape.user_frames s.memory → IsKept s map (record { memory = s.memory; satp = s.satp })
kept_first s map sized = record { sized = sized; records = refl; beside = record { same = λ frame word apart. refl } }

-- an intent is open or broken where the gate is not shut
not_closed : (ranges : Option (List WordRange)) → open_or_broken ranges ≡ Closed → ⊥
not_closed (Some ranges) e = cc
not_closed None e = cc

gate_zero : (area : Area) → gate_of area ≡ Closed → area gate_word ≡ 0
gate_zero area e = elim (cases_Bool (area gate_word == 0)) [
  | inl zero ↦ grind (arith, nat_tests)
  | inr other ↦ absurd (not_closed (open_ranges area) (rw other at e))
]

-- the gate stays shut
pub gate_stays : (s new : PlantState) (map : ℕ → Option Mapping)
    → ((page : ℕ) (mapping : Mapping) → map page ≡ Some mapping → (map_of s).pool_base ≤ mapping.frame)
    → gate_held s ≡ Closed → AreKeptBeside map (words_of s.memory) (words_of new.memory) → map_of new ≡ map_of s → gate_held new ≡ Closed
gate_stays s new map behind shut kept maps =
    let base = (map_of s).area_base in
    let apart : IsBesidePages map (base + gate_word / 1024) = λ page mapping e same. let low = behind page mapping e in absurd (omega (arith, low, same)) in
    let zero : area_at (words_of s.memory) base gate_word ≡ 0 = gate_zero (area_at (words_of s.memory) base) shut in
    let now : area_at (words_of new.memory) base gate_word ≡ 0 = ap or_zero (kept.same (base + gate_word / 1024) (gate_word % 1024) apart) ∙ zero in
    shut_gate new base (sym (ap (λ (m : MemoryMap). m.area_base) maps)) now

-- a page of a process has a number below 2^20
page_small : (r : Records) (slot : ℕ) (process : ProcRec) (page frame : ℕ) → FitsProc process → is_live process ≡ true
    → frame_of r slot process page ≡ Some frame → page < 2 ^ 20
page_small r slot process page frame fits live found = elim (cases_lt page (2 ^ 20)) [
  | inl small ↦ small
  | inr large ↦
      let end = low_end process fits live in
      let none : region_of process page ≡ None = region_none process page (inr (omega (arith, end))) (inr (omega arith)) in
      let has = frame_found r slot process page frame found in
      let both : Some has.rights ≡ None = sym has.held ∙ none in
      absurd (cc both)
]

-- what one process leaves of the pages of another
module _ (r : Records) (words after : WordMap) (slot other : ℕ) (process its : ProcRec) (apart : other ≢ slot)
    (fits : FitsProc process) (live : is_live process ≡ true) (its_fits : FitsProc its) (its_live : is_live its ≡ true)
    (kept : AreKeptBeside (pages_map r slot process) words after) where
  beside_frame : (page frame : ℕ) → frame_of r other its page ≡ Some frame → IsBesidePages (pages_map r slot process) frame
  beside_frame page frame found own mapping e same =
      let lies = (map_tells r slot process own mapping e).0 in
      let both : frame_of r slot process own ≡ Some frame = lies ∙ ap Some same in
      let small = page_small r slot process own frame fits live both in
      let too = page_small r other its page frame its_fits its_live found in
      let one = one_page_each r slot other own page frame process its small too both found in
      apart (sym one.0)

  byte_stays : (page offset : ℕ) (held : Option ℕ) → frame_of r other its page ≡ held → byte_on after offset held ≡ byte_on words offset held
  byte_stays page offset None found = refl
  byte_stays page offset (Some frame) found =
      ap (λ (word : Option ℕ). byte_of (word_or_zero word) (offset % 4)) (kept.same frame (offset / 4) (beside_frame page frame found))

  pub pages_stay : pages_of r after other its ≡ pages_of r words other its
  unfolding pages_of
  pages_stay = λ i. record { rights = region_of its; bytes = λ a. byte_stays (a / 4096) (a % 4096) (frame_of r other its (a / 4096)) refl i }
