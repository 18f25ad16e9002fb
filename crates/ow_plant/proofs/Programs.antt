-- A program whose page tables map distinct frames steps on the plant as on its pages.
use Rattle.std.proofs.Common.{◌≡◌, ℕ, ◌^◌, ◌<◌, Bool, true, false, List, Option, Some, refl, ap, MatchBool, arith}
use Rattle.std.proofs.lemmas.Bool.Decides.{nat_tests}
use Rattle.ow_base.specs.Pages.{page_space}
use Rattle.ow_base.specs.Sv32.{WordMap, pages_by}
use Rattle.ow_base.specs.UserStep.{Stepped, Next, Call, Faulted, user_step}
use Rattle.ow_base.proofs.Simulations.{Follows}
use Rattle.phys_memory.specs.Memory.{MemoryParts, IsSized, frame_count, words_of, with_word}
use Rattle.phys_memory.proofs.Words.{words_of-set, IsSized-set}
use Rattle.sv32_tables.specs.Spaces.{Mapping, IsMapped, satp_of}
use Rattle.sv32_tables.proofs.Spaces.{IsSpaceOf, SetsWords, steps_follow}
use Rattle.ow_plant.specs.State.{PlantState, Seen, seen_space, StepsAs, TakesUserTurn}
use Rattle.ow_plant.specs.declared.UserEnd.{UserEnd}
use Rattle.ow_plant.specs.declared.UserEnd.TheVariants as end

-- the words, the root and the setting of a word, and that memory has its size
abbrev pub words_seen : Seen → WordMap
words_seen m = words_of m.memory

abbrev pub root_seen : Seen → ℕ
root_seen m = m.satp

abbrev pub with_seen : Seen → (frame place value : ℕ) → Seen
with_seen m frame place value = record m { memory = with_word m.memory frame place value }

abbrev pub IsSeenSized : (user_frames : ℕ) → Seen → Type 0
IsSeenSized user_frames m = IsSized user_frames m.memory

-- there is a word only in a frame that is there
there : (m : MemoryParts) (frame place old : ℕ) → words_of m frame place ≡ Some old → frame < frame_count m
unfolding words_of
there m frame place old h = grind (arith, nat_tests)

seen_sets : (user_frames : ℕ) (map : ℕ → Option Mapping) → SetsWords words_seen root_seen with_seen (IsSeenSized user_frames) map
seen_sets user_frames map = record {
  set = λ m frame place value f w fits writable old is. words_of-set m.memory frame place value f w (there m.memory frame place old is) writable.within;
  kept = λ m frame place value fits writable old is. IsSized-set user_frames m.memory frame place value fits;
  same_satp = λ m frame place value. refl;
}

-- what a step leaves: memory of its size, tables as they were, and the pages that the words now give
pub steps_on_pages : (user_frames : ℕ) (m : Seen) (regs : List ℕ) (pc root : ℕ) (map : ℕ → Option Mapping) → IsSized user_frames m.memory → IsMapped (words_of m.memory) root map → m.satp ≡ satp_of root → pc < 2 ^ 32
    → Follows (IsSpaceOf words_seen root_seen with_seen (IsSeenSized user_frames) root map) seen_space page_space (user_step seen_space regs pc m) (user_step page_space regs pc (pages_by (words_of m.memory) m.satp))
unfolding seen_space
steps_on_pages user_frames m regs pc root map sized mapped on small =
    steps_follow words_seen root_seen with_seen (IsSeenSized user_frames) (seen_sets user_frames map) m regs pc sized mapped on small

-- a turn leaves the plant armed
armed_by : (old new : PlantState) (result : UserEnd) (made : Stepped Seen) → StepsAs old new result made → new.armed ≡ old.armed
armed_by old new result (Next regs pc seen) m = ap (λ (s : PlantState). s.armed) m.1
armed_by old new result Call m = ap (λ (s : PlantState). s.armed) m.1
armed_by old new result (Faulted fault) m = ap (λ (s : PlantState). s.armed) m.1

armed_or : (old new : PlantState) (result : UserEnd) (going : Bool) (made : Stepped Seen) → MatchBool going (StepsAs old new result made) ((result ≡ end.Slice) × (new ≡ old)) → new.armed ≡ old.armed
armed_or old new result true made m = armed_by old new result made m
armed_or old new result false made m = ap (λ (s : PlantState). s.armed) m.1

pub armed_after : (old new : PlantState) (result : UserEnd) → TakesUserTurn old new result → new.armed ≡ old.armed
armed_after old new result taken = armed_or old new result _ _ taken
