-- Stores of a plant, as the kernel that runs on it sees them.
use Rattle.std.proofs.Common.{◌≡◌, ℕ, ◌<◌, true, None, List, [], ◌∷◌, length, slice_set, replicate, is_some, sym, ap, ◌∙◌, arith, length-set}
use Rattle.std.proofs.lemmas.Bool.Decides.{nat_tests}
use Rattle.std.proofs.lemmas.Grind.{common_steps}
use Rattle.std.proofs.lemmas.List.{length-replicate}
use Rattle.std.specs.List.{list_any}
use Rattle.ow_plant.specs.Points.{is_in, is_past}
use Rattle.ow_plant.specs.declared.points.PanicPoint.{PanicPoint}
use Rattle.ow_plant.specs.State.{IsArmed, PlantState, refuses, with_stored}
use Rattle.phys_memory.specs.Memory.{IsSized, MemoryParts, frame_count, with_word, words_of}
use Rattle.phys_memory.proofs.Words.{words_of-set}
use Rattle.intent_store.specs.Live.{blank, blank_words, is_able, may_refuse, rest_of}
use Rattle.word_store.specs.Stores.{with_word_at}

-- a word is there only where its frame is
pub frame_there : (m : MemoryParts) (frame word : ℕ) → is_some (words_of m frame word) ≡ true → frame < frame_count m
unfolding words_of
frame_there m frame word there = grind (arith, nat_tests, there)

pub words_stored : (m : MemoryParts) (frame word value : ℕ) → frame < frame_count m → word < 1024 → words_of (with_word m frame word value) ≡ with_word_at (words_of m) frame word value
unfolding with_word_at
words_stored m frame word value there fits = λ i f w. words_of-set m frame word value f w there fits i

blank-set : (words : List ℕ) (at value : ℕ) → blank_words (slice_set words at value) ≡ blank_words words
blank-set words at value = ap (λ n. replicate n 0) (length-set words at value)

blank-stored : (m : MemoryParts) (frame word value : ℕ) → blank (with_word m frame word value) ≡ blank m
unfolding blank with_word
blank-stored m frame word value = grind (arith, nat_tests, blank-set)

-- a store changes nothing else
pub rest_stored : (s : PlantState) (frame word value : ℕ) → rest_of (with_stored s frame word value) ≡ rest_of s
rest_stored s frame word value = ap (λ m. record s { memory = m; refusal = None; stores = 0; all_stores = 0 }) (blank-stored s.memory frame word value)

blank-length : (some other : List ℕ) → blank_words some ≡ blank_words other → length some ≡ length other
blank-length some other e = sym (length-replicate (length some) 0) ∙ ap (λ ws. length ws) e ∙ length-replicate (length other) 0

blank-sized : (user_frames : ℕ) (m n : MemoryParts) → blank m ≡ blank n → IsSized user_frames n → IsSized user_frames m
unfolding blank
blank-sized user_frames m n e sized = record {
  boot = blank-length m.boot n.boot (ap (λ (p : MemoryParts). p.boot) e) ∙ sized.boot;
  a = blank-length m.a n.a (ap (λ (p : MemoryParts). p.a) e) ∙ sized.a;
  b = blank-length m.b n.b (ap (λ (p : MemoryParts). p.b) e) ∙ sized.b;
}

-- an armed plant stays armed
pub armed_by_rest : (old new : PlantState) → rest_of new ≡ rest_of old → IsArmed old → IsArmed new
armed_by_rest old new e is =
    let frames : new.shape.user_frames ≡ old.shape.user_frames = ap (λ (s : PlantState). s.shape.user_frames) e in
    record {
      armed = ap (λ (s : PlantState). s.armed) e ∙ is.armed;
      sized = rw frames (blank-sized old.shape.user_frames new.memory old.memory (ap (λ (s : PlantState). s.memory) e) is.sized);
      few_frames = rw frames is.few_frames;
    }

-- a point of which the stores are made is one of the trap
past_is_in : (trap made : ℕ) (points : List PanicPoint) → list_any (is_past trap made) points ≡ true → list_any (is_in trap) points ≡ true
past_is_in trap made [] is = grind (arith, is)
past_is_in trap made (point ∷ points) is = grind (arith, nat_tests, common_steps, is, past_is_in trap made points)

-- a store that is refused while no refusal stands is of a trap with a point
pub refused_in_trap : (s : PlantState) → is_able s ≡ true → refuses s ≡ true → may_refuse (rest_of s) ≡ true
refused_in_trap s able refused = past_is_in s.traps s.stores s.points (grind (arith, common_steps, able, refused))
