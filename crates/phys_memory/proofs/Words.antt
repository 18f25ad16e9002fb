-- What words memory has.
use Rattle.std.proofs.Common.{◌≡◌, ℕ, ◌+◌, ◌-◌, ◌*◌, ◌<◌, ◌≤◌, true, ◌==◌, ◌&&◌, if◌then◌else◌, List, ◌++◌, length, slice_index, slice_set, Some, None, is_some, refl, arith}
use Rattle.std.proofs.lemmas.Grind.{common_steps, get_or-set_at}
use Rattle.std.proofs.lemmas.Bool.Decides.{nat_tests}
use Rattle.std.proofs.lemmas.List.{length-set, length-replicate, get_or-replicate, replicate-append-replicate, get_or-set_other, set-append_left, set-append_right}
use Rattle.phys_memory.specs.Memory.{MemoryParts, whole, frame_count, words_of, with_nth, with_word, IsSized, blank_frames, zeroed}

-- a word that is set in its part is set in the whole
whole-set : (m : MemoryParts) (at v : ℕ) → whole (with_nth m at v) ≡ slice_set (whole m) at v
whole-set m at v = grind (arith, nat_tests, common_steps, set-append_left m.boot (m.a ++ m.b) at v, set-append_left m.a m.b (at - length m.boot) v, set-append_right m.boot (m.a ++ m.b) (length m.boot) at v refl, set-append_right m.a m.b (length m.a) (at - length m.boot) v refl)

pub frame_count-set : (m : MemoryParts) (f w v : ℕ) → frame_count (with_word m f w v) ≡ frame_count m
unfolding with_word
frame_count-set m f w v = rw (whole-set m (1024 * f + w) v, length-set)

-- a word is set at its place, and at no other
pub nth-set : (xs : List ℕ) (f w v f' w' : ℕ) → 1024 * f + w < length xs → w < 1024 → w' < 1024
    → slice_index (slice_set xs (1024 * f + w) v) (1024 * f' + w') ≡ (if f' == f && w' == w then v else slice_index xs (1024 * f' + w'))
nth-set xs f w v f' w' there fits fits' = grind (arith, nat_tests, get_or-set_at, get_or-set_other {A = ℕ})

pub words_of-set : (m : MemoryParts) (f w v f' w' : ℕ) → f < frame_count m → w < 1024
    → words_of (with_word m f w v) f' w' ≡ (if f' == f && w' == w then Some v else words_of m f' w')
unfolding words_of with_word
words_of-set m f w v f' w' there fits =
    let at : ℕ = 1024 * f + w in
    let fits_whole : at < length (whole m) = omega arith in
    rw whole-set (grind (arith, nat_tests, nth-set (whole m) f w v f' w' fits_whole fits, length-set {A = ℕ}))

pub IsSized-set : (u : ℕ) (m : MemoryParts) (f w v : ℕ) → IsSized u m → IsSized u (with_word m f w v)
unfolding with_word
IsSized-set u m f w v s = record {
  boot = grind (arith, nat_tests, length-set {A = ℕ}, s.boot);
  a = grind (arith, nat_tests, length-set {A = ℕ}, s.a);
  b = grind (arith, nat_tests, length-set {A = ℕ}, s.b);
}

pub frame_count-sized : (u : ℕ) (m : MemoryParts) → IsSized u m → frame_count m ≡ 1 + 2 * (128 + u)
frame_count-sized u m s = grind (arith, common_steps, s.boot, s.a, s.b)

pub IsSized-zeroed : (u : ℕ) → IsSized u (zeroed u)
unfolding blank_frames
IsSized-zeroed u = record {
  boot = length-replicate {A = ℕ} 1024 0;
  a = length-replicate {A = ℕ} (1024 * (128 + u)) 0;
  b = length-replicate {A = ℕ} (1024 * (128 + u)) 0;
}

pub words_of-none : (m : MemoryParts) (f w : ℕ) → frame_count m ≤ f → words_of m f w ≡ None
unfolding words_of
words_of-none m f w past = grind (arith, nat_tests)

pub words_of-past : (m : MemoryParts) (f w : ℕ) → 1024 ≤ w → words_of m f w ≡ None
unfolding words_of
words_of-past m f w past = grind (arith, nat_tests)

pub words_of-some : (m : MemoryParts) (f w : ℕ) → f < frame_count m → w < 1024 → is_some (words_of m f w) ≡ true
unfolding words_of
words_of-some m f w there fits = grind (arith, nat_tests)

-- frames of zeros that lie one behind the other hold no other number
nth-blank : (x y z at : ℕ) → at < 1024 * (x + (y + z)) → slice_index (blank_frames x ++ (blank_frames y ++ blank_frames z)) at ≡ 0
unfolding blank_frames
nth-blank x y z at there = rw (replicate-append-replicate, replicate-append-replicate) (get_or-replicate (1024 * x + (1024 * y + 1024 * z)) at 0 0 (omega arith))

pub words_of-zeroed : (u frame word : ℕ) → frame < 1 + 2 * (128 + u) → word < 1024 → words_of (zeroed u) frame word ≡ Some 0
unfolding words_of
words_of-zeroed u frame word there fits =
    let count = frame_count-sized u (zeroed u) (IsSized-zeroed u) in
    let blank = nth-blank 1 (128 + u) (128 + u) (1024 * frame + word) (omega arith) in
    rw blank (grind (arith, nat_tests, count))
