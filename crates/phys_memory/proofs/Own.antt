-- The half that is lent, and what is read beside it.
use Rattle.std.proofs.Common.{◌≡◌, ℕ, ◌+◌, ◌-◌, ◌*◌, ◌/◌, ◌%◌, ◌<◌, ◌≤◌, ◌⊎◌, true, false, nat_lt, not, ◌&&◌, if◌then◌else◌, List, ◌++◌, length, slice_index, slice_set, Some, None, refl, sym, ap, ◌∙◌, arith, inl, inr, length-append}
use Rattle.std.proofs.Math.Path.{fun_ext}
use Rattle.std.proofs.lemmas.Grind.{common_steps}
use Rattle.std.proofs.lemmas.Bool.Decides.{nat_tests}
use Rattle.std.proofs.lemmas.List.{get_or_append_left, get_or-append_right}
use Rattle.ow_base.specs.declared.machine.AreaId.{AreaId}
use Rattle.ow_base.specs.declared.machine.AreaId.TheVariants.{A, B}
use Rattle.phys_memory.specs.Memory.{MemoryParts, AreWholeFrames, IsSized, frame_count, words_of, with_word}
use Rattle.phys_memory.proofs.Words.{words_of-past}
use Rattle.phys_memory.specs.Halves.{words_beside, first_own, own_half, with_own, is_own}
use Rattle.phys_memory.specs.Reading.{words_read, words_from}
use Rattle.phys_memory.specs.declared.lent.DeadWords.{DeadWords}

-- the boot frame and a half, which has its first frame's number, are all that is not of the other half
module _ (m : MemoryParts) (d : DeadWords) (boot : length m.boot % 1024 ≡ 0) (a : length m.a % 1024 ≡ 0) (same : d.boot.now ≡ m.boot) where
  pub beside_b : d.half.now ≡ m.a → d.first ≡ length m.boot / 1024 → words_read d ≡ words_beside m A
  unfolding words_read words_beside words_of
  beside_b half first = fun_ext (λ f. fun_ext (λ w. grind (arith, nat_tests, common_steps, same, boot, a, half, first)))

  pub beside_a : d.half.now ≡ m.b → d.first ≡ (length m.boot + length m.a) / 1024 → words_read d ≡ words_beside m B
  unfolding words_read words_beside words_of
  beside_a half first = fun_ext (λ f. fun_ext (λ w. grind (arith, nat_tests, common_steps, same, boot, a, half, first)))

-- where a number of a row of three lists leads
nth-third : (xs ys zs : List ℕ) (i : ℕ) → length xs + length ys ≤ i → slice_index (xs ++ (ys ++ zs)) i ≡ slice_index zs (i - (length xs + length ys))
nth-third xs ys zs i behind =
    let e : i - length xs - length ys ≡ i - (length xs + length ys) = omega arith in
    get_or-append_right xs (ys ++ zs) (length xs) i 0 refl (omega arith)
    ∙ get_or-append_right ys zs (length ys) (i - length xs) 0 refl (omega arith)
    ∙ ap (λ k. slice_index zs k) e

nth-second : (xs ys zs : List ℕ) (i : ℕ) → length xs ≤ i → i < length xs + length ys → slice_index (xs ++ (ys ++ zs)) i ≡ slice_index ys (i - length xs)
nth-second xs ys zs i behind before =
    get_or-append_right xs (ys ++ zs) (length xs) i 0 refl (omega arith)
    ∙ get_or_append_left ys zs 0 (i - length xs) (omega arith)

nth-first : (xs ys : List ℕ) (i : ℕ) → i < length xs → slice_index (xs ++ ys) i ≡ slice_index xs i
nth-first xs ys i there = get_or_append_left xs ys 0 i there

-- the last list of three does not count before its first place
nth-before_third : (xs ys zs others : List ℕ) (i : ℕ) → i < length xs + length ys → slice_index (xs ++ (ys ++ zs)) i ≡ slice_index (xs ++ (ys ++ others)) i
nth-before_third xs ys zs others i there = grind (arith, nth-first xs (ys ++ zs) i, nth-first xs (ys ++ others) i, nth-second xs ys zs i, nth-second xs ys others i)

-- the list in the middle does not count outside it
nth-outside_second : (xs ys others zs : List ℕ) (i : ℕ) → length ys ≡ length others → (i < length xs) ⊎ (length xs + length ys ≤ i) → slice_index (xs ++ (ys ++ zs)) i ≡ slice_index (xs ++ (others ++ zs)) i
nth-outside_second xs ys others zs i same outside = grind (arith, nth-first xs (ys ++ zs) i, nth-first xs (others ++ zs) i, nth-third xs ys zs i, nth-third xs others zs i)

-- a word of one of two maps, by the frame: the second in the frames from a first one on
by_frame : (w f first half count x y z : ℕ) → w < 1024 → first + half ≤ count
    → (first ≤ f → f < first + half → x ≡ z) → (f < first → x ≡ y) → (first + half ≤ f → f < count → x ≡ y)
    → (if nat_lt w 1024 && nat_lt f count then Some x else None)
    ≡ (if not (nat_lt f first) && nat_lt f (first + half)
    then (if nat_lt w 1024 && (not (nat_lt f first) && nat_lt f (first + half)) then Some z else None)
    else (if nat_lt w 1024 && nat_lt f count then Some y else None))
by_frame w f first half count x y z fits room own before behind = grind (arith, nat_tests)

-- with as many other words in the half that is not dead, its frames have these, and all other frames what they had
pub words_of-own : (m : MemoryParts) (dead : AreaId) (ws : List ℕ) (f w : ℕ) → AreWholeFrames m → length ws ≡ length (own_half m dead) → w < 1024
    → words_of (with_own m dead ws) f w ≡ (if is_own m dead f then words_from (first_own m dead) ws f w else words_of m f w)
unfolding words_of
words_of-own m A ws f w framed same fits =
    let new : MemoryParts = record m { b = ws } in
    let i : ℕ = 1024 * f + w in
    let first : ℕ = (length m.boot + length m.a) / 1024 in
    let before : 1024 * first ≡ length m.boot + length m.a = omega (arith, framed.boot, framed.a) in
    let count : frame_count new ≡ frame_count m = grind (arith, length-append {A = ℕ}) in
    let size : frame_count m ≡ first + length m.b / 1024 = omega (arith, length-append m.boot (m.a ++ m.b), length-append m.a m.b) in
    rw (count, same) (by_frame w f first (length m.b / 1024) (frame_count m) _ _ _ fits (omega arith)
    (λ from below. nth-third m.boot m.a ws i (omega arith) ∙ ap (λ k. slice_index ws k) (omega arith))
    (λ below. nth-before_third m.boot m.a ws m.b i (omega arith))
    (λ behind there. absurd (omega arith)))
words_of-own m B ws f w framed same fits =
    let new : MemoryParts = record m { a = ws } in
    let i : ℕ = 1024 * f + w in
    let first : ℕ = length m.boot / 1024 in
    let before : 1024 * first ≡ length m.boot = omega (arith, framed.boot) in
    let own : 1024 * (length m.a / 1024) ≡ length m.a = omega (arith, framed.a) in
    let count : frame_count new ≡ frame_count m = grind (arith, length-append {A = ℕ}) in
    let size : first + length m.a / 1024 ≤ frame_count m = omega (arith, length-append m.boot (m.a ++ m.b), length-append m.a m.b) in
    rw (count, same) (by_frame w f first (length m.a / 1024) (frame_count m) _ _ _ fits size
    (λ from below. nth-second m.boot ws m.b i (omega arith) (omega arith) ∙ ap (λ k. slice_index ws k) (omega arith))
    (λ below. nth-outside_second m.boot ws m.a m.b i same (inl (omega arith)))
    (λ behind there. nth-outside_second m.boot ws m.a m.b i same (inr (omega arith))))

-- so the words that are read beside it are as they were
pub words_beside-own : (m : MemoryParts) (dead : AreaId) (ws : List ℕ) → AreWholeFrames m → length ws ≡ length (own_half m dead)
    → words_beside (with_own m dead ws) dead ≡ words_beside m dead
unfolding words_beside
words_beside-own m A ws framed same = fun_ext (λ f. fun_ext (λ w. grind (arith, nat_tests, words_of-own m A ws f w framed same, words_of-past (with_own m A ws) f w, words_of-past m f w)))
words_beside-own m B ws framed same = fun_ext (λ f. fun_ext (λ w. grind (arith, nat_tests, words_of-own m B ws f w framed same, words_of-past (with_own m B ws) f w, words_of-past m f w)))

-- and a word of it that is set is that word of memory
pub with_own-set : (m : MemoryParts) (dead : AreaId) (f w v : ℕ) → AreWholeFrames m → is_own m dead f ≡ true → w < 1024
    → with_own m dead (slice_set (own_half m dead) (1024 * (f - first_own m dead) + w) v) ≡ with_word m f w v
unfolding with_word
with_own-set m A f w v framed own fits = grind (arith, nat_tests, framed.boot, framed.a)
with_own-set m B f w v framed own fits = grind (arith, nat_tests, framed.boot, framed.a)

module _ {u : ℕ} {m : MemoryParts} (sized : IsSized u m) where
  pub AreWholeFrames-sized : AreWholeFrames m
  AreWholeFrames-sized = record { boot = omega (arith, sized.boot); a = omega (arith, sized.a); b = omega (arith, sized.b) }

  -- half A begins behind the boot frame, and half B behind half A
  pub first_own-sized_a : first_own m A ≡ 129 + u
  first_own-sized_a = omega (arith, sized.boot, sized.a)

  pub first_own-sized_b : first_own m B ≡ 1
  first_own-sized_b = omega (arith, sized.boot)

  -- and each has so many frames
  pub own_half-sized : (dead : AreaId) → length (own_half m dead) / 1024 ≡ 128 + u
  own_half-sized A = omega (arith, sized.b)
  own_half-sized B = omega (arith, sized.a)

-- a frame that is not of that half has its words
pub words_beside-rest : (m : MemoryParts) (dead : AreaId) (f w : ℕ) → is_own m dead f ≡ false → words_beside m dead f w ≡ words_of m f w
unfolding words_beside
words_beside-rest m dead f w rest = rw rest

pub with_own-same : (m : MemoryParts) (dead : AreaId) → with_own m dead (own_half m dead) ≡ m
with_own-same m A = refl
with_own-same m B = refl

-- a frame of that half has the words of the half
pub words_of-own_half : (m : MemoryParts) (dead : AreaId) (f w : ℕ) → AreWholeFrames m → is_own m dead f ≡ true → w < 1024
    → words_of m f w ≡ words_from (first_own m dead) (own_half m dead) f w
words_of-own_half m dead f w framed own fits =
    ap (λ (n : MemoryParts). words_of n f w) (sym (with_own-same m dead))
    ∙ words_of-own m dead (own_half m dead) f w framed refl fits
    ∙ rw own
