-- What the words that are read during a revival say of the dead kernel is what all of memory says of it.
use Rattle.std.proofs.Common.{◌≡◌, ℕ, ◌+◌, ◌-◌, ◌/◌, ◌%◌, ◌<◌, ◌≤◌, true, false, nat_lt, sym, ap, subst, ◌∙◌, inl, inr, arith}
use Rattle.std.proofs.lemmas.Bool.{cases_lt, le-ltb}
use Rattle.std.proofs.lemmas.Bool.Decides.{nat_tests}
use Rattle.ow_base.specs.Images.{Image}
use Rattle.ow_base.specs.declared.machine.AreaId.{AreaId}
use Rattle.ow_base.specs.declared.machine.AreaId.TheVariants.{A, B}
use Rattle.phys_memory.specs.Halves.{is_own}
use Rattle.phys_memory.specs.Memory.{IsSized, MemoryParts, words_of}
use Rattle.phys_memory.proofs.Own.{first_own-sized_a, first_own-sized_b, own_half-sized, words_beside-rest}
use Rattle.ow_plant.specs.Images.{image_of}
use Rattle.ow_plant.specs.State.{IsArmed, PlantState}
use Rattle.record_layouts.specs.declared.intent.Gate.{Gate}
use Rattle.record_layouts.specs.Decode.{InKernel, tape_by, unix_of}
use Rattle.record_layouts.specs.Halves.{base_of}
use Rattle.record_layouts.specs.Held.{AreComplete, AreValues, Records}
use Rattle.record_layouts.specs.Images.{gate_of_image, map_of_image, records_of_image, unix_of_image}
use Rattle.record_layouts.specs.Left.{HandedOver}
use Rattle.record_layouts.specs.LeftImages.{unix_left, with_left}
use Rattle.record_layouts.specs.Overlay.{area_at, or_zero}
use Rattle.record_layouts.specs.Reading.{is_readable_gate, records_in, records_of}
use Rattle.record_layouts.specs.Sound.{AreInCalls, AreInBuiltCalls, AreNumbered, AreOnTerminals, HaveFrames}
use Rattle.record_layouts.specs.SoundImages.{AreOfTapes, IsServedBefore, IsSoundAtPanic}
use Rattle.ow_plant.specs.Images.{tapes_of}
use Rattle.ow_plant.specs.Owning.{left_by}
use Rattle.resurrector.specs.Rebuilt.{image_left}
use Rattle.schedule_runner.specs.Revivals.{dead_words}
use Rattle.schedule_runner.proofs.AreaWords as area

-- the image that the words have which are read during a revival
abbrev pub dead_image : PlantState → Image
dead_image s = image_left (left_by s) (dead_words s) (tapes_of s)

dead_there : (u : ℕ) (m : MemoryParts) (dead : AreaId) → IsSized u m → (frame : ℕ) → base_of dead u ≤ frame → frame < base_of dead u + (128 + u) → is_own m dead frame ≡ false
dead_there u m A sized frame from below = grind (arith, nat_tests, first_own-sized_a sized, own_half-sized sized A)
dead_there u m B sized frame from below = grind (arith, nat_tests, first_own-sized_b sized, own_half-sized sized B)

module _ (s : PlantState) (armed : IsArmed s) where
  abbrev base : ℕ
  base = base_of s.live s.shape.user_frames

  word_same : (frame word : ℕ) → base ≤ frame → frame < base + (128 + s.shape.user_frames) → words_of s.memory frame word ≡ dead_words s frame word
  word_same frame word from below = sym (words_beside-rest s.memory s.live frame word (dead_there s.shape.user_frames s.memory s.live armed.sized frame from below))

  area_same : (number : ℕ) → number < 65536 → area_at (words_of s.memory) base number ≡ area_at (dead_words s) base number
  area_same number low = ap or_zero (word_same (base + number / 1024) (number % 1024) (omega arith) (omega (arith, low)))

  pub records_same : records_of_image (image_of s) ≡ records_of_image (dead_image s)
  records_same = area.records_same (map_of_image (image_of s)) armed.few_frames (words_of s.memory) (dead_words s) area_same

  pub gate_same : gate_of_image (image_of s) ≡ gate_of_image (dead_image s)
  gate_same = area.gate_same (area_at (words_of s.memory) base) (area_at (dead_words s) base) area_same

  claimed_within : (frame : ℕ) → 0 < (records_of_image (image_of s)).owners frame → frame < s.shape.user_frames
  unfolding records_of records_in
  claimed_within frame claimed = elim (cases_lt frame s.shape.user_frames) [
    | inl low ↦ low
    | inr past ↦
        let none : nat_lt frame s.shape.user_frames ≡ false = le-ltb frame s.shape.user_frames past in
        absurd (grind (arith, nat_tests))
  ]

  page_same : (frame word : ℕ) → base + 128 ≤ frame → 0 < (records_of_image (image_of s)).owners (frame - (base + 128)) → words_of s.memory frame word ≡ dead_words s frame word
  page_same frame word from claimed =
      let within = claimed_within (frame - (base + 128)) claimed in
      word_same frame word (omega arith) (omega (arith, within, from))

  pub unix_same : (steps traps : ℕ) → unix_of_image (image_of s) InKernel steps traps ≡ unix_of_image (dead_image s) InKernel steps traps
  unfolding records_of records_in
  unix_same steps traps =
      area.unix_same (records_of_image (image_of s)) (words_of s.memory) (dead_words s) page_same (image_of s).tapes steps traps
      ∙ (λ k. unix_of (records_same k) (dead_words s) (image_of s).tapes InKernel steps traps)

  pub left_same : (h : HandedOver) (steps traps : ℕ) → unix_left (image_of s) h steps traps ≡ unix_left (dead_image s) h steps traps
  unfolding unix_left
  left_same h steps traps = λ k. with_left h (records_same k) (unix_same steps traps k)

  pub sound_too : (steps trap : ℕ) → IsSoundAtPanic (image_of s) steps trap → IsSoundAtPanic (dead_image s) steps trap
  sound_too steps trap is = record {
    whole = subst (λ (gate : Gate). is_readable_gate gate ≡ true) gate_same is.whole;
    complete = subst AreComplete records_same is.complete;
    values = subst AreValues records_same is.values;
    numbered = subst AreNumbered records_same is.numbered;
    in_calls = subst AreInCalls records_same is.in_calls;
    mapped = subst HaveFrames records_same is.mapped;
    on_terminals = subst AreOnTerminals records_same is.on_terminals;
    in_built_calls = subst AreInBuiltCalls records_same is.in_built_calls;
    served = subst (λ (r : Records). IsServedBefore r (trap + 1)) records_same is.served;
    counted = is.counted;
    terminals = subst (λ (r : Records). AreOfTapes r (λ tty terminal. tape_by ((image_of s).tapes tty) terminal) steps) records_same is.terminals;
  }
