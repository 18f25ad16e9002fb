-- Images that are alike say the same of a kernel.
use Rattle.std.proofs.Common.{◌≡◌, ℕ, ◌+◌, ◌/◌, ◌%◌, ◌≤◌, true, List, ap, subst, ◌∙◌, arith}
use Rattle.ow_base.specs.Images.{Image}
use Rattle.ow_base.specs.declared.machine.AreaId.{AreaId}
use Rattle.ow_base.specs.declared.machine.AreaId.TheVariants.{A, B}
use Rattle.record_layouts.specs.declared.intent.Gate.{Gate}
use Rattle.record_layouts.specs.declared.memory_map.MemoryMap.{MemoryMap}
use Rattle.record_layouts.specs.Decode.{InKernel, tape_by, unix_of}
use Rattle.record_layouts.specs.Halves.{base_of, half_map}
use Rattle.record_layouts.specs.Held.{AreComplete, AreValues}
use Rattle.record_layouts.specs.Images.{AreAlike, gate_of_image, map_of_image, records_of_image, unix_of_image}
use Rattle.record_layouts.specs.Left.{HandedOver}
use Rattle.record_layouts.specs.LeftImages.{unix_left, with_left}
use Rattle.record_layouts.specs.Overlay.{Area, area_at, gate_of, or_zero, overlay}
use Rattle.record_layouts.specs.Reading.{is_readable_gate, records_in, records_of}
use Rattle.record_layouts.specs.Records.{Records}
use Rattle.record_layouts.specs.Sound.{AreInCalls, AreInBuiltCalls, AreNumbered, AreOnTerminals, HaveFrames}
use Rattle.record_layouts.specs.SoundImages.{AreOfTapes, IsServedBefore, IsSoundAtPanic}
use Rattle.record_layouts.proofs.Words.{unix_by_words}

-- no area begins with the first frame
base_from : (area : AreaId) (user_frames : ℕ) → 1 ≤ base_of area user_frames
base_from A user_frames = omega arith
base_from B user_frames = omega arith

module _ (one other : Image) (alike : AreAlike one other) where
  same_map : map_of_image one ≡ map_of_image other
  same_map = λ k. half_map (alike.area k) (alike.user_frames k) (alike.sectors k)

  abbrev base : ℕ
  base = (map_of_image one).area_base

  same_area : area_at one.words base ≡ area_at other.words base
  same_area = λ k number. or_zero (alike.words (base + number / 1024) (number % 1024) (omega (arith, base_from one.area one.user_frames)) k)

  pub same_records : records_of_image one ≡ records_of_image other
  unfolding records_of
  same_records = ap (λ (area : Area). records_in (map_of_image one) (is_readable_gate (gate_of area)) (overlay area)) same_area
      ∙ ap (λ (map : MemoryMap). records_of map other.words) same_map

  pub same_gate : gate_of_image one ≡ gate_of_image other
  same_gate = ap gate_of same_area ∙ ap (λ (map : MemoryMap). gate_of (area_at other.words map.area_base)) same_map

  same_unix : (steps traps : ℕ) → unix_of_image one InKernel steps traps ≡ unix_of_image other InKernel steps traps
  unfolding records_of records_in
  same_unix steps traps =
      unix_by_words (records_of_image one) one.words other.words (omega arith)
      (λ frame word behind. alike.words frame word (omega (arith, behind))) one.tapes InKernel steps traps
      ∙ (λ k. unix_of (same_records k) other.words (alike.tapes k) InKernel steps traps)

  pub same_left : (h : HandedOver) (steps traps : ℕ) → unix_left one h steps traps ≡ unix_left other h steps traps
  unfolding unix_left
  same_left h steps traps = λ k. with_left h (same_records k) (same_unix steps traps k)

  pub sound_too : (steps trap : ℕ) → IsSoundAtPanic one steps trap → IsSoundAtPanic other steps trap
  sound_too steps trap is = record {
    whole = subst (λ (gate : Gate). is_readable_gate gate ≡ true) same_gate is.whole;
    complete = subst AreComplete same_records is.complete;
    values = subst AreValues same_records is.values;
    numbered = subst AreNumbered same_records is.numbered;
    in_calls = subst AreInCalls same_records is.in_calls;
    mapped = subst HaveFrames same_records is.mapped;
    on_terminals = subst AreOnTerminals same_records is.on_terminals;
    in_built_calls = subst AreInBuiltCalls same_records is.in_built_calls;
    served = subst (λ (r : Records). IsServedBefore r (trap + 1)) same_records is.served;
    counted = is.counted;
    terminals = subst (λ (tapes : ℕ → List ℕ). AreOfTapes (records_of_image other) (λ tty terminal. tape_by (tapes tty) terminal) steps) alike.tapes
        (subst (λ (r : Records). AreOfTapes r (λ tty terminal. tape_by (one.tapes tty) terminal) steps) same_records is.terminals);
  }
