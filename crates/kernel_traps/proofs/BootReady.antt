-- A machine that is ready can boot: its memory is 0, and the frames of half A are there.
use Rattle.std.proofs.Common.{◌≡◌, ℕ, ◌+◌, ◌*◌, ◌/◌, ◌%◌, ◌≤◌, ap, subst, inl, inr, arith}
use Rattle.std.proofs.lemmas.Bool.{cases_lt}
use Rattle.ow_base.specs.declared.machine.Shape.{Shape}
use Rattle.phys_memory.specs.Memory.{words_of, zeroed}
use Rattle.phys_memory.proofs.Words.{IsSized-zeroed, frame_count-sized, words_of-none, words_of-past, words_of-some, words_of-zeroed}
use Rattle.ow_base.specs.declared.worlds.Load.{Load}
use Rattle.record_layouts.specs.Overlay.{HasArea, area_at, or_zero}
use Rattle.ow_plant.specs.State.{PlantState, IsReady}
use Rattle.intent_store.specs.OfMemory.{has_area}
use Rattle.kernel_traps.specs.BootLayout.{boot_map}
use Rattle.kernel_builder.specs.Plan.{HasFrames}
use Rattle.kernel_traps.specs.BootStores.{HasNoneAtBoot, IsBooting}
use Rattle.kernel_traps.proofs.BootStores.{booting_base}

-- each word is 0
no_word : (u frame word : ℕ) → or_zero (words_of (zeroed u) frame word) ≡ 0
no_word u frame word = elim (cases_lt frame (1 + 2 * (128 + u))) [
  | inl there ↦ elim (cases_lt word 1024) [
    | inl low ↦ ap or_zero (words_of-zeroed u frame word there low)
    | inr past ↦ ap or_zero (words_of-past (zeroed u) frame word past)
  ]
  | inr behind ↦ ap or_zero (words_of-none (zeroed u) frame word (omega (arith, frame_count-sized u (zeroed u) (IsSized-zeroed u))))
]

pub area_zero : (u base number : ℕ) → area_at (words_of (zeroed u)) base number ≡ 0
area_zero u base number = no_word u (base + number / 1024) (number % 1024)

pub ready_boots : (shape : Shape) (s : PlantState) → shape.user_frames ≤ 384 → IsReady shape s → HasNoneAtBoot s → IsBooting s
ready_boots shape s few ready none =
    let frames : s.shape.user_frames ≡ shape.user_frames = ap (λ (h : Shape). h.user_frames) ready.of_shape in
    record {
      armed = record {
        armed = ready.armed;
        sized = rw (frames, ready.zeroed) (IsSized-zeroed shape.user_frames);
        few_frames = rw frames few;
      };
      none = none;
      first = ready.no_traps;
      able = ready.no_refusal;
      of_area = ready.of_area;
      shut = rw ready.zeroed (area_zero shape.user_frames 1 16);
    }

-- the frames of half A are there
pub booting_frames : (load : Load) (s : PlantState) → IsBooting s → s.shape ≡ load.shape → load.shape.user_frames ≤ 384
    → HasFrames (words_of s.memory) (boot_map load)
booting_frames load s is shape few =
    let frames : s.shape.user_frames ≡ load.shape.user_frames = ap (λ (h : Shape). h.user_frames) shape in
    let count = frame_count-sized s.shape.user_frames s.memory is.armed.sized in
    record {
      area = subst (λ (base : ℕ). HasArea (words_of s.memory) base) (booting_base s is) (has_area s is.armed);
      low = omega arith;
      numbered = omega (arith, few);
      few = few;
      apart = omega arith;
      there = λ frame word less small. words_of-some s.memory (129 + frame) word (omega (arith, count, frames, less)) small;
    }
