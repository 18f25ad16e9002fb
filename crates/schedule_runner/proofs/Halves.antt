-- The half of memory in which a kernel was built, once it is the live one.
use Rattle.std.proofs.Common.{◌≡◌, ℕ, ◌+◌, ◌*◌, ◌/◌, ◌%◌, ◌<◌, ◌≤◌, true, refl, ap, ◌∙◌, inl, inr, arith}
use Rattle.std.proofs.lemmas.Bool.{cases_Bool}
use Rattle.std.proofs.lemmas.Bool.Decides.{nat_tests}
use Rattle.ow_base.specs.Sv32.{WordMap}
use Rattle.ow_base.specs.declared.machine.AreaId.{AreaId}
use Rattle.ow_base.specs.declared.machine.AreaId.TheVariants.{A, B}
use Rattle.phys_memory.specs.Halves.{first_own, is_own, own_half, words_from}
use Rattle.phys_memory.specs.Memory.{IsSized, MemoryParts, words_of}
use Rattle.phys_memory.proofs.Own.{AreWholeFrames-sized, first_own-sized_a, first_own-sized_b, own_half-sized, words_of-own_half}
use Rattle.record_layouts.specs.Halves.{base_of, half_map}
use Rattle.record_layouts.specs.Overlay.{area_at, or_zero}
use Rattle.kernel_builder.specs.Plan.{Plan}
use Rattle.kernel_builder.specs.Sets.{IsBuilt}
use Rattle.kernel_builder.proofs.Built.{records_same}
use Rattle.resurrector.specs.Plants.{other_area}

-- its frames
own_there : (u : ℕ) (m : MemoryParts) (dead : AreaId) → IsSized u m → (frame : ℕ) → base_of (other_area dead) u ≤ frame → frame < base_of (other_area dead) u + (128 + u)
    → is_own m dead frame ≡ true
own_there u m A sized frame from below = grind (arith, nat_tests, first_own-sized_a sized, own_half-sized sized A)
own_there u m B sized frame from below = grind (arith, nat_tests, first_own-sized_b sized, own_half-sized sized B)

pub own_words_same : (u : ℕ) (m : MemoryParts) (dead : AreaId) → IsSized u m → (frame word : ℕ)
    → base_of (other_area dead) u ≤ frame → frame < base_of (other_area dead) u + (128 + u) → word < 1024
    → words_of m frame word ≡ words_from (first_own m dead) (own_half m dead) frame word
own_words_same u m dead sized frame word from below fits =
    words_of-own_half m dead frame word (AreWholeFrames-sized sized) (own_there u m dead sized frame from below) fits

-- What is built in these frames is so in any words that are the same there: what it was built on is of no account.
module _ (area : AreaId) (u sectors : ℕ) (plan : Plan) (old new other : WordMap) (few : u ≤ 384)
    (same : (frame word : ℕ) → base_of area u ≤ frame → frame < base_of area u + (128 + u) → word < 1024 → other frame word ≡ new frame word)
    (built : IsBuilt (half_map area u sectors) plan old new) where
  area_same : (number : ℕ) → number < 65536 → area_at other (base_of area u) number ≡ area_at new (base_of area u) number
  area_same number low = ap or_zero (same (base_of area u + number / 1024) (number % 1024) (omega arith) (omega (arith, low)) (omega arith))

  table_same : (slot table word : ℕ) → slot < 16 → table < 3 → word < 1024
      → area_at other (base_of area u) (1024 * (16 + 3 * slot + table) + word)
      ≡ area_at new (base_of area u) (1024 * (16 + 3 * slot + table) + word)
  table_same slot table word s t w = area_same (1024 * (16 + 3 * slot + table) + word) (omega (arith, s, t, w))

  pub built_in_memory : IsBuilt (half_map area u sectors) plan other other
  built_in_memory = record {
    area = record {
      shut = area_same 16 (omega arith) ∙ built.area.shut;
      records = records_same (area_at new (base_of area u)) (area_at other (base_of area u)) plan.record_of 467
          (λ number low beside. area_same number (omega (arith, low))) built.area.records;
      owners = λ number low. area_same (10240 + number) (omega (arith, low)) ∙ built.area.owners number low;
      tables = λ slot table word s t w. elim (cases_Bool (plan.is_live slot)) [
        | inl live ↦ rw live (table_same slot table word s t w ∙ built.area.tables slot table word s t w ∙ rw live refl)
        | inr not_live ↦ rw not_live refl
      ];
    };
    pages = λ frame word holder low fits held.
        same (base_of area u + 128 + frame) word (omega arith) (omega (arith, low)) fits ∙ built.pages frame word holder low fits held;
  }
