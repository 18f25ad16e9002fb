-- A plant that boots: no store of it is refused, and its records are read from the words of half A.
use Rattle.std.proofs.Common.{◌≡◌, ℕ, ◌≤◌, false, true, All, Option, Some, None, refl, ap, ◌∙◌, arith}
use Rattle.std.proofs.lemmas.Bool.Decides.{nat_tests}
use Rattle.std.proofs.lemmas.List.Elements.{All-weaker}
use Rattle.std.proofs.lemmas.List.Folds.{list_any_none}
use Rattle.phys_memory.specs.Memory.{words_of}
use Rattle.record_layouts.specs.Overlay.{Area, area_at, gate_word}
use Rattle.record_layouts.specs.Reading.{records_in, records_of}
use Rattle.record_layouts.specs.declared.memory_map.MemoryMap.{MemoryMap}
use Rattle.record_layouts.proofs.Stores.{records_closed}
use Rattle.ow_plant.specs.Points.{is_in}
use Rattle.ow_plant.specs.State.{PlantState}
use Rattle.ow_plant.specs.declared.points.PanicPoint.{PanicPoint}
use Rattle.ow_plant.specs.declared.refusal.Refusal.{Refusal}
use Rattle.intent_store.specs.Live.{map_of, is_able, may_refuse, rest_of}
use Rattle.intent_store.proofs.Plants.{armed_by_rest}
use Rattle.kernel_traps.specs.BootStores.{IsBooting}

-- no point is of trap 0, so no store of boot may be refused
not_in : (p : PanicPoint) → 1 ≤ p.trap → is_in 0 p ≡ false
not_in p late = grind (arith, nat_tests)

pub may_refuse_none : (s : PlantState) → IsBooting s → may_refuse (rest_of s) ≡ false
may_refuse_none s is =
    let late : All (λ (p : PanicPoint). is_in 0 p ≡ false) s.points =
    All-weaker (λ (p : PanicPoint). 1 ≤ p.trap) (λ (p : PanicPoint). is_in 0 p ≡ false) not_in s.points is.none.from_one in
    rw is.first (list_any_none (is_in 0) s.points late)

-- one that can store has refused none
pub refused_none : (s : PlantState) → is_able s ≡ true → s.refusal ≡ None
refused_none s able = by_refusal s.refusal refl
  where
    by_refusal : (refusal : Option Refusal) → s.refusal ≡ refusal → s.refusal ≡ None
    by_refusal None is = is
    by_refusal (Some refusal) is = absurd (grind (arith, nat_tests, able, is))

-- a plant boots on where nothing changes but words, and the gate is shut
pub booting_on : (old new : PlantState) → IsBooting old → rest_of new ≡ rest_of old → new.refusal ≡ None
    → area_at (words_of new.memory) 1 16 ≡ 0 → IsBooting new
booting_on old new is rest able shut = record {
  armed = armed_by_rest old new rest is.armed;
  none = record { from_one = rw (ap (λ (s : PlantState). s.points) rest) is.none.from_one };
  first = ap (λ (s : PlantState). s.traps) rest ∙ is.first;
  able = able;
  of_area = ap (λ (s : PlantState). s.live) rest ∙ is.of_area;
  shut = shut;
}

-- the map of a plant that boots
pub booting_base : (s : PlantState) → IsBooting s → (map_of s).area_base ≡ 1
booting_base s is = rw is.of_area refl

-- the records of a plant that boots are read from the words of its area
pub records_shut : (s : PlantState) (map : MemoryMap) → IsBooting s → map.area_base ≡ 1
    → records_of map (words_of s.memory) ≡ records_in map true (area_at (words_of s.memory) 1)
records_shut s map is base =
    let at : area_at (words_of s.memory) map.area_base ≡ area_at (words_of s.memory) 1 = ap (λ (b : ℕ). area_at (words_of s.memory) b) base in
    records_closed map (words_of s.memory) (ap (λ (a : Area). a gate_word) at ∙ is.shut) ∙ ap (λ (a : Area). records_in map true a) at
