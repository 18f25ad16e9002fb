-- A plant that boots.
use Rattle.std.specs.Prelude.{◌≡◌, ◌≤◌, All, None}
use Rattle.ow_base.specs.declared.machine.AreaId.TheVariants.{A}
use Rattle.phys_memory.specs.Memory.{words_of}
use Rattle.record_layouts.specs.Overlay.{area_at}
use Rattle.ow_plant.specs.State.{PlantState, IsArmed}
use Rattle.ow_plant.specs.declared.points.PanicPoint.{PanicPoint}

-- no panic comes at boot, which is trap 0
pub record HasNoneAtBoot (s : PlantState) : Type 0 where
  pub from_one : All (λ (p : PanicPoint). 1 ≤ p.trap) s.points

-- no trap was begun, so that no store is refused; the kernel's area is half A's, and no intent is open in it
pub record IsBooting (s : PlantState) : Type 0 where
  pub armed : IsArmed s
  pub none : HasNoneAtBoot s
  pub first : s.traps ≡ 0
  pub able : s.refusal ≡ None
  pub of_area : s.live ≡ A
  pub shut : area_at (words_of s.memory) 1 16 ≡ 0
