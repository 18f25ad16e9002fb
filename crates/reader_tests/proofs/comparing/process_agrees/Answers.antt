use Rattle.std.proofs.Common.{◌≡◌, ℕ, Option, Some, ap, subst, sym}
use Rattle.std.specs.Option.{IfSome}
use Rattle.record_layouts.specs.declared.dead_proc.DeadProc.{DeadProc}
use Rattle.record_layouts.specs.Held.{Records}
use Rattle.record_layouts.specs.Left.{HandedOver, dead_proc}
use Rattle.dead_reader.specs.Processes.{IsDead}
use Rattle.reader_tests.proofs.comparing.process_agrees.Goals as goal

-- what is told of the process of a slot names this slot
in_its_slot : (r : Records) (handed : Option HandedOver) (slot : ℕ) (found : Option DeadProc) (told : DeadProc)
    → found ≡ Some told → IfSome found (IsDead r handed slot) → IsDead r handed told.slot told
unfolding dead_proc
in_its_slot r handed slot found told is dead =
    let left : IsDead r handed slot told = subst (λ some. IfSome some (IsDead r handed slot)) is dead in
    let same : told.slot ≡ slot = ap (λ (d : DeadProc). d.slot) left.left in
    subst (λ s. IsDead r handed s told) (sym same) left

pub resources-lost-requires : goal.resources-lost-requires
resources-lost-requires c = in_its_slot _ _ _ _ _ c.in-Some.is c.in-Ok.ensures.found
