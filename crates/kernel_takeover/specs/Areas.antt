-- The area that takes over.
use Rattle.ow_base.specs.declared.machine.AreaId.{AreaId}
use Rattle.ow_base.specs.declared.machine.AreaId.TheVariants.{A, B}

-- the one that is not live
abbrev pub other_area : AreaId → AreaId
other_area A = B
other_area B = A
