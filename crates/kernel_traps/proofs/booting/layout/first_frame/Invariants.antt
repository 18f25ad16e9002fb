use Rattle.std.proofs.Common.{◌≡◌}
use Rattle.kernel_traps.specs.Boot.{pages_before}
use Rattle.kernel_traps.proofs.booting.layout.first_frame.Given as goal

-- the pages of the starts before this one are counted
abbrev pub invariant-loop-before : goal.invariant-loop-before
invariant-loop-before l = record { first : l.first ≡ pages_before l.load l.before }
