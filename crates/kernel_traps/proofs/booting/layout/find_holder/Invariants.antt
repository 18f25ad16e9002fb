use Rattle.std.proofs.Common.{◌≡◌, ◌≤◌}
use Rattle.kernel_traps.specs.Boot.{pages_before}
use Rattle.kernel_traps.proofs.booting.layout.find_holder.Given as goal

-- the frame is behind the pages of the starts before this one
abbrev pub invariant-loop-slot : goal.invariant-loop-slot
invariant-loop-slot l = record { first : l.first ≡ pages_before l.load l.slot; behind : l.first ≤ l.frame }
