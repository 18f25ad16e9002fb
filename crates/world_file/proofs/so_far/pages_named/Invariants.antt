use Rattle.std.proofs.Common.{◌≡◌, drop}
use Rattle.std.specs.List.{find}
use Rattle.world_file.specs.WorldFacts.{has_name}
use Rattle.world_file.proofs.so_far.pages_named.Given as goal

-- none of the programs before has the name
abbrev pub invariant-loop-program : goal.invariant-loop-program
invariant-loop-program l = find (has_name l.name) l.programs ≡ find (has_name l.name) (drop l.program-index l.programs)
