use Rattle.std.proofs.Common.{◌≡◌, drop, ◌+◌}
use Rattle.std.specs.List.{position_or_len}
use Rattle.world_file.specs.WorldFacts.{has_name}
use Rattle.world_file.proofs.so_far.place_of.Given as goal

-- none of the programs before has the name
abbrev pub invariant-loop-program : goal.invariant-loop-program
invariant-loop-program l = record {
  place : l.place ≡ l.program-index;
  none : position_or_len (has_name l.name) l.programs ≡ l.place + position_or_len (has_name l.name) (drop l.program-index l.programs);
}
