use Rattle.std.proofs.Common.{◌≡◌, ◌+◌, ◌≤◌, length}
use Rattle.world_file.specs.WorldLines.{pieces}
use Rattle.world_file.specs.WorldReading.{nothing_said, read_lines}
use Rattle.world_file.proofs.reader.read_lines.Given as goal

-- reading goes on with the rest of the lines as it began with all
abbrev pub invariant-loop-bytes : goal.invariant-loop-bytes
invariant-loop-bytes l = record {
  few : l.number + length l.rest ≤ length l.text;
  reads : read_lines l.so_far l.number (pieces 10 l.rest) ≡ read_lines nothing_said 0 (pieces 10 l.text);
}

abbrev pub decreases-loop-bytes : goal.decreases-loop-bytes
decreases-loop-bytes l = length l.rest
