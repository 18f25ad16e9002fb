use Rattle.std.proofs.Common.{◌≡◌, ◌+◌, take}
use Rattle.ow_base.specs.World.{start_pages}
use Rattle.world_file.specs.WorldFacts.{programs_of}
use Rattle.world_file.proofs.so_far.SoFar.lacks_frames.Given as goal

-- the frames are those that are free and those that the starts before take
abbrev pub invariant-loop-start : goal.invariant-loop-start
invariant-loop-start l = l.free + start_pages (programs_of l.self) (take l.start-index l.start-items) ≡ l.self.shape.user_frames
