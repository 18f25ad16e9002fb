use Rattle.std.proofs.Common.{ap, sym, ◌∙◌}
use Rattle.record_layouts.specs.Halves.{half_map}
use Rattle.resurrector.proofs.Outcomes.{same_frames}
use Rattle.resurrector.proofs.resurrecting.resurrect_into.Goals as goal

pub build_kernel-requires-clause-frames : goal.build_kernel-requires-clause-frames
build_kernel-requires-clause-frames g c =
    let left = g.M.DeadMemory.dead c.new-view.result.memory.now in
    same_frames (half_map left.area left.user_frames left.sectors) (g.M.WordSource.words c.new-view.result.memory.now)
    ∙ ap (λ memory. (g.M.DeadMemory.dead memory).user_frames) c.new-view.ensures
    ∙ sym c.requires.frames
