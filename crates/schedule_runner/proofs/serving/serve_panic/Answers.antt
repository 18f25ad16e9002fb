use Rattle.std.proofs.Common.{◌≡◌, map, true, ap, subst, ◌∙◌}
use Rattle.std.specs.List.{list_any}
use Rattle.dead_reader.specs.Left.{told_by}
use Rattle.ow_plant.specs.Points.{entered_by, is_in}
use Rattle.ow_plant.specs.State.{PlantState, handed_over}
use Rattle.world_file.specs.RunLog.{with_entry}
use Rattle.schedule_runner.proofs.EnteredPanics.{entered_broken}
use Rattle.schedule_runner.proofs.Fronts.{revived_front}
use Rattle.schedule_runner.proofs.Points.{none_again}
use Rattle.schedule_runner.specs.Revivals.{IsBroken, dead_records}
use Rattle.schedule_runner.proofs.serving.serve_panic.Goals as goal

pub revive-requires-clause-broken : goal.revive-requires-clause-broken
revive-requires-clause-broken c = (
  told_by (handed_over c.args.plant.now),
  entered_broken c.args.plant.now c.panic_entry.new.self c.panic_entry.ensures c.requires.armed c.requires.budget c.requires.sound,
)

pub unreachable-requires : goal.unreachable-requires
unreachable-requires c =
    let some : list_any (is_in c.panic_entry.new.self.traps) c.panic_entry.new.self.points ≡ true = rw c.in-Err.is at c.revive.ensures.allowed in
    let again : list_any (is_in c.args.plant.now.traps) (map (entered_by c.args.plant.now.traps) c.args.plant.now.points) ≡ true =
    subst (λ (s : PlantState). list_any (is_in s.traps) s.points ≡ true) c.panic_entry.ensures.after some in
    let none = none_again c.args.plant.now.traps c.args.plant.now.points in
    absurd (cc)

pub returns : goal.returns
returns c =
    let old = c.args.plant.now in
    let entered = c.panic_entry.new.self in
    let broken : IsBroken entered (told_by (handed_over old)) = entered_broken old entered c.panic_entry.ensures c.requires.armed c.requires.budget c.requires.sound in
    record {
      entered = entered;
      enters = c.panic_entry.ensures;
      sound = c.in-Ok.ensures.sound;
      unix = c.in-Ok.ensures.unix (told_by (handed_over old)) broken;
      told = c.add.ensures.added ∙ ap (with_entry c.args.log.now) (c.as_slice.ensures.value ∙ c.in-Ok.ensures.fates (told_by (handed_over old)) broken);
      tapes = revived_front (dead_records entered) entered c.revive.new.plant c.revive.ensures.left0 c.revive.ensures.left1;
      shape = c.revive.ensures.shape;
      points = c.revive.ensures.points;
      history = c.revive.ensures.history;
      steps = c.revive.ensures.steps;
      traps = c.revive.ensures.traps;
      runs = c.in-Ok.ensures.runs;
    }
