use Rattle.std.proofs.Common.{refl, ap, ◌∙◌, inl, inr}
use Rattle.record_layouts.specs.Unix.PanicReport.{report_with}
use Rattle.kernel_traps.specs.Plants.{unix_at}
use Rattle.world_file.specs.RunLog.{RunFates}
use Rattle.otherworld.proofs.Agrees.{agrees}
use Rattle.otherworld.proofs.ArmedWorlds.{has_room}
use Rattle.otherworld.proofs.Tops.{reports}
use Rattle.otherworld.proofs.top.run_world.Goals as goal

pub run-ending-requires-clause-ready : goal.run-ending-requires-clause-ready
run-ending-requires-clause-ready g c = c.requires.armed.ready

pub run-ending-requires-clause-load : goal.run-ending-requires-clause-load
run-ending-requires-clause-load g c = c.worlds_can_boot.ensures.load c.requires.value.0 c.args.world.now c.requires.value.1

pub run-ending-requires-clause-points : goal.run-ending-requires-clause-points
run-ending-requires-clause-points g c = c.requires.armed.fresh

pub run-ending-requires-clause-empty : goal.run-ending-requires-clause-empty
run-ending-requires-clause-empty g c = ap (λ (log : RunFates). log.entries) c.requires.armed.none_told

pub run-ending-requires-clause-room : goal.run-ending-requires-clause-room
run-ending-requires-clause-room g c = has_room c.args.world.now c.args.log.now c.args.plant.now c.requires.armed

pub returns-in-Ok-clause-reported : goal.returns-in-Ok-clause-reported
returns-in-Ok-clause-reported g c =
    let s = c.run-ending.new.plant in
    let told = c.run-ending.new.log.entries in
    let reported = reports c.args.world.now c.args.plant.now.points s told c.run-ending.result c.requires.built c.requires.armed.points c.run-ending.ensures.points c.run-ending.ensures.sound c.run-ending.ensures.run in
    (c.run-ending.result, report_with c.args.world.now.panics s.history told c.run-ending.result (unix_at s), reported, inl (c.status_of.ensures, c.in-Ok.ensures.writes (unix_at s) (agrees s c.run-ending.ensures.sound)))

pub returns-in-Err-clause-reported : goal.returns-in-Err-clause-reported
returns-in-Err-clause-reported g c =
    let s = c.run-ending.new.plant in
    let told = c.run-ending.new.log.entries in
    let reported = reports c.args.world.now c.args.plant.now.points s told c.run-ending.result c.requires.built c.requires.armed.points c.run-ending.ensures.points c.run-ending.ensures.sound c.run-ending.ensures.run in
    (c.run-ending.result, report_with c.args.world.now.panics s.history told c.run-ending.result (unix_at s), reported, inr (refl, c.in-Err.ensures.failed, c.in-Err.ensures.writes (unix_at s) (agrees s c.run-ending.ensures.sound)))
