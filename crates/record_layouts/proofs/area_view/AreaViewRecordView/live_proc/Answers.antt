use Rattle.std.proofs.Common.{◌∙◌}
use Rattle.record_layouts.specs.Reading.{records_of}
use Rattle.record_layouts.proofs.Living.{live_stays, none_live, state_read}
use Rattle.record_layouts.proofs.area_view.AreaViewRecordView.live_proc.Goals as goal

pub returns-then-state-eq-IN_CALL-clause-record : goal.returns-then-state-eq-IN_CALL-clause-record
returns-then-state-eq-IN_CALL-clause-record g c =
    let map = c.args.self.now.map in
    let words = g.W.WordSource.words c.args.self.now.source.now in
    c.proc.ensures.record ∙ live_stays ((records_of map words).procs c.args.slot) c.state_word-state.result
    (state_read map words c.args.slot c.state_word-state.result c.requires c.state_word-state.ensures) c.if-state-eq-IN_CALL.either

pub returns-else-state-eq-IN_CALL-clause-record : goal.returns-else-state-eq-IN_CALL-clause-record
returns-else-state-eq-IN_CALL-clause-record g c =
    let map = c.args.self.now.map in
    let words = g.W.WordSource.words c.args.self.now.source.now in
    none_live ((records_of map words).procs c.args.slot) c.state_word-state.result
    (state_read map words c.args.slot c.state_word-state.result c.requires c.state_word-state.ensures) c.if-state-eq-IN_CALL.false
