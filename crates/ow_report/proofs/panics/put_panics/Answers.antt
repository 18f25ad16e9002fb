use Rattle.std.proofs.Common.{arith}
use Rattle.record_layouts.specs.Unix.PanicReport.{panic_lines}
use Rattle.ow_report.proofs.Reports.{panics_further, panics_broken, panics_complete}
use Rattle.ow_report.proofs.panics.put_panics.Goals as goal

pub loop-index-preserved : goal.loop-index-preserved
loop-index-preserved g c =
    let history = c.args.history.now in
    let told = c.args.log.now.entries in record {
      way = panics_further (panic_lines history told) history told c.loop-index.index c.index-history-index.result c.fates_of.result.now _ _ _
          c.loop-index-test.true c.index-history-index.is c.fates_of.ensures c.loop-index.invariant.way c.in-Ok.ensures.writes;
      steady = omega (arith, c.in-Ok.ensures.never_falls);
    }

pub returns-in-Err-clause-writes : goal.returns-in-Err-clause-writes
returns-in-Err-clause-writes g c =
    let history = c.args.history.now in
    let told = c.args.log.now.entries in
    panics_broken (panic_lines history told) history told c.loop-index.index c.index-history-index.result c.fates_of.result.now _ _ _
    c.loop-index-test.true c.index-history-index.is c.fates_of.ensures c.loop-index.invariant.way c.in-Err.ensures.writes

pub returns-clause-writes : goal.returns-clause-writes
returns-clause-writes g c =
    let history = c.args.history.now in
    let told = c.args.log.now.entries in
    panics_complete (panic_lines history told) history told c.loop-index.index _ _ c.loop-index-test.false c.loop-index.invariant.way
