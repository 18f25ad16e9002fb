use Rattle.std.proofs.Common.{◌≡◌, ℕ, true, Some, sym, subst, ◌∙◌}
use Rattle.record_layouts.specs.Decode.{decodes}
use Rattle.dead_reader.proofs.Firsts.{no_first}
use Rattle.dead_reader.proofs.processes.process_left.Goals as goal

pub returns-in-Err-clause-each : goal.returns-in-Err-clause-each
returns-in-Err-clause-each g c process is =
    let r = g.V.RecordView.records c.args.view.now in
    let told : Some is.pid ≡ Some c.in-Some.pid = sym is.live ∙ sym c.requires.pid ∙ c.in-Some.is in
    let same : is.pid ≡ c.in-Some.pid = cc in
    let it_decodes : decodes r c.args.slot c.in-Some.pid process ≡ true = subst (λ (pid : ℕ). decodes r c.args.slot pid process ≡ true) same is.decodes in
    absurd (no_first r c.args.slot c.in-Some.pid process is.there it_decodes _ _ c.in-Err.ensures.first)
