use Rattle.std.proofs.Common.{subst, sym}
use Rattle.record_layouts.specs.Overlay.{Area, area_at}
use Rattle.intent_store.specs.Blocks.{ReadsAs}
use Rattle.word_store.proofs.Outcomes.{on_err}
use Rattle.intent_store.proofs.copying.carry_out.Goals as goal

pub returns-clause-err : goal.returns-clause-err
returns-clause-err g c =
    on_err c.store_area.result _ _ (λ e. subst (λ (a : Area). ReadsAs (area_at (g.W.WordSource.words c.args.store.now) c.args.base) a) (sym e) c.copy_changes.ensures.reads) c.store_area.ensures.err
