use Rattle.std.proofs.Common.{◌∙◌, refl}
use Rattle.intent_store.proofs.Changes.{copying-first, copying-over, copying-next, partly-reads}
use Rattle.intent_store.proofs.Words.{unstored_same, unstored_then}
use Rattle.intent_store.proofs.copying.copy_changes.Goals as goal

pub loop-change-init : goal.loop-change-init
loop-change-init g c = record {
  copying = copying-first _ c.args.end c.requires.open;
  there = c.requires.area;
  same_beside = refl;
  same_rest = refl;
  able = c.requires.able;
  unstored = unstored_same _ _;
  same_place = refl;
}

pub returns-in_err-copy_change-clause-reads : goal.returns-in_err-copy_change-clause-reads
returns-in_err-copy_change-clause-reads g c =
    let partly = c.in_err-copy_change.ensures.err in
    partly-reads _ _ c.loop-change.place c.args.end c.loop-change.invariant.copying c.in-Some.change c.in-Some.ensures.found c.in-Some.ensures.changes partly.0 partly.1 _ partly.2

pub loop-change-preserved : goal.loop-change-preserved
loop-change-preserved g c =
    record {
      copying = rw c.values_end-place.ensures (copying-next _ _ c.loop-change.place c.args.end c.loop-change.invariant.copying c.in-Some.change c.in-Some.ensures.found c.in-Some.ensures.changes _ c.in_ok-copy_change.ensures.ok);
      there = c.copy_change.ensures.there;
      same_beside = c.copy_change.ensures.beside ∙ c.loop-change.invariant.same_beside;
      same_rest = c.copy_change.ensures.rest ∙ c.loop-change.invariant.same_rest;
      able = c.in_ok-copy_change.ensures.stays;
      unstored = unstored_then _ _ _ _ _ _ c.loop-change.invariant.unstored c.copy_change.ensures.unstored;
      same_place = c.copy_change.ensures.place ∙ c.loop-change.invariant.same_place;
    }

pub returns-clause-ok : goal.returns-clause-ok
returns-clause-ok g c = copying-over _ _ c.loop-change.place c.args.end c.loop-change.invariant.copying c.in_default.ensures.none
