use Rattle.std.proofs.Common.{◌≢◌, List, subst, sym}
use Rattle.std.proofs.lemmas.List.Elements.{All-push}
use Rattle.std.proofs.lemmas.List.Quantifiers.{all_pairs_push}
use Rattle.record_layouts.specs.declared.patch.PatchItem.{PatchItem}
use Rattle.record_layouts.specs.Patch.{IsPatch, IsPatchItem}
use Rattle.record_layouts.proofs.patch.Patch.put.Goals as goal

pub returns-clause-valid : goal.returns-clause-valid
returns-clause-valid c old =
    let item : PatchItem = record { id = c.args.id; rec = c.args.rec } in
    let items : List PatchItem = c.args.self.now.items.items in
    subst IsPatch (sym c.push.ensures.items) (record {
      each = All-push IsPatchItem items item old.each c.requires.item;
      distinct = all_pairs_push (λ (one other : PatchItem). one.id ≢ other.id) items item old.distinct c.requires.other;
    })
