use Rattle.std.proofs.Common.{◌≡◌, Option, Some, sym, ◌∙◌, subst, refl}
use Rattle.std.specs.Option.{IsSome}
use Rattle.record_layouts.specs.declared.desc.DescRec.{DescRec}
use Rattle.record_layouts.specs.declared.places.RecordId.TheVariants as id
use Rattle.syscalls.proofs.Naming.{InWrite, call_in, found, in_write}
use Rattle.syscalls.proofs.calls.next_piece.Goals as goal

some_is : (held : Option DescRec) (d : DescRec) → held ≡ Some d → IsSome held
some_is held d is = subst IsSome (sym is) refl

pub unwrap-requires-2 : goal.unwrap-requires-2
unwrap-requires-2 g c = subst IsSome (sym c.head.ensures.record) (c.requires.can.complete id.Head tt)

pub unwrap-description-requires : goal.unwrap-description-requires
unwrap-description-requires g c =
    let r = g.V.RecordView.records c.args.view.now in
    let there : r.procs c.args.slot ≡ Some c.unwrap.result = sym c.proc.ensures.record ∙ c.unwrap.ensures in
    let is : InWrite r c.unwrap.result = in_write r c.unwrap.result (g.met.V.RecordView.values c.args.view.now) (call_in r c.args.slot c.unwrap.result there c.requires.inside) c.in-2.is in
    some_is c.look.result is.description (found r c.args.slot c.argument.result c.unwrap.result c.look.result there c.argument.ensures c.look.ensures.named is)

pub piece-requires-clause-left : goal.piece-requires-clause-left
piece-requires-clause-left g c =
    let r = g.V.RecordView.records c.args.view.now in
    let there : r.procs c.args.slot ≡ Some c.unwrap.result = sym c.proc.ensures.record ∙ c.unwrap.ensures in
    let is : InWrite r c.unwrap.result = in_write r c.unwrap.result (g.met.V.RecordView.values c.args.view.now) (call_in r c.args.slot c.unwrap.result there c.requires.inside) c.in-2.is in
    is.transfer.left
