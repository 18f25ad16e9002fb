use Rattle.std.proofs.Common.{◌≡◌, ◌+◌, ◌^◌, ◌≤◌, sym, arith, ◌∙◌}
use Rattle.address_space.proofs.Reading.{open_all, open_more, shut_behind, shut_there}
use Rattle.address_space.proofs.ranges.is_range_open.Goals as goal

pub returns-in_default : goal.returns-in_default
returns-in_default g c =
    let high : 2 ^ 32 ≤ c.args.addr + c.loop-done.done = omega (arith, c.in_default.ensures) in
    shut_behind (g.V.RecordView.records c.args.view.now) (g.V.WordSource.words c.args.view.now) c.args.slot c.args.process.now c.requires.read
    c.args.addr c.args.access c.loop-done.done c.args.n c.requires.fits (omega arith) high

pub returns-then-not-is_page_open : goal.returns-then-not-is_page_open
returns-then-not-is_page_open g c =
    let place : c.in-Some.place ≡ c.args.addr + c.loop-done.done = omega (arith, c.in-Some.ensures) in
    let none = rw place at (sym c.is_page_open.ensures ∙ c.if-not-is_page_open.true) in
    shut_there (g.V.RecordView.records c.args.view.now) (g.V.WordSource.words c.args.view.now) c.args.slot c.args.process.now c.requires.read
    c.args.addr c.args.access c.loop-done.done c.args.n (omega arith) none

pub loop-done-preserved : goal.loop-done-preserved
loop-done-preserved g c =
    let place : c.in-Some.place ≡ c.args.addr + c.loop-done.done = omega (arith, c.in-Some.ensures) in
    let found = rw place at (sym c.is_page_open.ensures ∙ c.if-not-is_page_open.false) in (
      omega arith,
      open_more (g.V.RecordView.records c.args.view.now) (g.V.WordSource.words c.args.view.now) c.args.slot c.args.process.now c.requires.read
          c.args.addr c.args.access c.loop-done.done (c.loop-done.done + c.min-done.result) c.loop-done.invariant.1 found (omega arith),
    )

pub returns : goal.returns
returns g c = sym (open_all _ c.args.access c.args.addr c.args.n (λ k below. c.loop-done.invariant.1 k (omega arith)))
