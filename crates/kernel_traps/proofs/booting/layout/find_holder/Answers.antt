use Rattle.std.proofs.Common.{◌≡◌, ℕ, ◌+◌, ◌-◌, ◌<◌, length, Some, sym, ap, ◌∙◌, arith}
use Rattle.kernel_traps.specs.Boot.{pages_before}
use Rattle.kernel_traps.proofs.BootLayout.{holder_found, holder_missed, pages_more}
use Rattle.kernel_traps.proofs.booting.layout.find_holder.Goals as goal

pub page_of-page-requires-clause-number : goal.page_of-page-requires-clause-number
page_of-page-requires-clause-number c =
    let low : c.loop-slot.slot < length c.args.load.now.starts = omega (arith, ap length c.items.ensures) in
    let more = pages_more c.args.load.now c.loop-slot.slot c.started.result.now low c.started.ensures.is in
    omega (arith, more, c.count_pages.ensures, c.if-frame-next.true, c.loop-slot.invariant.first)

pub returns-then-frame-next-clause-is : goal.returns-then-frame-next-clause-is
returns-then-frame-next-clause-is c =
    let load = c.args.load.now in
    let slot = c.loop-slot.slot in
    let number = c.args.frame - c.loop-slot.first in
    let low : c.loop-slot.slot < length c.args.load.now.starts = omega (arith, ap length c.items.ensures) in
    let more = pages_more load slot c.started.result.now low c.started.ensures.is in
    let place : c.args.frame ≡ pages_before load slot + number = omega (arith, c.loop-slot.invariant.first, c.loop-slot.invariant.behind) in
    ap (λ page. Some (record { slot = slot; page = page })) c.page_of-page.ensures.is
    ∙ sym (holder_found load slot c.args.frame number c.started.result.now low c.started.ensures.is
    (omega (arith, more, c.count_pages.ensures, c.if-frame-next.true, c.loop-slot.invariant.first)) place)

pub returns-clause-is : goal.returns-clause-is
returns-clause-is c =
    let load = c.args.load.now in
    let last : c.loop-slot.slot ≡ length c.args.load.now.starts = omega (arith, ap length c.items.ensures) in
    let first = c.loop-slot.invariant.first ∙ ap (λ (slot : ℕ). pages_before c.args.load.now slot) last in
    sym (holder_missed load c.args.frame (omega (arith, first, c.loop-slot.invariant.behind)))
