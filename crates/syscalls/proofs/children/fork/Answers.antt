use Rattle.std.proofs.Common.{◌≡◌, ◌≤◌, ◌<◌, ℕ, IfSome, Option, subst, arith}
use Rattle.record_layouts.specs.Pages.{page_total}
use Rattle.frame_table.specs.Free.{free_before}
use Rattle.process_table.specs.Slots.{IsLeastFree}
use Rattle.syscalls.proofs.ForkPlan.{can_copy, forks, frames_are, no_room, no_signals, no_slot}
use Rattle.syscalls.proofs.children.fork.Goals.{in_default-via-in-Some+in_default, in_default-via-in_default}
use Rattle.syscalls.proofs.children.fork.Goals as goal

pub returns-in_default-clause-plan : goal.returns-in_default-clause-plan
returns-in_default-clause-plan g c =
    let r = g.V.RecordView.records c.args.view.now in
    let slot = c.free_slot in
    elim c.in_default.branch [
      | in_default-via-in-Some+in_default w ↦
          no_signals r c.args.caller.now slot.result c.sig.result slot.ensures.found slot.ensures.none c.sig.ensures.record c.fails.result.items.items c.fails.ensures.items w.in_default.is-1
      | in_default-via-in_default w ↦
          no_slot r c.args.caller.now slot.result c.sig.result slot.ensures.found slot.ensures.none c.sig.ensures.record c.fails.result.items.items c.fails.ensures.items w.in_default.is-0
    ]

pub returns-then-pages-free_frames-clause-plan : goal.returns-then-pages-free_frames-clause-plan
returns-then-pages-free_frames-clause-plan g c =
    let r = g.V.RecordView.records c.args.view.now in
    let slot = c.free_slot in
    let found = c.in-Some-Some in
    let refused = c.fails-then-pages-free_frames in
    let free : c.free_frames.result ≡ free_before r r.map.user_frames = frames_are r c.args.user_frames c.free_frames.result c.free_frames.ensures c.requires.frames in
    let short : free_before r r.map.user_frames < page_total c.args.caller.now.process = omega (arith, free, c.pages.ensures, c.if-pages-free_frames.true) in
    no_room r c.args.caller.now slot.result c.sig.result slot.ensures.found slot.ensures.none c.sig.ensures.record refused.result.items.items
    found.child found.signals found.is-0 found.is-1 c.if-caller-ge-PIDS_END.false refused.ensures.items short

pub returns-clause-plan : goal.returns-clause-plan
returns-clause-plan g c =
    let r = g.V.RecordView.records c.args.view.now in
    let slot = c.free_slot in
    let found = c.in-Some-Some in
    let free : c.free_frames.result ≡ free_before r r.map.user_frames = frames_are r c.args.user_frames c.free_frames.result c.free_frames.ensures c.requires.frames in
    let room : page_total c.args.caller.now.process ≤ free_before r r.map.user_frames = omega (arith, free, c.pages.ensures, c.if-pages-free_frames.false) in
    forks r c.args.caller.now slot.result c.sig.result slot.ensures.found slot.ensures.none c.sig.ensures.record c.fork_process.result.items.items
    found.child found.signals found.is-0 found.is-1 c.if-caller-ge-PIDS_END.false c.fork_process.ensures.items room

pub returns-clause-doable : goal.returns-clause-doable
returns-clause-doable g c =
    let r = g.V.RecordView.records c.args.view.now in
    let found = c.in-Some-Some in
    let least : IsLeastFree r found.child = subst (λ (place : Option ℕ). IfSome place (IsLeastFree r)) found.is-0 c.free_slot.ensures.found in
    let free : c.free_frames.result ≡ free_before r r.map.user_frames = frames_are r c.args.user_frames c.free_frames.result c.free_frames.ensures c.requires.frames in
    let room : page_total c.args.caller.now.process ≤ free_before r r.map.user_frames = omega (arith, free, c.pages.ensures, c.if-pages-free_frames.false) in
    (c.fork_process.ensures.patch, least.within, can_copy r c.args.caller.now found.child c.requires.caller least.free room)
