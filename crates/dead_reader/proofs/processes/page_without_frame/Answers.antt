use Rattle.std.proofs.Common.{◌≡◌, ℕ, ◌<◌, true, false, Some, arith}
use Rattle.record_layouts.specs.Least.{IsLeast, NonePasses}
use Rattle.record_layouts.specs.Left.{has_tables, lacks_frame}
use Rattle.record_layouts.specs.Pages.{is_mapped}
use Rattle.frame_table.proofs.Counting.{low_end, values_end}
use Rattle.dead_reader.proofs.Framed.{first_in_front, first_in_stack, front_ends, if_none, if_some, is_bare, mapped_by, none_below_front, none_below_stack}
use Rattle.dead_reader.proofs.processes.page_without_frame.Goals as goal

pub overflow_sub-below_stack : goal.overflow_sub-below_stack
overflow_sub-below_stack g c = (front_ends (g.V.RecordView.records c.args.view.now) c.args.slot c.args.rec.now _ c.requires.live c.pages-below_stack.ensures).0

pub first_without_frame-requires-clause-pages : goal.first_without_frame-requires-clause-pages
first_without_frame-requires-clause-pages g c =
    let ends = (front_ends (g.V.RecordView.records c.args.view.now) c.args.slot c.args.rec.now _ c.requires.live c.pages-below_stack.ensures).1 in
    let low = low_end c.args.rec.now c.requires.fits c.requires.live in
    omega (arith, ends, low)

pub returns-in-Some-clause-lacks : goal.returns-in-Some-clause-lacks
returns-in-Some-clause-lacks g c =
    let r = g.V.RecordView.records c.args.view.now in
    let ends = (front_ends r c.args.slot c.args.rec.now _ c.requires.live c.pages-below_stack.ensures).1 in
    first_in_front r c.args.slot c.args.rec.now _ _ c.requires.live ends c.in-Some.ensures.found

pub returns-in-Some-clause-first : goal.returns-in-Some-clause-first
returns-in-Some-clause-first g c lower less =
    let r = g.V.RecordView.records c.args.view.now in
    let ends = (front_ends r c.args.slot c.args.rec.now _ c.requires.live c.pages-below_stack.ensures).1 in
    let low = low_end c.args.rec.now c.requires.fits c.requires.live in
    none_below_front r c.args.slot c.args.rec.now _ _ lower ends low c.in-Some.ensures.found less

pub returns-in-None-clause-lacks : goal.returns-in-None-clause-lacks
returns-in-None-clause-lacks g c =
    let r = g.V.RecordView.records c.args.view.now in
    if_some _ _ _ (λ page least. first_in_stack r c.args.slot c.args.rec.now page c.requires.live least) c.first_without_frame-in-None.ensures.found

pub returns-in-None-clause-first : goal.returns-in-None-clause-first
returns-in-None-clause-first g c =
    let r = g.V.RecordView.records c.args.view.now in
    let rec = c.args.rec.now in
    let ends = (front_ends r c.args.slot rec _ c.requires.live c.pages-below_stack.ensures).1 in
    let tells : (page : ℕ) → IsLeast (is_bare r c.args.slot rec) 0x7fffc 0x80000 page → (lower : ℕ) → lower < page
    → lacks_frame r c.args.slot lower (Some rec) ≡ false =
    λ page least lower less. none_below_stack r c.args.slot rec _ page lower ends c.in-None.ensures.none least less in
    if_some (IsLeast (is_bare r c.args.slot rec) 0x7fffc 0x80000)
    (λ page. (lower : ℕ) → lower < page → lacks_frame r c.args.slot lower (Some rec) ≡ false)
    c.first_without_frame-in-None.result tells c.first_without_frame-in-None.ensures.found

pub returns-in-None-clause-none : goal.returns-in-None-clause-none
returns-in-None-clause-none g c =
    let r = g.V.RecordView.records c.args.view.now in
    let rec = c.args.rec.now in
    let ends = (front_ends r c.args.slot rec _ c.requires.live c.pages-below_stack.ensures).1 in
    let front : NonePasses (is_bare r c.args.slot rec) 16 (values_end rec) = rw ends at c.in-None.ensures.none in
    let tells : NonePasses (is_bare r c.args.slot rec) 0x7fffc 0x80000 → has_tables r c.args.slot ≡ true → is_mapped r c.args.slot rec ≡ true =
    λ stack tables. mapped_by r c.args.slot rec tables front stack in
    if_none (NonePasses (is_bare r c.args.slot rec) 0x7fffc 0x80000) (has_tables r c.args.slot ≡ true → is_mapped r c.args.slot rec ≡ true)
    c.first_without_frame-in-None.result tells c.first_without_frame-in-None.ensures.none
