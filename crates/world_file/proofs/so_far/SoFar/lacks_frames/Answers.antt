use Rattle.std.proofs.Common.{◌≡◌, ◌+◌, ◌∙◌, nat_lt, take, arith, ap, sym}
use Rattle.std.proofs.lemmas.List.{take_all}
use Rattle.ow_base.specs.World.{start_pages}
use Rattle.ow_base.specs.declared.worlds.Start.{Start as Started}
use Rattle.world_file.specs.WorldFacts.{Facts, programs_of}
use Rattle.world_file.specs.WorldReasons.{named_pages}
use Rattle.world_file.proofs.WorldFields.{lt_is_true}
use Rattle.world_file.proofs.WorldStarts.{pages_more, pages_within, short_alike}
use Rattle.world_file.proofs.so_far.SoFar.lacks_frames.Goals as goal

abbrev no_start : Started
no_start = record { program = 0; tty = 0 }

pub loop-start-init : goal.loop-start-init
loop-start-init c = omega (arith, ap (λ (f : Facts). f.shape.user_frames) c.self.view_is)

pub returns-then-pages-free : goal.returns-then-pages-free
returns-then-pages-free c =
    let loop = c.loop-start in
    let programs = programs_of c.args.self.now in
    let starts = c.deref-start-items.result.now in
    let all : start_pages programs starts ≡ start_pages programs c.args.self.now.starts = ap (start_pages programs) (c.deref-start-items.ensures.value ∙ ap (λ (f : Facts). f.starts) c.self.view_is) in
    let more = named_pages c.args.name.now programs in
    sym (lt_is_true c.args.self.now.shape.user_frames (start_pages programs c.args.self.now.starts + more)
    (omega (arith, loop.invariant, c.if-pages-free.true, c.pages_at-pages.ensures, all, pages_within programs starts loop.start-index no_start c.loop-start-test.true)))

pub loop-start-preserved : goal.loop-start-preserved
loop-start-preserved c =
    let loop = c.loop-start in
    omega (
      arith,
      loop.invariant,
      c.if-pages-free.false,
      c.pages_at-pages.ensures,
      pages_more (programs_of c.args.self.now) c.deref-start-items.result.now loop.start-index no_start c.loop-start-test.true,
    )

pub returns : goal.returns
returns c =
    let loop = c.loop-start in
    let programs = programs_of c.args.self.now in
    let starts = c.deref-start-items.result.now in
    let whole : take loop.start-index starts ≡ c.args.self.now.starts =
    take_all loop.start-index starts c.loop-start-test.false ∙ c.deref-start-items.ensures.value ∙ ap (λ (f : Facts). f.starts) c.self.view_is in
    let all = ap (start_pages programs) whole in
    ap (λ n. nat_lt loop.free n) c.named_pages.ensures
    ∙ short_alike loop.free (start_pages programs c.args.self.now.starts) c.args.self.now.shape.user_frames (named_pages c.args.name.now programs) (omega (arith, loop.invariant, all))
