use Rattle.std.proofs.Common.{◌≡◌, ℕ, ◌+◌, ◌-◌, ◌<◌, ◌≤◌, ◌∙◌, length, refl, arith, inl, inr}
use Rattle.std.proofs.lemmas.Bool.{cases_lt, cases_Bool}
use Rattle.std.proofs.lemmas.Bool.Decides.{nat_tests}
use Rattle.std.proofs.lemmas.List.{get_or-set_other}
use Rattle.std.proofs.lemmas.Grind.{get_or-set_at}
use Rattle.record_layouts.specs.Overlay.{Area, area_at, lies_in}
use Rattle.record_layouts.proofs.intent.Area.lay.Goals as goal

pub loop-number-init : goal.loop-number-init
loop-number-init g c =
    record {
      passed = λ j from before. absurd (omega arith);
      below = λ j there before. refl;
      ahead = λ j there from. refl;
      near = λ bound begun ended. begun;
    }

pub loop-number-preserved : goal.loop-number-preserved
loop-number-preserved g c =
    let area : Area = area_at (g.W.WordSource.words c.args.self.now.source.now) c.args.self.now.base in
    let at : ℕ = c.loop-number.number - c.args.first in
    let from : c.args.first ≤ c.loop-number.number = omega (arith, c.max-begin.ensures, c.loop-number.auto.number) in
    let inside : at < length c.loop-number.words = omega (arith, c.min-end.ensures, c.loop-number-test.true, c.loop-number.auto.words) in
    record {
      passed = λ j begun before. elim (cases_lt (c.args.first + j) c.loop-number.number) [
        | inl earlier ↦ get_or-set_other c.loop-number.words at j c.word.result 0 (λ e. omega arith) ∙ c.loop-number.invariant.passed j begun earlier
        | inr now ↦
            let same : c.args.first + j ≡ c.loop-number.number = omega arith in
            get_or-set_at c.loop-number.words at j c.word.result 0 (omega arith) inside ∙ c.word.ensures ∙ rw same refl
      ];
      below = λ j there before. get_or-set_other c.loop-number.words at j c.word.result 0 (λ e. omega (arith, c.loop-number.auto.number)) ∙ c.loop-number.invariant.below j there before;
      ahead = λ j there next. get_or-set_other c.loop-number.words at j c.word.result 0 (λ e. omega arith) ∙ c.loop-number.invariant.ahead j there (omega arith);
      near = λ bound begun ended. omega (arith, c.loop-number-test.true);
    }

pub returns-clause-each : goal.returns-clause-each
returns-clause-each g c = λ j there.
    elim (cases_Bool (lies_in c.args.change.span.begin c.args.change.span.end (c.args.first + j))) [
      | inl within ↦
          let low : c.args.change.span.begin ≤ c.args.first + j = grind (arith, nat_tests) in
          let high : c.args.first + j < c.args.change.span.end = grind (arith, nat_tests) in
          rw within (c.loop-number.invariant.passed j (omega (arith, c.max-begin.ensures)) (omega (arith, c.min-end.ensures, c.loop-number-test.false)))
      | inr beside ↦ rw beside (elim (cases_lt (c.args.first + j) c.args.change.span.begin) [
        | inl before ↦ c.loop-number.invariant.below j there (omega (arith, c.max-begin.ensures))
        | inr from ↦
            let past : c.args.change.span.end ≤ c.args.first + j = grind (arith, nat_tests) in
            c.loop-number.invariant.ahead j there (c.loop-number.invariant.near (c.args.first + j) (omega (arith, c.max-begin.ensures)) (omega (arith, c.min-end.ensures)))
      ])
    ]
