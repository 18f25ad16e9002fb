use Rattle.std.proofs.Common.{◌≡◌, ℕ, true, false, nat_lt, ap, refl, ◌∙◌, arith}
use Rattle.std.proofs.lemmas.Bool.Decides.{nat_tests}
use Rattle.process_table.specs.Choosing.{is_ready, pid_by}
use Rattle.process_table.proofs.Nexts.{held_lesser, held_same, not_ready_above, ready_above}
use Rattle.process_table.proofs.choice.next_ones.Goals as goal
use Rattle.process_table.proofs.choice.next_ones.Goals.{then-process-last, else-process-last}

pub loop-slot-preserved-in_default : goal.loop-slot-preserved-in_default
loop-slot-preserved-in_default g c =
    let r = g.V.RecordView.records c.args.view.now in
    let now = c.args.now.now in
    let slot = c.loop-slot.slot in
    let not_ready : is_ready r now 0 slot ≡ false = c.in_default.ensures.none in
    record {
      end = omega arith;
      above = held_same r now c.args.last slot c.loop-slot.nexts.above c.loop-slot.invariant.above (not_ready_above r now c.args.last slot not_ready);
      least = held_same r now 0 slot c.loop-slot.nexts.least c.loop-slot.invariant.least not_ready;
    }

pub loop-slot-preserved : goal.loop-slot-preserved
loop-slot-preserved g c =
    let r = g.V.RecordView.records c.args.view.now in
    let now = c.args.now.now in
    let slot = c.loop-slot.slot in
    let pid = c.in-Some.process.pid in
    let there = c.in-Some.ensures.ready.0 in
    let ready : is_ready r now 0 slot ≡ true = c.in-Some.ensures.ready.1 in
    let of : pid_by (r.procs slot) ≡ pid = ap pid_by there in
    let tested : is_ready r now c.args.last slot ≡ nat_lt c.args.last pid = ready_above r now c.args.last slot ready ∙ ap (λ (n : ℕ). nat_lt c.args.last n) of in
    let least = held_lesser r now 0 slot c.loop-slot.nexts.least (record { pid = pid; slot = slot }) c.lesser.result c.loop-slot.invariant.least refl ready of c.lesser.ensures.one_of c.lesser.ensures.least c.lesser.ensures.no_more in
    elim c.if-process-last.branch [
      | then-process-last w ↦
          let over : nat_lt c.args.last pid ≡ true = grind (arith, nat_tests, w.if-process-last.true) in
          rw w.nexts-is (record {
            end = omega arith;
            above = held_lesser r now c.args.last slot c.loop-slot.nexts.above (record { pid = pid; slot = slot }) w.lesser-then-process-last.result c.loop-slot.invariant.above refl (tested ∙ over) of
                w.lesser-then-process-last.ensures.one_of w.lesser-then-process-last.ensures.least w.lesser-then-process-last.ensures.no_more;
            least = least;
          })
      | else-process-last w ↦
          let under : nat_lt c.args.last pid ≡ false = grind (arith, nat_tests, w.if-process-last.false) in
          rw w.nexts-is (record {
            end = omega arith;
            above = held_same r now c.args.last slot c.loop-slot.nexts.above c.loop-slot.invariant.above (tested ∙ under);
            least = least;
          })
    ]
