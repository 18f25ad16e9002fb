use Rattle.std.proofs.Common.{◌≡◌, ◌+◌, ◌-◌, ◌/◌, ◌^◌, ◌<◌, arith}
use Rattle.std.proofs.lemmas.Bool.Decides.{nat_tests}
use Rattle.std.proofs.lemmas.Grind.{common_steps}
use Rattle.frame_table.proofs.Free.{free_by_claim}
use Rattle.frame_table.proofs.pool.is_free_frame.Goals as goal

pub returns-in-Some : goal.returns-in-Some
returns-in-Some g c =
    let r = g.V.RecordView.records c.args.view.now in
    let slot = r.owners c.args.number / 2 ^ 20 - 1 in
    let within : slot < 16 = grind (arith, nat_tests, common_steps) in
    let names : r.owners c.args.number / 2 ^ 20 ≡ slot + 1 = grind (arith, nat_tests, common_steps) in
    let one = free_by_claim r c.args.number slot within names in
    grind (arith, nat_tests, common_steps, one)

pub returns-in-None : goal.returns-in-None
returns-in-None g c =
    let r = g.V.RecordView.records c.args.view.now in
    let slot = r.owners c.args.number / 2 ^ 20 - 1 in
    let within : slot < 16 = grind (arith, nat_tests, common_steps) in
    let names : r.owners c.args.number / 2 ^ 20 ≡ slot + 1 = grind (arith, nat_tests, common_steps) in
    let one = free_by_claim r c.args.number slot within names in
    grind (arith, nat_tests, common_steps, one)
