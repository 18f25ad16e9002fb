use Rattle.std.proofs.Common.{◌≡◌, ℕ, ◌*◌, ◌%◌, ◌^◌, ◌-◌, ap, bit_and, arith}
use Rattle.std.proofs.lemmas.Nat.{one_shl}
use Rattle.record_layouts.specs.declared.sig.SigRec.{SigRec}
use Rattle.process_table.proofs.Pending.{fewer_fit}
use Rattle.process_table.proofs.signals.without_signal.Goals as goal

pub overflow_shl-result : goal.overflow_shl-result
overflow_shl-result c = omega (arith, c.requires.signal)

pub returns-clause-same : goal.returns-clause-same
returns-clause-same c =
    let shifted : 1 * 2 ^ c.args.signal % 2 ^ 32 ≡ 2 ^ c.args.signal = one_shl c.args.signal 32 (omega (arith, c.requires.signal)) in
    ap (λ (bit : ℕ). let s : SigRec = record c.args.signals.now { pending = bit_and c.args.signals.now.pending (2 ^ 32 - 1 - bit) } in s) shifted

pub returns-clause-fits : goal.returns-clause-fits
returns-clause-fits c = fewer_fit c.args.signals.now (2 ^ 32 - 1 - 1 * 2 ^ c.args.signal % 2 ^ 32) c.requires.fits
