-- The bits of pending signals.
use Rattle.std.proofs.Common.{◌≡◌, ℕ, ◌%◌, bit_and, arith}
use Rattle.std.proofs.lemmas.Nat.{and_le_l, and_mod}
use Rattle.record_layouts.specs.declared.sig.SigRec.{SigRec}
use Rattle.record_layouts.specs.Sig.{FitsSig}

even_and : (a b : ℕ) → a % 2 ≡ 0 → bit_and a b % 2 ≡ 0
even_and a b even =
    let low : bit_and a b % 2 ≡ bit_and (a % 2) (b % 2) = and_mod a b 1 in
    omega (arith, low, even, and_le_l (a % 2) (b % 2))

-- with fewer signals pending they can still be spelled
pub fewer_fit : (signals : SigRec) (mask : ℕ) → FitsSig signals → FitsSig (record signals { pending = bit_and signals.pending mask })
fewer_fit signals mask fits = record {
  highest = omega (arith, and_le_l signals.pending mask, fits.highest);
  lowest = even_and signals.pending mask fits.lowest;
}
