use Rattle.std.proofs.Common.{◌≡◌, ◌≢◌, ◌⊎◌, ℕ, ◌<◌, ◌≤◌, true, false, List, inl, inr, refl, arith}
use Rattle.ow_base.specs.UserStep.{register}
use Rattle.record_layouts.specs.Sound.{IsInCall, IsOpenTo, IsTransfer}
use Rattle.kernel_tests.specs.Small.{small_description, small_process, small_records}
use Rattle.kernel_tests.proofs.syscalls_tests.continued.Goals as goal

transfers : (mode call done : ℕ) (regs : List ℕ) → IsOpenTo mode (small_description false 0) → register regs 10 ≡ 0 → register regs 12 ≤ 0x7fffffff → done < register regs 12
    → IsTransfer (small_records true false call done regs) (small_process true call done regs) mode (small_description false 0)
transfers mode call done regs opens descriptor count left = record {
  descriptor = omega (arith, descriptor);
  named = rw descriptor (λ is. absurd (omega (arith, is)));
  there = rw descriptor refl;
  allowed = opens;
  count = count;
  left = left;
}

in_call : (call done : ℕ) (regs : List ℕ) → ((call ≡ 2 → ⊥) × (call ≡ 3) × (done ≡ 0)) ⊎ (call ≡ 2) → register regs 10 ≡ 0 → register regs 12 ≤ 0x7fffffff → done < register regs 12
    → IsInCall (small_records true false call done regs) (small_process true call done regs)
in_call call done regs (inr writes) descriptor count left = inl (writes, (small_description false 0, transfers 2 call done regs (inr refl) descriptor count left))
in_call call done regs (inl reads) descriptor count left =
    inr (inl (reads.1, reads.2, (small_description false 0, transfers 1 call done regs (inr refl) descriptor count left, λ is. absurd (omega (arith, is)))))

pub next_piece-requires-clause-inside : goal.next_piece-requires-clause-inside
next_piece-requires-clause-inside c =
    (refl, in_call c.args.call c.args.done c.regs_with.result c.if-done-ne0.either c.regs_with.ensures.descriptor (omega (arith, c.regs_with.ensures.count)) (omega (arith, c.regs_with.ensures.count)))
