-- Whether a slot holds a record that passes a test.
use Rattle.std.proofs.Common.{◌≡◌, ℕ, ◌<◌, Bool, true, false, Option, refl, arith}
use Rattle.record_layouts.specs.declared.proc.ProcRec.{ProcRec}
use Rattle.record_layouts.specs.Held.{Records}
use Rattle.process_table.specs.Slots.{has_such}
use Rattle.process_table.proofs.Least.{any_none, any_found, any_passing, Passing}

pub such_found : (r : Records) (test : Option ProcRec → Bool) (slot : ℕ) → slot < 16 → test (r.procs slot) ≡ true → has_such r test ≡ true
unfolding has_such
such_found r test slot within passes = any_found (λ k. test (r.procs k)) 0 16 16 slot refl (omega arith) within passes

pub such_none : (r : Records) (test : Option ProcRec → Bool) → ((slot : ℕ) → slot < 16 → test (r.procs slot) ≡ false) → has_such r test ≡ false
unfolding has_such
such_none r test none = any_none (λ k. test (r.procs k)) 0 16 16 refl (record { none = λ k from to. none k to })

pub such_passing : (r : Records) (test : Option ProcRec → Bool) → has_such r test ≡ true → Passing (λ slot. test (r.procs slot)) 0 16
unfolding has_such
such_passing r test there = any_passing (λ k. test (r.procs k)) 0 16 16 refl there
