-- What a fork makes of records, and when it may.
use Rattle.std.proofs.Common.{◌≡◌, ℕ, ◌<◌, ◌≤◌, true, Option, Some, refl}
use Rattle.ow_base.specs.Words.{updated}
use Rattle.record_layouts.specs.declared.head.HeadRec.{HeadRec}
use Rattle.record_layouts.specs.declared.proc.ProcRec.{ProcRec}
use Rattle.record_layouts.specs.declared.sig.SigRec.{SigRec}
use Rattle.record_layouts.specs.declared.exit.ExitRec.{ExitRec}
use Rattle.record_layouts.specs.Held.{Records, with_items}
use Rattle.record_layouts.specs.Sound.{AreSound, IsIn}
use Rattle.process_table.specs.Patches.{answered_process, fork_items, forked_exit, forked_head, forked_process, forked_signals}
use Rattle.process_table.specs.Slots.{is_free}
use Rattle.process_table.proofs.Regions.{changed}

-- the process of a slot may fork into another one, which can be taken
pub record CanFork (r : Records) (head : HeadRec) (slot child : ℕ) (process : ProcRec) (signals : SigRec) : Type 0 where
  pub sound : AreSound r
  pub is_head : r.head ≡ Some head
  pub is : IsIn r slot process
  pub within : child < 16
  pub free : is_free r (r.procs child) ≡ true
  pub signalled : r.sigs slot ≡ Some signals
  pub few : head.next ≤ 256

-- the records after it; the process is told with the registers that it forks with
abbrev pub forked_procs : Records → HeadRec → (slot child : ℕ) → ProcRec → ℕ → Option ProcRec
forked_procs r head slot child saved =
    updated (updated r.procs slot (Some (answered_process saved head.next))) child (Some (forked_process saved head.next))

abbrev pub forked_sigs : Records → HeadRec → (child : ℕ) → SigRec → ℕ → Option SigRec
forked_sigs r head child signals = updated r.sigs child (Some (forked_signals signals head.next))

abbrev pub forked_exits : Records → HeadRec → (child : ℕ) → ℕ → Option ExitRec
forked_exits r head child = updated r.exits head.next (Some (forked_exit child))

abbrev pub forked_records : Records → HeadRec → (slot child : ℕ) → ProcRec → SigRec → (trap : ℕ) → Records
forked_records r head slot child saved signals trap =
    changed r (Some (forked_head head trap saved.pid)) (forked_procs r head slot child saved) (forked_sigs r head child signals) (forked_exits r head child)

pub forked_are : (r : Records) (head : HeadRec) (slot child : ℕ) (saved : ProcRec) (signals : SigRec) (trap : ℕ)
    → with_items r (fork_items head slot child saved signals trap) ≡ forked_records r head slot child saved signals trap
unfolding fork_items
forked_are r head slot child saved signals trap = refl
