-- What is done with the process that is chosen.
use Rattle.std.proofs.Common.{◌≡◌, ◌==◌, ℕ, true, Option, Some, None, IfSome, inl, inr, refl, sym}
use Rattle.std.proofs.lemmas.Bool.{cases_Bool}
use Rattle.ow_base.specs.declared.machine.Now.{Now}
use Rattle.record_layouts.specs.declared.proc.ProcRec.{ProcRec}
use Rattle.record_layouts.specs.Held.{Records}
use Rattle.process_table.specs.declared.choice.Choice.{Choice}
use Rattle.process_table.specs.Choosing.{IsChosen, IsChoice, IsWork, is_ready, is_ready_one, signal_by, work_of}

-- the work is one of three
is_one : (r : Records) (now : Now) (slot : ℕ) (signal : Option ℕ) (state : ℕ) → IsWork r now slot (work_of slot signal state) → IsChoice r now (work_of slot signal state)
is_one r now slot (Some signal) state is = is
is_one r now slot None state is = elim (cases_Bool (state == 2)) [ inl call ↦ rw call (rw call at is) | inr out ↦ rw out (rw out at is) ]

worked_by : (r : Records) (now : Now) (slot above : ℕ) (c : Choice) (held : Option ProcRec) → held ≡ r.procs slot → IsChosen r now slot
    → is_ready_one r now above slot held ≡ true
    → IfSome held (λ process. c ≡ work_of slot (signal_by process (r.sigs slot)) process.state) → IsChoice r now c
worked_by r now slot above c None same chosen ready is = cc
worked_by r now slot above c (Some process) same chosen ready is =
    let work : IsWork r now slot c = record { chosen = chosen; process = process; there = sym same; work = is } in
    rw is (is_one r now slot (signal_by process (r.sigs slot)) process.state (rw is at work))

-- the work that is found is the choice
pub worked : (r : Records) (now : Now) (slot above : ℕ) (c : Choice) → IsChosen r now slot → is_ready r now above slot ≡ true
    → IfSome (r.procs slot) (λ process. c ≡ work_of slot (signal_by process (r.sigs slot)) process.state) → IsChoice r now c
unfolding is_ready
worked r now slot above c chosen ready is = worked_by r now slot above c (r.procs slot) refl chosen ready is
