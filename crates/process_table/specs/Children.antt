-- The child that a process waits for: of its children that have ended the one with the least pid.
use Rattle.std.specs.Prelude.{◌≡◌, ℕ, ◌<◌, Bool, false, not, ◌&&◌, Option, Some, None}
use Rattle.record_layouts.specs.declared.proc.ProcRec.{ProcRec}
use Rattle.record_layouts.specs.Unix.Children.{ended_child}
use Rattle.record_layouts.specs.Unix.State.{Unix, least_from}
use Rattle.record_layouts.specs.Held.{Records}
use Rattle.process_table.specs.Slots.{has_such, is_earlier_child, is_ended_child}

-- no child of the parent with a lesser pid has ended
abbrev pub is_first_child : Records → (parent : ℕ) → Option ProcRec → Bool
is_first_child r parent (Some process) = is_ended_child parent (Some process) && not (has_such r (is_earlier_child parent process.pid))
is_first_child r parent None = false

-- the slot of the first child that has ended
unfoldable pub child_slot : Records → (parent : ℕ) → Option ℕ
child_slot r parent = least_from (λ slot. is_first_child r parent (r.procs slot)) 0 16

-- in a slot is the child that a process of the Unix waits for
pub record IsChildOf (r : Records) (u : Unix) (parent slot : ℕ) : Type 0 where
  pub process : ProcRec
  pub within : slot < 16
  pub there : r.procs slot ≡ Some process
  pub state : process.state ≡ 3
  pub parent_is : process.parent ≡ parent
  pub first : ended_child u parent ≡ Some process.pid
  pub ended : u.ended process.pid ≡ Some (record { parent = process.parent; status = process.status })

-- the slot is found exactly where such a child is
abbrev pub IsWaited : Records → Unix → (parent : ℕ) → (slot : Option ℕ) → Type 0
IsWaited r u parent (Some slot) = IsChildOf r u parent slot
IsWaited r u parent None = ended_child u parent ≡ None
