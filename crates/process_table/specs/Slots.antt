-- What the slots hold.
use Rattle.std.specs.Prelude.{◌≡◌, ℕ, ◌<◌, Bool, true, false, nat_lt, ◌==◌, ◌&&◌, ◌||◌, not, Option, Some, None}
use Rattle.record_layouts.specs.declared.proc.ProcRec.{ProcRec}
use Rattle.record_layouts.specs.declared.exit.ExitRec.{ExitRec}
use Rattle.record_layouts.specs.Unix.Choice.{is_any}
use Rattle.record_layouts.specs.Exit.{tells_live}
use Rattle.record_layouts.specs.Held.{Records}
use Rattle.record_layouts.specs.Pages.{has_ended, is_live}
use Rattle.process_table.specs.declared.slots.Sought.{Sought}

-- the record is that of a live process
abbrev pub is_live_one : Option ProcRec → Bool
is_live_one (Some process) = is_live process
is_live_one None = false

-- the record is that of a live child of this parent
abbrev pub is_live_child : (parent : ℕ) → Option ProcRec → Bool
is_live_child parent (Some process) = is_live process && process.parent == parent
is_live_child parent None = false

-- the record is that of a child of this parent that has ended
abbrev pub is_ended_child : (parent : ℕ) → Option ProcRec → Bool
is_ended_child parent (Some process) = has_ended process && process.parent == parent
is_ended_child parent None = false

-- the same, with a pid below one
abbrev pub is_earlier_child : (parent pid : ℕ) → Option ProcRec → Bool
is_earlier_child parent pid (Some process) = is_ended_child parent (Some process) && nat_lt process.pid pid
is_earlier_child parent pid None = false

-- one of the sixteen slots holds a record that passes
unfoldable pub has_such : Records → (test : Option ProcRec → Bool) → Bool
has_such r test = is_any (λ slot. test (r.procs slot)) 0 16

-- what a process is looked for by
abbrev pub is_sought : Sought → Option ProcRec → Bool
is_sought Sought.Live = is_live_one
is_sought (Sought.LiveChild parent) = is_live_child parent
is_sought (Sought.EndedChild parent) = is_ended_child parent
is_sought (Sought.EarlierChild parent pid) = is_earlier_child parent pid

-- the pid is that of a live process
abbrev pub is_live_exit : Option ExitRec → Bool
is_live_exit (Some exit) = tells_live exit
is_live_exit None = false

abbrev pub is_live_pid : Records → (pid : ℕ) → Bool
is_live_pid r pid = not (pid == 0) && is_live_exit (r.exits pid)

-- the slot of this record can be taken: it is free, or its process has ended and the parent is not live
abbrev pub is_free : Records → Option ProcRec → Bool
is_free r (Some process) = process.state == 0 || (has_ended process && not (is_live_pid r process.parent))
is_free r None = false

-- the least slot that can be taken
pub record IsLeastFree (r : Records) (slot : ℕ) : Type 0 where
  pub within : slot < 16
  pub free : is_free r (r.procs slot) ≡ true
  pub least : (other : ℕ) → other < slot → is_free r (r.procs other) ≡ false

-- none can
abbrev pub IsFull : Records → Type 0
IsFull r = (slot : ℕ) → slot < 16 → is_free r (r.procs slot) ≡ false
