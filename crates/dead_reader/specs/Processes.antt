-- The processes that are left.
use Rattle.std.specs.Prelude.{◌≡◌, ℕ, ◌<◌, true, Option, Some}
use Rattle.record_layouts.specs.declared.dead_proc.DeadProc.{DeadProc}
use Rattle.record_layouts.specs.declared.proc.ProcRec.{ProcRec}
use Rattle.record_layouts.specs.Decode.{decodes, pid_in}
use Rattle.record_layouts.specs.Held.{Records}
use Rattle.record_layouts.specs.Left.{HandedOver, IsFirstUnreadable, dead_proc}
use Rattle.dead_reader.specs.declared.processes.Unreadable.{Unreadable}

-- the process in a slot, by its record, decodes
pub record IsDecoded (r : Records) (slot : ℕ) (process : ProcRec) : Type 0 where
  pub within : slot < 16
  pub pid : ℕ
  pub live : pid_in r slot ≡ Some pid
  pub there : r.procs slot ≡ Some process
  pub decodes : decodes r slot pid process ≡ true

-- the process in a slot as the panic left it
pub record IsDead (r : Records) (handed : Option HandedOver) (slot : ℕ) (dead : DeadProc) : Type 0 where
  pub process : ProcRec
  pub decoded : IsDecoded r slot process
  pub left : dead ≡ dead_proc r handed slot process

-- an exit record is live in a slot, and this is the first part of its process that cannot be read
pub record IsUnreadable (r : Records) (slot : ℕ) (unreadable : Unreadable) : Type 0 where
  pub pid : ℕ
  pub live : pid_in r slot ≡ Some pid
  pub first : IsFirstUnreadable r slot pid unreadable.id unreadable.index
