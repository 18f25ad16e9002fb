-- The service that a call asks for, and when it may be asked.
use Rattle.std.specs.Prelude.{◌≡◌, ℕ, ◌<◌, ◌≤◌, true, Option, Some, None, IfSome}
use Rattle.ow_base.specs.Sv32.{WordMap}
use Rattle.ow_base.specs.Pages.{is_readable}
use Rattle.ow_base.specs.declared.machine.Bank.{Bank}
use Rattle.record_layouts.specs.declared.proc.ProcRec.{ProcRec}
use Rattle.record_layouts.specs.Held.{Records, AreComplete}
use Rattle.record_layouts.specs.Head.{FitsHead}
use Rattle.record_layouts.specs.Proc.{FitsProc}
use Rattle.record_layouts.specs.Pages.{is_live, is_mapped}
use Rattle.record_layouts.specs.Patch.{IsPatch}
use Rattle.record_layouts.specs.Sound.{IsInCall}
use Rattle.process_table.specs.Patches.{bank_of, saved_process}
use Rattle.record_layouts.specs.Unix.Spaces.{takes_word}
use Rattle.frame_table.specs.Maps.{framed_pages}
use Rattle.address_space.specs.Spaces.{CanCopy, CanGrow}
use Rattle.syscalls.specs.declared.caller.Caller.{Caller}
use Rattle.syscalls.specs.declared.service.Service.{Service}
use Rattle.syscalls.specs.declared.service.Service.TheVariants as service
use Rattle.syscalls.specs.Planned.{Planned, PlanFork, PlanGrow, PlanOnce, PlanPut, PlanWrite, pages_in, planned_call, planned_piece}

-- a caller can be served: its records can be spelled, it has a slot and goes on
pub record IsCaller (c : Caller) : Type 0 where
  pub within : c.slot < 16
  pub head : FitsHead c.head
  pub fits : FitsProc c.process
  pub live : is_live c.process ≡ true

-- the plan that a service carries
abbrev pub plan_of : Service → Planned
plan_of (service.Once patch) = PlanOnce patch.items.items
plan_of (service.TtyWrite tty from len patch) = PlanWrite tty from len patch.items.items
plan_of (service.Grow count patch) = PlanGrow count patch.items.items
plan_of (service.Fork child patch) = PlanFork child patch.items.items
plan_of (service.PutStatus address status patch) = PlanPut address status patch.items.items

-- the service of the process in a slot is the one that its call asks for
abbrev pub IsCallOf : Records → WordMap → (slot trap : ℕ) → Bank → Service → Type 0
IsCallOf r words slot trap bank s =
    IfSome r.head (λ head. IfSome (r.procs slot) (λ process. plan_of s ≡ planned_call r words slot trap head process bank))

abbrev pub IsPieceOf : Records → WordMap → (slot trap : ℕ) → Service → Type 0
IsPieceOf r words slot trap s =
    IfSome r.head (λ head. IfSome (r.procs slot) (λ process. plan_of s ≡ planned_piece r words slot trap head process))

-- 1 to 16 bytes are written, on a terminal that there is, and the process in the slot can read them
pub record IsWritable (r : Records) (words : WordMap) (slot tty from len : ℕ) : Type 0 where
  pub terminal : tty < 2
  pub some : 1 ≤ len
  pub most : len ≤ 16
  pub readable : is_readable (pages_in r words slot) from len ≡ true

-- the service can be done: its patch can be committed, and its bytes can be read and written
abbrev pub IsDoable : Records → WordMap → (slot : ℕ) → Service → Type 0
IsDoable r words slot (service.Once patch) = IsPatch patch.items.items
IsDoable r words slot (service.TtyWrite tty from len patch) = IsPatch patch.items.items × IsWritable r words slot tty from len
IsDoable r words slot (service.Grow count patch) = IsPatch patch.items.items × IfSome (r.procs slot) (CanGrow r slot count)
IsDoable r words slot (service.Fork child patch) = IsPatch patch.items.items × (child < 16) × IfSome (r.procs slot) (CanCopy r slot child)
IsDoable r words slot (service.PutStatus address status patch) = IsPatch patch.items.items × (takes_word (framed_pages r words slot) address ≡ true)

-- a call in a slot can be served: every record decodes, and each page has a frame
pub record CanCall (r : Records) (slot : ℕ) : Type 0 where
  pub within : slot < 16
  pub complete : AreComplete r
  pub mapped : IfSome (r.procs slot) (λ process. is_mapped r slot process ≡ true)

-- the process is live and outside a call
abbrev pub IsOutside : Option ProcRec → Type 0
IsOutside (Some process) = process.state ≡ 1
IsOutside None = ⊥

-- the process is live and in a call
abbrev pub IsInside : Records → Option ProcRec → Type 0
IsInside r (Some process) = (process.state ≡ 2) × IsInCall r process
IsInside r None = ⊥

-- the record is this one but for registers and pc
abbrev pub IsWithBank : ProcRec → Option ProcRec → Type 0
IsWithBank process (Some other) = process ≡ saved_process other (bank_of process)
IsWithBank process None = ⊥

-- a caller by the records: it is the process of its slot with the registers that it has, and the head is the records'
pub record IsCallerIn (r : Records) (c : Caller) : Type 0 where
  pub can : CanCall r c.slot
  pub caller : IsCaller c
  pub head : r.head ≡ Some c.head
  pub process : IsWithBank c.process (r.procs c.slot)
