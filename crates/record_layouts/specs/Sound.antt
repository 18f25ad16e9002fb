-- What holds of a kernel's records between its turns: each one decodes, and they agree with each other.
use Rattle.std.specs.Prelude.{◌≡◌, ◌≢◌, ℕ, ◌+◌, ◌-◌, ◌*◌, ◌<◌, ◌≤◌, ◌⊎◌, Bool, true, false, nat_lt, not, ◌==◌, ◌&&◌, ◌||◌, slice_index, Option, Some, None, is_some, IfSome}
use Rattle.ow_base.specs.UserStep.{register}
use Rattle.record_layouts.specs.declared.proc.ProcRec.{ProcRec}
use Rattle.record_layouts.specs.declared.sig.SigRec.{SigRec}
use Rattle.record_layouts.specs.declared.desc.DescRec.{DescRec}
use Rattle.record_layouts.specs.declared.exit.ExitRec.{ExitRec}
use Rattle.record_layouts.specs.Held.{Records, AreComplete, AreValues}
use Rattle.record_layouts.specs.Pages.{is_live, is_mapped, region_of, low_place, high_place}
use Rattle.record_layouts.specs.Decode.{slot_by, next_by}

-- a process that goes on has this slot, by its record
pub record IsIn (r : Records) (slot : ℕ) (process : ProcRec) : Type 0 where
  pub within : slot < 16
  pub there : r.procs slot ≡ Some process
  pub live : is_live process ≡ true

-- the exit record of a pid tells of a process: one that is live or one that has ended
abbrev pub is_used : Option ExitRec → Bool
is_used (Some exit) = not (exit.state == 0)
is_used None = false

-- Pids: those from 1 on below the next one have been given away. A pid is live in one slot, no two are live in one,
-- and the process and the signals of that slot have the pid. Records of ended processes have different pids, which
-- have ended. Parents have been given away.
pub record AreNumbered (r : Records) : Type 0 where
  pub used : (pid : ℕ) → 1 ≤ pid → pid ≤ 256 → is_used (r.exits pid) ≡ nat_lt pid (next_by r.head)
  pub one_slot : (pid other slot : ℕ) → slot_by (r.exits pid) ≡ Some slot → slot_by (r.exits other) ≡ Some slot → pid ≡ other
  pub exit : (slot : ℕ) (process : ProcRec) → IsIn r slot process → slot_by (r.exits process.pid) ≡ Some slot
  pub process : (pid slot : ℕ) → slot_by (r.exits pid) ≡ Some slot → (process : ProcRec) × (IsIn r slot process) × (process.pid ≡ pid)
  pub signals : (slot : ℕ) (process : ProcRec) → IsIn r slot process → (signals : SigRec) × (r.sigs slot ≡ Some signals) × (signals.pid ≡ process.pid)
  pub ended : (slot : ℕ) (process : ProcRec) → r.procs slot ≡ Some process → process.state ≡ 3
      → (exit : ExitRec) × (r.exits process.pid ≡ Some exit) × (exit.state ≡ 2)
  pub one_ended : (slot other : ℕ) (process another : ProcRec) → r.procs slot ≡ Some process → r.procs other ≡ Some another
      → process.state ≡ 3 → another.state ≡ 3 → process.pid ≡ another.pid → slot ≡ other
  pub parents : (slot : ℕ) (process : ProcRec) → r.procs slot ≡ Some process → process.parent < next_by r.head

-- a description that reads (1) or writes (2), by its mode
abbrev pub IsOpenTo : (mode : ℕ) → DescRec → Type 0
IsOpenTo mode description = (description.mode ≡ mode) ⊎ (description.mode ≡ 3)

-- a process in a call has a descriptor a0 that is open to this mode, asks for at most 0x7fffffff bytes in a2, and has
-- not done them all
pub record IsTransfer (r : Records) (process : ProcRec) (mode : ℕ) (description : DescRec) : Type 0 where
  pub descriptor : register process.regs 10 < 8
  pub named : slice_index process.descs (register process.regs 10) ≢ 0
  pub there : r.descs (slice_index process.descs (register process.regs 10) - 1) ≡ Some description
  pub allowed : IsOpenTo mode description
  pub count : register process.regs 12 ≤ 0x7fffffff
  pub left : process.done < register process.regs 12

-- it is in a write, in a read of a terminal of which nothing is done, or in a wait
abbrev pub IsInCall : Records → ProcRec → Type 0
IsInCall r process =
    ((process.call ≡ 2) × ((description : DescRec) × IsTransfer r process 2 description))
    ⊎ ((process.call ≡ 3) × (process.done ≡ 0) × ((description : DescRec) × IsTransfer r process 1 description × (description.object ≢ 1)))
    ⊎ ((process.call ≡ 10) × (process.done ≡ 0))

pub record AreInCalls (r : Records) : Type 0 where
  pub calls : (slot : ℕ) (process : ProcRec) → IsIn r slot process → process.state ≡ 2 → IsInCall r process
  -- a descriptor names a description that is open
  pub described : (slot : ℕ) (process : ProcRec) → IsIn r slot process → (fd : ℕ) → fd < 8 → slice_index process.descs fd ≢ 0
      → (description : DescRec) × (r.descs (slice_index process.descs fd - 1) ≡ Some description) × (description.object ≢ 0)

-- Each description that a live process names is on a terminal, as there are no files yet. A description that only
-- processes named that have ended may be on anything.
pub record AreOnTerminals (r : Records) : Type 0 where
  pub each : (slot : ℕ) (process : ProcRec) → IsIn r slot process → (fd : ℕ) → fd < 8 → slice_index process.descs fd ≢ 0
      → IfSome (r.descs (slice_index process.descs fd - 1)) (λ description. description.object ≢ 1)

-- a word of a slot's tables that a page of the process uses, or that names a table
abbrev pub is_table_place : ProcRec → (table word : ℕ) → Bool
is_table_place process table word =
    (table == 0 && (word == low_place || word == high_place))
    || (table == 1 && is_some (region_of process word))
    || (table == 2 && is_some (region_of process (1024 * high_place + word)))

-- each process has a frame for each of its pages
abbrev pub HaveFrames : Records → Type 0
HaveFrames r = (slot : ℕ) (process : ProcRec) → IsIn r slot process → is_mapped r slot process ≡ true

-- all words of the tables of a process that no page of it uses are 0
abbrev pub HaveCleanTables : Records → Type 0
HaveCleanTables r = (slot : ℕ) (process : ProcRec) → IsIn r slot process → (table word : ℕ) → table < 3 → word < 1024
    → is_table_place process table word ≡ false → r.table_words slot table word ≡ 0

pub record AreMapped (r : Records) : Type 0 where
  pub mapped : HaveFrames r
  pub clean : HaveCleanTables r

-- The calls that take pieces and are built are write (2) and wait (10): a process in a call is in one of them.
pub record AreInBuiltCalls (r : Records) : Type 0 where
  pub each : (slot : ℕ) (process : ProcRec) → IsIn r slot process → process.state ≡ 2 → (process.call ≡ 2) ⊎ (process.call ≡ 10)

pub record AreSound (r : Records) : Type 0 where
  pub complete : AreComplete r
  pub values : AreValues r
  pub numbered : AreNumbered r
  pub in_calls : AreInCalls r
  pub mapped : AreMapped r
