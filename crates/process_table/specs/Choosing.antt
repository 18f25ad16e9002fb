-- Which process is next, by its records.
use Rattle.std.specs.Prelude.{◌≡◌, ℕ, ◌-◌, ◌%◌, ◌<◌, ◌≤◌, ◌⊎◌, Bool, true, false, nat_lt, not, ◌==◌, ◌&&◌, ◌||◌, if◌then◌else◌, slice_index, Option, Some, None, is_some, IfSome}
use Rattle.ow_base.specs.UserStep.{register}
use Rattle.ow_base.specs.declared.machine.Now.{Now}
use Rattle.record_layouts.specs.declared.head.HeadRec.{HeadRec}
use Rattle.record_layouts.specs.declared.proc.ProcRec.{ProcRec}
use Rattle.record_layouts.specs.declared.sig.SigRec.{SigRec}
use Rattle.record_layouts.specs.declared.desc.DescRec.{DescRec}
use Rattle.record_layouts.specs.declared.term.TermRec.{TermRec}
use Rattle.record_layouts.specs.Unix.Choice.{Keys, least_from}
use Rattle.record_layouts.specs.Decode.{is_pending}
use Rattle.record_layouts.specs.Desc.{is_on_file, is_on_terminal}
use Rattle.record_layouts.specs.Held.{Records}
use Rattle.record_layouts.specs.Pages.{is_live, is_outside}
use Rattle.process_table.specs.Slots.{has_such, is_live_one, is_live_child, is_ended_child}
use Rattle.process_table.specs.declared.choice.Choice.{Choice}
use Rattle.process_table.specs.declared.choice.Choice.TheVariants as choice

-- what is known of the typed bytes
abbrev pub keys_of : Now → Keys
keys_of now = record { arrived = λ tty. slice_index now.arrived tty; typed = λ tty. slice_index now.typed tty }

-- the signal that goes next to a process: 9 before all others, which wait while a handler runs, then the least
unfoldable pub next_signal : ProcRec → SigRec → Option ℕ
next_signal process signals =
    if is_pending (Some signals) 9 then Some 9 else
    if process.flags % 2 == 1 then None else least_from (is_pending (Some signals)) 1 15

abbrev pub signal_by : ProcRec → Option SigRec → Option ℕ
signal_by process (Some signals) = next_signal process signals
signal_by process None = None

-- a read of a terminal can go on: the next typed byte has arrived, or all have
abbrev pub tty_goes_on : Now → (tty : ℕ) → Option TermRec → Bool
tty_goes_on now tty (Some terminal) =
    nat_lt terminal.consumed (slice_index now.arrived tty) || slice_index now.arrived tty == slice_index now.typed tty
tty_goes_on now tty None = false

-- a read through a description can: of a file always
abbrev pub read_by : Records → Now → Option DescRec → Bool
read_by r now (Some description) = is_on_file description || (is_on_terminal description && tty_goes_on now description.index (r.terms description.index))
read_by r now None = false

-- the description that a descriptor word names: 0 names none
abbrev pub named_by : Records → (word : ℕ) → Option DescRec
named_by r word = if word == 0 then None else r.descs (word - 1)

-- the description that a process in a call has in a0
unfoldable pub description_in : Records → ProcRec → Option DescRec
description_in r process = named_by r (slice_index process.descs (register process.regs 10))

-- a wait can go on: a child has ended, or there is none
unfoldable pub wait_goes_on : Records → (pid : ℕ) → Bool
wait_goes_on r pid = has_such r (is_ended_child pid) || not (has_such r (is_live_child pid))

-- a call in progress can go on
unfoldable pub call_goes_on : Records → Now → ProcRec → Bool
call_goes_on r now process =
    if process.call == 2 then true else
    if process.call == 3 then read_by r now (description_in r process) else
    if process.call == 10 then wait_goes_on r process.pid else false

-- a live process can run: a signal goes to it, it is outside a call, or its call can go on
abbrev pub is_runnable_in : Records → Now → (slot : ℕ) → ProcRec → Bool
is_runnable_in r now slot process = is_some (signal_by process (r.sigs slot)) || (is_outside process || call_goes_on r now process)

abbrev pub is_ready_one : Records → Now → (above slot : ℕ) → Option ProcRec → Bool
is_ready_one r now above slot (Some process) = nat_lt above process.pid && (is_live process && is_runnable_in r now slot process)
is_ready_one r now above slot None = false

-- the slot holds a live process with a pid above this one that can run
unfoldable pub is_ready : Records → Now → (above slot : ℕ) → Bool
is_ready r now above slot = is_ready_one r now above slot (r.procs slot)

-- the slot is ready, and this is its process
abbrev pub IsReadyAs : Records → Now → (above slot : ℕ) → ProcRec → Type 0
IsReadyAs r now above slot process = (r.procs slot ≡ Some process) × (is_ready r now above slot ≡ true)

-- a signal goes to the process of the slot
abbrev pub HasSignal : Records → (slot : ℕ) → Type 0
HasSignal r slot = IfSome (r.procs slot) (λ process. is_some (signal_by process (r.sigs slot)) ≡ true)

-- the pid of a record
abbrev pub pid_by : Option ProcRec → ℕ
pid_by (Some process) = process.pid
pid_by None = 0

-- of these processes the one with the least pid
pub record IsNext (r : Records) (now : Now) (above slot : ℕ) : Type 0 where
  pub within : slot < 16
  pub ready : is_ready r now above slot ≡ true
  pub least : (other : ℕ) → other < 16 → is_ready r now above other ≡ true → pid_by (r.procs slot) ≤ pid_by (r.procs other)

-- there is none
pub record IsNone (r : Records) (now : Now) (above : ℕ) : Type 0 where
  pub none : (slot : ℕ) → slot < 16 → is_ready r now above slot ≡ false

-- the pid that had the last trap or slice
abbrev pub last_pid : Option HeadRec → ℕ
last_pid (Some head) = head.last
last_pid None = 0

-- the chosen one: the least above the last pid, else the least of all
abbrev pub IsChosen : Records → Now → (slot : ℕ) → Type 0
IsChosen r now slot = IsNext r now (last_pid r.head) slot ⊎ (IsNone r now (last_pid r.head) × IsNext r now 0 slot)

-- what is done with a chosen process: a signal before a call, a call before user mode
abbrev pub work_of : (slot : ℕ) → (signal : Option ℕ) → (state : ℕ) → Choice
work_of slot (Some signal) state = choice.Signal slot
work_of slot None state = if state == 2 then choice.Piece slot else choice.User slot

-- this is done with the process of the slot
abbrev pub IsWorkOf : Records → (slot : ℕ) → Choice → Type 0
IsWorkOf r slot choice = IfSome (r.procs slot) (λ process. choice ≡ work_of slot (signal_by process (r.sigs slot)) process.state)

-- the process is the chosen one, and this is what is done with it
pub record IsWork (r : Records) (now : Now) (slot : ℕ) (choice : Choice) : Type 0 where
  pub chosen : IsChosen r now slot
  pub process : ProcRec
  pub there : r.procs slot ≡ Some process
  pub work : choice ≡ work_of slot (signal_by process (r.sigs slot)) process.state

-- none can run: some live process waits, or none is live
abbrev pub IsRest : Records → Now → (is_any_live : Bool) → Type 0
IsRest r now is_any_live = IsNone r now 0 × (has_such r is_live_one ≡ is_any_live)

abbrev pub IsChoice : Records → Now → Choice → Type 0
IsChoice r now (choice.User slot) = IsWork r now slot (choice.User slot)
IsChoice r now (choice.Piece slot) = IsWork r now slot (choice.Piece slot)
IsChoice r now (choice.Signal slot) = IsWork r now slot (choice.Signal slot)
IsChoice r now choice.Idle = IsRest r now true
IsChoice r now choice.AllEnded = IsRest r now false
