-- What a call of a process asks for, by its records: which records are set as the trap ends, and which of its bytes are
-- written on a terminal before.
use Rattle.std.specs.Prelude.{ℕ, ◌+◌, ◌-◌, ◌*◌, ◌/◌, ◌%◌, Bool, nat_lt, not, ◌==◌, ◌&&◌, ◌||◌, if◌then◌else◌, List, [], ◌∷◌, slice_get, Option, Some, None, option_and_then}
use Rattle.ow_base.specs.Words.{wrapped, minus}
use Rattle.ow_base.specs.UserStep.{register}
use Rattle.ow_base.specs.Sv32.{WordMap}
use Rattle.ow_base.specs.Pages.{Pages, is_readable}
use Rattle.ow_base.specs.declared.machine.Bank.{Bank}
use Rattle.record_layouts.specs.declared.head.HeadRec.{HeadRec}
use Rattle.record_layouts.specs.declared.proc.ProcRec.{ProcRec}
use Rattle.record_layouts.specs.declared.desc.DescRec.{DescRec}
use Rattle.record_layouts.specs.declared.patch.PatchItem.{PatchItem}
use Rattle.record_layouts.specs.Unix.Calls.{tty_piece}
use Rattle.record_layouts.specs.Held.{Records}
use Rattle.record_layouts.specs.Pages.{heap_pages, page_total, pages_of}
use Rattle.record_layouts.specs.Unix.Spaces.{takes_word}
use Rattle.record_layouts.specs.Unix.State.{least_from}
use Rattle.record_layouts.specs.declared.sig.SigRec.{SigRec}
use Rattle.frame_table.specs.Free.{free_before}
use Rattle.syscalls.specs.declared.caller.Caller.{Caller}
use Rattle.process_table.specs.Children.{child_slot}
pub use Rattle.process_table.specs.Patches.{answered_process}
use Rattle.process_table.specs.Patches.{head_item, process_item, ended_items, fork_items, saved_process, wait_items}
use Rattle.process_table.specs.Slots.{has_such, is_free, is_live_child}

-- records are set at once, or after bytes of the process, so many from an address on, are written on a terminal, or after
-- so many pages are prepared behind its heap, or a copy of its pages for the slot of a child, or after a word of it is
-- stored
pub data Planned : Type 0 where
  PlanOnce : (items : List PatchItem) → Planned
  PlanWrite : (tty from len : ℕ) (items : List PatchItem) → Planned
  PlanGrow : (count : ℕ) (items : List PatchItem) → Planned
  PlanFork : (child : ℕ) (items : List PatchItem) → Planned
  PlanPut : (address value : ℕ) (items : List PatchItem) → Planned

-- the records that are set
abbrev pub items_in : Planned → List PatchItem
items_in (PlanOnce items) = items
items_in (PlanWrite tty from len items) = items
items_in (PlanGrow count items) = items
items_in (PlanFork child items) = items
items_in (PlanPut address value items) = items

-- the argument registers of a process
abbrev pub argument_of : ProcRec → (index : ℕ) → ℕ
argument_of process index = register process.regs (10 + index)

-- the process behind its call, with no answer
abbrev pub yielded_process : ProcRec → ProcRec
yielded_process process = record process { state = 1; call = 0; done = 0; pc = wrapped (process.pc + 4) }

-- the process in its write, with so many bytes done
abbrev pub staying_process : ProcRec → (done : ℕ) → ProcRec
staying_process process done = record process { state = 2; call = 2; done = done }

-- the records that are set where the process of a caller becomes this
abbrev pub items_of : Caller → ProcRec → List PatchItem
items_of c process = head_item c.head c.trap process.pid ∷ process_item c.slot process ∷ []

abbrev pub planned_answer : Caller → (answer : ℕ) → Planned
planned_answer c answer = PlanOnce (items_of c (answered_process c.process answer))

-- the trap is served, and the process is what it was: what it asks for is not built
abbrev pub planned_nothing : Caller → Planned
planned_nothing c = PlanOnce (items_of c c.process)

-- a write of count bytes after a piece: it answers with its last one, and else stays
abbrev pub written_process : ProcRec → (count done : ℕ) → ProcRec
written_process process count done = if done == count then answered_process process count else staying_process process done

-- what a piece answers that is stopped: the bytes done, or the error where there are none
abbrev pub stopped_answer : (done error : ℕ) → ℕ
stopped_answer done error = if done == 0 then minus error else done

-- one piece of a write of which so many bytes are done; EFAULT is 14
unfoldable pub planned_tty : Pages → Caller → (tty done : ℕ) → Planned
planned_tty pages c tty done =
    let address = argument_of c.process 1 in
    let count = argument_of c.process 2 in
    let piece = tty_piece count done in
    if is_readable pages (address + done) piece
    then PlanWrite tty (address + done) piece (items_of c (written_process c.process count (done + piece)))
    else planned_answer c (stopped_answer done 14)

-- one piece of a write on what the description is open on: a terminal; on files it is not built
abbrev pub planned_on : Pages → Caller → DescRec → (done : ℕ) → Planned
planned_on pages c description done =
    if description.object == 1 then planned_nothing c else planned_tty pages c description.index done

-- the open description that a descriptor names
abbrev pub if_open : Option DescRec → Option DescRec
if_open (Some description) = if description.object == 0 then None else Some description
if_open None = None

abbrev pub named_by : (descs : ℕ → Option DescRec) → (word : Option ℕ) → Option DescRec
named_by descs (Some word) = if word == 0 then None else if_open (descs (word - 1))
named_by descs None = None

unfoldable pub named : Records → (words : List ℕ) → (descriptor : ℕ) → Option DescRec
named r words descriptor = named_by r.descs (slice_get words descriptor)

-- it is open to write
abbrev pub is_written : DescRec → Bool
is_written description = description.mode / 2 == 1

-- write(fd, address, count): EBADF 9, EINVAL 22, 0 for no bytes, else the first piece
unfoldable pub planned_write_on : Pages → Caller → Option DescRec → Planned
planned_write_on pages c None = planned_answer c (minus 9)
planned_write_on pages c (Some description) =
    if not (is_written description) then planned_answer c (minus 9) else
    if nat_lt 0x7fffffff (argument_of c.process 2) then planned_answer c (minus 22) else
    if argument_of c.process 2 == 0 then planned_answer c 0 else
    planned_on pages c description 0

unfoldable pub planned_write : Records → Pages → Caller → Planned
planned_write r pages c = planned_write_on pages c (named r c.process.descs (argument_of c.process 0))

-- the address of the break
abbrev pub break_of : ProcRec → ℕ
break_of process = 4096 * (16 + process.code_pages + process.data_pages) + process.brk

-- the process behind its call, with so many bytes of heap more
abbrev pub grown_process : ProcRec → (bytes : ℕ) → ProcRec
grown_process process bytes = record (answered_process process (break_of process)) { brk = process.brk + bytes }

-- the pages that so many bytes of heap more take
abbrev pub pages_more : ProcRec → (bytes : ℕ) → ℕ
pages_more process bytes = (process.brk + bytes + 4095) / 4096 - heap_pages process

-- sbrk(n): ENOMEM 12 where the break would pass 0x00400000 or fewer user frames are free than the pages take
unfoldable pub planned_sbrk : Records → Caller → Planned
planned_sbrk r c =
    let bytes = argument_of c.process 0 in
    if nat_lt 0x400000 (break_of c.process + bytes) || nat_lt (free_before r r.map.user_frames) (pages_more c.process bytes)
    then planned_answer c (minus 12)
    else PlanGrow (pages_more c.process bytes) (items_of c (grown_process c.process bytes))

-- fork(): EAGAIN 11 where no slot is free or no pid is left, ENOMEM 12 where fewer user frames are free than
-- the copy takes
abbrev pub planned_fork_in : Records → Caller → (child : Option ℕ) → Option SigRec → Planned
planned_fork_in r c (Some child) (Some signals) =
    if nat_lt 256 c.head.next then planned_answer c (minus 11) else
    if nat_lt (free_before r r.map.user_frames) (page_total c.process) then planned_answer c (minus 12) else
    PlanFork child (fork_items c.head c.slot child c.process signals c.trap)
planned_fork_in r c child signals = planned_answer c (minus 11)

unfoldable pub planned_fork : Records → Caller → Planned
planned_fork r c = planned_fork_in r c (least_from (λ slot. is_free r (r.procs slot)) 0 16) (r.sigs c.slot)

-- a process is in the call wait (10), of which nothing is done
abbrev pub waiting_process : ProcRec → ProcRec
waiting_process process = record process { state = 2; call = 10; done = 0 }

-- no child has ended: the process waits for one that goes on, and ECHILD 10 is answered where there is none
abbrev pub waiting_items : Records → Caller → List PatchItem
waiting_items r c =
    items_of c (if has_such r (is_live_child c.process.pid) then waiting_process c.process else answered_process c.process (minus 10))

-- the child in a slot is taken: its status word is stored where the address is not 0
abbrev pub planned_take : Caller → (place : ℕ) → ProcRec → Planned
planned_take c place child =
    let items = wait_items c.head c.slot c.process place child.pid c.trap in
    if argument_of c.process 0 == 0 then PlanOnce items else PlanPut (argument_of c.process 0) child.status items

-- the address of a wait is not 0, and no word can be stored there
abbrev pub refuses_status : Pages → Caller → Bool
refuses_status pages c = not (argument_of c.process 0 == 0) && not (takes_word pages (argument_of c.process 0))

-- wait(address): ECHILD 10 where the process has no child, and it blocks where none has ended; then EFAULT 14; else the
-- pid of the first child that has ended
abbrev pub planned_wait_on : Records → Pages → Caller → (place : Option ℕ) → (child : Option ProcRec) → Planned
planned_wait_on r pages c (Some place) (Some child) =
    if refuses_status pages c then planned_answer c (minus 14) else planned_take c place child
planned_wait_on r pages c place child = PlanOnce (waiting_items r c)

unfoldable pub planned_wait : Records → Pages → Caller → Planned
planned_wait r pages c = planned_wait_on r pages c (child_slot r c.process.pid) (option_and_then r.procs (child_slot r c.process.pid))

-- the call with this number: exit, write, getpid, sbrk, fork, wait, yield; a number that is no call answers ENOSYS 38
unfoldable pub planned_number : Records → Pages → Caller → (number : ℕ) → Planned
planned_number r pages c number =
    if number == 1 then PlanOnce (ended_items c.head c.slot c.process (argument_of c.process 0 % 256) c.trap) else
    if number == 2 then planned_write r pages c else
    if number == 7 then planned_answer c c.process.pid else
    if number == 8 then planned_sbrk r c else
    if number == 9 then planned_fork r c else
    if number == 10 then planned_wait r pages c else
    if number == 18 then PlanOnce (items_of c (yielded_process c.process)) else
    planned_answer c (minus 38)

-- the pages of the process in a slot, none where its record does not decode
abbrev pub pages_if : Records → WordMap → (slot : ℕ) → Option ProcRec → Pages
pages_if r words slot (Some process) = pages_of r words slot process
pages_if r words slot None = record { rights = λ page. None; bytes = λ a. 0 }

abbrev pub pages_in : Records → WordMap → (slot : ℕ) → Pages
pages_in r words slot = pages_if r words slot (r.procs slot)

-- the call that the process in a slot makes with a bank: its number is in a7
abbrev pub caller_with : (slot trap : ℕ) → HeadRec → ProcRec → Caller
caller_with slot trap head process = record { slot = slot; process = process; head = head; trap = trap }

unfoldable pub planned_call : Records → WordMap → (slot trap : ℕ) → HeadRec → ProcRec → Bank → Planned
planned_call r words slot trap head process bank =
    planned_number r (pages_of r words slot process) (caller_with slot trap head (saved_process process bank)) (register bank.regs 17)

-- a further piece of the call that the process in a slot is in: of a write, and of a wait, which begins again; the others
-- are not built
abbrev pub planned_further : Pages → Caller → Option DescRec → Planned
planned_further pages c (Some description) = planned_on pages c description c.process.done
planned_further pages c None = planned_nothing c

abbrev pub planned_of_call : Records → Pages → Caller → Planned
planned_of_call r pages c =
    if c.process.call == 2 then planned_further pages c (named r c.process.descs (argument_of c.process 0)) else
    if c.process.call == 10 then planned_wait r pages c else planned_nothing c

unfoldable pub planned_piece : Records → WordMap → (slot trap : ℕ) → HeadRec → ProcRec → Planned
planned_piece r words slot trap head process = planned_of_call r (pages_of r words slot process) (caller_with slot trap head process)
