-- What a panic left of a process, by the records and by what was handed over, and the first part that cannot be read.
use Rattle.std.specs.Prelude.{◌≡◌, ℕ, ◌+◌, ◌/◌, ◌^◌, ◌<◌, ◌⊎◌, Bool, true, false, not, ◌==◌, ◌&&◌, if◌then◌else◌, Option, Some, None, is_some}
use Rattle.ow_base.specs.UserStep.{register}
use Rattle.ow_base.specs.declared.machine.Bank.{Bank}
use Rattle.ow_base.specs.declared.machine.Came.{Came}
use Rattle.ow_base.specs.declared.machine.Came.TheVariants as came
use Rattle.record_layouts.specs.declared.head.HeadRec.{HeadRec}
use Rattle.record_layouts.specs.declared.proc.ProcRec.{ProcRec}
use Rattle.record_layouts.specs.declared.dead_proc.DeadProc.{DeadProc}
use Rattle.record_layouts.specs.declared.places.RecordId.{RecordId}
use Rattle.record_layouts.specs.declared.places.RecordId.TheVariants as id
use Rattle.record_layouts.specs.Unix.Abort.{is_aborted, stands_at}
use Rattle.record_layouts.specs.Held.{Records}
use Rattle.record_layouts.specs.Unix.Choice.{is_any}
use Rattle.record_layouts.specs.Pages.{frame_of, high_place, is_in_call, is_linked, is_live, low_place, region_of}

-- what a panic hands over: the trap that broke, its process or 0, from where the processor came, and what it had of a
-- program
pub record HandedOver : Type 0 where
  pub trap : ℕ
  pub pid : ℕ
  pub came : Came
  pub bank : Bank

-- the trap was not done: it is not the one that the head has as served
abbrev pub is_undone : HandedOver → Option HeadRec → Bool
is_undone h (Some head) = not (head.served == h.trap)
is_undone h None = true

-- the processor came from a program, and by a call of it
abbrev pub is_from_program : Came → Bool
is_from_program came.Kernel = false
is_from_program came.User = true
is_from_program came.Call = true
is_from_program came.Closing = true

abbrev pub is_by_call : Came → Bool
is_by_call came.Kernel = false
is_by_call came.User = false
is_by_call came.Call = true
is_by_call came.Closing = false

-- the trap of this pid was not done: then its registers and its pc are those that were handed over, and a call that it
-- entered is the one in a7
abbrev pub has_handed_bank : Option HandedOver → Option HeadRec → (pid : ℕ) → Bool
has_handed_bank (Some h) head pid = is_undone h head && is_from_program h.came && h.pid == pid
has_handed_bank None head pid = false

abbrev pub is_caller : Option HandedOver → Option HeadRec → (pid : ℕ) → Bool
is_caller (Some h) head pid = is_undone h head && is_by_call h.came && h.pid == pid
is_caller None head pid = false

-- the record of a process with the registers and the pc that the panic left
abbrev pub with_handed_bank : Option HandedOver → ProcRec → ProcRec
with_handed_bank (Some h) process = record process { regs = h.bank.regs; pc = h.bank.pc }
with_handed_bank None process = process

unfoldable pub left_rec : Option HandedOver → Option HeadRec → ProcRec → ProcRec
left_rec handed head process =
    if has_handed_bank handed head process.pid then with_handed_bank handed process else process

-- The call that the panic found a process in: the one in progress, or, for the caller of the broken trap, the one that it
-- entered. Its number is in a7.
unfoldable pub call_found : Option HandedOver → Option HeadRec → ProcRec → Option ℕ
call_found handed head process =
    if is_in_call process then Some process.call else
    if is_caller handed head process.pid then Some (register (left_rec handed head process).regs 17) else None

-- what a panic left of the process in a slot that has this record
unfoldable pub dead_proc : Records → Option HandedOver → (slot : ℕ) → ProcRec → DeadProc
dead_proc r handed slot process = record {
  slot = slot;
  rec = left_rec handed r.head process;
  sig = r.sigs slot;
  aborted = is_aborted (call_found handed r.head process);
  stands = stands_at (call_found handed r.head process);
}

-- the record of a process that goes on, with this pid
abbrev pub is_record_of : (pid : ℕ) → Option ProcRec → Bool
is_record_of pid (Some process) = is_live process && process.pid == pid
is_record_of pid None = false

-- the root of a slot leads to its low table and to its high one
abbrev pub has_tables : Records → (slot : ℕ) → Bool
has_tables r slot = is_linked r slot 1 low_place && is_linked r slot 2 high_place

-- the regions of a process hold the page, and it has no frame
abbrev pub lacks_frame : Records → (slot : ℕ) → (page : ℕ) → Option ProcRec → Bool
lacks_frame r slot page (Some process) = is_some (region_of process page) && not (is_some (frame_of r slot process page))
lacks_frame r slot page None = false

-- the parts by which a process of this pid is read before its pages: the head, its record and the two words of its root
pub record AreRead (r : Records) (slot pid : ℕ) : Type 0 where
  pub head : is_some r.head ≡ true
  pub process : is_record_of pid (r.procs slot) ≡ true
  pub tables : has_tables r slot ≡ true

-- Of the parts of a process of this pid, in this order, the first that cannot be read: the head, its record (index 0), the
-- words of its root that lead to its tables (index 1), the pages by their number.
abbrev pub IsFirstUnreadable : Records → (slot pid : ℕ) → RecordId → (index : ℕ) → Type 0
IsFirstUnreadable r slot pid one index =
    ((one ≡ id.Head) × (index ≡ 0) × (is_some r.head ≡ false))
    ⊎ ((one ≡ id.Proc slot) × (index ≡ 0) × (is_some r.head ≡ true) × (is_record_of pid (r.procs slot) ≡ false))
    ⊎ ((one ≡ id.Proc slot) × (index ≡ 1) × (is_some r.head ≡ true) × (is_record_of pid (r.procs slot) ≡ true) × (has_tables r slot ≡ false))
    ⊎ ((one ≡ id.Proc slot) × AreRead r slot pid × (lacks_frame r slot index (r.procs slot) ≡ true)
    × ((lower : ℕ) → lower < index → lacks_frame r slot lower (r.procs slot) ≡ false))

-- the word that names the owner of a cache entry names this file
abbrev pub names_file : (file word : ℕ) → Bool
names_file file word = word / 2 ^ 20 == file + 1

-- an entry of the cache does not decode, and its owner is of this file; so a page of the file may be lost
abbrev pub is_lost_entry : Records → (file entry : ℕ) → Bool
is_lost_entry r file entry = not (is_some (r.caches entry)) && names_file file (r.cache_owners entry)

unfoldable pub may_lack_page : Records → (file : ℕ) → Bool
may_lack_page r file = is_any (is_lost_entry r file) 0 64
