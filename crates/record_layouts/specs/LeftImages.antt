-- Decode of what a panic left, and what a damage wounds of it.
use Rattle.std.specs.Prelude.{ℕ, zero, suc, ◌+◌, Bool, false, nat_lt, not, ◌==◌, ◌&&◌, if◌then◌else◌, List, Option, Some, None, is_some}
use Rattle.ow_base.specs.Images.{Image}
use Rattle.record_layouts.specs.declared.exit.ExitRec.{ExitRec}
use Rattle.record_layouts.specs.declared.head.HeadRec.{HeadRec}
use Rattle.record_layouts.specs.Decode.{InKernel, is_ended_as, slot_by, with_bank}
use Rattle.record_layouts.specs.Images.{records_of_image, unix_of_image}
use Rattle.record_layouts.specs.Left.{HandedOver, has_handed_bank, is_by_call, is_undone, may_lack_page}
use Rattle.record_layouts.specs.Records.{Records}
use Rattle.record_layouts.specs.Sound.{is_used}
use Rattle.record_layouts.specs.Terminals.{terminal_decodes}
use Rattle.record_layouts.specs.Unix.Choice.{least_from}
use Rattle.record_layouts.specs.Unix.State.{most_pids, Unix, Process, AtPanic}
use Rattle.record_layouts.specs.Unix.Wounds.{Wounds, Reset, bytes_by}

-- the process whose call was entered and is undone, 0 where there is none
abbrev pub caller_left : HandedOver → Option HeadRec → ℕ
caller_left h head = if is_undone h head && is_by_call h.came then h.pid else 0

-- the process that a trap which is undone came from has the registers and the pc that were handed over
abbrev pub with_bank_left : HandedOver → Option HeadRec → (pid : ℕ) → Option Process → Option Process
with_bank_left h head pid process = if has_handed_bank (Some h) head pid then with_bank h.bank process else process

-- the greatest pid, of so many, that has an exit record of a process, 0 where there is none
unfoldable pub greatest_used : (exits : ℕ → Option ExitRec) → (count : ℕ) → ℕ
greatest_used exits zero = 0
greatest_used exits (suc n) = if is_used (exits (suc n)) then suc n else greatest_used exits n

-- the next pid, by the head, and where that does not decode one more than the greatest that was given away
abbrev pub next_by_left : Records → Option HeadRec → ℕ
next_by_left r (Some head) = head.next
next_by_left r None = greatest_used r.exits most_pids + 1

abbrev pub last_left : (pid last : ℕ) → ℕ
last_left pid last = if pid == 0 then last else pid

-- the state in which the process of the trap that broke is the last one, and where that trap is undone has the registers
-- that were handed over
abbrev pub with_left : HandedOver → Records → Unix → Unix
with_left h r u = record u {
  processes = λ pid. with_bank_left h r.head pid (u.processes pid);
  next_pid = next_by_left r r.head;
  last_pid = last_left h.pid u.last_pid;
  position = AtPanic (caller_left h r.head);
}

-- Decode of the image that a panic left, with what was handed over; all else is as in the kernel
unfoldable pub unix_left : Image → HandedOver → (steps traps : ℕ) → Unix
unix_left i h steps traps = with_left h (records_of_image i) (unix_of_image i InKernel steps traps)

-- Wounds, of an image and of the same once words of it are hurt.

-- it could be read, and cannot be any more
abbrev pub is_wounded : (before after : Bool) → Bool
is_wounded before after = before && not after

-- the record of an ended process, in the slot that it had
abbrev pub lacks_ended : Records → Option ℕ → Bool
lacks_ended after (Some slot) = not (is_some (after.procs slot))
lacks_ended after None = false

abbrev pub has_lost_ended : (before after : Records) → (pid : ℕ) → Bool
has_lost_ended before after pid = lacks_ended after (least_from (λ slot. is_ended_as pid (before.procs slot)) 0 16)

-- the signals of the process in a slot
abbrev pub lacks_signals : Records → Option ℕ → Bool
lacks_signals after (Some slot) = not (is_some (after.sigs slot))
lacks_signals after None = false

-- a terminal that cannot be read: the bytes of its device, and how many of its typed bytes had arrived
abbrev pub reset_where : (decodes : Bool) → (tape : List ℕ) → (arrived : ℕ) → Option Reset
reset_where decodes tape arrived = if decodes then None else Some (record { tape = tape; arrived = arrived })

-- There are 32 files and two terminals. All of the process is core that it needs to decode.
unfoldable pub wounds_of : (before after : Image) → (arrived : (tty : ℕ) → ℕ) → Wounds
wounds_of before after arrived =
    let was = records_of_image before in
    let now = records_of_image after in
    let u = unix_of_image before InKernel 0 0 in
    let v = unix_of_image after InKernel 0 0 in
    record {
      core = λ pid. is_wounded (is_some (u.processes pid)) (is_some (v.processes pid));
      gone = λ pid. is_some (u.ended pid) && has_lost_ended was now pid;
      descs = λ number. is_wounded (is_some (u.descriptions number)) (is_some (now.descs number));
      reset = λ file. is_wounded (nat_lt file 32) (is_some (now.files file));
      paged = λ file. may_lack_page now file;
      head = not (is_some now.head);
      ttys = λ tty. if nat_lt tty 2 then reset_where (terminal_decodes now tty) (before.tapes tty) (arrived tty) else None;
      sigs = λ pid. is_some (u.processes pid) && lacks_signals now (slot_by (was.exits pid));
      files = v.files;
      pages = λ pid. bytes_by (v.processes pid);
    }
