-- The system calls: the number is in a7, the arguments are in a0, a1 and a2, and the answer comes in a0.
use Rattle.std.specs.Prelude.{ℕ, ◌+◌, ◌-◌, ◌%◌, Bool, true, false, nat_lt, nat_le, ◌==◌, ◌&&◌, ◌||◌, not, if◌then◌else◌, min, List, ◌++◌, slice_get, Option, Some, None, option_and_then, is_some}
use Rattle.ow_base.specs.Words.{wrapped, minus, updated}
use Rattle.ow_base.specs.UserStep.{register, with_register}
use Rattle.ow_base.specs.Pages.{is_readable, bytes_at}
use Rattle.record_layouts.specs.Unix.Children.{ended_child, has_child, status_of}
use Rattle.record_layouts.specs.Unix.Spaces.{break_of, heap_end, heap_pages, pages_of_all, pages_of_one, takes_word, with_word, with_zero_pages}
use Rattle.record_layouts.specs.Unix.State.{count_from, most_pids, Unix, Process, CallState, Out, In, AtKernel, EndedChild, Object, OnFile, OnTty, Description, Terminal, in_use}

-- the argument registers, and the register of the call's number
abbrev pub argument : Process → (index : ℕ) → ℕ
argument p index = register p.bank.regs (10 + index)

abbrev pub call_number : Process → ℕ
call_number p = register p.bank.regs 17

-- what a trap of a process counts: a step, a trap, and the process as the last one
unfoldable pub trapped : Unix → (pid : ℕ) → Unix
trapped u pid = record u { steps = u.steps + 1; traps = u.traps + 1; last_pid = pid; position = AtKernel }

-- a process becomes this
abbrev pub with_process : Unix → (pid : ℕ) → Process → Unix
with_process u pid p = record u { processes = updated u.processes pid (Some p) }

-- a call is answered: the answer is in a0, pc is behind the call, and the process is outside
unfoldable pub answered : Unix → (pid : ℕ) → Process → (answer : ℕ) → Unix
answered u pid p answer = with_process u pid (record p {
  call = Out;
  bank = record { pc = wrapped (p.bank.pc + 4); regs = with_register p.bank.regs 10 answer };
})

-- a process stays in its call, with so many bytes done
unfoldable pub stays_in : Unix → (pid : ℕ) → Process → (number done : ℕ) → Unix
stays_in u pid p number done = with_process u pid (record p { call = In number done })

-- the ended children after a process ends: it becomes one where its parent is live then, and its own vanish
abbrev pub child_of : (is_parent_live : Bool) → (parent status : ℕ) → Option EndedChild
child_of true parent status = Some (record { parent = parent; status = status })
child_of false parent status = None

abbrev pub unless_child_of : (pid : ℕ) → Option EndedChild → Option EndedChild
unless_child_of pid (Some child) = if child.parent == pid then None else Some child
unless_child_of pid None = None

-- a process ends with this status word; a description that it alone named is not in use any more
unfoldable pub ended_as : Unix → (pid : ℕ) → Process → (status : ℕ) → Unix
ended_as u pid p status = record u {
  processes = updated u.processes pid None;
  descriptions = in_use (updated u.processes pid None) u.descriptions;
  exits = updated u.exits pid (Some status);
  ended = λ q. if q == pid then child_of (is_some (updated u.processes pid None p.parent)) p.parent status else unless_child_of pid (u.ended q);
}

-- the description that a descriptor of a process names
abbrev pub flat : Option (Option ℕ) → Option ℕ
flat (Some o) = o
flat None = None

unfoldable pub description_of : Unix → Process → (descriptor : ℕ) → Option Description
description_of u p descriptor = option_and_then u.descriptions (flat (slice_get p.descriptors descriptor))

-- the bytes that a piece of a write on a terminal has
abbrev pub tty_piece : (count done : ℕ) → ℕ
tty_piece count done = min 16 (count - done)

-- bytes are written on a terminal
abbrev pub with_tape : Terminal → List ℕ → Terminal
with_tape terminal bytes = record terminal { tape = terminal.tape ++ bytes }

abbrev pub written_on : Unix → (tty : ℕ) → List ℕ → Unix
written_on u tty bytes = record u { terminals = updated u.terminals tty (with_tape (u.terminals tty) bytes) }

-- a write after its piece: it answers with its last piece, and else stays
abbrev pub written_to : Unix → (pid : ℕ) → Process → (count done : ℕ) → Unix
written_to u pid p count done = if done == count then answered u pid p count else stays_in u pid p 2 done

-- a piece that is stopped answers the bytes done, or the error where there are none
abbrev pub stopped : Unix → (pid : ℕ) → Process → (done error : ℕ) → Unix
stopped u pid p done error = answered u pid p (if done == 0 then minus error else done)

-- one piece of a write of count bytes at an address, of which done are written; EFAULT is 14
unfoldable pub tty_write : Unix → (pid : ℕ) → Process → (tty done : ℕ) → Unix
tty_write u pid p tty done =
    let address = argument p 1 in
    let count = argument p 2 in
    let piece = tty_piece count done in
    if is_readable p.pages (address + done) piece
    then written_to (written_on u tty (bytes_at p.pages (address + done) piece)) pid p count (done + piece)
    else stopped u pid p done 14

-- one piece of a write by what the description is open on; of a file it is not built, and nothing more becomes of it
abbrev pub write_on : Unix → (pid : ℕ) → Process → (done : ℕ) → Object → Unix
write_on u pid p done (OnTty tty) = tty_write u pid p tty done
write_on u pid p done (OnFile file) = u

-- write(fd, address, count): EBADF 9, EINVAL 22, 0 for no bytes, else the first piece
abbrev pub write_through : Unix → (pid : ℕ) → Process → Option Description → Unix
write_through u pid p None = answered u pid p (minus 9)
write_through u pid p (Some d) =
    if not d.writes then answered u pid p (minus 9) else
    if nat_lt 0x7fffffff (argument p 2) then answered u pid p (minus 22) else
    if argument p 2 == 0 then answered u pid p 0 else
    write_on u pid p 0 d.object

unfoldable pub write_entry : Unix → (pid : ℕ) → Process → Unix
write_entry u pid p = write_through u pid p (description_of u p (argument p 0))

-- exit(code)
unfoldable pub exit_entry : Unix → (pid : ℕ) → Process → Unix
exit_entry u pid p = ended_as u pid p (argument p 0 % 256)

-- getpid()
unfoldable pub getpid_entry : Unix → (pid : ℕ) → Process → Unix
getpid_entry u pid p = answered u pid p pid

-- yield(): it has no answer, so a0 stays
unfoldable pub yield_entry : Unix → (pid : ℕ) → Process → Unix
yield_entry u pid p = with_process u pid (record p { call = Out; bank = record { pc = wrapped (p.bank.pc + 4); regs = p.bank.regs } })

-- sbrk(n): ENOMEM 12 where the break would pass 0x00400000 or there is no room for the new pages; else the old break, and
-- the new pages are zero
unfoldable pub sbrk_entry : Unix → (pid : ℕ) → Process → Unix
sbrk_entry u pid p =
    let new = heap_pages (p.brk + argument p 0) - heap_pages p.brk in
    if nat_lt 0x400000 (break_of p + argument p 0) || nat_lt u.room (pages_of_all u.processes + new)
    then answered u pid p (minus 12)
    else answered u pid (record p { brk = p.brk + argument p 0; pages = with_zero_pages p.pages (heap_end p.pages) new }) (break_of p)

-- a pid has a slot: it is of a live process, or of an ended one that was not waited for
abbrev pub has_slot : Unix → (pid : ℕ) → Bool
has_slot u pid = is_some (u.processes pid) || is_some (u.ended pid)

-- how many slots are taken
unfoldable pub slots_taken : Unix → ℕ
slots_taken u = count_from (has_slot u) 1 most_pids

-- the child of a process: a copy behind the call, to which it answers 0, with the process as its parent and no signal pending
abbrev pub child_of_fork : (parent : ℕ) → Process → Process
child_of_fork parent p = record p {
  call = Out;
  bank = record { pc = wrapped (p.bank.pc + 4); regs = with_register p.bank.regs 10 0 };
  pending = λ _. false;
  parent = parent;
}

-- the state with a child of the process, under the next pid
abbrev pub with_child : Unix → (pid : ℕ) → Process → Unix
with_child u pid p = record (with_process u u.next_pid (child_of_fork pid p)) { next_pid = u.next_pid + 1 }

-- fork(): EAGAIN 11 where all 16 slots are taken or 256 processes were made, ENOMEM 12 where there is no room for a copy of
-- the pages; else the child's pid
unfoldable pub fork_entry : Unix → (pid : ℕ) → Process → Unix
fork_entry u pid p =
    if nat_le 16 (slots_taken u) || nat_lt most_pids u.next_pid then answered u pid p (minus 11) else
    if nat_lt u.room (pages_of_all u.processes + pages_of_one (Some p)) then answered u pid p (minus 12) else
    answered (with_child u pid p) pid p u.next_pid

-- the word that a wait stores of the status of its child: none where its address is 0
abbrev pub asks_status : Process → Bool
asks_status p = not (argument p 0 == 0)

abbrev pub with_status : Process → (status : ℕ) → Process
with_status p status = record p { pages = with_word p.pages (argument p 0) status }

-- a child is waited for: its slot is free, and its status word is stored where it is asked for
abbrev pub waited_by : Process → (status : ℕ) → Process
waited_by p status = if asks_status p then with_status p status else p

abbrev pub without_child : Unix → (pid : ℕ) → Unix
without_child u pid = record u { ended = updated u.ended pid None }

-- the address of a wait cannot be written
abbrev pub refuses_status : Process → Bool
refuses_status p = asks_status p && not (takes_word p.pages (argument p 0))

-- wait(address): ECHILD 10 where the process has no child, and it blocks where none has ended; then EFAULT 14 where the address is
-- not 0 and no word can be stored there; else the least pid of the children that have ended
abbrev pub wait_for : Unix → (pid : ℕ) → Process → (child : Option ℕ) → Unix
wait_for u pid p None = if has_child u pid then stays_in u pid p 10 0 else answered u pid p (minus 10)
wait_for u pid p (Some child) =
    if refuses_status p then answered u pid p (minus 14) else
    answered (without_child u child) pid (waited_by p (status_of (u.ended child))) child

unfoldable pub wait_entry : Unix → (pid : ℕ) → Process → Unix
wait_entry u pid p = wait_for u pid p (ended_child u pid)

-- the call with this number; a number that is no call answers ENOSYS 38
unfoldable pub called : Unix → (pid : ℕ) → Process → (number : ℕ) → Unix
called u pid p number =
    if number == 1 then exit_entry u pid p else
    if number == 2 then write_entry u pid p else
    if number == 7 then getpid_entry u pid p else
    if number == 8 then sbrk_entry u pid p else
    if number == 9 then fork_entry u pid p else
    if number == 10 then wait_entry u pid p else
    if number == 18 then yield_entry u pid p else
    answered u pid p (minus 38)

-- Enter: the first piece of the call of a process
unfoldable pub call_entered : Unix → (pid : ℕ) → Process → Unix
call_entered u pid p = called (trapped u pid) pid p (call_number p)

-- a further piece of a write
abbrev pub piece_on : Unix → (pid : ℕ) → Process → (done : ℕ) → Option Description → Unix
piece_on u pid p done (Some d) = write_on u pid p done d.object
piece_on u pid p done None = u

-- a further piece of the call with this number that a process is in: of a write, and of a wait, which begins again;
-- others are not built, and nothing more becomes of them
unfoldable pub continued : Unix → (pid : ℕ) → Process → (number done : ℕ) → Unix
continued u pid p number done =
    if number == 2 then piece_on u pid p done (description_of u p (argument p 0)) else
    if number == 10 then wait_entry u pid p else u

-- Piece
abbrev pub piece_by : Unix → (pid : ℕ) → Process → CallState → Unix
piece_by u pid p (In number done) = continued (trapped u pid) pid p number done
piece_by u pid p Out = u

unfoldable pub piece_of : Unix → (pid : ℕ) → Process → Unix
piece_of u pid p = piece_by u pid p p.call
