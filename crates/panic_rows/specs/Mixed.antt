-- States with processes in all kinds of places at a panic, and wounds of all kinds.
use Rattle.std.specs.Prelude.{ℕ, ◌-◌, true, ◌==◌, ◌||◌, if◌then◌else◌, List, [], ◌∷◌, ◌++◌, slice_get, replicate, Option, Some, None, option_and_then, option_map}
use Rattle.ow_base.specs.declared.machine.Bank.{Bank}
use Rattle.record_layouts.specs.Unix.State.{Unix, Process, CallState, Out, In, EndedChild, Description, Object, OnFile, OnTty, AtPanic}
use Rattle.record_layouts.specs.Unix.Wounds.{Wounds, no_wounds}
use Rattle.record_layouts.specs.Unix.Abort.{abort, fates}
use Rattle.record_layouts.specs.declared.fates.Fate.{Fate}

-- descriptions 0 and 1 are on terminals 0 and 1, 2, 3 and 4 on files 0, 1 and 2, and 5 is on terminal 1 too
abbrev pub on_object : Object → Description
on_object object = record { object = object; reads = true; writes = true; offset = 0 }

unfoldable pub mixed_descriptions : List Description
mixed_descriptions = on_object (OnTty 0) ∷ on_object (OnTty 1) ∷ on_object (OnFile 0) ∷ on_object (OnFile 1) ∷ on_object (OnFile 2) ∷ on_object (OnTty 1) ∷ []

-- registers of which a0 and a7 are not 0
abbrev pub bank_with : (pc a0 a7 : ℕ) → Bank
bank_with pc a0 a7 = record { pc = pc; regs = replicate 9 0 ++ (a0 ∷ (replicate 6 0 ++ (a7 ∷ replicate 14 0))) }

-- a process with one descriptor, a handler and a pending signal
abbrev pub process_on : (description : ℕ) → CallState → (procedure : ℕ) → Option (Bank × ℕ) → (a7 : ℕ) → Process
process_on description call procedure save a7 = record {
  call = call;
  bank = bank_with 0x10000 5 a7;
  pages = record { rights = λ page. None; bytes = λ address. 0 };
  brk = 0;
  descriptors = Some description ∷ replicate 7 None;
  handlers = 0x10010 ∷ replicate 14 0;
  pending = λ signal. signal == 3;
  handler_save = None;
  procedure = procedure;
  procedure_save = save;
  parent = 0;
}

-- the caller of an open, a reader whose procedure runs, one on a lost file, one whose two descriptions are lost, one on a
-- file with a lost page, one whose signals are lost, one that is lost itself, one with a procedure on a lost terminal, one
-- in a wait, and one of which nothing is lost
unfoldable pub mixed_processes : List Process
mixed_processes = process_on 0 Out 0 None 4 ∷ process_on 0 (In 3 0) 0x10020 (Some (bank_with 0x10030 6 7, 2)) 3 ∷ process_on 2 Out 0 None 0
    ∷ record (process_on 3 Out 0 None 0) { descriptors = Some 3 ∷ Some 5 ∷ replicate 6 None } ∷ process_on 4 Out 0 None 0 ∷ process_on 0 Out 0 None 0 ∷ process_on 0 Out 0 None 0
    ∷ process_on 1 Out 0x10020 None 0 ∷ process_on 0 (In 10 0) 0 None 10 ∷ process_on 0 Out 0 None 1 ∷ []

-- three ended children, the first two of process 1 and the last of process 3
unfoldable pub mixed_ended : (pid : ℕ) → Option EndedChild
mixed_ended pid = if pid == 11 then Some (record { parent = 1; status = 0 }) else
    if pid == 12 then Some (record { parent = 1; status = 1 }) else
    if pid == 13 then Some (record { parent = 3; status = 2 }) else None

unfoldable pub mixed : Unix
mixed = record {
  processes = λ pid. if pid == 0 then None else slice_get mixed_processes (pid - 1);
  ended = mixed_ended;
  descriptions = slice_get mixed_descriptions;
  files = λ file. None;
  room = 16;
  terminals = λ tty. record { tape = 65 ∷ 66 ∷ []; base = 0; consumed = 0 };
  exits = λ pid. option_map (λ child. child.status) (mixed_ended pid);
  next_pid = 14;
  last_pid = 1;
  steps = 30;
  traps = 20;
  position = AtPanic 1;
}

unfoldable pub mixed_wounds : Wounds
mixed_wounds = record (no_wounds mixed) {
  core = λ pid. pid == 7;
  gone = λ pid. pid == 11;
  descs = λ number. number == 3 || number == 5;
  reset = λ file. file == 0;
  paged = λ file. true;
  ttys = λ tty. if tty == 1 then Some (record { tape = 65 ∷ []; arrived = 2 }) else None;
  sigs = λ pid. pid == 6;
}

unfoldable pub mixed_revived : Unix
mixed_revived = abort mixed mixed_wounds

-- one process, with a crash procedure or none, that entered a call of this number in the trap that was broken
unfoldable pub calling : (number procedure : ℕ) → Unix
calling number procedure = record mixed { processes = λ pid. if pid == 1 then Some (process_on 0 Out procedure None number) else None; next_pid = 2 }

abbrev pub fates_of_call : (number procedure : ℕ) → List (ℕ × Fate)
fates_of_call number procedure = fates (calling number procedure) (no_wounds (calling number procedure))

-- what is left of a process in a state, as far as a panic changes it
abbrev pub bank_at : Unix → (pid : ℕ) → Option Bank
bank_at u pid = option_map (λ p. p.bank) (u.processes pid)

abbrev pub save_at : Unix → (pid : ℕ) → Option (Bank × ℕ)
save_at u pid = option_and_then (λ p. p.procedure_save) (u.processes pid)

abbrev pub handlers_at : Unix → (pid : ℕ) → Option (List ℕ)
handlers_at u pid = option_map (λ p. p.handlers) (u.processes pid)

abbrev pub descriptors_at : Unix → (pid : ℕ) → Option (List (Option ℕ))
descriptors_at u pid = option_map (λ p. p.descriptors) (u.processes pid)
