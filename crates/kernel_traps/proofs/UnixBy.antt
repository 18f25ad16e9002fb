-- The state of the Unix by its processes.
use Rattle.std.proofs.Common.{◌≡◌, ℕ, List, Option, None, refl}
use Rattle.ow_base.specs.Sv32.{WordMap}
use Rattle.record_layouts.specs.Unix.State.{Unix, Position, Process, in_use}
use Rattle.record_layouts.specs.Held.{Records}
use Rattle.record_layouts.specs.Decode.{Context, description_by, ended_of, last_by, next_by, position_by, processes_of, status_by, terminal_by, unix_of}

-- the state that records stand for, with these processes
abbrev pub unix_by : Records → (tapes : ℕ → List ℕ) → (processes : ℕ → Option Process) → (last steps traps : ℕ) → Position → Unix
unix_by r tapes processes last steps traps position = record {
  processes = processes;
  ended = ended_of r processes;
  descriptions = in_use processes (λ number. description_by (r.descs number));
  files = λ _. None;
  room = r.map.user_frames;
  terminals = λ tty. terminal_by (tapes tty) (r.terms tty);
  exits = λ pid. status_by (r.exits pid);
  next_pid = next_by r.head;
  last_pid = last;
  steps = steps;
  traps = traps;
  position = position;
}

pub unix_is : (r : Records) (words : WordMap) (tapes : ℕ → List ℕ) (context : Context) (steps traps : ℕ)
    → unix_of r words tapes context steps traps ≡ unix_by r tapes (processes_of r words context) (last_by r.head context) steps traps (position_by context)
unfolding unix_of
unix_is r words tapes context steps traps = refl
