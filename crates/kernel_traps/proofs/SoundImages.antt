-- The image of a sound plant is sound.
use Rattle.std.proofs.Common.{ℕ, zero, suc, ◌*◌, ◌<◌, ◌≤◌, List, length, Option, Some, None, IfSome, arith}
use Rattle.record_layouts.specs.declared.term.TermRec.{TermRec}
use Rattle.record_layouts.specs.SoundImages.{AreOfTapes, IsSoundImage}
use Rattle.record_layouts.specs.Terminals.{IsOfTape}
use Rattle.ow_plant.specs.Images.{image_of, tapes_of}
use Rattle.ow_plant.specs.State.{PlantState, now_of, Device}
use Rattle.intent_store.specs.Live.{records_held}
use Rattle.kernel_traps.specs.Plants.{AreTerminalsSound, IsOfDevice, IsSound}

of_tape : (s : PlantState) (tty : ℕ) (device : Device) (held : Option TermRec) → IfSome held (IsOfDevice (records_held s) tty device)
    → IfSome held (λ terminal. IsOfTape (records_held s) tty device.tape terminal)
of_tape s tty device (Some terminal) is = is.tape
of_tape s tty device None is = tt

is_few : (tape : List ℕ) (steps : ℕ) (held : Option TermRec) → length tape ≤ 16 * steps → IfSome held (λ terminal. length tape ≤ 16 * steps)
is_few tape steps (Some terminal) few = few
is_few tape steps None few = tt

are_of_tapes : (s : PlantState) (steps : ℕ) → AreTerminalsSound s steps → AreOfTapes (records_held s) (λ tty terminal. tapes_of s tty) steps
are_of_tapes s steps is = record { records = records; few = few }
  where
    records : (tty : ℕ) → tty < 2 → IfSome ((records_held s).terms tty) (λ terminal. IsOfTape (records_held s) tty (tapes_of s tty) terminal)
    records zero low = of_tape s 0 s.tty0 ((records_held s).terms 0) (is.records 0 low)
    records (suc zero) low = of_tape s 1 s.tty1 ((records_held s).terms 1) (is.records 1 low)
    records (suc (suc n)) low = absurd (omega (arith, low))

    few : (tty : ℕ) → tty < 2 → IfSome ((records_held s).terms tty) (λ terminal. length (tapes_of s tty) ≤ 16 * steps)
    few zero low = is_few s.tty0.tape steps ((records_held s).terms 0) (is.bytes 0 low)
    few (suc zero) low = is_few s.tty1.tape steps ((records_held s).terms 1) (is.bytes 1 low)
    few (suc (suc n)) low = absurd (omega (arith, low))

pub image_sound : (s : PlantState) → IsSound s → IsSoundImage (image_of s) s.steps (now_of s).trap
image_sound s sound = record {
  shut = sound.held.shut;
  records = sound.held.records;
  on_terminals = sound.held.on_terminals;
  in_built_calls = sound.held.in_built_calls;
  served = sound.served;
  terminals = are_of_tapes s s.steps sound.terminals;
}
