-- A sound plant agrees with the state of the Unix that it stands for.
use Rattle.std.proofs.Common.{◌≡◌, ℕ, ◌+◌, ◌<◌, zero, suc, nat_eq, false, true, List, [], length, Option, Some, None, refl, sym, ap, arith}
use Rattle.std.specs.Prelude.{is_some, IfSome}
use Rattle.std.proofs.lemmas.Bool.Decides.{nat_tests}
use Rattle.record_layouts.specs.declared.places.RecordId.TheVariants as id
use Rattle.record_layouts.specs.declared.term.TermRec.{TermRec}
use Rattle.record_layouts.specs.Decode.{terminal_by, unix_of}
use Rattle.record_layouts.specs.Held.{Records}
use Rattle.record_layouts.specs.Unix.Report.{shown_on}
use Rattle.record_layouts.specs.Unix.State.{Unix}
use Rattle.ow_plant.specs.Images.{tapes_of}
use Rattle.ow_plant.specs.State.{PlantState, Device, tty_of}
use Rattle.intent_store.specs.Live.{records_held}
use Rattle.kernel_traps.specs.Plants.{unix_at, context_of, IsSound, IsOfDevice}
use Rattle.ow_report.specs.Agrees.{PlantAgrees}

-- the record of a terminal tells of the tape of the device, and the device shows the screen
terminal_shown : (r : Records) (tty : ℕ) (device : Device) (o : Option TermRec) → is_some o ≡ true → IfSome o (IsOfDevice r tty device)
    → ((terminal_by device.tape o).tape ≡ device.tape) × (shown_on (terminal_by device.tape o) ≡ device.display)
terminal_shown r tty device None there is = absurd (cc there)
terminal_shown r tty device (Some terminal) there is =
    let not_ahead : nat_eq terminal.written (length device.tape + 1) ≡ false = grind (arith, nat_tests, is.tape.counted) in
    rw not_ahead (refl, sym is.display)

-- the terminals of the Unix are the devices
pub terminal0 : (s : PlantState) → IsSound s → (((unix_at s).terminals 0).tape ≡ s.tty0.tape) × (shown_on ((unix_at s).terminals 0) ≡ s.tty0.display)
unfolding unix_at unix_of
terminal0 s sound =
    terminal_shown (records_held s) 0 s.tty0 ((records_held s).terms 0) (sound.held.records.complete (id.Term 0) (omega arith)) (sound.terminals.records 0 (omega arith))

pub terminal1 : (s : PlantState) → IsSound s → (((unix_at s).terminals 1).tape ≡ s.tty1.tape) × (shown_on ((unix_at s).terminals 1) ≡ s.tty1.display)
unfolding unix_at unix_of
terminal1 s sound =
    terminal_shown (records_held s) 1 s.tty1 ((records_held s).terms 1) (sound.held.records.complete (id.Term 1) (omega arith)) (sound.terminals.records 1 (omega arith))

tapes_same : (s : PlantState) → IsSound s → (tty : ℕ) → tty < 2 → ((unix_at s).terminals tty).tape ≡ tapes_of s tty
tapes_same s sound zero few = (terminal0 s sound).0
tapes_same s sound (suc zero) few = (terminal1 s sound).0
tapes_same s sound (suc (suc tty)) few = absurd (omega arith)

shown_same : (s : PlantState) → IsSound s → (tty : ℕ) → tty < 2 → (tty_of s tty).display ≡ shown_on ((unix_at s).terminals tty)
shown_same s sound zero few = sym (terminal0 s sound).1
shown_same s sound (suc zero) few = sym (terminal1 s sound).1
shown_same s sound (suc (suc tty)) few = absurd (omega arith)

-- a sound plant agrees with its state
pub agrees : (s : PlantState) → IsSound s → PlantAgrees s (unix_at s)
unfolding unix_at
agrees s sound = record { decodes = (context_of s, refl); tapes = tapes_same s sound; shown = shown_same s sound }

-- what its processor has of a process is what it is read with
pub agrees_by_context : (s : PlantState) (sound : IsSound s) → (agrees s sound).decodes.0 ≡ context_of s
unfolding agrees
agrees_by_context s sound = refl

-- a plant counts as the state that it agrees with
pub steps_agree : (s : PlantState) (w : Unix) → PlantAgrees s w → s.steps ≡ w.steps
unfolding unix_of
steps_agree s w agrees = sym (ap (λ (u : Unix). u.steps) agrees.decodes.1)

pub traps_agree : (s : PlantState) (w : Unix) → PlantAgrees s w → s.traps ≡ w.traps
unfolding unix_of
traps_agree s w agrees = sym (ap (λ (u : Unix). u.traps) agrees.decodes.1)
