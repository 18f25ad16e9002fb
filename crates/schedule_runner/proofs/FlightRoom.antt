-- There is room for the bytes in flight of a kernel that was sound.
use Rattle.std.proofs.Common.{◌≡◌, ℕ, zero, suc, ◌*◌, ◌<◌, refl, arith}
use Rattle.ow_plant.specs.Images.{tapes_of}
use Rattle.ow_plant.specs.State.{PlantState, tty_of}
use Rattle.record_layouts.specs.Left.{HandedOver}
use Rattle.resurrector.specs.Flights.{HasFlightRoom}
use Rattle.resurrector.proofs.SoundFlights.{flight_room}
use Rattle.schedule_runner.specs.Revivals.{IsBroken, dead_records}
use Rattle.schedule_runner.proofs.DeadImages.{dead_image}
use Rattle.schedule_runner.proofs.Revivals.{dead_sound}

tape_told : (s : PlantState) (tty : ℕ) → tty < 2 → (tty_of s tty).tape ≡ tapes_of s tty
tape_told s zero low = refl
tape_told s (suc zero) low = refl
tape_told s (suc (suc n)) low = absurd (omega (arith, low))

pub has_room : (s : PlantState) (h : HandedOver) → IsBroken s h → ((tty : ℕ) → tty < 2 → (tty_of s tty).room ≡ 16 * s.shape.budget)
    → (tty : ℕ) → tty < 2 → HasFlightRoom (dead_records s) tty (tty_of s tty)
has_room s h broken wide tty low =
    flight_room (dead_image s) s.steps s.traps (dead_sound s h broken) tty low (tty_of s tty) (tape_told s tty low) (omega (arith, wide tty low, broken.budget))
