-- The bytes in flight where what a panic left is sound.
use Rattle.std.proofs.Common.{◌≡◌, ℕ, ◌+◌, ◌*◌, ◌<◌, ◌≤◌, ◌==◌, true, List, [], ◌∷◌, ◌++◌, length, Option, IfSome, refl, subst, ap, ◌∙◌, arith}
use Rattle.std.proofs.lemmas.Bool.Decides.{nat_tests}
use Rattle.std.proofs.lemmas.List.{length-append}
use Rattle.ow_base.specs.Images.{Image}
use Rattle.ow_plant.specs.State.{Device}
use Rattle.dead_reader.specs.Terminals.{IsInFlight}
use Rattle.record_layouts.specs.declared.places.RecordId.TheVariants as id
use Rattle.record_layouts.specs.declared.term.TermRec.{TermRec}
use Rattle.record_layouts.specs.Decode.{tape_by}
use Rattle.record_layouts.specs.Images.{records_of_image}
use Rattle.record_layouts.specs.SoundImages.{IsSoundAtPanic}
use Rattle.record_layouts.specs.Terminals.{TerminalDecodes}
use Rattle.resurrector.specs.Flights.{HasFlightRoom, tape_put}
use Rattle.resurrector.specs.Rebuilt.{tapes_put}
use Rattle.resurrector.proofs.InFlight.{test_holds}

module _ (i : Image) (steps trap : ℕ) (sound : IsSoundAtPanic i steps trap) (tty : ℕ) (low : tty < 2) where
  decodes : TerminalDecodes (records_of_image i) tty
  decodes = record {
    terminal = sound.complete (id.Term tty) low;
    rows = λ place within. sound.complete (id.Row (24 * tty + place)) (omega (arith, low, within));
  }

  pub put_same : tape_put (records_of_image i) tty (i.tapes tty) ≡ tapes_put (records_of_image i) i.tapes tty
  unfolding tape_put
  put_same = rw (test_holds (records_of_image i) tty decodes) refl

  pub flight_room : (device : Device) → device.tape ≡ i.tapes tty → 16 * steps ≤ device.room → HasFlightRoom (records_of_image i) tty device
  flight_room device same wide byte flight =
      let flies : IsInFlight (records_of_image i) tty (length (i.tapes tty)) byte =
      subst (λ (tape : List ℕ). IsInFlight (records_of_image i) tty (length tape) byte) same flight in
      let counted : (flies.terminal.written == length (i.tapes tty) + 1) ≡ true = grind (arith, nat_tests, flies.counted) in
      let put : tape_by (i.tapes tty) flies.terminal ≡ i.tapes tty ++ flies.terminal.last ∷ [] = rw counted refl in
      let few : length (tape_by (i.tapes tty) flies.terminal) ≤ 16 * steps =
      subst (λ (o : Option TermRec). IfSome o (λ t. length (tape_by (i.tapes tty) t) ≤ 16 * steps)) flies.there (sound.terminals.few tty low) in
      let longer : length (tape_by (i.tapes tty) flies.terminal) ≡ length (i.tapes tty) + 1 =
      ap (λ (tape : List ℕ). length tape) put ∙ length-append (i.tapes tty) (flies.terminal.last ∷ []) in
      let as_long : length device.tape ≡ length (i.tapes tty) = ap (λ (tape : List ℕ). length tape) same in
      omega (arith, few, longer, as_long, wide)
