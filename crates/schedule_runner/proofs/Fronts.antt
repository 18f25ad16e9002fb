-- The tapes of a plant only grow, in its turns and in a revival.
use Rattle.std.proofs.Common.{◌≡◌, ℕ, zero, suc, ◌+◌, ◌==◌, true, false, List, [], ◌∷◌, ◌++◌, length, Option, Some, None, IfSome, is_some, inl, inr, refl, sym, ap, ◌∙◌, arith}
use Rattle.std.proofs.lemmas.Bool.{cases_Bool}
use Rattle.std.proofs.lemmas.Bool.Decides.{nat_tests}
use Rattle.std.proofs.lemmas.List.{append-nil, append_assoc}
use Rattle.intent_store.specs.Live.{records_held}
use Rattle.kernel_traps.specs.Plants.{IsOfDevice, IsSound, unix_at}
use Rattle.ow_plant.specs.Images.{AreFronts, image_of, tapes_of}
use Rattle.ow_plant.specs.State.{Device, PlantState}
use Rattle.record_layouts.specs.declared.places.RecordId.TheVariants as id
use Rattle.record_layouts.specs.declared.term.TermRec.{TermRec}
use Rattle.record_layouts.specs.Decode.{terminal_by, unix_of}
use Rattle.record_layouts.specs.Held.{Records}
use Rattle.record_layouts.specs.Terminals.{terminal_decodes}
use Rattle.record_layouts.proofs.Counting.{HasTapesOf}
use Rattle.resurrector.specs.Flights.{IsTapeLeft, tape_put}
use Rattle.schedule_runner.proofs.Revivals.{no_more_tapes, no_more_terminals}

-- the tapes of a sound plant are those of its Unix
of_device : (r : Records) (tty : ℕ) (device : Device) (o : Option TermRec) → is_some o ≡ true → IfSome o (IsOfDevice r tty device)
    → (terminal_by device.tape o).tape ≡ device.tape
of_device r tty device None there is = absurd (cc there)
of_device r tty device (Some terminal) there is =
    let not_ahead : (terminal.written == length device.tape + 1) ≡ false = grind (arith, nat_tests, is.tape.counted) in
    rw not_ahead refl

pub tapes_told : (s : PlantState) → IsSound s → (tty : ℕ) → ((unix_at s).terminals tty).tape ≡ tapes_of s tty
unfolding unix_at unix_of
tapes_told s sound zero =
    of_device (records_held s) 0 s.tty0 ((records_held s).terms 0) (sound.held.records.complete (id.Term 0) (omega arith)) (sound.terminals.records 0 (omega arith))
tapes_told s sound (suc zero) =
    of_device (records_held s) 1 s.tty1 ((records_held s).terms 1) (sound.held.records.complete (id.Term 1) (omega arith)) (sound.terminals.records 1 (omega arith))
tapes_told s sound (suc (suc n)) =
    ap (λ (o : Option TermRec). (terminal_by (tapes_of s (suc (suc n))) o).tape) (no_more_terminals (image_of s) n)

-- so they only grow where those of the Unix do
pub grown : (s t : PlantState) → IsSound s → IsSound t → HasTapesOf (unix_at s) (unix_at t) → AreFronts s t
grown s t sound after has tty =
    ((has tty).0, sym (tapes_told t after tty) ∙ (has tty).1 ∙ ap (λ (tape : List ℕ). tape ++ (has tty).0) (tapes_told s sound tty))

pub front_then : (a b c : PlantState) → AreFronts a b → AreFronts b c → AreFronts a c
front_then a b c first next tty = (
  (first tty).0 ++ (next tty).0,
  (next tty).1 ∙ (ap (λ (tape : List ℕ). tape ++ (next tty).0) (first tty).1 ∙ append_assoc (tapes_of a tty) (first tty).0 (next tty).0),
)

pub same_front : (a b : PlantState) → tapes_of b ≡ tapes_of a → AreFronts a b
same_front a b same tty = ([], ap (λ (tapes : ℕ → List ℕ). tapes tty) same ∙ sym (append-nil (tapes_of a tty)))

-- a revival adds the bytes in flight
ahead : (tape : List ℕ) (o : Option TermRec) → (more : List ℕ) × ((terminal_by tape o).tape ≡ tape ++ more)
ahead tape None = ([], sym (append-nil tape))
ahead tape (Some terminal) = elim (cases_Bool (terminal.written == length tape + 1)) [
  | inl flies ↦ (terminal.last ∷ [], rw flies refl)
  | inr rests ↦ ([], rw rests (sym (append-nil tape)))
]

put_front : (r : Records) (tty : ℕ) (tape : List ℕ) → (more : List ℕ) × (tape_put r tty tape ≡ tape ++ more)
unfolding tape_put
put_front r tty tape = elim (cases_Bool (terminal_decodes r tty)) [
  | inl there ↦ ((ahead tape (r.terms tty)).0, rw there (ahead tape (r.terms tty)).1)
  | inr lost ↦ ([], rw lost (sym (append-nil tape)))
]

left_front : (r : Records) (tty : ℕ) (old new : List ℕ) → IsTapeLeft r tty old new → (more : List ℕ) × (new ≡ old ++ more)
left_front r tty old new (inl same) = ([], same ∙ sym (append-nil old))
left_front r tty old new (inr put) = ((put_front r tty old).0, put ∙ (put_front r tty old).1)

pub revived_front : (r : Records) (a b : PlantState) → IsTapeLeft r 0 a.tty0.tape b.tty0.tape → IsTapeLeft r 1 a.tty1.tape b.tty1.tape → AreFronts a b
revived_front r a b zeroth other zero = left_front r 0 a.tty0.tape b.tty0.tape zeroth
revived_front r a b zeroth other (suc zero) = left_front r 1 a.tty1.tape b.tty1.tape other
revived_front r a b zeroth other (suc (suc n)) = ([], no_more_tapes b n ∙ sym (ap (λ (tape : List ℕ). tape ++ []) (no_more_tapes a n)))
