-- Terminals as a panic leaves them: of the bytes that the record of a terminal counts the last one may not be out on its
-- device, and is then the last one of its tape.
use Rattle.std.proofs.Common.{◌≡◌, ◌∙◌, ◌⊎◌, ◌==◌, ◌+◌, ◌*◌, ◌<◌, ◌≤◌, ℕ, zero, suc, false, List, [], ◌∷◌, ◌++◌, length, take, get_or, Option, Some, None, IfSome, inl, inr, refl, sym, ap, subst, append_assoc, arith, length-append}
use Rattle.std.proofs.lemmas.Bool.{cases_Bool}
use Rattle.std.proofs.lemmas.Bool.Decides.{eqb_tells, nat_tests}
use Rattle.std.proofs.lemmas.List.{append-nil, take_more}
use Rattle.record_layouts.specs.declared.term.TermRec.{TermRec}
use Rattle.record_layouts.specs.Decode.{tape_by}
use Rattle.record_layouts.specs.Held.{Records}
use Rattle.record_layouts.specs.SoundImages.{AreOfTapes}
use Rattle.record_layouts.specs.Terminals.{IsOfTape}
use Rattle.ow_plant.specs.Images.{AreFronts, tapes_of}
use Rattle.ow_plant.specs.State.{PlantState, tty_of, Device}
use Rattle.kernel_traps.specs.Plants.{IsOfDevice}
use Rattle.kernel_traps.specs.Putting.{AreCounted, last_of, puts_on, with_puts}
use Rattle.kernel_traps.proofs.Done.{tape_counted}
use Rattle.kernel_traps.proofs.Terminals.{other_device, own_device}

-- all bytes that are counted are out, or all but the last one
abbrev pub AreOutByOne : (counted out : List ℕ) → Type 0
AreOutByOne counted out = (out ≡ counted) ⊎ ((byte : ℕ) × (counted ≡ out ++ byte ∷ []))

-- some first bytes, and those with one more
pub out_by_one : (bytes : List ℕ) (count : ℕ) → count < length bytes → AreOutByOne (take (count + 1) bytes) (take count bytes)
out_by_one bytes count within = inr (get_or bytes count 0, take_more bytes count 0 within)

last_of-end : (last : ℕ) (xs : List ℕ) (x : ℕ) → last_of last (xs ++ x ∷ []) ≡ x
last_of-end last [] x = refl
last_of-end last (y ∷ xs) x = last_of-end y xs x

-- the tape of a terminal decodes as one that its record is of
pub record IsDecoded (r : Records) (tty : ℕ) (tape decoded : List ℕ) (terminal : TermRec) : Type 0 where
  pub decodes : tape_by tape terminal ≡ decoded
  pub of_tape : IsOfTape r tty decoded terminal

tape_by_one : (tape counted out : List ℕ) (terminal : TermRec) (last : ℕ) → AreOutByOne counted out → terminal.written ≡ length (tape ++ counted)
    → terminal.last ≡ last_of last counted → tape_by (tape ++ out) terminal ≡ tape ++ counted
tape_by_one tape counted out terminal last (inl all) written is_last =
    let same : tape ++ out ≡ tape ++ counted = ap (λ (bytes : List ℕ). tape ++ bytes) all in
    ap (λ (t : List ℕ). tape_by t terminal) same ∙ tape_counted (tape ++ counted) terminal written
tape_by_one tape counted out terminal last (inr (byte, one)) written is_last =
    let same : tape ++ counted ≡ (tape ++ out) ++ byte ∷ [] = ap (λ (bytes : List ℕ). tape ++ bytes) one ∙ sym (append_assoc tape out (byte ∷ [])) in
    let now : terminal.written ≡ length (tape ++ out) + 1 =
    written ∙ ap (λ (bytes : List ℕ). length bytes) same ∙ length-append (tape ++ out) (byte ∷ []) in
    let its : terminal.last ≡ byte = is_last ∙ ap (λ (bytes : List ℕ). last_of last bytes) one ∙ last_of-end last out byte in
    let more : tape_by (tape ++ out) terminal ≡ (tape ++ out) ++ terminal.last ∷ [] = grind (arith, nat_tests, now) in
    more ∙ ap (λ (b : ℕ). (tape ++ out) ++ b ∷ []) its ∙ sym same

-- a terminal decodes as its device, where all is out, and as the device with the byte that is missing
device_decoded : (r : Records) (tty : ℕ) (device : Device) (held : Option TermRec) → IfSome held (IsOfDevice r tty device)
    → IfSome held (IsDecoded r tty device.tape device.tape)
device_decoded r tty device None is = tt
device_decoded r tty device (Some terminal) is = record { decodes = tape_counted device.tape terminal is.tape.counted; of_tape = is.tape }

put_decoded : (r : Records) (tty : ℕ) (counted out : List ℕ) (device : Device) (before after : Option TermRec) → AreOutByOne counted out → AreCounted counted before after
    → IfSome after (IsOfDevice r tty (puts_on device counted)) → IfSome after (IsDecoded r tty (puts_on device out).tape (puts_on device counted).tape)
put_decoded r tty counted out device before None outs counts is = tt
put_decoded r tty counted out device None (Some after) outs counts is = absurd counts
put_decoded r tty counted out device (Some before) (Some after) outs counts is = record {
  decodes = tape_by_one device.tape counted out after before.last outs is.tape.counted counts.last;
  of_tape = is.tape;
}

-- both terminals, of which one has bytes more
pub puts_decoded : (s : PlantState) (tty : ℕ) (counted out : List ℕ) (r : Records) (before : Option TermRec) → tty < 2 → AreOutByOne counted out
    → AreCounted counted before (r.terms tty)
    → ((other : ℕ) → other < 2 → IfSome (r.terms other) (IsOfDevice r other (tty_of (with_puts s tty counted) other)))
    → (other : ℕ) → other < 2 → IfSome (r.terms other) (IsDecoded r other (tty_of (with_puts s tty out) other).tape (tty_of (with_puts s tty counted) other).tape)
puts_decoded s tty counted out r before low outs counts each other low_too = elim (eqb_tells other tty) [
  | inl (test, same) ↦
      let P : Device → Device → Type 0 = λ less all. IfSome (r.terms tty) (IsDecoded r tty less.tape all.tape) in
      let is : IfSome (r.terms tty) (IsOfDevice r tty (puts_on (tty_of s tty) counted)) =
      subst (λ (device : Device). IfSome (r.terms tty) (IsOfDevice r tty device)) (own_device s tty counted low) (each tty low) in
      subst (λ (k : ℕ). IfSome (r.terms k) (IsDecoded r k (tty_of (with_puts s tty out) k).tape (tty_of (with_puts s tty counted) k).tape)) (sym same)
      (subst (λ (less : Device). P less (tty_of (with_puts s tty counted) tty)) (sym (own_device s tty out low))
      (subst (λ (all : Device). P (puts_on (tty_of s tty) out) all) (sym (own_device s tty counted low))
      (put_decoded r tty counted out (tty_of s tty) before (r.terms tty) outs counts is)))
  | inr (test, apart) ↦
      let all : tty_of (with_puts s tty counted) other ≡ tty_of s other = other_device s tty other counted low low_too apart in
      let less : tty_of (with_puts s tty out) other ≡ tty_of s other = other_device s tty other out low low_too apart in
      subst (λ (device : Device). IfSome (r.terms other) (IsDecoded r other device.tape (tty_of (with_puts s tty counted) other).tape)) (all ∙ sym less)
      (device_decoded r other (tty_of (with_puts s tty counted) other) (r.terms other) (each other low_too))
]

pub devices_decoded : (s : PlantState) (r : Records) → ((tty : ℕ) → tty < 2 → IfSome (r.terms tty) (IsOfDevice r tty (tty_of s tty)))
    → (tty : ℕ) → tty < 2 → IfSome (r.terms tty) (IsDecoded r tty (tty_of s tty).tape (tty_of s tty).tape)
devices_decoded s r each tty low = device_decoded r tty (tty_of s tty) (r.terms tty) (each tty low)

-- terminals that decode so are of their tapes
decoded_is : (r : Records) (tty : ℕ) (tape decoded : List ℕ) (held : Option TermRec) → IfSome held (IsDecoded r tty tape decoded)
    → IfSome held (λ terminal. IsOfTape r tty (tape_by tape terminal) terminal)
decoded_is r tty tape decoded None is = tt
decoded_is r tty tape decoded (Some terminal) is = subst (λ (t : List ℕ). IsOfTape r tty t terminal) (sym is.decodes) is.of_tape

decoded_few : (r : Records) (tty : ℕ) (tape decoded : List ℕ) (steps : ℕ) (held : Option TermRec) → IfSome held (IsDecoded r tty tape decoded)
    → length decoded ≤ 16 * steps → IfSome held (λ terminal. length (tape_by tape terminal) ≤ 16 * steps)
decoded_few r tty tape decoded steps None is few = tt
decoded_few r tty tape decoded steps (Some terminal) is few = subst (λ (t : List ℕ). length t ≤ 16 * steps) (sym is.decodes) few

tape_of : (s : PlantState) (tty : ℕ) → tty < 2 → (tty_of s tty).tape ≡ tapes_of s tty
tape_of s zero low = refl
tape_of s (suc zero) low = refl
tape_of s (suc (suc n)) low = absurd (omega arith)

pub tapes_decoded : (s : PlantState) (r : Records) (decoded : ℕ → List ℕ) (steps : ℕ)
    → ((tty : ℕ) → tty < 2 → IfSome (r.terms tty) (IsDecoded r tty (tty_of s tty).tape (decoded tty)))
    → ((tty : ℕ) → tty < 2 → length (decoded tty) ≤ 16 * steps) → AreOfTapes r (λ tty terminal. tape_by (tapes_of s tty) terminal) steps
tapes_decoded s r decoded steps each few = record {
  records = λ tty low. subst (λ (tape : List ℕ). IfSome (r.terms tty) (λ terminal. IsOfTape r tty (tape_by tape terminal) terminal)) (tape_of s tty low)
      (decoded_is r tty (tty_of s tty).tape (decoded tty) (r.terms tty) (each tty low));
  few = λ tty low. subst (λ (tape : List ℕ). IfSome (r.terms tty) (λ terminal. length (tape_by tape terminal) ≤ 16 * steps)) (tape_of s tty low)
      (decoded_few r tty (tty_of s tty).tape (decoded tty) steps (r.terms tty) (each tty low) (few tty low));
}

-- tapes only grow
pub fronts_same : (s : PlantState) → AreFronts s s
fronts_same s tty = ([], sym (append-nil (tapes_of s tty)))

pub fronts_put : (s : PlantState) (tty : ℕ) (bytes : List ℕ) → AreFronts s (with_puts s tty bytes)
fronts_put s tty bytes zero = elim (cases_Bool (tty == 0)) [ inl first ↦ rw first (bytes, refl) | inr second ↦ rw second ([], sym (append-nil s.tty0.tape)) ]
fronts_put s tty bytes (suc zero) = elim (cases_Bool (tty == 0)) [ inl first ↦ rw first ([], sym (append-nil s.tty1.tape)) | inr second ↦ rw second (bytes, refl) ]
fronts_put s tty bytes (suc (suc n)) =
    let not_zeroth : (suc (suc n) == 0) ≡ false = grind (arith, nat_tests) in
    let not_other : (suc (suc n) == 1) ≡ false = grind (arith, nat_tests) in
    rw (not_zeroth, not_other) ([], refl)
