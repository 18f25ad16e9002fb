-- Terminals are sound once bytes are out.
use Rattle.std.proofs.Common.{◌≡◌, ◌≢◌, ◌+◌, ◌*◌, ◌^◌, ◌<◌, ◌≤◌, ℕ, zero, suc, List, ◌++◌, length, drop, Option, Some, None, IfSome, inl, inr, refl, sym, ap, subst, ◌∙◌, arith, length-append}
use Rattle.std.proofs.lemmas.Bool.Decides.{eqb_tells}
use Rattle.std.proofs.lemmas.List.{drop-append-le}
use Rattle.ow_base.specs.Screen.{Screen, drawn_all, screen_of}
use Rattle.record_layouts.specs.declared.term.TermRec.{TermRec}
use Rattle.record_layouts.specs.Held.{Records}
use Rattle.tty_screen.specs.Drawing.{IsRowOf}
use Rattle.tty_screen.specs.Shown.{ShowsScreen}
use Rattle.tty_screen.proofs.ShownScreens.{shows_same}
use Rattle.ow_plant.specs.State.{PlantState, tty_of, Device}
use Rattle.kernel_traps.specs.Plants.{IsOfDevice}
use Rattle.kernel_traps.specs.Putting.{AreCounted, AreDrawn, CountsBytes, puts_on, with_puts}
use Rattle.kernel_traps.proofs.Puts.{drawn_all-then}
use Rattle.kernel_traps.proofs.Done.{counted_is}

-- what is known of a value where there is one
if_some : {A : Type 0} (held : Option A) (P Q : A → Type 0) → ((x : A) → P x → Q x) → IfSome held P → IfSome held Q
if_some (Some x) P Q more known = more x known
if_some None P Q more known = tt

-- a terminal is of its device while its record and its rows stay
pub of_device-same : (old new : Records) (tty : ℕ) (device : Device) → new.terms tty ≡ old.terms tty
    → ((index : ℕ) → IsRowOf tty index → new.rows index ≡ old.rows index)
    → IfSome (old.terms tty) (IsOfDevice old tty device) → IfSome (new.terms tty) (IsOfDevice new tty device)
of_device-same old new tty device terminal rows is =
    subst (λ (held : Option TermRec). IfSome held (IsOfDevice new tty device)) (sym terminal)
    (if_some (old.terms tty) (IsOfDevice old tty device) (IsOfDevice new tty device) (λ rec it. record {
      tape = record { counted = it.tape.counted; base = it.tape.base; rows = shows_same terminal rows it.tape.rows };
      display = it.display;
    }) is)

-- a screen of bytes, and one of bytes behind these
screen_behind : (base : ℕ) (tape bytes : List ℕ) → base ≤ length tape
    → drawn_all (screen_of (drop base tape)) bytes ≡ screen_of (drop base (tape ++ bytes))
unfolding screen_of
screen_behind base tape bytes within =
    sym (drawn_all-then _ (drop base tape) bytes) ∙ ap screen_of (sym (drop-append-le base tape bytes within))

-- and once bytes are drawn and out
of_device-put : (old new : Records) (tty : ℕ) (bytes : List ℕ) (device : Device) (before after : TermRec)
    → ((screen : Screen) → ShowsScreen old tty screen → ShowsScreen new tty (drawn_all screen bytes))
    → length device.tape + length bytes < 2 ^ 32 → CountsBytes bytes before after
    → IsOfDevice old tty device before → IsOfDevice new tty (puts_on device bytes) after
of_device-put old new tty bytes device before after shows few counts is =
    let more : length (device.tape ++ bytes) ≡ length device.tape + length bytes = length-append device.tape bytes in
    let screen : drawn_all (screen_of (drop before.base device.tape)) bytes ≡ screen_of (drop after.base (device.tape ++ bytes)) =
    screen_behind before.base device.tape bytes is.tape.base ∙ ap (λ (n : ℕ). screen_of (drop n (device.tape ++ bytes))) (sym counts.base) in
    record {
      tape = record {
        counted = counts.written ∙ counted_is before.written bytes (omega (arith, is.tape.counted)) ∙ omega (arith, is.tape.counted, more);
        base = omega (arith, counts.base, is.tape.base, more);
        rows = subst (λ (s : Screen). ShowsScreen new tty s) screen (shows (screen_of (drop before.base device.tape)) is.tape.rows);
      };
      display = ap (λ (s : Screen). drawn_all s bytes) is.display ∙ screen;
    }

of_device-by : (old new : Records) (tty : ℕ) (bytes : List ℕ) (device : Device) (before after : Option TermRec)
    → ((screen : Screen) → ShowsScreen old tty screen → ShowsScreen new tty (drawn_all screen bytes))
    → length device.tape + length bytes < 2 ^ 32 → AreCounted bytes before after
    → IfSome before (IsOfDevice old tty device) → IfSome after (IsOfDevice new tty (puts_on device bytes))
of_device-by old new tty bytes device (Some before) (Some after) shows few counts is = of_device-put old new tty bytes device before after shows few counts is
of_device-by old new tty bytes device (Some before) None shows few counts is = absurd counts
of_device-by old new tty bytes device None after shows few counts is = absurd counts

-- the devices of which one has bytes more
pub own_device : (s : PlantState) (tty : ℕ) (bytes : List ℕ) → tty < 2 → tty_of (with_puts s tty bytes) tty ≡ puts_on (tty_of s tty) bytes
own_device s zero bytes low = refl
own_device s (suc zero) bytes low = refl
own_device s (suc (suc n)) bytes low = absurd (omega arith)

pub other_device : (s : PlantState) (tty other : ℕ) (bytes : List ℕ) → tty < 2 → other < 2 → other ≢ tty → tty_of (with_puts s tty bytes) other ≡ tty_of s other
other_device s zero zero bytes low low_too apart = absurd (apart refl)
other_device s zero (suc zero) bytes low low_too apart = refl
other_device s (suc zero) zero bytes low low_too apart = refl
other_device s (suc zero) (suc zero) bytes low low_too apart = absurd (apart refl)
other_device s (suc (suc n)) other bytes low low_too apart = absurd (omega arith)
other_device s zero (suc (suc n)) bytes low low_too apart = absurd (omega arith)
other_device s (suc zero) (suc (suc n)) bytes low low_too apart = absurd (omega arith)

-- each terminal is of its device once bytes are drawn and out
pub of_devices : (s : PlantState) (tty : ℕ) (bytes : List ℕ) (old new : Records) → tty < 2 → AreDrawn tty bytes old new
    → length (tty_of s tty).tape + length bytes < 2 ^ 32
    → ((other : ℕ) → other < 2 → IfSome (old.terms other) (IsOfDevice old other (tty_of s other)))
    → (other : ℕ) → other < 2 → IfSome (new.terms other) (IsOfDevice new other (tty_of (with_puts s tty bytes) other))
of_devices s tty bytes old new low drawn few each other low_too = elim (eqb_tells other tty) [
  | inl (test, same) ↦ subst (λ (k : ℕ). IfSome (new.terms k) (IsOfDevice new k (tty_of (with_puts s tty bytes) k))) (sym same)
      (subst (λ (device : Device). IfSome (new.terms tty) (IsOfDevice new tty device)) (sym (own_device s tty bytes low))
      (of_device-by old new tty bytes (tty_of s tty) (old.terms tty) (new.terms tty) drawn.shows few drawn.counted (each tty low)))
  | inr (test, apart) ↦ subst (λ (device : Device). IfSome (new.terms other) (IsOfDevice new other device)) (sym (other_device s tty other bytes low low_too apart))
      (of_device-same old new other (tty_of s other) (drawn.beside.terms other apart)
      (λ index within. drawn.beside.rows index (λ own. apart (omega (arith, within.0, within.1, own.0, own.1))))
      (each other low_too))
]

-- and has at most 16 bytes for each step
pub few_bytes : (s : PlantState) (tty : ℕ) (bytes : List ℕ) (steps more : ℕ) → tty < 2 → length bytes ≤ 16 → steps < more
    → ((other : ℕ) → other < 2 → length (tty_of s other).tape ≤ 16 * steps)
    → (other : ℕ) → other < 2 → length (tty_of (with_puts s tty bytes) other).tape ≤ 16 * more
few_bytes s tty bytes steps more low short step each other low_too = elim (eqb_tells other tty) [
  | inl (test, same) ↦
      let was = each tty low in
      let longer : length ((tty_of s tty).tape ++ bytes) ≡ length (tty_of s tty).tape + length bytes = length-append (tty_of s tty).tape bytes in
      subst (λ (k : ℕ). length (tty_of (with_puts s tty bytes) k).tape ≤ 16 * more) (sym same)
      (subst (λ (device : Device). length device.tape ≤ 16 * more) (sym (own_device s tty bytes low)) (omega (arith, was, longer)))
  | inr (test, apart) ↦
      let was = each other low_too in
      subst (λ (device : Device). length device.tape ≤ 16 * more) (sym (other_device s tty other bytes low low_too apart)) (omega (arith, was))
]
