-- A store or an end is refused only in a trap with a panic to come.
use Rattle.std.proofs.Common.{◌≡◌, ◌∙◌, ◌==◌, ℕ, true, List, None, ap, inl, inr, refl}
use Rattle.std.proofs.lemmas.Bool.{cases_Bool}
use Rattle.record_layouts.specs.Held.{Held}
use Rattle.ow_plant.specs.State.{PlantState, refuses}
use Rattle.intent_store.specs.Live.{may_refuse, rest_of}
use Rattle.intent_store.proofs.Plants.{refused_in_trap}
use Rattle.kernel_traps.specs.Putting.{IsPut, with_puts}

-- it is a matter of the rest
pub refusals_same : (s t : PlantState) → rest_of t ≡ rest_of s → may_refuse t ≡ may_refuse s
refusals_same s t e = ap (λ (p : PlantState). may_refuse p) e

pub put_refused : (s : PlantState) → s.armed ≡ true → s.refusal ≡ None → refuses s ≡ true → may_refuse s ≡ true
put_refused s armed able refused = refused_in_trap s (rw (armed, able) refl) refused

-- bytes that are put change no point
puts_same : (s : PlantState) (tty : ℕ) (bytes : List ℕ) → may_refuse (with_puts s tty bytes) ≡ may_refuse s
puts_same s tty bytes = elim (cases_Bool (tty == 0)) [ inl first ↦ rw first refl | inr second ↦ rw second refl ]

pub refusals_put : (h n : Held PlantState) (tty : ℕ) (counted out : List ℕ) → IsPut h tty counted out n → may_refuse n.rest ≡ may_refuse h.rest
refusals_put h n tty counted out put = ap (λ (k : Held PlantState). may_refuse k.rest) put.rest ∙ puts_same h.rest tty out
