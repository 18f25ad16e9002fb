-- The test whether a terminal decodes.
use Rattle.std.proofs.Common.{◌≡◌, ℕ, ◌+◌, ◌*◌, ◌<◌, Bool, true, false, not, is_some, IsTrue, refl, sym, inl, inr, arith}
use Rattle.std.proofs.lemmas.Bool.{cases_Bool}
use Rattle.record_layouts.specs.Held.{Records}
use Rattle.record_layouts.specs.Terminals.{TerminalDecodes}
use Rattle.record_layouts.proofs.Least.{any_found, any_none}
use Rattle.dead_reader.specs.Terminals.{is_lost_row, lacks_row}

module _ (r : Records) (tty : ℕ) where
  clash : (test : Bool) → test ≡ true → test ≡ false → ⊥
  clash test holds fails = cc

  row_there : (place : ℕ) → lacks_row r tty ≡ false → place < 24 → is_some (r.rows (24 * tty + place)) ≡ true
  unfolding lacks_row
  row_there place none within = elim (cases_Bool (is_lost_row r tty place)) [
    | inl lost ↦ absurd (clash _ (any_found (is_lost_row r tty) 0 24 24 place refl (omega arith) within lost) none)
    | inr kept ↦ grind (arith, kept)
  ]

  none_lost : TerminalDecodes r tty → lacks_row r tty ≡ false
  unfolding lacks_row
  none_lost decodes = any_none (is_lost_row r tty) 0 24 24 refl (record { none = λ k from to. let there = decodes.rows k to in grind (arith, there) })

  -- where the terminal's record decodes, the terminal does exactly where no row is lacking
  pub decodes_is : (lacks : Bool) → is_some (r.terms tty) ≡ true → lacks ≡ lacks_row r tty
      → (IsTrue (not lacks) → TerminalDecodes r tty) × (TerminalDecodes r tty → IsTrue (not lacks))
  decodes_is true there is = (λ yes. absurd (grind (arith, yes)), λ decodes. absurd (clash _ (sym is) (none_lost decodes)))
  decodes_is false there is = (λ yes. record { terminal = there; rows = λ place within. row_there place (sym is) within }, λ decodes. grind arith)
