use Rattle.std.proofs.Common.{◌≡◌, ◌∙◌, ℕ, List, [], ◌∷◌, ap, sym, subst, inl, inr}
use Rattle.record_layouts.specs.declared.patch.PatchItem.{PatchItem}
use Rattle.record_layouts.specs.Held.{Held, patched, with_items}
use Rattle.ow_plant.specs.State.{PlantState}
use Rattle.tty_screen.specs.Drawing.{DrawsByte, IsCounted, StaysBeside}
use Rattle.tty_screen.specs.Shown.{TerminalDecodes}
use Rattle.intent_store.specs.Live.{held_of}
use Rattle.intent_store.proofs.Unstored.{unstored_then}
use Rattle.word_store.proofs.Outcomes.{at_err, on_err, on_ok}
use Rattle.kernel_traps.specs.Putting.{IsPut}
use Rattle.kernel_traps.proofs.Puts.{held_put, held_refused, put_counted, put_out}
use Rattle.kernel_traps.proofs.services.put_byte.Goals as goal

-- the records that were committed are those of the patch
counted_in : (h m : Held PlantState) (tty byte : ℕ) (items set : List PatchItem) → set ≡ items → m ≡ patched set h
    → DrawsByte h.records tty byte items → IsCounted (h.records.terms tty) ((with_items h.records items).terms tty) byte
    → StaysBeside tty h.records (with_items h.records items) → TerminalDecodes (with_items h.records items) tty
    → IsPut h tty (byte ∷ []) [] m
counted_in h m tty byte items set same is draws counts beside there =
    subst (λ (k : Held PlantState). IsPut h tty (byte ∷ []) [] k) (sym (is ∙ ap (λ (xs : List PatchItem). patched xs h) same))
    (put_counted h tty byte items draws counts beside there)

pub returns-in_err-commit-clause-err : goal.returns-in_err-commit-clause-err
returns-in_err-commit-clause-err c =
    let h = held_of c.args.live.now.plant.now in
    let m = held_of c.commit.new.self.plant.now in
    let patch = c.byte_patch-patch in
    at_err c.from_residual.result _ (elim c.in_err-commit.ensures.err [
      | inl same ↦ inl same
      | inr set ↦ inr (counted_in h m c.args.tty c.args.byte patch.result c.view.result c.view.ensures set patch.ensures.shows patch.ensures.counts patch.ensures.beside patch.ensures.still_decodes)
    ])

pub returns-clause-ok : goal.returns-clause-ok
returns-clause-ok c =
    let h = held_of c.args.live.now.plant.now in
    let m = held_of c.commit.new.self.plant.now in
    let patch = c.byte_patch-patch in
    let counted = counted_in h m c.args.tty c.args.byte patch.result c.view.result c.view.ensures c.in_ok-commit.ensures.ok patch.ensures.shows patch.ensures.counts patch.ensures.beside patch.ensures.still_decodes in
    on_ok c.put.result _ _
    (λ is. put_out h m (held_of c.put.new.self.plant.now) c.args.tty c.args.byte counted
    (ap (λ (s : PlantState). held_of s) is ∙ held_put c.commit.new.self.plant.now c.args.tty c.args.byte))
    c.put.ensures.ok

pub returns-clause-err : goal.returns-clause-err
returns-clause-err c =
    let h = held_of c.args.live.now.plant.now in
    let m = held_of c.commit.new.self.plant.now in
    let patch = c.byte_patch-patch in
    let counted = counted_in h m c.args.tty c.args.byte patch.result c.view.result c.view.ensures c.in_ok-commit.ensures.ok patch.ensures.shows patch.ensures.counts patch.ensures.beside patch.ensures.still_decodes in
    on_err c.put.result _ _
    (λ is. inr (subst (λ (k : Held PlantState). IsPut h c.args.tty (c.args.byte ∷ []) [] k)
    (sym (ap (λ (s : PlantState). held_of s) is ∙ held_refused c.commit.new.self.plant.now)) counted))
    c.put.ensures.err

pub returns-clause-unstored : goal.returns-clause-unstored
returns-clause-unstored c =
    unstored_then c.args.live.now.plant.now c.commit.new.self.plant.now c.put.new.self.plant.now c.commit.ensures.unstored c.put.ensures.unstored
