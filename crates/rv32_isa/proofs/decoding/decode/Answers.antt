-- The row that `Fields::row` answers is that of the word, and the lemmas say the rest of it.
use Rattle.std.proofs.Common.{◌≡◌, ◌∙◌, sym}
use Rattle.rv32_isa.specs.Rows.{row_of}
use Rattle.rv32_isa.proofs.decoding.decode.Goals as goal
use Rattle.rv32_isa.proofs.Rows.{by_fields, row_spells, row_acts, no_row}

its_row : (c : goal.After-row) → c.row.result ≡ row_of c.args.word
its_row c = c.row.ensures ∙ sym (by_fields _ _ _ _ _ _ _ (sym c.bits.ensures.value) (sym c.register_at.ensures)
    (sym c.bits-2.ensures.value) (sym c.register_at-2.ensures) (sym c.register_at-3.ensures)
    (sym c.bits-3.ensures.value))

pub returns-clause-row : goal.returns-clause-row
returns-clause-row c = its_row c

pub returns-clause-found : goal.returns-clause-found
returns-clause-found c = rw (its_row c) (row_spells c.args.word c.ranges.word.fits)

pub returns-clause-none : goal.returns-clause-none
returns-clause-none c = no_row c.args.word c.row.result (its_row c)

pub returns-clause-acts : goal.returns-clause-acts
returns-clause-acts c = λ regs pc. rw (its_row c) (sym (row_acts c.args.word regs pc))
