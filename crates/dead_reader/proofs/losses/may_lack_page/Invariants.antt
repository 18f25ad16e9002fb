use Rattle.record_layouts.specs.Least.{NonePasses}
use Rattle.dead_reader.specs.Losses.{is_lost_entry}
use Rattle.dead_reader.proofs.losses.may_lack_page.Given as goal

abbrev pub invariant-loop-entry : goal.invariant-loop-entry
invariant-loop-entry g l = record { below : NonePasses (is_lost_entry (g.V.RecordView.records l.view) l.file) 0 l.entry }
