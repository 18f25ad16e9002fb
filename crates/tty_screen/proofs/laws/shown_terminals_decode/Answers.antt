use Rattle.std.proofs.Common.{◌+◌, ◌*◌, arith}
use Rattle.record_layouts.specs.declared.places.RecordId.TheVariants as id
use Rattle.tty_screen.proofs.ShownScreens.{decodes}
use Rattle.tty_screen.proofs.laws.shown_terminals_decode.Goals as goal

pub returns-clause-shown : goal.returns-clause-shown
returns-clause-shown c records tty screen shows = decodes shows

pub returns-clause-complete : goal.returns-clause-complete
returns-clause-complete c records tty low complete = record {
  terminal = complete (id.Term tty) low;
  rows = λ place few. complete (id.Row (24 * tty + place)) (omega arith);
}
