use Rattle.std.proofs.Common.{◌≡◌, ◌+◌, ◌≤◌, None}
use Rattle.ow_plant.specs.Lent.{lent_tty}
use Rattle.ow_plant.specs.Owning.{own_words}
use Rattle.record_layouts.specs.Reading.{records_of}
use Rattle.resurrector.specs.Painting.{ChangesDisplay, ShowsRows}
use Rattle.resurrector.proofs.painting.paint_rows.Given as goal

-- the rows above this one are shown
abbrev pub invariant-loop-r : goal.invariant-loop-r
invariant-loop-r l = record {
  able : l.own.lent.now.refusal ≡ None;
  words : own_words l.own ≡ own_words l.fn.own;
  shown : ShowsRows (records_of l.map (own_words l.fn.own)) l.tty l.r (lent_tty l.own.lent.now l.tty).display.rows;
  only : ChangesDisplay l.tty l.fn.own.lent.now l.own.lent.now;
  counted : l.own.lent.now.stores ≤ l.fn.own.lent.now.stores + l.r;
  place : l.own.place ≡ l.fn.own.place;
  same_reference : l.own.lent.ghost_name ≡ l.fn.own.lent.ghost_name;
}
