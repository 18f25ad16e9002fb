-- What a kernel that takes over may change, as memory whose words are stored one by one.
use Rattle.std.specs.Prelude.{ℕ, Bool, not, length, is_some}
use Rattle.std.specs.List.{list_any}
use Rattle.ow_plant.specs.Points.{is_in}
use Rattle.ow_plant.specs.State.{Device}
use Rattle.ow_plant.specs.declared.own_half.Own.{Own}
use Rattle.ow_plant.specs.declared.own_half.OwnPlace.{OwnPlace}

-- all but the words, the refusal and the counts of stores: where the half lies, how many words it has, and the terminals,
-- which have room by the budget
pub record OwnRest : Type 0 where
  pub place : OwnPlace
  pub size : ℕ
  pub tty0 : Device
  pub tty1 : Device
  pub budget : ℕ

abbrev pub rest_of_own : Own → OwnRest
rest_of_own own = record {
  place = own.place;
  size = length own.lent.now.own;
  tty0 = own.lent.now.tty0;
  tty1 = own.lent.now.tty1;
  budget = own.lent.now.budget;
}

-- no refusal stands
abbrev pub is_own_able : Own → Bool
is_own_able own = not (is_some own.lent.now.refusal)

-- a store may be refused: a panic is to come in the trap that was begun last
abbrev pub may_refuse_own : OwnRest → Bool
may_refuse_own rest = list_any (is_in rest.place.trap) rest.place.points.now
