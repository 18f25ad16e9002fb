-- A kernel that was resurrected on a plant on which one panicked.
use Rattle.std.specs.Prelude.{◌≡◌, ℕ, ◌≤◌, false, List, Some, None}
use Rattle.ow_base.specs.Sv32.{WordMap}
use Rattle.dead_reader.specs.Left.{handed_of, records_left}
use Rattle.kernel_builder.specs.Sets.{IsBuilt}
use Rattle.kernel_takeover.specs.Areas.{other_area}
use Rattle.ow_plant.specs.Images.{image_of}
use Rattle.ow_plant.specs.Lent.{lent_of, with_lent}
use Rattle.ow_plant.specs.Owning.{left_by}
use Rattle.ow_plant.specs.State.{IsArmed, PlantState, with_live}
use Rattle.phys_memory.specs.Halves.{words_beside}
use Rattle.record_layouts.specs.declared.fates.Fate.{Fate}
use Rattle.record_layouts.specs.Held.{Records}
use Rattle.record_layouts.specs.Left.{HandedOver}
use Rattle.record_layouts.specs.Reading.{records_of}
use Rattle.record_layouts.specs.SoundImages.{IsSoundAtPanic}
use Rattle.record_layouts.specs.Terminals.{ShowsScreen}
use Rattle.record_layouts.specs.Unix.Abort.{abort, fates}
use Rattle.record_layouts.specs.Unix.State.{Unix}
use Rattle.record_layouts.specs.Unix.Wounds.{no_wounds}
use Rattle.record_layouts.specs.LeftImages.{unix_left}
use Rattle.resurrector.specs.Flights.{tape_put}
use Rattle.resurrector.specs.Plants.{own_map, own_words_in}
use Rattle.resurrector.specs.Revived.{fates_left, plan_of}

-- the words that can be read while another kernel is built: all but those of the half that is not live
abbrev pub dead_words : PlantState → WordMap
dead_words s = words_beside s.memory s.live

-- the records of the kernel that is dead
abbrev pub dead_records : PlantState → Records
dead_records s = records_left (left_by s) (dead_words s)

-- A panic was entered in a trap, which handed this over, and nothing that the kernel left is damaged.
pub record IsBroken (s : PlantState) (h : HandedOver) : Type 0 where
  pub armed : IsArmed s
  pub in_kernel : s.in_user ≡ false
  pub no_trap_runs : s.in_trap ≡ false
  pub budget : s.steps ≤ s.shape.budget
  pub handed : handed_of (left_by s).handover ≡ Some h
  pub trap : h.trap ≡ s.traps
  pub sound : IsSoundAtPanic (image_of s) s.steps s.traps

-- What a resurrection makes of a plant: in the half that is not live stands the kernel that is built of the dead one, each
-- tape has its byte in flight, and each display shows what the records of the new kernel say.
pub record IsResurrected (old new : PlantState) : Type 0 where
  pub armed : IsArmed new
  pub able : new.refusal ≡ None
  pub rest : new ≡ with_lent old (lent_of new)
  pub shape : new.shape ≡ old.shape
  pub built : IsBuilt (own_map (left_by old)) (plan_of (left_by old) (dead_words old)) (own_words_in old) (own_words_in new)
  pub tape0 : new.tty0.tape ≡ tape_put (dead_records old) 0 old.tty0.tape
  pub tape1 : new.tty1.tape ≡ tape_put (dead_records old) 1 old.tty1.tape
  pub shown0 : ShowsScreen (records_of (own_map (left_by old)) (own_words_in new)) 0 new.tty0.display
  pub shown1 : ShowsScreen (records_of (own_map (left_by old)) (own_words_in new)) 1 new.tty1.display

-- the plant once the kernel that was built takes over
abbrev pub taken_over : PlantState → PlantState
taken_over s = with_live s (other_area s.live)

-- the state of the Unix that the dead kernel left, with what it handed over
abbrev pub unix_broken : PlantState → HandedOver → Unix
unix_broken s h = unix_left (image_of s) h s.steps s.traps

-- what Abort makes of it where nothing is damaged
abbrev pub unix_aborted : PlantState → HandedOver → Unix
unix_aborted s h = abort (unix_broken s h) (no_wounds (unix_broken s h))

-- and the fates that it tells, and those that are told of the words of the dead kernel
abbrev pub fates_aborted : PlantState → HandedOver → List (ℕ × Fate)
fates_aborted s h = fates (unix_broken s h) (no_wounds (unix_broken s h))

abbrev pub fates_told : PlantState → List (ℕ × Fate)
fates_told s = fates_left (left_by s) (dead_words s)
