-- Runs of a world that lists no panic.
use Rattle.std.proofs.Common.{◌≡◌, ℕ, List, [], Option, Some, None, refl}
use Rattle.std.specs.Prelude.{option_and_then}
use Rattle.ow_base.specs.declared.worlds.World.{World}
use Rattle.ow_base.specs.declared.worlds.Ending.{Ending}
use Rattle.ow_base.specs.declared.worlds.PanicRecord.{PanicRecord}
use Rattle.record_layouts.specs.Unix.State.{Unix}
use Rattle.record_layouts.specs.Unix.Choice.{no_keys}
use Rattle.record_layouts.specs.Unix.Turn.{turn}
use Rattle.record_layouts.specs.Unix.Traps.{next_trap}
use Rattle.record_layouts.specs.Unix.Run as plain
use Rattle.record_layouts.specs.Unix.Report.{report_of}
use Rattle.record_layouts.specs.Unix.Panics.{Images, RunsWith, Ends, GoesOn, Panics, line_for, due_at, due_of}
use Rattle.record_layouts.specs.Unix.PanicReport.{panic_lines, unused_lines, report_with}
use Rattle.record_layouts.specs.declared.fates.Fate.{Fate}
use Rattle.record_layouts.specs.declared.traps.Trap.{Trap}

none_due : (o : Option Trap) → option_and_then (λ t. due_of t None) o ≡ None
none_due (Some t) = refl
none_due None = refl

pub never_due : (world : World) (u : Unix) → world.panics ≡ [] → due_at world u ≡ None
unfolding due_at line_for
never_due world u none = rw none (none_due (next_trap no_keys world.load.shape u))

pub with_none : (world : World) (images : Images) (u : Unix) (h : List PanicRecord) (e : Ending) (w : Unix) → world.panics ≡ [] → h ≡ []
    → plain.RunsFrom world.load.shape u h e w → RunsWith world images u [] [] e w
with_none world images u h e w none empty (plain.ends u1 e1 is) = Ends u1 e (never_due world u1 none) is
with_none world images u h e w none empty (plain.goes_on u1 h1 e1 w1 is run) = GoesOn u1 [] [] e w (never_due world u1 none) is (with_none world images (turn world.load.shape u1) h e w none empty run)

pub without : (world : World) (images : Images) (u : Unix) (told : List (List (ℕ × Fate))) (e : Ending) (w : Unix)
    → RunsWith world images u [] told e w → plain.RunsFrom world.load.shape u [] e w
without world images u told e w (Ends u1 e1 d is) = plain.ends u1 e is
without world images u told e w (GoesOn u1 h1 t1 e1 w1 d is run) = plain.goes_on u1 [] e w is (without world images (turn world.load.shape u1) told e w run)

pub same_report : (e : Ending) (w : Unix) → report_with [] [] [] e w ≡ report_of e w
unfolding report_with report_of panic_lines unused_lines
same_report e w = refl

pub history_is_empty : (world : World) (images : Images) (u : Unix) (h : List PanicRecord) (told : List (List (ℕ × Fate))) (e : Ending) (w : Unix) → world.panics ≡ []
    → RunsWith world images u h told e w → (h ≡ []) × (told ≡ [])
history_is_empty world images u h told e w none (Ends u1 e1 d is) = (refl, refl)
history_is_empty world images u h told e w none (GoesOn u1 h1 t1 e1 w1 d is run) = history_is_empty world images (turn world.load.shape u1) h1 t1 e w none run
history_is_empty world images u h told e w none (Panics u1 due r h1 t1 e1 w1 d is run) = absurd (cc (d, never_due world u1 none))
