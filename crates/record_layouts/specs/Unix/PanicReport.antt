-- Report of a run with panics: those that came, with the fate of each process, and what is listed and did not come.
use Rattle.std.specs.Prelude.{ℕ, Bool, true, false, ◌==◌, if◌then◌else◌, List, [], ◌∷◌, ◌++◌, length, drop, flat_map, codes, decimal, Option, Some, None}
use Rattle.ow_base.specs.Lines.{line, spaced, number_line}
use Rattle.record_layouts.specs.Unix.State.{Unix}
use Rattle.record_layouts.specs.Unix.Report.{head_text, state_text}
use Rattle.record_layouts.specs.declared.fates.Fate.{Fate}
use Rattle.record_layouts.specs.declared.fates.Fate.TheVariants as fate
use Rattle.ow_base.specs.declared.worlds.Ending.{Ending}
use Rattle.ow_base.specs.declared.worlds.PanicLine.{PanicLine}
use Rattle.ow_base.specs.declared.worlds.PanicRecord.{PanicRecord}

-- a panic came at a store, or at the end of its trap
abbrev pub point_word : (at_leave : Bool) → List ℕ
point_word true = codes "leave"
point_word false = codes "store"

-- the line of a panic, with the store that the world lists for it
unfoldable pub panic_line : PanicRecord → List ℕ
panic_line r =
    line (spaced (spaced (spaced (spaced (spaced (codes "panic") (decimal r.trap)) (decimal r.listed)) (point_word r.at_leave)) (codes "pid")) (decimal r.pid))

-- a store of a resurrection that was broken there
abbrev pub broken_line : (store : ℕ) → List ℕ
broken_line store = number_line (codes "broken") store

-- the line of a process and its fate
abbrev pub fate_words : (pid : ℕ) → Fate → List ℕ
fate_words pid fate.Goes = number_line (codes "goes") pid
fate_words pid fate.Aborted = number_line (codes "aborted") pid
fate_words pid fate.Stands = number_line (codes "stands") pid
fate_words pid (fate.Procedure mask) = line (spaced (spaced (codes "procedure") (decimal pid)) (decimal mask))
fate_words pid (fate.Lost bits) = line (spaced (spaced (codes "lost") (decimal pid)) (decimal bits))

abbrev pub fate_line : (ℕ × Fate) → List ℕ
fate_line told = fate_words told.0 told.1

-- each panic with its broken resurrections and its fates; where a run ends in a broken resurrection the last panic has no
-- fates
abbrev pub with_fates : PanicRecord → List (ℕ × Fate) → List ℕ
with_fates r told = panic_line r ++ (flat_map broken_line r.broken.items ++ flat_map fate_line told)

unfoldable pub panic_lines : List PanicRecord → List (List (ℕ × Fate)) → List ℕ
panic_lines [] told = []
panic_lines (r ∷ history) [] = with_fates r [] ++ panic_lines history []
panic_lines (r ∷ history) (fates ∷ told) = with_fates r fates ++ panic_lines history told

-- the entry of the panic that came at this trap
abbrev pub or_entry : PanicRecord → (trap : ℕ) → Option PanicRecord → Option PanicRecord
or_entry r trap other = if r.trap == trap then Some r else other

unfoldable pub entry_for : List PanicRecord → (trap : ℕ) → Option PanicRecord
entry_for [] trap = None
entry_for (r ∷ history) trap = or_entry r trap (entry_for history trap)

-- What did not come of a panic that is listed: itself, and the stores of its resurrections. These come in their order, one
-- at each try, so those that came are the first ones.
abbrev pub unused_again : (trap : ℕ) → (store : ℕ) → List ℕ
unused_again trap store = line (spaced (spaced (spaced (codes "unused") (codes "again")) (decimal trap)) (decimal store))

abbrev pub unused_of : PanicLine → Option PanicRecord → List ℕ
unused_of panic (Some r) = flat_map (unused_again panic.trap) (drop (length r.broken.items) panic.agains)
unused_of panic None =
    line (spaced (spaced (codes "unused") (decimal panic.trap)) (decimal panic.store)) ++ flat_map (unused_again panic.trap) panic.agains

unfoldable pub unused_lines : List PanicLine → List PanicRecord → List ℕ
unused_lines [] history = []
unused_lines (panic ∷ panics) history = unused_of panic (entry_for history panic.trap) ++ unused_lines panics history

-- Report, of the panics of a world, a history with its fates, an ending and the state that the run left. A run that ends in
-- a broken resurrection is not told yet.
unfoldable pub report_with : List PanicLine → List PanicRecord → List (List (ℕ × Fate)) → Ending → Unix → List ℕ
report_with panics history told ending w =
    head_text ending w.steps w.traps ++ (panic_lines history told ++ (unused_lines panics history ++ state_text w))
