-- The fates that the panics of a run brought.
use Rattle.std.specs.Prelude.{ℕ, List, [], ◌∷◌, ◌++◌}
use Rattle.record_layouts.specs.declared.fates.Fate.{Fate}

-- each panic's pids and their fates, the first panic first, and how many panics there is room for in all
pub record RunFates : Type 0 where
  pub entries : List (List (ℕ × Fate))
  pub room : ℕ

abbrev pub no_fates : (room : ℕ) → RunFates
no_fates room = record { entries = []; room = room }

-- one panic more, with what it brought
abbrev pub with_entry : RunFates → (fates : List (ℕ × Fate)) → RunFates
with_entry log fates = record log { entries = log.entries ++ fates ∷ [] }
