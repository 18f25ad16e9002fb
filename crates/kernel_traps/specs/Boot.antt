-- What a load must be so that a machine can start with it.
use Rattle.std.specs.Prelude.{ℕ, ◌<◌, ◌≤◌, List, length, take, All, slice_get, Option, option_and_then}
use Rattle.ow_base.specs.World.{start_pages}
use Rattle.ow_base.specs.declared.worlds.Load.{Load}
use Rattle.ow_base.specs.declared.worlds.Program.{Program}
use Rattle.ow_base.specs.declared.worlds.Start.{Start as Started}

-- a program has code, and no more words of either kind than fit in 64 pages
pub record IsLoadable (program : Program) : Type 0 where
  pub some_code : 1 ≤ length program.code
  pub code : length program.code ≤ 65536
  pub values : length program.values ≤ 65536

-- a start names a program and a terminal that there are
pub record IsStartable (programs : List Program) (start : Started) : Type 0 where
  pub program : start.program < length programs
  pub tty : start.tty < 2

-- the starts have their slots, and the pages of all have frames
pub record IsBootable (load : Load) : Type 0 where
  pub some_start : 1 ≤ length load.starts
  pub most_starts : length load.starts ≤ 16
  pub starts : All (IsStartable load.programs) load.starts
  pub programs : All IsLoadable load.programs
  pub frames : start_pages load.programs load.starts ≤ load.shape.user_frames
  pub most_frames : load.shape.user_frames ≤ 384

-- the program that starts in a slot
unfoldable pub program_in : Load → (slot : ℕ) → Option Program
program_in load slot = option_and_then (λ (start : Started). slice_get load.programs start.program) (slice_get load.starts slot)

-- The pages of the starts before one, none before the first. A start has its pages in the user frames from this number
-- on, so all pages lie in the least frames, in rising order, start after start.
abbrev pub pages_before : Load → (slot : ℕ) → ℕ
pages_before load slot = start_pages load.programs (take slot load.starts)
