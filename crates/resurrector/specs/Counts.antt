-- How many stores a try at a resurrection makes at most, the live register apart.
use Rattle.std.specs.Prelude.{ℕ, ◌+◌, ◌*◌}
use Rattle.kernel_builder.specs.Counts.{most_built}

-- a byte in flight for each terminal
abbrev pub most_flights : ℕ
most_flights = 2

-- the rows of a display and its cursor, and those of both displays
abbrev pub display_stores : ℕ
display_stores = 24 + 1

abbrev pub most_painted : ℕ
most_painted = 2 * display_stores

-- a kernel with so many user frames, the bytes in flight and the displays
abbrev pub most_stores : (user_frames : ℕ) → ℕ
most_stores user_frames = most_built user_frames + most_flights + most_painted
