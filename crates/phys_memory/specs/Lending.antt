-- What memory is when the loan of a half is over.
use Rattle.std.specs.Borrow.{follows, MutBor, Fml}
use Rattle.ow_base.specs.declared.machine.AreaId.{AreaId}
use Rattle.phys_memory.specs.Memory.{MemoryParts}
use Rattle.phys_memory.specs.Halves.{with_own}
use Rattle.phys_memory.specs.declared.lent.OwnWords.{OwnWords}
use Rattle.phys_memory.specs.contracts.whole.Memory.{the_row}
use Rattle.phys_memory.specs.contracts.frames.Frames.{the_row as frames_row}

-- memory is what it was, with the half that is not dead as it was left
abbrev pub LendsOwn : MutBor MemoryParts → (dead : AreaId) → OwnWords → Fml
LendsOwn m dead own = follows the_row frames_row m.ghost_name own.words.ghost_name (with_own m.now dead)
