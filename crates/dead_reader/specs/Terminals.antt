-- Which terminals can be read, and what was to be written on one when the panic came.
use Rattle.std.specs.Prelude.{◌≡◌, ℕ, ◌+◌, Some}
use Rattle.record_layouts.specs.declared.term.TermRec.{TermRec}
use Rattle.record_layouts.specs.Held.{Records}
pub use Rattle.record_layouts.specs.Terminals.{TerminalDecodes, is_lost_row}
unfoldable pub use Rattle.record_layouts.specs.Terminals.{lacks_row, terminal_decodes}

-- the byte is the last that a terminal's record tells, and the device, with so many bytes, has not written it
pub record IsInFlight (r : Records) (tty count byte : ℕ) : Type 0 where
  pub decodes : TerminalDecodes r tty
  pub terminal : TermRec
  pub there : r.terms tty ≡ Some terminal
  pub counted : terminal.written ≡ count + 1
  pub last : byte ≡ terminal.last
