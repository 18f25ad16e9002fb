-- The entry of a trap is found, or passed, one entry of the history after the other.
use Rattle.std.proofs.Common.{◌≡◌, ℕ, ◌+◌, ◌<◌, nat_eq, true, false, List, length, drop, get_or, Some, sym, ◌∙◌}
use Rattle.ow_base.specs.declared.worlds.PanicRecord.{PanicRecord}
use Rattle.record_layouts.specs.Unix.PanicReport.{entry_for}
use Rattle.ow_report.proofs.Reports.{entry_more}

pub entry_found : (history : List PanicRecord) (trap i : ℕ) (entry : PanicRecord) → i < length history → entry ≡ get_or history i entry → nat_eq entry.trap trap ≡ true
    → entry_for (drop i history) trap ≡ entry_for history trap → Some entry ≡ entry_for history trap
entry_found history trap i entry h is one same =
    let found : entry_for (drop i history) trap ≡ Some entry = rw one at (entry_more history trap i entry h is) in sym found ∙ same

pub entry_passed : (history : List PanicRecord) (trap i : ℕ) (entry : PanicRecord) → i < length history → entry ≡ get_or history i entry → nat_eq entry.trap trap ≡ false
    → entry_for (drop i history) trap ≡ entry_for history trap → entry_for (drop (i + 1) history) trap ≡ entry_for history trap
entry_passed history trap i entry h is other same =
    let behind : entry_for (drop i history) trap ≡ entry_for (drop (i + 1) history) trap = rw other at (entry_more history trap i entry h is) in sym behind ∙ same
