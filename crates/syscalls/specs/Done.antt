-- What becomes of what is held once a call is served.
use Rattle.std.specs.Prelude.{◌≡◌, ◌≢◌, ℕ, ◌+◌, ◌-◌, ◌/◌, ◌^◌, min, List, [], ◌++◌, length, Option, Some}
use Rattle.ow_base.specs.Sv32.{WordMap}
use Rattle.ow_base.specs.Pages.{bytes_at}
use Rattle.record_layouts.specs.declared.proc.ProcRec.{ProcRec}
use Rattle.record_layouts.specs.declared.term.TermRec.{TermRec}
use Rattle.record_layouts.specs.declared.row.RowRec.{RowRec}
use Rattle.record_layouts.specs.Held.{Held, Records, with_items}
use Rattle.frame_table.specs.Counts.{pages_of_all}
use Rattle.frame_table.specs.Free.{free_before}
use Rattle.address_space.specs.Spaces.{IsCopied, IsGrown, IsWordPut, OnlyPrepares}
use Rattle.record_layouts.specs.Decode.{tape_by}
use Rattle.record_layouts.specs.Pages.{pages_of}
use Rattle.record_layouts.specs.Sound.{AreSound}
use Rattle.syscalls.specs.Planned.{Planned, PlanFork, PlanGrow, PlanOnce, PlanPut, PlanWrite}

-- Bytes are written on a terminal of which this was the record and the tape: its tape as it decodes has them behind, its
-- record counts them up to the last number that there is, and what is typed and the last reset stay.
pub record AreCounted (bytes : List ℕ) (tape written_tape : List ℕ) (before after : TermRec) : Type 0 where
  pub written : after.written ≡ min (before.written + length bytes) (2 ^ 32 - 1)
  pub consumed : after.consumed ≡ before.consumed
  pub base : after.base ≡ before.base
  pub decoded : tape_by written_tape after ≡ tape_by tape before ++ bytes

abbrev pub AreCountedBy : (bytes tape written_tape : List ℕ) (before after : Option TermRec) → Type 0
AreCountedBy bytes tape written_tape (Some before) (Some after) = AreCounted bytes tape written_tape before after
AreCountedBy bytes tape written_tape before after = ⊥

-- bytes are written on a terminal: no record changes but its own and its rows, of which there are 24, and no other tape
pub record AreWritten (r : Records) (tapes : ℕ → List ℕ) (tty : ℕ) (bytes : List ℕ) (written : Records) (written_tapes : ℕ → List ℕ) : Type 0 where
  pub rest : written ≡ record r { terms = written.terms; rows = written.rows }
  pub terms : (other : ℕ) → other ≢ tty → written.terms other ≡ r.terms other
  pub rows : (index : ℕ) → index / 24 ≢ tty → written.rows index ≡ r.rows index
  pub own_tape : written_tapes tty ≡ tapes tty ++ bytes
  pub other_tapes : (other : ℕ) → other ≢ tty → written_tapes other ≡ tapes other
  pub counted : AreCountedBy bytes (tapes tty) (written_tapes tty) (r.terms tty) (written.terms tty)

-- the free user frames and the pages of all live processes are all user frames
abbrev pub AreCountedFrames : Records → Type 0
AreCountedFrames r = free_before r r.map.user_frames + pages_of_all r 16 ≡ r.map.user_frames

-- records and the words of pages, as what is held
abbrev pub held_as : Records → WordMap → Held (Unit {0})
held_as r words = record { records = r; contents = words; disk = []; rest = tt }

-- the records, the words of pages and the tapes once the call of the process in a slot is served
abbrev pub IsDone : Records → WordMap → (tapes : ℕ → List ℕ) → (slot : ℕ) → ProcRec → Planned → Records → WordMap → (tapes : ℕ → List ℕ) → Type 0
IsDone r words tapes slot process (PlanOnce items) done done_words done_tapes =
    (done ≡ with_items r items) × (done_words ≡ words) × (done_tapes ≡ tapes)
IsDone r words tapes slot process (PlanWrite tty from len items) done done_words done_tapes =
    (written : Records) × AreWritten r tapes tty (bytes_at (pages_of r words slot process) from len) written done_tapes
    × (done ≡ with_items written items) × (done_words ≡ words)
IsDone r words tapes slot process (PlanGrow count items) done done_words done_tapes =
    (prepared : Records) × OnlyPrepares slot (held_as r words) (held_as prepared done_words)
    × IsGrown (held_as r words) (held_as prepared done_words) slot count process × (done ≡ with_items prepared items) × (done_tapes ≡ tapes)
IsDone r words tapes slot process (PlanFork child items) done done_words done_tapes =
    (prepared : Records) × OnlyPrepares child (held_as r words) (held_as prepared done_words)
    × IsCopied (held_as r words) (held_as prepared done_words) slot child process × (done ≡ with_items prepared items) × (done_tapes ≡ tapes)
IsDone r words tapes slot process (PlanPut address value items) done done_words done_tapes =
    IsWordPut (held_as r words) (held_as r done_words) slot address value × (done ≡ with_items r items) × (done_tapes ≡ tapes)

-- The records of a plan keep records sound: those that there are, and, where bytes are written before, those with other
-- records of terminals and rows, where these are sound.
abbrev pub KeepsSound : Records → (slot : ℕ) → ProcRec → Planned → Type 0
KeepsSound r slot process (PlanOnce items) = AreSound (with_items r items)
KeepsSound r slot process (PlanWrite tty from len items) = (terms : ℕ → Option TermRec) (rows : ℕ → Option RowRec)
    → AreSound (record r { terms = terms; rows = rows }) → AreSound (with_items (record r { terms = terms; rows = rows }) items)
KeepsSound r slot process (PlanGrow count items) = (words prepared_words : WordMap) (prepared : Records)
    → OnlyPrepares slot (held_as r words) (held_as prepared prepared_words)
    → IsGrown (held_as r words) (held_as prepared prepared_words) slot count process → AreSound (with_items prepared items)
KeepsSound r slot process (PlanFork child items) = (words prepared_words : WordMap) (prepared : Records)
    → OnlyPrepares child (held_as r words) (held_as prepared prepared_words)
    → IsCopied (held_as r words) (held_as prepared prepared_words) slot child process → AreSound (with_items prepared items)
KeepsSound r slot process (PlanPut address value items) = AreSound (with_items r items)
