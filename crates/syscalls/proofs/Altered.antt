-- Of records of which only head, processes, terminals and rows are others, the pages of a process are the same.
use Rattle.std.proofs.Common.{◌≡◌, ◌&&◌, ℕ, zero, suc, ◌+◌, Bool, Option, is_some, refl, ap}
use Rattle.ow_base.specs.Sv32.{WordMap}
use Rattle.record_layouts.specs.declared.head.HeadRec.{HeadRec}
use Rattle.record_layouts.specs.declared.proc.ProcRec.{ProcRec}
use Rattle.record_layouts.specs.declared.term.TermRec.{TermRec}
use Rattle.record_layouts.specs.declared.row.RowRec.{RowRec}
use Rattle.record_layouts.specs.Held.{Records}
use Rattle.record_layouts.specs.Pages.{entry_for, frame_of, have_frames, is_mapped, pages_of}
use Rattle.record_layouts.specs.Decode.{pid_in, process_of}

-- the records with these in place of its own
abbrev pub altered : Records → Option HeadRec → (ℕ → Option ProcRec) → (ℕ → Option TermRec) → (ℕ → Option RowRec) → Records
altered r head procs terms rows = record r { head = head; procs = procs; terms = terms; rows = rows }

module _ (r : Records) (head : Option HeadRec) (procs : ℕ → Option ProcRec) (terms : ℕ → Option TermRec) (rows : ℕ → Option RowRec) where
  frame_stays : (slot : ℕ) (process : ProcRec) (page : ℕ) → frame_of (altered r head procs terms rows) slot process page ≡ frame_of r slot process page
  unfolding frame_of entry_for
  frame_stays slot process page = refl

  frames_stay : (slot : ℕ) (process : ProcRec) (first count : ℕ) → have_frames (altered r head procs terms rows) slot process first count ≡ have_frames r slot process first count
  unfolding have_frames
  frames_stay slot process first zero = refl
  frames_stay slot process first (suc count) =
      rw (frame_stays slot process first) (ap (λ (rest : Bool). is_some (frame_of r slot process first) && rest) (frames_stay slot process (first + 1) count))

  pub mapped_stays : (slot : ℕ) (process : ProcRec) → is_mapped (altered r head procs terms rows) slot process ≡ is_mapped r slot process
  unfolding is_mapped
  mapped_stays slot process = simp (frames_stay slot process)

  pub decoded_stays : (words : WordMap) (slot : ℕ) (process : ProcRec) → process_of (altered r head procs terms rows) words slot process ≡ process_of r words slot process
  unfolding process_of pages_of frame_of entry_for
  decoded_stays words slot process = refl

  pub pid_stays : (slot : ℕ) → pid_in (altered r head procs terms rows) slot ≡ pid_in r slot
  unfolding pid_in
  pid_stays slot = refl
