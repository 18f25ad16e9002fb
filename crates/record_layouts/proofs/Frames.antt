-- Pages that have frames.
use Rattle.std.proofs.Common.{◌≡◌, ℕ, zero, suc, ◌+◌, ◌<◌, ◌≤◌, true, is_some, refl, arith}
use Rattle.record_layouts.specs.declared.proc.ProcRec.{ProcRec}
use Rattle.record_layouts.specs.Pages.{frame_of, have_frames}
use Rattle.record_layouts.specs.Records.{Records}

-- each of so many pages from one on has a frame where one by one they do
pub have_all : (r : Records) (slot : ℕ) (process : ProcRec) (first count end : ℕ) → end ≡ first + count
    → ((page : ℕ) → first ≤ page → page < end → is_some (frame_of r slot process page) ≡ true) → have_frames r slot process first count ≡ true
unfolding have_frames
have_all r slot process first zero end sum each = refl
have_all r slot process first (suc count) end sum each =
    let here : is_some (frame_of r slot process first) ≡ true = each first (omega arith) (omega arith) in
    rw here (have_all r slot process (first + 1) count end (omega arith) (λ page from to. each page (omega arith) to))
