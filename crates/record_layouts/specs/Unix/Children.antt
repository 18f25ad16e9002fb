-- The children of a process: those that are live, and those that have ended and were not waited for.
use Rattle.std.specs.Prelude.{ℕ, zero, suc, ◌+◌, Bool, false, ◌==◌, ◌||◌, Option, Some, None}
use Rattle.record_layouts.specs.Unix.State.{most_pids, least_from, Unix, Process, EndedChild}

-- a process has a child that is live, or one that has ended and was not waited for, among so many pids
abbrev pub is_child_of : (parent : ℕ) → Option Process → Bool
is_child_of parent (Some p) = p.parent == parent
is_child_of parent None = false

abbrev pub is_ended_child_of : (parent : ℕ) → Option EndedChild → Bool
is_ended_child_of parent (Some child) = child.parent == parent
is_ended_child_of parent None = false

-- one of so many numbers from the first on passes
unfoldable pub is_any : (test : ℕ → Bool) → (first count : ℕ) → Bool
is_any test first zero = false
is_any test first (suc n) = test first || is_any test (first + 1) n

unfoldable pub has_ended_child : Unix → (parent : ℕ) → Bool
has_ended_child u parent = is_any (λ pid. is_ended_child_of parent (u.ended pid)) 1 most_pids

unfoldable pub has_child : Unix → (parent : ℕ) → Bool
has_child u parent = is_any (λ pid. is_child_of parent (u.processes pid)) 1 most_pids

-- the ended child of a process with the least pid
unfoldable pub ended_child : Unix → (parent : ℕ) → Option ℕ
ended_child u parent = least_from (λ pid. is_ended_child_of parent (u.ended pid)) 1 most_pids

-- the status word of an ended child
abbrev pub status_of : Option EndedChild → ℕ
status_of (Some child) = child.status
status_of None = 0
