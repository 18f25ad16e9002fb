-- Which processes go on after a panic, and with which records.
use Rattle.std.specs.Prelude.{◌≡◌, ℕ, zero, suc, ◌-◌, ◌<◌, ◌≤◌, Bool, true, false, not, ◌==◌, ◌&&◌, if◌then◌else◌, List, [], ◌∷◌, ◌++◌, map, slice_index, slice_get, Option, Some, None, is_some, IfSome}
use Rattle.record_layouts.specs.declared.dead_proc.DeadProc.{DeadProc}
use Rattle.record_layouts.specs.declared.desc.DescRec.{DescRec}
use Rattle.record_layouts.specs.declared.proc.ProcRec.{ProcRec}
use Rattle.record_layouts.specs.Decode.{decodes, is_number, pid_in, slot_by}
use Rattle.record_layouts.specs.Held.{Records}
use Rattle.record_layouts.specs.Left.{HandedOver, dead_proc}
use Rattle.record_layouts.specs.Pages.{is_live}
use Rattle.record_layouts.specs.Proc.{FitsProc}
use Rattle.record_layouts.specs.Unix.Choice.{is_any}
use Rattle.dead_reader.specs.Losses.{bits_lost}
use Rattle.resurrector.specs.Procedures.{HasFewBits, fate_with, is_lost, revived}
use Rattle.resurrector.specs.declared.survivors.Outcome.{Outcome}
use Rattle.record_layouts.specs.declared.fates.Fate.{Fate}
use Rattle.record_layouts.specs.declared.fates.Fate.TheVariants as fate

-- what the panic left of the process in a slot, where all parts of it decode
abbrev pub left_by : Records → Option HandedOver → (slot : ℕ) → Option ℕ → Option ProcRec → Option DeadProc
left_by r handed slot (Some pid) (Some process) = if decodes r slot pid process then Some (dead_proc r handed slot process) else None
left_by r handed slot (Some pid) None = None
left_by r handed slot None process = None

unfoldable pub left_in : Records → Option HandedOver → (slot : ℕ) → Option DeadProc
left_in r handed slot = left_by r handed slot (pid_in r slot) (r.procs slot)

-- its fate; one of which a part does not decode is lost without a bit
abbrev pub fate_left : Records → Option DeadProc → Fate
fate_left r (Some dead) = fate_with dead (bits_lost r dead.slot dead.rec.descs)
fate_left r None = fate.Lost 0

unfoldable pub fate_in : Records → Option HandedOver → (slot : ℕ) → Fate
fate_in r handed slot = fate_left r (left_in r handed slot)

-- a descriptor is closed where its description does not decode, or is on a file whose record does not
abbrev pub is_closed_by : Records → Option DescRec → Bool
is_closed_by r (Some description) = description.object == 1 && not (is_some (r.files description.index))
is_closed_by r None = true

abbrev pub kept_open : Records → (word : ℕ) → ℕ
kept_open r word = if not (word == 0) && is_closed_by r (r.descs (word - 1)) then 0 else word

-- the record with which it goes on, if it does
abbrev pub with_descriptors : Records → ProcRec → ProcRec
with_descriptors r process = record process { descs = map (kept_open r) process.descs }

abbrev pub survivor_left : Records → Option DeadProc → Option ProcRec
survivor_left r (Some dead) =
    if is_lost (fate_with dead (bits_lost r dead.slot dead.rec.descs)) then None
    else Some (with_descriptors r (revived dead (bits_lost r dead.slot dead.rec.descs)))
survivor_left r None = None

unfoldable pub survivor_in : Records → Option HandedOver → (slot : ℕ) → Option ProcRec
survivor_in r handed slot = survivor_left r (left_in r handed slot)

-- what became of a slot: the pid that was live in it, its fate, and the record of a process that goes on
abbrev pub outcome_in : Records → Option HandedOver → (slot : ℕ) → Outcome
outcome_in r handed slot = record { pid = pid_in r slot; fate = fate_in r handed slot; survivor = survivor_in r handed slot }

-- a process that goes on: outside a call, by a record that can be spelled
pub record IsSurvivor (process : ProcRec) : Type 0 where
  pub fits : FitsProc process
  pub live : is_live process ≡ true

-- what became of all slots
pub record AreOutcomes (r : Records) (handed : Option HandedOver) (outcomes : List Outcome) : Type 0 where
  pub each : (slot : ℕ) → slot < 16 → slice_get outcomes slot ≡ Some (outcome_in r handed slot)
  pub fits : (slot : ℕ) → slot < 16 → IfSome (survivor_in r handed slot) IsSurvivor
  pub few : (slot : ℕ) → slot < 16 → HasFewBits (fate_in r handed slot)
  -- there are few user frames, and behind the last one there is no owner
  pub few_frames : r.map.user_frames ≤ 384
  pub owned : (frame : ℕ) → r.map.user_frames ≤ frame → r.owners frame ≡ 0

-- one of the processes that go on has this pid
abbrev pub has_pid : (pid : ℕ) → Option ProcRec → Bool
has_pid pid (Some process) = process.pid == pid
has_pid pid None = false

unfoldable pub goes_on : Records → Option HandedOver → (pid : ℕ) → Bool
goes_on r handed pid = is_any (λ slot. has_pid pid (survivor_in r handed slot)) 0 16

-- one of them has a descriptor with this word
unfoldable pub names : (word : ℕ) → List ℕ → Bool
names word descs = is_any (λ k. slice_index descs k == word) 0 8

abbrev pub names_by : (word : ℕ) → Option ProcRec → Bool
names_by word (Some process) = names word process.descs
names_by word None = false

unfoldable pub is_named : Records → Option HandedOver → (word : ℕ) → Bool
is_named r handed word = is_any (λ slot. names_by word (survivor_in r handed slot)) 0 16

-- the fate of a pid that was live: the process in its slot is that of the least pid there
abbrev pub fate_at : Records → Option HandedOver → (pid : ℕ) → Option ℕ → Option Fate
fate_at r handed pid (Some slot) = if is_number (pid_in r slot) pid then Some (fate_in r handed slot) else None
fate_at r handed pid None = None

unfoldable pub fate_of : Records → Option HandedOver → (pid : ℕ) → Option Fate
fate_of r handed pid = fate_at r handed pid (slot_by (r.exits pid))

-- the fates of the pids up to one, in their order
abbrev pub told_of : (pid : ℕ) → Option Fate → List (ℕ × Fate)
told_of pid (Some told) = (pid, told) ∷ []
told_of pid None = []

unfoldable pub fates_to : Records → Option HandedOver → (last : ℕ) → List (ℕ × Fate)
fates_to r handed zero = []
fates_to r handed (suc pid) = fates_to r handed pid ++ told_of (suc pid) (fate_of r handed (suc pid))
