-- The state that records stand for depends on no words of memory but those behind the area.
use Rattle.std.proofs.Common.{◌≡◌, ◌==◌, ◌+◌, ◌-◌, ◌*◌, ◌/◌, ◌%◌, ◌≤◌, ℕ, nat_lt, not, ◌&&◌, List, Option, Some, None, inl, inr, refl, ap, arith}
use Rattle.std.proofs.lemmas.Bool.{cases_Bool}
use Rattle.std.proofs.lemmas.Bool.Decides.{nat_tests}
use Rattle.ow_base.specs.Sv32.{WordMap, byte_of, word_or_zero}
use Rattle.ow_base.specs.declared.machine.Rights.{Rights}
use Rattle.record_layouts.specs.declared.proc.ProcRec.{ProcRec}
use Rattle.record_layouts.specs.Decode.{Context, InKernel, InUser, description_by, ended_of, process_at, process_by, process_in, process_of, processes_of, slot_by, unix_of}
use Rattle.record_layouts.specs.Pages.{byte_on, entry_for, frame_by, frame_of, leaf_frame, owned, pages_of, region_of}
use Rattle.record_layouts.specs.Records.{Records}
use Rattle.record_layouts.specs.Unix.State.{Process, in_use}

module _ (r : Records) (words others : WordMap) (room : r.map.area_base + 64 ≤ r.map.pool_base)
    (word_same : (frame word : ℕ) → r.map.area_base + 64 ≤ frame → words frame word ≡ others frame word) where
  owned_same : (slot page offset : ℕ) (frame : Option ℕ) → byte_on words offset (owned r slot page frame) ≡ byte_on others offset (owned r slot page frame)
  owned_same slot page offset None = refl
  owned_same slot page offset (Some frame) = elim (cases_Bool (not (nat_lt frame r.map.pool_base) && r.owners (frame - r.map.pool_base) == (slot + 1) * 1048576 + page)) [
    | inl held ↦
        let behind : r.map.area_base + 64 ≤ frame = grind (arith, nat_tests) in
        rw held (ap (λ (w : Option ℕ). byte_of (word_or_zero w) (offset % 4)) (word_same frame (offset / 4) behind))
    | inr other ↦ rw other refl
  ]

  frame_same : (slot page offset : ℕ) (entry : Option ℕ) (rights : Option Rights) → byte_on words offset (frame_by r slot page entry rights) ≡ byte_on others offset (frame_by r slot page entry rights)
  frame_same slot page offset (Some entry) (Some rights) = owned_same slot page offset (leaf_frame entry rights)
  frame_same slot page offset (Some entry) None = refl
  frame_same slot page offset None rights = refl

  byte_same : (slot : ℕ) (process : ProcRec) (a : ℕ) → byte_on words (a % 4096) (frame_of r slot process (a / 4096)) ≡ byte_on others (a % 4096) (frame_of r slot process (a / 4096))
  unfolding frame_of
  byte_same slot process a = frame_same slot (a / 4096) (a % 4096) (entry_for r slot (a / 4096)) (region_of process (a / 4096))

  pub pages_same : (slot : ℕ) (process : ProcRec) → pages_of r words slot process ≡ pages_of r others slot process
  unfolding pages_of
  pages_same slot process = λ i. record { rights = region_of process; bytes = λ a. byte_same slot process a i }

  process_same : (slot : ℕ) (process : ProcRec) → process_of r words slot process ≡ process_of r others slot process
  unfolding process_of
  process_same slot process = λ i. record (process_of r words slot process) { pages = pages_same slot process i }

  process_by-same : (slot pid : ℕ) (process : Option ProcRec) → process_by r words slot pid process ≡ process_by r others slot pid process
  process_by-same slot pid (Some process) = rw (process_same slot process) refl
  process_by-same slot pid None = refl

  process_in-same : (pid : ℕ) (slot : Option ℕ) → process_in r words pid slot ≡ process_in r others pid slot
  process_in-same pid (Some slot) = rw (process_by-same slot pid (r.procs slot)) refl
  process_in-same pid None = refl

  process_at-same : (pid : ℕ) → process_at r words pid ≡ process_at r others pid
  unfolding process_at
  process_at-same pid = process_in-same pid (slot_by (r.exits pid))

  processes_at-same : (context : Context) (pid : ℕ) → processes_of r words context pid ≡ processes_of r others context pid
  unfolding processes_of
  processes_at-same InKernel pid = process_at-same pid
  processes_at-same (InUser user count bank) pid = rw (process_at-same pid) refl

  processes_same : (context : Context) → processes_of r words context ≡ processes_of r others context
  processes_same context = λ i pid. processes_at-same context pid i

  pub unix_by_words : (tapes : ℕ → List ℕ) (context : Context) (steps traps : ℕ) → unix_of r words tapes context steps traps ≡ unix_of r others tapes context steps traps
  unfolding unix_of
  unix_by_words tapes context steps traps = ap (λ (ps : ℕ → Option Process). record (unix_of r words tapes context steps traps) {
    processes = ps;
    ended = ended_of r ps;
    descriptions = in_use ps (λ number. description_by (r.descs number));
  }) (processes_same context)
