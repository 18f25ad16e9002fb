-- What is read of an area depends on the words of its 64 frames alone, and what pages hold on the words of user frames that
-- have an owner.
use Rattle.std.proofs.Common.{◌≡◌, ℕ, ◌+◌, ◌-◌, ◌*◌, ◌/◌, ◌%◌, ◌<◌, ◌≤◌, Bool, not, nat_lt, ◌==◌, ◌&&◌, Option, Some, None, refl, ap, ◌∙◌, arith, inl, inr}
use Rattle.std.proofs.lemmas.Bool.{cases_Bool, ltb-true}
use Rattle.std.proofs.lemmas.Grind.{common_steps}
use Rattle.std.proofs.lemmas.Bool.Decides.{nat_tests}
use Rattle.ow_base.specs.Sv32.{WordMap, byte_of, word_or_zero}
use Rattle.ow_base.specs.declared.machine.Rights.{Rights}
use Rattle.record_layouts.specs.declared.memory_map.MemoryMap.{MemoryMap}
use Rattle.record_layouts.specs.declared.places.RecordId.{RecordId}
use Rattle.record_layouts.specs.declared.proc.ProcRec.{ProcRec}
use Rattle.record_layouts.specs.Decode.{InKernel, description_by, ended_of, process_at, process_by, process_in, process_of, processes_of, slot_by, unix_of}
use Rattle.record_layouts.specs.Overlay.{Area, area_at, gate_of, gate_word, open_ranges, overlay}
use Rattle.record_layouts.specs.Pages.{byte_on, entry_for, frame_by, frame_of, leaf_frame, owned, pages_of, region_of}
use Rattle.record_layouts.specs.Places.{IsRecordId, first_word, length_of}
use Rattle.record_layouts.specs.Reading.{is_readable_gate, records_in, records_of, words_of}
use Rattle.record_layouts.specs.Records.{Records}
use Rattle.record_layouts.specs.Unix.State.{Process, in_use}
use Rattle.record_layouts.proofs.At.{same_each, same_records, same_where}
use Rattle.record_layouts.proofs.Intents.{open_ranges-same, words_from-same}

module _ (some other : Area) (same : (number : ℕ) → number < 65536 → some number ≡ other number) where
  words_same : (one : RecordId) → IsRecordId one → words_of some one ≡ words_of other one
  words_same one there =
      let within : first_word one + length_of one ≤ 65536 = grind (arith, common_steps) in
      words_from-same some other (first_word one) (length_of one) (λ number from to. same number (omega arith))

  read_same : (map : MemoryMap) → map.user_frames ≤ 384 → (is_readable : Bool) → records_in map is_readable some ≡ records_in map is_readable other
  unfolding records_in
  read_same map room is_readable = same_records (records_in map is_readable some) (records_in map is_readable other) refl
      (same_each map is_readable some other words_same)
      (λ i. same_where 0 (nat_lt i map.user_frames) (some (10240 + i)) (other (10240 + i))
      (λ holds. same (10240 + i) (let less = ltb-true i map.user_frames holds in omega arith)))
      (λ i. same_where 0 (nat_lt i 64) (some (11200 + i)) (other (11200 + i))
      (λ holds. same (11200 + i) (let less = ltb-true i 64 holds in omega arith)))
      (λ s t w. same_where 0 (nat_lt s 16 && nat_lt t 3 && nat_lt w 1024) (some (1024 * (16 + 3 * s + t) + w)) (other (1024 * (16 + 3 * s + t) + w))
      (λ holds. same (1024 * (16 + 3 * s + t) + w)
      (let frame : 16 + 3 * s + t < 64 = grind (arith, nat_tests) in let small : w < 1024 = grind (arith, nat_tests) in omega arith)))

  pub gate_same : gate_of some ≡ gate_of other
  gate_same =
      let ranges : open_ranges some ≡ open_ranges other = open_ranges-same some other (λ number from to. same number (omega arith)) in
      let gates : some gate_word ≡ other gate_word = same gate_word (omega arith) in
      rw (ranges, gates) refl

  overlay_same : (number : ℕ) → number < 65536 → overlay some number ≡ overlay other number
  unfolding overlay
  overlay_same number small =
      let ranges : open_ranges some ≡ open_ranges other = open_ranges-same some other (λ one from to. same one (omega arith)) in
      rw (ranges, same number small) refl

pub records_same : (map : MemoryMap) → map.user_frames ≤ 384 → (some other : WordMap)
    → ((number : ℕ) → number < 65536 → area_at some map.area_base number ≡ area_at other map.area_base number)
    → records_of map some ≡ records_of map other
unfolding records_of
records_same map room some other same =
    let one = area_at some map.area_base in
    let another = area_at other map.area_base in
    (λ k. records_in map (is_readable_gate (gate_same one another same k)) (overlay one))
    ∙ read_same (overlay one) (overlay another) (overlay_same one another same) map room (is_readable_gate (gate_of another))

module _ (r : Records) (words others : WordMap)
    (word_same : (frame word : ℕ) → r.map.pool_base ≤ frame → 0 < r.owners (frame - r.map.pool_base) → words frame word ≡ others frame word) where
  owned_same : (slot page offset : ℕ) (frame : Option ℕ) → byte_on words offset (owned r slot page frame) ≡ byte_on others offset (owned r slot page frame)
  owned_same slot page offset None = refl
  owned_same slot page offset (Some frame) = elim (cases_Bool (not (nat_lt frame r.map.pool_base) && r.owners (frame - r.map.pool_base) == (slot + 1) * 1048576 + page)) [
    | inl held ↦
        let behind : r.map.pool_base ≤ frame = grind (arith, nat_tests) in
        let claimed : 0 < r.owners (frame - r.map.pool_base) = grind (arith, nat_tests) in
        rw held (ap (λ (w : Option ℕ). byte_of (word_or_zero w) (offset % 4)) (word_same frame (offset / 4) behind claimed))
    | inr other ↦ rw other refl
  ]

  frame_same : (slot page offset : ℕ) (entry : Option ℕ) (rights : Option Rights) → byte_on words offset (frame_by r slot page entry rights) ≡ byte_on others offset (frame_by r slot page entry rights)
  frame_same slot page offset (Some entry) (Some rights) = owned_same slot page offset (leaf_frame entry rights)
  frame_same slot page offset (Some entry) None = refl
  frame_same slot page offset None rights = refl

  byte_same : (slot : ℕ) (process : ProcRec) (a : ℕ) → byte_on words (a % 4096) (frame_of r slot process (a / 4096)) ≡ byte_on others (a % 4096) (frame_of r slot process (a / 4096))
  unfolding frame_of
  byte_same slot process a = frame_same slot (a / 4096) (a % 4096) (entry_for r slot (a / 4096)) (region_of process (a / 4096))

  process_same : (slot : ℕ) (process : ProcRec) → process_of r words slot process ≡ process_of r others slot process
  unfolding process_of pages_of
  process_same slot process = λ k. record (process_of r words slot process) {
    pages = record { rights = region_of process; bytes = λ a. byte_same slot process a k };
  }

  held_same : (slot pid : ℕ) (process : Option ProcRec) → process_by r words slot pid process ≡ process_by r others slot pid process
  held_same slot pid (Some process) = rw (process_same slot process) refl
  held_same slot pid None = refl

  in_slot_same : (pid : ℕ) (slot : Option ℕ) → process_in r words pid slot ≡ process_in r others pid slot
  in_slot_same pid (Some slot) = rw (held_same slot pid (r.procs slot)) refl
  in_slot_same pid None = refl

  processes_same : processes_of r words InKernel ≡ processes_of r others InKernel
  unfolding processes_of process_at
  processes_same = λ k pid. in_slot_same pid (slot_by (r.exits pid)) k

  pub unix_same : (tapes : ℕ → _) (steps traps : ℕ) → unix_of r words tapes InKernel steps traps ≡ unix_of r others tapes InKernel steps traps
  unfolding unix_of
  unix_same tapes steps traps = ap (λ (ps : ℕ → Option Process). record (unix_of r words tapes InKernel steps traps) {
    processes = ps;
    ended = ended_of r ps;
    descriptions = in_use ps (λ number. description_by (r.descs number));
  }) processes_same
