-- The descriptors of a kernel that was built after a panic which damaged nothing: each one names a description that is open,
-- and that is what it was.
use Rattle.std.proofs.Common.{◌≡◌, ◌≢◌, ℕ, ◌+◌, ◌-◌, ◌<◌, ◌≤◌, ◌==◌, true, List, length, slice_index, Option, Some, IfSome, refl, sym, ap, subst, ◌∙◌, arith}
use Rattle.std.proofs.lemmas.Bool.Decides.{nat_tests}
use Rattle.ow_base.specs.Images.{Image}
use Rattle.ow_base.specs.Sv32.{WordMap}
use Rattle.record_layouts.specs.declared.desc.DescRec.{DescRec}
use Rattle.record_layouts.specs.declared.places.RecordId.TheVariants as id
use Rattle.record_layouts.specs.declared.proc.ProcRec.{ProcRec}
use Rattle.record_layouts.specs.Decode.{slot_by}
use Rattle.record_layouts.specs.Held.{Records}
use Rattle.record_layouts.specs.Images.{records_of_image}
use Rattle.record_layouts.specs.Left.{HandedOver}
use Rattle.record_layouts.specs.Sound.{AreInCalls, AreInBuiltCalls, AreOnTerminals}
use Rattle.record_layouts.specs.SoundImages.{IsSoundAtPanic}
use Rattle.record_layouts.proofs.Least.{any_found}
use Rattle.resurrector.specs.Rebuilt.{IsRevived}
use Rattle.resurrector.specs.Revived.{revived_description}
use Rattle.resurrector.specs.Survivors.{is_named, names, names_by, survivor_in}
use Rattle.resurrector.proofs.Descriptors.{descriptors_few}
use Rattle.resurrector.proofs.SoundSlots.{was_in, was_live}
use Rattle.resurrector.proofs.Survivals.{after, after_descs, after_fits, after_lives, after_state, survivor_there}
use Rattle.resurrector.proofs.Undamaged.{eight, held, is_there, process, slot_low}

module _ (i : Image) (most broken : ℕ) (sound : IsSoundAtPanic i most broken) (h : HandedOver) (counts : List ℕ)
    (next : Records) (next_words : WordMap) (is : IsRevived (records_of_image i) (Some h) counts i.words next next_words) where
  abbrev r : Records
  r = records_of_image i

  module _ (pid slot : ℕ) (found : slot_by (r.exits pid) ≡ Some slot) where
    abbrev now : ProcRec
    now = after i most broken sound h pid slot found

    long : length now.descs ≡ 8
    long = ap (λ (descs : List ℕ). length descs) (after_descs i most broken sound h pid slot found)
        ∙ eight i most broken sound slot (process i most broken sound h pid slot found) (held i most broken sound h pid slot found)

    module _ (fd : ℕ) (less : fd < 8) where
      abbrev number : ℕ
      number = slice_index now.descs fd - 1

      few : slice_index now.descs fd ≤ 32
      few = descriptors_few now (after_fits i most broken sound h pid slot found) (after_lives i most broken sound h pid slot found) fd (omega (arith, less, long))

      -- it is named by a process that goes on, and so is kept
      kept : slice_index now.descs fd ≢ 0 → is_named r (Some h) (number + 1) ≡ true
      unfolding is_named names
      kept some =
          let own : (slice_index now.descs fd == number + 1) ≡ true = grind (arith, nat_tests, some) in
          let word : names_by (number + 1) (survivor_in r (Some h) slot) ≡ true =
          rw (survivor_there i most broken sound h pid slot found)
          (any_found (λ k. slice_index now.descs k == number + 1) 0 8 8 fd refl (omega arith) less own) in
          any_found (λ s. names_by (number + 1) (survivor_in r (Some h) s)) 0 16 16 slot refl (omega arith) (slot_low i most broken sound h pid slot found) word

      description_same : slice_index now.descs fd ≢ 0 → next.descs number ≡ r.descs number
      unfolding revived_description
      description_same some =
          let low : number < 32 = omega (arith, few) in
          let (description, there) = is_there (r.descs number) (sound.complete (id.Desc number) low) in
          is.records (id.Desc number) low ∙ rw (kept some, there) refl

      was_described : slice_index now.descs fd ≢ 0 → (d : DescRec) × (r.descs number ≡ Some d) × (d.object ≢ 0)
      was_described = subst (λ (descs : List ℕ). slice_index descs fd ≢ 0 → (d : DescRec) × (r.descs (slice_index descs fd - 1) ≡ Some d) × (d.object ≢ 0))
          (sym (after_descs i most broken sound h pid slot found))
          (sound.in_calls.described slot (process i most broken sound h pid slot found) (was_in i most broken sound h counts next next_words is pid slot found) fd less)

      described : slice_index now.descs fd ≢ 0 → (d : DescRec) × (next.descs number ≡ Some d) × (d.object ≢ 0)
      described some = let (d, there, used) = was_described some in (d, description_same some ∙ there, used)

      was_on_terminal : slice_index now.descs fd ≢ 0 → IfSome (r.descs number) (λ d. d.object ≢ 1)
      was_on_terminal = subst (λ (descs : List ℕ). slice_index descs fd ≢ 0 → IfSome (r.descs (slice_index descs fd - 1)) (λ d. d.object ≢ 1))
          (sym (after_descs i most broken sound h pid slot found))
          (sound.on_terminals.each slot (process i most broken sound h pid slot found) (was_in i most broken sound h counts next next_words is pid slot found) fd less)

      on_terminal : slice_index now.descs fd ≢ 0 → IfSome (next.descs number) (λ d. d.object ≢ 1)
      on_terminal some = subst (λ (o : Option DescRec). IfSome o (λ d. d.object ≢ 1)) (sym (description_same some)) (was_on_terminal some)

  -- no process is in a call
  outside : (slot : ℕ) (one : ProcRec) (pid : ℕ) (found : slot_by (r.exits pid) ≡ Some slot) → after i most broken sound h pid slot found ≡ one → one.state ≡ 2 → ⊥
  outside slot one pid found same in_call = omega (arith, after_state i most broken sound h pid slot found, ap (λ (p : ProcRec). p.state) same, in_call)

  pub all_in_calls : AreInCalls next
  all_in_calls = record {
    calls = λ slot one there in_call.
        let (pid, found, same) = was_live i most broken sound h counts next next_words is slot one there in
        absurd (outside slot one pid found same in_call);
    described = λ slot one there fd less some.
        let (pid, found, same) = was_live i most broken sound h counts next next_words is slot one there in
        subst (λ (p : ProcRec). slice_index p.descs fd ≢ 0 → (d : DescRec) × (next.descs (slice_index p.descs fd - 1) ≡ Some d) × (d.object ≢ 0)) same (described pid slot found fd less) some;
  }

  pub all_in_built_calls : AreInBuiltCalls next
  all_in_built_calls = record {
    each = λ slot one there in_call.
        let (pid, found, same) = was_live i most broken sound h counts next next_words is slot one there in
        absurd (outside slot one pid found same in_call);
  }

  pub all_on_terminals : AreOnTerminals next
  all_on_terminals = record {
    each = λ slot one there fd less some.
        let (pid, found, same) = was_live i most broken sound h counts next next_words is slot one there in
        subst (λ (p : ProcRec). slice_index p.descs fd ≢ 0 → IfSome (next.descs (slice_index p.descs fd - 1)) (λ d. d.object ≢ 1)) same (on_terminal pid slot found fd less) some;
  }
