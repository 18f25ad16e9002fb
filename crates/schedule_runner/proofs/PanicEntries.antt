-- What the entry of a panic stands for, as the tapes of any later plant tell it.
use Rattle.std.proofs.Common.{◌≡◌, ℕ, zero, suc, ◌≤◌, List, [], ◌++◌, length, take, slice_index, sym, ap, subst, ◌∙◌, arith}
use Rattle.std.proofs.lemmas.List.{take-append-le}
use Rattle.ow_base.specs.Images.{Image}
use Rattle.ow_base.specs.declared.worlds.Hurt.{Hurt}
use Rattle.ow_base.specs.declared.worlds.PanicRecord.{PanicRecord}
use Rattle.dead_reader.specs.Left.{told_by}
use Rattle.panic_handover.specs.HandOver.{hand_over_in}
use Rattle.phys_memory.specs.Memory.{with_first}
use Rattle.kernel_traps.proofs.Entries.{entry_alike}
use Rattle.kernel_traps.specs.Broken.{unix_left_at}
use Rattle.ow_plant.specs.Images.{AreFronts, entry_image, image_of, tapes_of}
use Rattle.ow_plant.specs.State.{EntersPanic, IsArmed, PlantState, handed_over}
use Rattle.ow_plant.proofs.Armed.{IsArmed-panicked}
use Rattle.ow_plant.proofs.Loans.{read_again}
use Rattle.record_layouts.specs.Images.{AreAlike}
use Rattle.record_layouts.specs.Left.{HandedOver}
use Rattle.record_layouts.specs.LeftImages.{unix_left, wounds_of}
use Rattle.record_layouts.specs.SoundImages.{IsSoundAtPanic}
use Rattle.record_layouts.specs.Unix.Wounds.{no_wounds}
use Rattle.record_layouts.proofs.Alike.{same_left, sound_too}
use Rattle.record_layouts.proofs.LeftImages.{whole as unwounded}
use Rattle.schedule_runner.specs.Histories.{handed_by, handed_in, hurt_image, images_of, with_hurts}
use Rattle.schedule_runner.proofs.Revivals.{no_more_tapes}

unhurt : (i : Image) (hurts : List Hurt) → hurts ≡ [] → hurt_image i hurts ≡ i
unfolding with_hurts
unhurt i hurts none = ap (hurt_image i) none

module _ (old new : PlantState) (entered : EntersPanic old new) (armed : IsArmed old) where
  abbrev entry : PanicRecord
  entry = entered.entry

  abbrev handed : HandedOver
  handed = told_by (handed_over old)

  first_words : take 40 entry.image ≡ take 40 new.memory.boot
  first_words =
      let first = with_first old.memory entered.words in
      let boot : new.memory.boot ≡ first.boot = ap (λ (s : PlantState). s.memory.boot) entered.after in
      let long : length first.boot ≡ 1024 = ap (λ (words : List ℕ). length words) (sym boot) ∙ (IsArmed-panicked old new entered armed).sized.boot in
      ap (λ (image : List ℕ). take 40 image) entered.recorded.image
      ∙ (take-append-le 40 first.boot (first.a ++ first.b) (omega (arith, long)) ∙ ap (λ (words : List ℕ). take 40 words) (sym boot))

  handed_same : handed_in entry ≡ handed
  handed_same = ap (λ (words : List ℕ). handed_by (hand_over_in words)) first_words ∙ ap handed_by (read_again old new entered)

  module _ (end : PlantState) (shape : end.shape ≡ new.shape) (fronts : AreFronts new end) where
    cut : (count : ℕ) (tty : ℕ) → count ≤ length (tapes_of new tty) → take count (tapes_of end tty) ≡ take count (tapes_of new tty)
    cut count tty within =
        ap (λ (tape : List ℕ). take count tape) (fronts tty).1 ∙ take-append-le count (tapes_of new tty) (fronts tty).0 within

    long_0 : slice_index entry.tapes 0 ≡ length new.tty0.tape
    long_0 = ap (λ (counts : List ℕ). slice_index counts 0) entered.recorded.tapes ∙ ap (λ (s : PlantState). length s.tty0.tape) (sym entered.after)

    long_1 : slice_index entry.tapes 1 ≡ length new.tty1.tape
    long_1 = ap (λ (counts : List ℕ). slice_index counts 1) entered.recorded.tapes ∙ ap (λ (s : PlantState). length s.tty1.tape) (sym entered.after)

    same_tape : (tty : ℕ) → take (slice_index entry.tapes tty) (tapes_of end tty) ≡ take (slice_index entry.tapes tty) (tapes_of new tty)
    same_tape zero = cut (slice_index entry.tapes 0) 0 (omega (arith, long_0))
    same_tape (suc zero) = cut (slice_index entry.tapes 1) 1 (omega (arith, long_1))
    same_tape (suc (suc n)) = ap (λ (tape : List ℕ). take (slice_index entry.tapes (suc (suc n))) tape) (no_more_tapes end n ∙ sym (no_more_tapes new n))

    same_image : entry_image end entry ≡ entry_image new entry
    same_image = λ k. record {
      words = (entry_image new entry).words;
      area = entry.area;
      user_frames = (shape k).user_frames;
      sectors = (shape k).sectors;
      tapes = λ tty. same_tape tty k;
    }

    alike : AreAlike (image_of old) (entry_image end entry)
    alike = subst (AreAlike (image_of old)) (sym same_image) (entry_alike old new entered armed)

    -- the state that it left
    pub state_same : (images_of end).state entry old.steps old.traps ≡ unix_left_at old
    state_same =
        (λ k. unix_left (entry_image end entry) (handed_same k) old.steps old.traps)
        ∙ sym (same_left (image_of old) (entry_image end entry) alike handed old.steps old.traps)

    -- of which nothing is wounded
    pub wounds_same : IsSoundAtPanic (image_of old) old.steps old.traps → (images_of end).wounds entry ≡ no_wounds (unix_left_at old)
    wounds_same sound =
        let i = entry_image end entry in
        let is : IsSoundAtPanic i old.steps old.traps = sound_too (image_of old) i alike old.steps old.traps sound in
        ap (λ (hurt : Image). wounds_of i hurt (λ tty. 0)) (unhurt i entry.damage.items entered.recorded.no_damage)
        ∙ unwounded i old.steps old.traps is handed (λ tty. 0) old.steps old.traps
        ∙ ap no_wounds (sym (same_left (image_of old) i alike handed old.steps old.traps))
