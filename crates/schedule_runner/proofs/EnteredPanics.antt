-- A plant on which a panic was just entered.
use Rattle.std.proofs.Common.{◌≡◌, ℕ, ◌≤◌, List, refl, sym, ap, subst, ◌∙◌}
use Rattle.ow_base.specs.Images.{words_in}
use Rattle.phys_memory.specs.Memory.{MemoryParts, whole, with_first, words_of}
use Rattle.dead_reader.specs.Left.{handed_of, told_by}
use Rattle.kernel_traps.proofs.Entries.{entry_alike}
use Rattle.ow_plant.specs.Images.{image_of, tapes_of}
use Rattle.ow_plant.specs.State.{EntersPanic, IsArmed, PlantState, handed_over}
use Rattle.ow_plant.proofs.Armed.{IsArmed-panicked}
use Rattle.ow_plant.proofs.Loans.{read_again}
use Rattle.record_layouts.specs.Images.{AreAlike}
use Rattle.record_layouts.specs.LeftImages.{unix_left}
use Rattle.record_layouts.specs.SoundImages.{IsSoundAtPanic}
use Rattle.record_layouts.proofs.Alike.{same_left, sound_too}
use Rattle.schedule_runner.specs.Revivals.{IsBroken, unix_broken}

whole_words : (m : MemoryParts) (frame word : ℕ) → words_in (whole m) frame word ≡ words_of m frame word
unfolding words_in words_of
whole_words m frame word = refl

module _ (old new : PlantState) (entered : EntersPanic old new) (armed : IsArmed old) where
  images_alike : AreAlike (image_of old) (image_of new)
  images_alike =
      let entry : AreAlike _ _ = entry_alike old new entered armed in
      record {
        words = λ frame word behind.
            entry.words frame word behind
            ∙ ap (λ (image : List ℕ). words_in image frame word) entered.recorded.image
            ∙ whole_words (with_first old.memory entered.words) frame word
            ∙ ap (λ (s : PlantState). words_of s.memory frame word) (sym entered.after);
        area = ap (λ (s : PlantState). s.live) (sym entered.after);
        user_frames = ap (λ (s : PlantState). s.shape.user_frames) (sym entered.after);
        sectors = ap (λ (s : PlantState). s.shape.sectors) (sym entered.after);
        tapes = ap (λ (s : PlantState). tapes_of s) (sym entered.after);
      }

  steps_same : new.steps ≡ old.steps
  steps_same = ap (λ (s : PlantState). s.steps) entered.after

  traps_same : new.traps ≡ old.traps
  traps_same = ap (λ (s : PlantState). s.traps) entered.after

  pub entered_left : unix_broken new (told_by (handed_over old)) ≡ unix_left (image_of old) (told_by (handed_over old)) old.steps old.traps
  entered_left =
      (λ k. unix_left (image_of new) (told_by (handed_over old)) (steps_same k) (traps_same k))
      ∙ sym (same_left (image_of old) (image_of new) images_alike (told_by (handed_over old)) old.steps old.traps)

  pub entered_broken : old.steps ≤ old.shape.budget → IsSoundAtPanic (image_of old) old.steps old.traps → IsBroken new (told_by (handed_over old))
  entered_broken budget sound = record {
    armed = IsArmed-panicked old new entered armed;
    in_kernel = ap (λ (s : PlantState). s.in_user) entered.after;
    no_trap_runs = ap (λ (s : PlantState). s.in_trap) entered.after;
    budget = subst (λ (s : PlantState). s.steps ≤ s.shape.budget) (sym entered.after) budget;
    handed = ap handed_of (read_again old new entered);
    trap = ap (λ (s : PlantState). s.traps) (sym entered.after);
    sound = subst (λ (s : PlantState). IsSoundAtPanic (image_of new) s.steps s.traps) (sym entered.after)
        (sound_too (image_of old) (image_of new) images_alike old.steps old.traps sound);
  }
