-- The image of an entry of the history is that of the plant, but for the first frame.
use Rattle.std.proofs.Common.{◌≡◌, ℕ, zero, suc, ◌+◌, ◌*◌, ◌/◌, ◌≤◌, false, nat_lt, ◌==◌, ◌&&◌, if◌then◌else◌, List, ◌++◌, length, take, drop, slice_index, Some, None, sym, ap, ◌∙◌, arith, length-append}
use Rattle.std.proofs.lemmas.Bool.Decides.{nat_tests}
use Rattle.std.proofs.lemmas.List.{get_or-append_right, length-drop, take_all}
use Rattle.std.proofs.Math.Seq.{take-nil}
use Rattle.ow_base.specs.Images.{words_in}
use Rattle.phys_memory.specs.Memory.{MemoryParts, whole, with_first, words_of}
use Rattle.record_layouts.specs.Images.{AreAlike}
use Rattle.ow_plant.specs.Images.{entry_image, image_of, tapes_of}
use Rattle.ow_plant.specs.State.{EntersPanic, IsArmed, PlantState}

-- the words of memory with the first ones set
module _ (m : MemoryParts) (words : List ℕ) (boot : length m.boot ≡ 1024) (few : length words ≤ 1024) where
  abbrev rest : List ℕ
  rest = m.a ++ m.b

  abbrev first : List ℕ
  first = words ++ drop (length words) m.boot

  same_boot : length first ≡ 1024
  same_boot = length-append words (drop (length words) m.boot) ∙ omega (arith, length-drop (length words) m.boot, boot, few)

  same_length : length (whole (with_first m words)) ≡ length (whole m)
  same_length = length-append first rest ∙ (omega (arith, same_boot, boot) ∙ sym (length-append m.boot rest))

  same_word : (n : ℕ) → 1024 ≤ n → slice_index (whole m) n ≡ slice_index (whole (with_first m words)) n
  same_word n past = get_or-append_right m.boot rest 1024 n 0 boot past ∙ sym (get_or-append_right first rest 1024 n 0 same_boot past)

  words_behind : (frame word : ℕ) → 1 ≤ frame → words_of m frame word ≡ words_in (whole (with_first m words)) frame word
  unfolding words_of words_in
  words_behind frame word behind =
      ap (λ (n : ℕ). if nat_lt word 1024 && nat_lt frame (n / 1024) then Some (slice_index (whole m) (1024 * frame + word)) else None) (sym same_length)
      ∙ ap (λ (value : ℕ). if nat_lt word 1024 && nat_lt frame (length (whole (with_first m words)) / 1024) then Some value else None) (same_word (1024 * frame + word) (omega arith))

module _ (old new : PlantState) (entered : EntersPanic old new) (armed : IsArmed old) where
  words_left : (frame word : ℕ) → 1 ≤ frame → words_of old.memory frame word ≡ words_in entered.entry.image frame word
  words_left frame word behind =
      words_behind old.memory entered.words armed.sized.boot (omega (arith, entered.spelled.long)) frame word behind
      ∙ ap (λ (image : List ℕ). words_in image frame word) (sym entered.recorded.image)

  same_tape : (tty : ℕ) → tapes_of old tty ≡ take (slice_index entered.entry.tapes tty) (tapes_of new tty)
  same_tape zero =
      sym (take_all (length old.tty0.tape) old.tty0.tape (omega arith))
      ∙ sym (λ k. take (slice_index (entered.recorded.tapes k) 0) (entered.after k).tty0.tape)
  same_tape (suc zero) =
      sym (take_all (length old.tty1.tape) old.tty1.tape (omega arith))
      ∙ sym (λ k. take (slice_index (entered.recorded.tapes k) 1) (entered.after k).tty1.tape)
  same_tape (suc (suc n)) =
      let not_zeroth : (suc (suc n) == 0) ≡ false = grind (arith, nat_tests) in
      let not_other : (suc (suc n) == 1) ≡ false = grind (arith, nat_tests) in
      rw (not_zeroth, not_other) (sym (take-nil (slice_index entered.entry.tapes (suc (suc n)))))

  pub entry_alike : AreAlike (image_of old) (entry_image new entered.entry)
  entry_alike = record {
    words = words_left;
    area = sym entered.recorded.area;
    user_frames = sym (ap (λ (s : PlantState). s.shape.user_frames) entered.after);
    sectors = sym (ap (λ (s : PlantState). s.shape.sectors) entered.after);
    tapes = λ k tty. same_tape tty k;
  }
