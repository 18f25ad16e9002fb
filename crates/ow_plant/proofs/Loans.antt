-- A plant of which a part is lent.
use Rattle.std.proofs.Common.{◌≡◌, ℕ, ◌+◌, ◌-◌, ◌*◌, ◌<◌, ◌==◌, Bool, true, false, if◌then◌else◌, List, ◌++◌, drop, length, slice_set, take, Some, refl, sym, ap, ◌∙◌, arith, take_all}
use Rattle.std.proofs.lemmas.List.{length-set, take-append-le}
use Rattle.ow_base.specs.declared.machine.AreaId.{AreaId}
use Rattle.ow_base.specs.declared.machine.AreaId.TheVariants.{A, B}
use Rattle.panic_handover.specs.HandOver.{hand_over_in}
use Rattle.panic_handover.proofs.Reading.{hand_over_read}
use Rattle.phys_memory.specs.Halves.{first_own, is_among, is_own, own_half, with_own, words_beside, words_from}
use Rattle.phys_memory.specs.Memory.{IsSized, MemoryParts, with_word, words_of}
use Rattle.phys_memory.proofs.Own.{AreWholeFrames-sized, with_own-same, with_own-set, words_beside-own, words_of-own}
use Rattle.ow_plant.specs.Lent.{LentState, lent_counted, lent_cursor_at, lent_of, lent_painted, lent_put, lent_stored, with_lent}
use Rattle.ow_plant.proofs.Armed.{IsArmed-panicked}
use Rattle.ow_plant.specs.State.{Device, EntersPanic, IsArmed, PlantState, counted, handed_over, painted, put_on, with_cursor, with_cursor_at, with_painted, with_put, with_stored}

-- with as many words in the half that is not dead, memory keeps its size
own_sized : (u : ℕ) (m : MemoryParts) (dead : AreaId) (words : List ℕ) → IsSized u m → length words ≡ length (own_half m dead) → IsSized u (with_own m dead words)
own_sized u m A words s same = record { boot = s.boot; a = s.a; b = same ∙ s.b }
own_sized u m B words s same = record { boot = s.boot; a = same ∙ s.a; b = s.b }

-- a word that is set in the half that lies apart is that word of memory
word_apart : (u : ℕ) (m : MemoryParts) (dead : AreaId) (words : List ℕ) (frame word value : ℕ) → IsSized u (with_own m dead words)
    → is_among (first_own m dead) words frame ≡ true → word < 1024
    → with_word (with_own m dead words) frame word value ≡ with_own m dead (slice_set words (1024 * (frame - first_own m dead) + word) value)
word_apart u m A words frame word value sized own fits = sym (with_own-set (with_own m A words) A frame word value (AreWholeFrames-sized sized) own fits)
word_apart u m B words frame word value sized own fits = sym (with_own-set (with_own m B words) B frame word value (AreWholeFrames-sized sized) own fits)

module _ (s : PlantState) (lent : LentState) where
  module _ (is : IsArmed s) (same : length lent.own ≡ length (own_half s.memory s.live)) where
    pub stays_armed : IsArmed (with_lent s lent)
    stays_armed = record { armed = is.armed; sized = own_sized s.shape.user_frames s.memory s.live lent.own is.sized same; few_frames = is.few_frames }

    pub beside_stays : words_beside (with_lent s lent).memory s.live ≡ words_beside s.memory s.live
    beside_stays = words_beside-own s.memory s.live lent.own (AreWholeFrames-sized is.sized) same

    pub words_apart : (frame word : ℕ) → word < 1024 → words_of (with_lent s lent).memory frame word
        ≡ (if is_own s.memory s.live frame then words_from (first_own s.memory s.live) lent.own frame word else words_of s.memory frame word)
    words_apart frame word fits = words_of-own s.memory s.live lent.own frame word (AreWholeFrames-sized is.sized) same fits

    pub stored_alike : (frame word value : ℕ) → is_among (first_own s.memory s.live) lent.own frame ≡ true → word < 1024
        → with_stored (with_lent s lent) frame word value ≡ with_lent s (lent_stored lent (first_own s.memory s.live) frame word value)
    stored_alike frame word value own fits =
        ap (λ (m : MemoryParts). record (counted (with_lent s lent)) { memory = m })
        (word_apart s.shape.user_frames s.memory s.live lent.own frame word value (own_sized s.shape.user_frames s.memory s.live lent.own is.sized same) own fits)

  -- a change of one terminal, which is counted
  device_alike : (test : Bool) (change : Device → Device)
      → (if test then record (counted (with_lent s lent)) { tty0 = change lent.tty0 } else record (counted (with_lent s lent)) { tty1 = change lent.tty1 })
      ≡ with_lent s (if test then record (lent_counted lent) { tty0 = change (if test then lent.tty0 else lent.tty1) } else record (lent_counted lent) { tty1 = change (if test then lent.tty0 else lent.tty1) })
  device_alike true change = refl
  device_alike false change = refl

  pub put_alike : (tty byte : ℕ) → with_put (with_lent s lent) tty byte ≡ with_lent s (lent_put lent tty byte)
  put_alike tty byte = device_alike (tty == 0) (λ (t : Device). put_on t byte)

  pub painted_alike : (tty row : ℕ) (text : List ℕ) → with_painted (with_lent s lent) tty row text ≡ with_lent s (lent_painted lent tty row text)
  painted_alike tty row text = device_alike (tty == 0) (λ (t : Device). painted t row text)

  pub cursor_alike : (tty row col : ℕ) → with_cursor_at (with_lent s lent) tty row col ≡ with_lent s (lent_cursor_at lent tty row col)
  cursor_alike tty row col = device_alike (tty == 0) (λ (t : Device). with_cursor t row col)

pub length_stored : (lent : LentState) (first frame word value : ℕ) → length (lent_stored lent first frame word value).own ≡ length lent.own
length_stored lent first frame word value = length-set {A = ℕ} lent.own (1024 * (frame - first) + word) value

pub given_back : (s : PlantState) → with_lent s (lent_of s) ≡ s
given_back s = ap (λ (m : MemoryParts). record s { memory = m }) (with_own-same s.memory s.live)

own_of : (m : MemoryParts) (dead : AreaId) (words : List ℕ) → own_half (with_own m dead words) dead ≡ words
own_of m A words = refl
own_of m B words = refl

pub lent_again : (s : PlantState) (lent : LentState) → lent_of (with_lent s lent) ≡ lent
lent_again s lent = ap (λ (words : List ℕ). record lent { own = words }) (own_of s.memory s.live lent.own)

-- the words that a panic sets first are read as what it handed over
pub read_again : (old new : PlantState) → EntersPanic old new → hand_over_in (take 40 new.memory.boot) ≡ Some (handed_over old)
read_again old new enters =
    let first : take 40 (enters.words ++ drop (length enters.words) old.memory.boot) ≡ enters.words = take-append-le 40 enters.words _ (omega (arith, enters.spelled.long)) ∙ take_all 40 enters.words (omega (arith, enters.spelled.long)) in
    ap (λ (s : PlantState). hand_over_in (take 40 s.memory.boot)) enters.after ∙ ap hand_over_in first ∙ hand_over_read enters.words (handed_over old) enters.spelled

pub armed_again : (old new : PlantState) → EntersPanic old new → IsArmed old → IsArmed new
armed_again = IsArmed-panicked
