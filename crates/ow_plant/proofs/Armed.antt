-- A plant that is armed stays armed, with memory of its size.
use Rattle.std.proofs.Common.{◌≡◌, ℕ, ◌+◌, ◌^◌, ◌<◌, ◌≤◌, ◌==◌, if◌then◌else◌, Bool, true, false, List, drop, length, Result, Ok, Err, MatchBool, refl, sym, subst, ap, ◌∙◌, arith, length-append, length-drop}
use Rattle.ow_base.specs.Sv32.{written_at, sv32_space, translated}
use Rattle.ow_base.specs.UserStep.{Stepped, Next, Call, Faulted, user_step}
use Rattle.ow_base.specs.declared.machine.Access.TheVariants.{Store}
use Rattle.ow_base.specs.declared.machine.AreaId.{AreaId}
use Rattle.ow_base.specs.declared.machine.Bank.{Bank}
use Rattle.ow_base.specs.declared.machine.Came.{Came}
use Rattle.ow_base.specs.declared.machine.PageCause.{PageCause}
use Rattle.ow_base.specs.declared.machine.Phys.{Phys}
use Rattle.ow_base.specs.declared.machine.Shape.{Shape}
use Rattle.ow_base.specs.declared.machine.Width.{Width}
use Rattle.ow_base.proofs.Simulations.{FollowsStore, Follows, Alike, follows}
use Rattle.phys_memory.specs.Memory.{IsSized, MemoryParts, words_of, with_first, with_word}
use Rattle.phys_memory.proofs.Words.{IsSized-set, IsSized-zeroed}
use Rattle.ow_plant.specs.State.{PlantState, Seen, seen_space, seen_by, EntersPanic, IsReady, IsArmed, StepsAs, TakesUserTurn, store_refused, leave_refused, with_stored, with_put, with_painted, with_cursor_at, with_live, entered, left_trap, returned_to}
use Rattle.ow_plant.specs.declared.UserEnd.{UserEnd}
use Rattle.ow_plant.specs.declared.UserEnd.TheVariants as end

pub IsArmed-ready : (shape : Shape) (s : PlantState) → shape.user_frames ≤ 384 → IsReady shape s → IsArmed s
IsArmed-ready shape s few ready = record {
  armed = ready.armed;
  sized = rw (ready.of_shape, ready.zeroed) (IsSized-zeroed shape.user_frames);
  few_frames = rw ready.of_shape few;
}

pub IsArmed-store_refused : (s : PlantState) → IsArmed s → IsArmed (store_refused s)
IsArmed-store_refused s is = record { armed = is.armed; sized = is.sized; few_frames = is.few_frames }

pub IsArmed-leave_refused : (s : PlantState) → IsArmed s → IsArmed (leave_refused s)
IsArmed-leave_refused s is = record { armed = is.armed; sized = is.sized; few_frames = is.few_frames }

pub IsArmed-stored : (s : PlantState) (frame word value : ℕ) → IsArmed s → IsArmed (with_stored s frame word value)
IsArmed-stored s frame word value is = record {
  armed = is.armed;
  sized = IsSized-set s.shape.user_frames s.memory frame word value is.sized;
  few_frames = is.few_frames;
}

either : (test : Bool) (s t : PlantState) → IsArmed s → IsArmed t → IsArmed (if test then s else t)
either true s t p q = p
either false s t p q = q

pub IsArmed-put : (s : PlantState) (tty byte : ℕ) → IsArmed s → IsArmed (with_put s tty byte)
IsArmed-put s tty byte is =
    either (tty == 0) _ _
    (record { armed = is.armed; sized = is.sized; few_frames = is.few_frames })
    (record { armed = is.armed; sized = is.sized; few_frames = is.few_frames })

pub IsArmed-painted : (s : PlantState) (tty row : ℕ) (text : List ℕ) → IsArmed s → IsArmed (with_painted s tty row text)
IsArmed-painted s tty row text is =
    either (tty == 0) _ _
    (record { armed = is.armed; sized = is.sized; few_frames = is.few_frames })
    (record { armed = is.armed; sized = is.sized; few_frames = is.few_frames })

pub IsArmed-cursor_at : (s : PlantState) (tty row col : ℕ) → IsArmed s → IsArmed (with_cursor_at s tty row col)
IsArmed-cursor_at s tty row col is =
    either (tty == 0) _ _
    (record { armed = is.armed; sized = is.sized; few_frames = is.few_frames })
    (record { armed = is.armed; sized = is.sized; few_frames = is.few_frames })

-- the first words of the boot frame are set in memory of the same size
pub first_sized : (user_frames : ℕ) (m : MemoryParts) (words : List ℕ) → length words ≡ 40 → IsSized user_frames m → IsSized user_frames (with_first m words)
first_sized user_frames m words few s = record {
  boot = length-append words (drop (length words) m.boot) ∙ ap (λ (n : ℕ). length words + n) (length-drop (length words) m.boot) ∙ rw (few, s.boot) (omega arith);
  a = s.a;
  b = s.b;
}

pub IsArmed-panicked : (old new : PlantState) → EntersPanic old new → IsArmed old → IsArmed new
IsArmed-panicked old new enters is =
    subst IsArmed (sym enters.after) (record { armed = is.armed; sized = first_sized old.shape.user_frames old.memory enters.words enters.spelled.long is.sized; few_frames = is.few_frames })

pub IsArmed-live : (s : PlantState) (area : AreaId) → IsArmed s → IsArmed (with_live s area)
IsArmed-live s area is = record { armed = is.armed; sized = is.sized; few_frames = is.few_frames }

pub IsArmed-entered : (s : PlantState) (how : Came) (pid : ℕ) → IsArmed s → IsArmed (entered s how pid)
IsArmed-entered s how pid is = record { armed = is.armed; sized = is.sized; few_frames = is.few_frames }

pub IsArmed-left_trap : (s : PlantState) → IsArmed s → IsArmed (left_trap s)
IsArmed-left_trap s is = record { armed = is.armed; sized = is.sized; few_frames = is.few_frames }

pub IsArmed-returned_to : (s : PlantState) (pid : ℕ) (bank : Bank) (root : ℕ) → IsArmed s → IsArmed (returned_to s pid bank root)
IsArmed-returned_to s pid bank root is = record { armed = is.armed; sized = is.sized; few_frames = is.few_frames }

-- the same memory, of a size
abbrev pub IsSameSized : (user_frames : ℕ) → Seen → Seen → Type 0
IsSameSized user_frames a b = (a ≡ b) × IsSized user_frames a.memory

module _ (user_frames : ℕ) where
  written : (m : Seen) (width : Width) (value address : ℕ) (place : Result Phys PageCause) → IsSized user_frames m.memory
      → FollowsStore (IsSameSized user_frames) seen_space seen_space
      (written_at (λ (m : Seen). words_of m.memory) (λ (m : Seen). m.satp) (λ (m : Seen) frame place value. record m { memory = with_word m.memory frame place value }) m width value address place)
      (written_at (λ (m : Seen). words_of m.memory) (λ (m : Seen). m.satp) (λ (m : Seen) frame place value. record m { memory = with_word m.memory frame place value }) m width value address place)
  written m width value address (Ok phys) sized = (_, refl, (refl, IsSized-set user_frames m.memory _ _ _ sized))
  written m width value address (Err why) sized = refl

  alike : Alike (IsSameSized user_frames) seen_space seen_space
  unfolding seen_space sv32_space
  alike = record {
    fetched = λ a b address same fits at. ap (λ m. seen_space.fetched m address) same.0;
    loaded = λ a b address width same fits at. ap (λ m. seen_space.loaded m address width) same.0;
    stored = λ a b address width value same fits at.
        subst (λ (n : Seen). FollowsStore (IsSameSized user_frames) seen_space seen_space (seen_space.stored a address width value) (seen_space.stored n address width value)) same.0
        (written a width value address (translated (words_of a.memory) a.satp address Store) same.1);
  }

  -- an instruction leaves memory of its size
  pub steps_sized : (m : Seen) (regs : List ℕ) (pc : ℕ) → IsSized user_frames m.memory → pc < 2 ^ 32
      → Follows (IsSameSized user_frames) seen_space seen_space (user_step seen_space regs pc m) (user_step seen_space regs pc m)
  steps_sized m regs pc sized fits = follows (IsSameSized user_frames) seen_space seen_space alike m m regs pc (refl, sized) fits

turned_by : (old new : PlantState) (result : UserEnd) (made : Stepped Seen) → Follows (IsSameSized old.shape.user_frames) seen_space seen_space made made → IsArmed old → StepsAs old new result made → IsArmed new
turned_by old new result (Next regs pc seen) follows is made =
    subst IsArmed (sym made.1) (record { armed = is.armed; sized = follows.2.1; few_frames = is.few_frames })
turned_by old new result Call follows is made = subst IsArmed (sym made.1) is
turned_by old new result (Faulted fault) follows is made = subst IsArmed (sym made.1) is

turned_or : (old new : PlantState) (result : UserEnd) (going : Bool) (made : Stepped Seen) → Follows (IsSameSized old.shape.user_frames) seen_space seen_space made made → IsArmed old
    → MatchBool going (StepsAs old new result made) ((result ≡ end.Slice) × (new ≡ old)) → IsArmed new
turned_or old new result true made follows is taken = turned_by old new result made follows is taken
turned_or old new result false made follows is taken = subst IsArmed (sym taken.1) is

pub IsArmed-user_turn : (old new : PlantState) (result : UserEnd) → old.bank.pc < 2 ^ 32 → TakesUserTurn old new result → IsArmed old → IsArmed new
IsArmed-user_turn old new result fits taken is =
    turned_or old new result _ _ (steps_sized old.shape.user_frames (seen_by old) old.bank.regs old.bank.pc is.sized fits) is taken
