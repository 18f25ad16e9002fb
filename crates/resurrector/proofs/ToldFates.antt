-- The fates that a resurrector tells after a panic which damaged nothing are those of Abort.
use Rattle.std.proofs.Common.{◌≡◌, ℕ, zero, suc, ◌+◌, List, [], ◌∷◌, ◌++◌, Option, Some, None, refl, sym, ap, ◌∙◌, arith}
use Rattle.ow_base.specs.Images.{Image}
use Rattle.record_layouts.specs.Decode.{slot_by}
use Rattle.record_layouts.specs.Images.{records_of_image}
use Rattle.record_layouts.specs.Held.{Records}
use Rattle.record_layouts.specs.Left.{HandedOver, call_found, dead_proc}
use Rattle.record_layouts.specs.SoundImages.{IsSoundAtPanic}
use Rattle.record_layouts.specs.Unix.Abort.{fate_before, fates, fates_from}
use Rattle.record_layouts.specs.Unix.Abort.{fate_of as fate_in_unix}
use Rattle.record_layouts.specs.Unix.State.{Process, Unix, most_pids}
use Rattle.record_layouts.specs.Unix.Wounds.{Wounds, no_wounds}
use Rattle.record_layouts.specs.declared.fates.Fate.{Fate}
use Rattle.resurrector.specs.Procedures.{fate_with}
use Rattle.resurrector.specs.Survivors.{fate_of, fates_to, told_of}
use Rattle.resurrector.proofs.RebuiltProcesses.{its_call, left, none_left, v, was_left}
use Rattle.resurrector.proofs.Survivals.{dead, fate_told}
use Rattle.resurrector.proofs.Undamaged.{process}
use Rattle.resurrector.proofs.Unhurt.{fate_by, fate_is}
use Rattle.resurrector.proofs.UnhurtRecords.{fate_same}

-- the fates of so many pids, told from the first on or up to the last
module _ (u : Unix) (x : Wounds) where
  before_both : (pid : ℕ) (o : Option Process) (some others : List (ℕ × Fate)) → fate_before u x pid o (some ++ others) ≡ fate_before u x pid o some ++ others
  before_both pid (Some p) some others = refl
  before_both pid None some others = refl

  abbrev one_told : ℕ → List (ℕ × Fate)
  one_told pid = fate_before u x pid (u.processes pid) []

  one_more : (first n : ℕ) → fates_from u x first (suc n) ≡ fates_from u x first n ++ one_told (first + n)
  unfolding fates_from
  one_more first zero =
      let same : first ≡ first + 0 = omega arith in
      ap one_told same
  one_more first (suc n) =
      let same : first + 1 + n ≡ first + suc n = omega arith in
      ap (λ (rest : List (ℕ × Fate)). fate_before u x first (u.processes first) rest) (one_more (first + 1) n)
      ∙ before_both first (u.processes first) (fates_from u x (first + 1) n) (one_told (first + 1 + n))
      ∙ ap (λ (pid : ℕ). fate_before u x first (u.processes first) (fates_from u x (first + 1) n) ++ one_told pid) same

  next_told : (n : ℕ) → fates_from u x 1 (suc n) ≡ fates_from u x 1 n ++ one_told (suc n)
  next_told n =
      let same : 1 + n ≡ suc n = omega arith in
      one_more 1 n ∙ ap (λ (pid : ℕ). fates_from u x 1 n ++ one_told pid) same

module _ (i : Image) (most broken : ℕ) (sound : IsSoundAtPanic i most broken) (h : HandedOver) (steps traps : ℕ) where
  abbrev r : Records
  r = records_of_image i

  abbrev u : Unix
  u = v i most broken sound h steps traps

  live_fate : (pid slot : ℕ) (found : slot_by (r.exits pid) ≡ Some slot)
      → fate_with (dead i most broken sound h pid slot found) 0 ≡ fate_in_unix u (no_wounds u) pid (left i most broken sound h steps traps pid slot found)
  unfolding dead_proc
  live_fate pid slot found =
      fate_same (dead i most broken sound h pid slot found) (call_found (Some h) r.head (process i most broken sound h pid slot found)) refl refl r i.words slot
      ∙ ap (λ (call : Option ℕ). fate_by call (left i most broken sound h steps traps pid slot found)) (sym (its_call i most broken sound h steps traps pid slot found))
      ∙ sym (fate_is u pid (left i most broken sound h steps traps pid slot found))

  no_fate : (pid : ℕ) → slot_by (r.exits pid) ≡ None → fate_of r (Some h) pid ≡ None
  unfolding fate_of
  no_fate pid none = rw none refl

  one_same : (pid : ℕ) → told_of pid (fate_of r (Some h) pid) ≡ fate_before u (no_wounds u) pid (u.processes pid) []
  one_same pid = by_slot (slot_by (r.exits pid)) refl where
    by_slot : (o : Option ℕ) → slot_by (r.exits pid) ≡ o → told_of pid (fate_of r (Some h) pid) ≡ fate_before u (no_wounds u) pid (u.processes pid) []
    by_slot (Some slot) found =
        ap (λ (o : Option Fate). told_of pid o) (fate_told i most broken sound h pid slot found)
        ∙ ap (λ (told : Fate). (pid, told) ∷ []) (live_fate pid slot found)
        ∙ sym (ap (λ (o : Option Process). fate_before u (no_wounds u) pid o []) (was_left i most broken sound h steps traps pid slot found))
    by_slot None none =
        ap (λ (o : Option Fate). told_of pid o) (no_fate pid none)
        ∙ sym (ap (λ (o : Option Process). fate_before u (no_wounds u) pid o []) (none_left i most broken sound h steps traps pid none))

  fates_up_to : (last : ℕ) → fates_to r (Some h) last ≡ fates_from u (no_wounds u) 1 last
  unfolding fates_to fates_from
  fates_up_to zero = refl
  fates_up_to (suc n) =
      ap (λ (list : List (ℕ × Fate)). list ++ told_of (suc n) (fate_of r (Some h) (suc n))) (fates_up_to n)
      ∙ ap (λ (list : List (ℕ × Fate)). fates_from u (no_wounds u) 1 n ++ list) (one_same (suc n))
      ∙ sym (next_told u (no_wounds u) n)

  pub fates_same : fates_to r (Some h) most_pids ≡ fates u (no_wounds u)
  unfolding fates
  fates_same = fates_up_to most_pids
