-- What a panic that wounds nothing makes of a process, and of the record that is read of it.
use Rattle.std.proofs.Common.{◌≡◌, ℕ, ◌+◌, ◌==◌, Bool, false, if◌then◌else◌, List, [], ◌∷◌, Option, Some, None, inl, inr, refl}
use Rattle.std.specs.Prelude.{map}
use Rattle.std.proofs.lemmas.Bool.{cases_Bool}
use Rattle.record_layouts.specs.Unix.State.{Unix, Process, Out, Description, Object, OnFile, OnTty}
use Rattle.record_layouts.specs.Unix.Wounds.{no_wounds}
use Rattle.record_layouts.specs.Unix.Abort.{after_call, bit_if, bits_lost, bits_of, brought_out, call_at, fate_of, fate_of_call, has_passing, in_procedure, is_aborted, is_closed, is_made_again, is_open_on, kept_by, mask_with, passes, survivor, unless_closed}
use Rattle.record_layouts.specs.declared.fates.Fate.{Fate}
use Rattle.record_layouts.specs.declared.fates.Fate.TheVariants as fate

-- the process outside its call, and in its crash procedure where it has one
abbrev pub outside : Option ℕ → Process → Process
outside call p = record p { call = Out; bank = after_call call p.bank }

abbrev pub told : Option ℕ → Process → ℕ
told call p = mask_with p.procedure_save (0 + bit_if (is_aborted call) 16)

abbrev pub carried_on : Option ℕ → Process → Process
carried_on call p = if p.procedure == 0 then outside call p else in_procedure (told call p) (outside call p)

abbrev pub fate_by : Option ℕ → Process → Fate
fate_by call p = if p.procedure == 0 then fate_of_call call else fate.Procedure (told call p)

none_passes : (o : Option Description) → is_open_on (λ file. false) (λ tty. false) o ≡ false
none_passes None = refl
none_passes (Some d) = on d.object where
  on : (object : Object) → passes (λ file. false) (λ tty. false) object ≡ false
  on (OnFile file) = refl
  on (OnTty tty) = refl

kept_by_call : (call : Option ℕ) (p : Process) → kept_by (fate_of_call call) p ≡ Some p
kept_by_call (Some number) p = elim (cases_Bool (is_made_again number)) [
  | inl again ↦ rw again refl
  | inr once ↦ rw once refl
]
kept_by_call None p = refl

module _ (v : Unix) where
  not_closed : (d : Option ℕ) → is_closed v (no_wounds v) d ≡ false
  unfolding no_wounds
  not_closed (Some number) = none_passes (v.descriptions number)
  not_closed None = refl

  none_is : (test : Option ℕ → Bool) → ((d : Option ℕ) → test d ≡ false) → (ds : List (Option ℕ)) → has_passing test ds ≡ false
  unfolding has_passing
  none_is test never [] = refl
  none_is test never (d ∷ ds) = rw (never d) (none_is test never ds)

  none_lost : (pid : ℕ) (p : Process) → bits_lost v (no_wounds v) pid p ≡ 0
  unfolding bits_lost no_wounds
  none_lost pid p = rw (none_is (is_closed v (no_wounds v)) not_closed p.descriptors) refl

  all_open : (ds : List (Option ℕ)) → map (unless_closed v (no_wounds v)) ds ≡ ds
  all_open [] = refl
  all_open (d ∷ ds) = rw (not_closed d, all_open ds) refl

  module _ (pid : ℕ) (p : Process) where
    pub fate_is : fate_of v (no_wounds v) pid p ≡ fate_by (call_at v pid p) p
    unfolding fate_of bits_of no_wounds
    fate_is = elim (cases_Bool (p.procedure == 0)) [
      | inl plain ↦ rw (plain, none_lost pid p) refl
      | inr own ↦ rw (own, none_lost pid p) refl
    ]

    brought : v.processes pid ≡ Some p → brought_out v (no_wounds v) pid p ≡ outside (call_at v pid p) p
    unfolding brought_out no_wounds
    brought live = rw (all_open p.descriptors, live) refl

    pub survivor_is : v.processes pid ≡ Some p → survivor v (no_wounds v) pid (Some p) ≡ Some (carried_on (call_at v pid p) p)
    survivor_is live = elim (cases_Bool (p.procedure == 0)) [
      | inl plain ↦ rw (fate_is, brought live, plain) (kept_by_call (call_at v pid p) (outside (call_at v pid p) p))
      | inr own ↦ rw (fate_is, brought live, own) refl
    ]
