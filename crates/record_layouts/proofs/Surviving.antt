-- What a panic that wounds nothing makes of processes.
use Rattle.std.proofs.Common.{◌≡◌, ◌∙◌, ◌+◌, ◌≤◌, ◌==◌, ℕ, zero, suc, Bool, true, false, List, [], ◌∷◌, Option, Some, None, inl, inr, refl, sym, ap, subst, arith}
use Rattle.std.specs.Prelude.{◌<◌, map, is_some, option_map}
use Rattle.std.specs.List.{All, AllPairs}
use Rattle.std.proofs.lemmas.List.Elements.{All-cons, All-nil}
use Rattle.std.proofs.lemmas.List.Kept.{AllPairs-cons}
use Rattle.std.proofs.lemmas.Bool.{cases_Bool}
use Rattle.std.proofs.lemmas.Bool.Decides.{nat_tests}
use Rattle.ow_base.specs.Words.{minus, wrapped}
use Rattle.ow_base.specs.UserStep.{with_register}
use Rattle.ow_base.specs.declared.machine.Shape.{Shape}
use Rattle.ow_base.specs.declared.worlds.Ending.{Ending}
use Rattle.record_layouts.specs.Unix.State.{most_pids, Unix, Process, Out, Description, Object, OnFile, OnTty}
use Rattle.record_layouts.specs.Unix.Choice.{no_keys, is_any_live, live_or}
use Rattle.record_layouts.specs.Unix.Turn.{ending_of}
use Rattle.record_layouts.specs.Unix.Traps.{after_trap, closing_of, next_trap}
use Rattle.record_layouts.specs.Unix.Broken.{done_of, undone_of}
use Rattle.record_layouts.specs.Unix.Wounds.{Wounds, no_wounds}
use Rattle.record_layouts.specs.Unix.Abort.{abort, bits_lost, bits_of, brought_out, call_at, exit_after, fate_of, fate_of_call, is_closed, is_made_again, has_passing, is_open_on, is_undone_caller, fate_before, fate_in, fates, fates_from, kept_by, passes, status_by_fate, survivor, unless_closed}
use Rattle.record_layouts.specs.declared.fates.Fate.{Fate}
use Rattle.record_layouts.specs.declared.fates.Fate.TheVariants as fate
use Rattle.record_layouts.specs.declared.traps.Trap.{Trap}
use Rattle.record_layouts.specs.declared.traps.Trap.TheVariants as trap

none_passes : (o : Option Description) → is_open_on (λ file. false) (λ tty. false) o ≡ false
none_passes None = refl
none_passes (Some d) = on d.object where
  on : (object : Object) → passes (λ file. false) (λ tty. false) object ≡ false
  on (OnFile file) = refl
  on (OnTty tty) = refl

module _ (v : Unix) where
  not_closed : (d : Option ℕ) → is_closed v (no_wounds v) d ≡ false
  unfolding no_wounds
  not_closed (Some number) = none_passes (v.descriptions number)
  not_closed None = refl

  none_is : (test : Option ℕ → Bool) → ((d : Option ℕ) → test d ≡ false) → (ds : List (Option ℕ)) → has_passing test ds ≡ false
  unfolding has_passing
  none_is test never [] = refl
  none_is test never (d ∷ ds) = rw (never d) (none_is test never ds)

  none_lost : (pid : ℕ) (p : Process) → bits_lost v (no_wounds v) pid p ≡ 0
  unfolding bits_lost no_wounds
  none_lost pid p = rw (none_is (is_closed v (no_wounds v)) not_closed p.descriptors) refl

  kept_open : (ds : List (Option ℕ)) → map (unless_closed v (no_wounds v)) ds ≡ ds
  kept_open [] = refl
  kept_open (d ∷ ds) = rw (not_closed d, kept_open ds) refl

  -- without a crash procedure the fate is that of the call
  by_call : (pid : ℕ) (p : Process) → p.procedure ≡ 0 → fate_of v (no_wounds v) pid p ≡ fate_of_call (call_at v pid p)
  unfolding fate_of no_wounds
  by_call pid p plain = rw (none_lost pid p, plain) refl

  module _ (pid : ℕ) (p : Process) (live : v.processes pid ≡ Some p) (plain : p.procedure ≡ 0) where
    module _ (out : p.call ≡ Out) (other : is_undone_caller v.position pid ≡ false) where
      no_call : call_at v pid p ≡ None
      no_call = rw (out, other) refl

      pub goes : fate_of v (no_wounds v) pid p ≡ fate.Goes
      goes = by_call pid p plain ∙ ap fate_of_call no_call

      brought : brought_out v (no_wounds v) pid p ≡ p
      unfolding brought_out no_wounds
      brought = rw (no_call, kept_open p.descriptors, live, sym out) refl

      pub same : (abort v (no_wounds v)).processes pid ≡ Some p
      unfolding abort
      same = rw (live, goes, brought) refl

    module _ (number : ℕ) (call : call_at v pid p ≡ Some number) where
      pub stands : is_made_again number ≡ true → fate_of v (no_wounds v) pid p ≡ fate.Stands
      stands again = by_call pid p plain ∙ (ap fate_of_call call ∙ rw again refl)

      pub aborted : is_made_again number ≡ false → fate_of v (no_wounds v) pid p ≡ fate.Aborted
      aborted once = by_call pid p plain ∙ (ap fate_of_call call ∙ rw once refl)

      standing : is_made_again number ≡ true → brought_out v (no_wounds v) pid p ≡ record p { call = Out }
      unfolding brought_out no_wounds
      standing again = rw (call, again, kept_open p.descriptors, live) refl

      answered : is_made_again number ≡ false → brought_out v (no_wounds v) pid p
          ≡ record p { call = Out; bank = record { pc = wrapped (p.bank.pc + 4); regs = with_register p.bank.regs 10 (minus 200) } }
      unfolding brought_out no_wounds
      answered once = rw (call, once, kept_open p.descriptors, live) refl

      pub stands_there : is_made_again number ≡ true → (abort v (no_wounds v)).processes pid ≡ Some (record p { call = Out })
      unfolding abort
      stands_there again = rw (live, stands again, standing again) refl

      pub is_answered : is_made_again number ≡ false → (abort v (no_wounds v)).processes pid
          ≡ Some (record p { call = Out; bank = record { pc = wrapped (p.bank.pc + 4); regs = with_register p.bank.regs 10 (minus 200) } })
      unfolding abort
      is_answered once = rw (live, aborted once, answered once) refl

  -- nobody is lost
  kept_by_call : (call : Option ℕ) (p : Process) → kept_by (fate_of_call call) p ≡ Some p
  kept_by_call (Some number) p = elim (cases_Bool (is_made_again number)) [
    | inl again ↦ rw again refl
    | inr once ↦ rw once refl
  ]
  kept_by_call None p = refl

  status_by_call : (call : Option ℕ) (status : Option ℕ) → status_by_fate (fate_of_call call) status ≡ status
  status_by_call (Some number) status = elim (cases_Bool (is_made_again number)) [
    | inl again ↦ rw again refl
    | inr once ↦ rw once refl
  ]
  status_by_call None status = refl

  kept : (pid : ℕ) (p q : Process) → is_some (kept_by (fate_of v (no_wounds v) pid p) q) ≡ true
  unfolding fate_of no_wounds
  kept pid p q = elim (cases_Bool (p.procedure == 0)) [
    | inl plain ↦ rw (plain, none_lost pid p, kept_by_call (call_at v pid p) q) refl
    | inr own ↦ rw own refl
  ]

  survives : (pid : ℕ) (o : Option Process) → is_some (survivor v (no_wounds v) pid o) ≡ is_some o
  survives pid (Some p) = kept pid p (brought_out v (no_wounds v) pid p)
  survives pid None = refl

  -- and no exit is told of anyone
  status_kept : (pid : ℕ) (p : Process) → status_by_fate (fate_of v (no_wounds v) pid p) (v.exits pid) ≡ v.exits pid
  unfolding fate_of no_wounds
  status_kept pid p = elim (cases_Bool (p.procedure == 0)) [
    | inl plain ↦ rw (plain, none_lost pid p, status_by_call (call_at v pid p) (v.exits pid)) refl
    | inr own ↦ rw own refl
  ]

  pub exits_stay : (pid : ℕ) (o : Option Process) → exit_after v (no_wounds v) pid o ≡ v.exits pid
  exits_stay pid (Some p) = status_kept pid p
  exits_stay pid None = refl

-- a process of which nothing is wounded
module _ (v : Unix) (x : Wounds) (pid : ℕ) (p : Process) where
  module _ (none : bits_lost v x pid p ≡ 0) where
    none_closed : has_passing (is_closed v x) p.descriptors ≡ false
    unfolding bits_lost
    none_closed = elim (cases_Bool (has_passing (is_closed v x) p.descriptors)) [
      | inl some ↦ absurd (grind (arith, some, none))
      | inr not_one ↦ not_one
    ]

    has_signals : x.sigs pid ≡ false
    unfolding bits_lost
    has_signals = elim (cases_Bool (x.sigs pid)) [
      | inl lost ↦ absurd (grind (arith, lost, none))
      | inr kept ↦ kept
    ]

  all_open : (ds : List (Option ℕ)) → has_passing (is_closed v x) ds ≡ false → map (unless_closed v x) ds ≡ ds
  unfolding has_passing
  all_open [] none = refl
  all_open (d ∷ ds) none = elim (cases_Bool (is_closed v x d)) [
    | inl closed ↦ let some : true ≡ false = rw closed at none in absurd (cc some)
    | inr kept ↦ rw (kept, all_open ds (rw kept at none)) refl
  ]

  module _ (live : v.processes pid ≡ Some p) (readable : x.core pid ≡ false) (none : bits_lost v x pid p ≡ 0) where
    pub untouched_fate : fate_of v x pid p ≡ fate_of v (no_wounds v) pid p
    unfolding fate_of bits_of no_wounds
    untouched_fate = rw (readable, none, none_lost v pid p) refl

    untouched_out : x.pages pid ≡ p.pages.bytes → brought_out v x pid p ≡ brought_out v (no_wounds v) pid p
    unfolding brought_out no_wounds
    untouched_out bytes = rw (bytes, has_signals none, all_open p.descriptors (none_closed none), kept_open v p.descriptors, live) refl

    pub untouched : x.pages pid ≡ p.pages.bytes → (abort v x).processes pid ≡ (abort v (no_wounds v)).processes pid
    unfolding abort
    untouched bytes = rw (live, untouched_fate, untouched_out bytes) refl

-- a process that a trap has left outside a call
pub done_same : (u : Unix) (t : Trap) (pid : ℕ) (p : Process) → (after_trap u t).processes pid ≡ Some p → p.call ≡ Out → p.procedure ≡ 0 → 1 ≤ pid
    → (abort (done_of t u) (no_wounds (done_of t u))).processes pid ≡ Some p
unfolding done_of
done_same u t pid p live out plain real = same (done_of t u) pid p live plain out (grind (arith, nat_tests))

-- as many processes are live as before
same_live : (f g : ℕ → Option Process) → ((pid : ℕ) → is_some (f pid) ≡ is_some (g pid)) → (first n : ℕ) → is_any_live f first n ≡ is_any_live g first n
unfolding is_any_live
same_live f g both first zero = refl
same_live f g both first (suc n) = by_one (f first) (g first) (both first) (same_live f g both (first + 1) n) where
  by_one : (o q : Option Process) → is_some o ≡ is_some q → {a b : Bool} → a ≡ b → live_or o a ≡ live_or q b
  by_one (Some p) (Some q) h e = refl
  by_one None None h e = e
  by_one (Some p) None h e = absurd (cc h)
  by_one None (Some q) h e = absurd (cc h)

module _ (shape : Shape) (u v : Unix) (ending : Ending) (ends : ending_of shape u ≡ Some ending) (left : v ≡ undone_of (closing_of u) u) where
  still_ends : ending_of shape (abort v (no_wounds v)) ≡ Some ending
  unfolding ending_of abort undone_of
  still_ends =
      let live : is_any_live (λ pid. survivor v (no_wounds v) pid (v.processes pid)) 1 most_pids ≡ is_any_live u.processes 1 most_pids =
      same_live (λ pid. survivor v (no_wounds v) pid (v.processes pid)) v.processes (λ pid. survives v pid (v.processes pid)) 1 most_pids
      ∙ ap (λ (s : Unix). is_any_live s.processes 1 most_pids) left in
      let steps : v.steps ≡ u.steps = ap (λ (s : Unix). s.steps) left ∙ omega arith in
      rw (live, steps) ends

  pub repeated : (ending_of shape (abort v (no_wounds v)) ≡ Some ending) × (next_trap no_keys shape (abort v (no_wounds v)) ≡ Some (trap.Closing None))
      × ((abort v (no_wounds v)).traps ≡ u.traps + 1) × ((abort v (no_wounds v)).steps ≡ u.steps)
  unfolding next_trap abort undone_of
  repeated = (
    still_ends,
    rw still_ends refl,
    ap (λ (s : Unix). s.traps) left,
    ap (λ (s : Unix). s.steps) left ∙ omega arith,
  )

no_pairs : {A : Type 0} (R : A → A → Type 0) → AllPairs R []
no_pairs R i j d low high = absurd (omega arith)

-- the fates that are told
module _ (v : Unix) (x : Wounds) where
  at_other : (first pid : ℕ) (o : Option Process) (rest : List (ℕ × Fate)) → (first == pid) ≡ false → fate_in (fate_before v x first o rest) pid ≡ fate_in rest pid
  unfolding fate_in
  at_other first pid (Some p) rest other = rw other refl
  at_other first pid None rest other = refl

  at_one : (pid : ℕ) (o : Option Process) (rest : List (ℕ × Fate)) → fate_in rest pid ≡ None
      → fate_in (fate_before v x pid o rest) pid ≡ option_map (λ p. fate_of v x pid p) o
  unfolding fate_in
  at_one pid (Some p) rest none = let is : (pid == pid) ≡ true = grind (arith, nat_tests) in rw is refl
  at_one pid None rest none = none

  above_one : (least first : ℕ) (o : Option Process) (rest : List (ℕ × Fate)) → least < first → All (λ (told : ℕ × Fate). least < told.0) rest
      → All (λ (told : ℕ × Fate). least < told.0) (fate_before v x first o rest)
  above_one least first (Some p) rest below all = All-cons (λ (told : ℕ × Fate). least < told.0) (first, fate_of v x first p) rest below all
  above_one least first None rest below all = all

  from_one : (first : ℕ) (o : Option Process) (rest : List (ℕ × Fate)) → All (λ (told : ℕ × Fate). first < told.0) rest
      → AllPairs (λ (some later : ℕ × Fate). some.0 < later.0) rest → AllPairs (λ (some later : ℕ × Fate). some.0 < later.0) (fate_before v x first o rest)
  from_one first (Some p) rest all pairs = AllPairs-cons (λ (some later : ℕ × Fate). some.0 < later.0) (first, fate_of v x first p) rest all pairs
  from_one first None rest all pairs = pairs

  none_below : (first n pid : ℕ) → pid < first → fate_in (fates_from v x first n) pid ≡ None
  unfolding fate_in fates_from
  none_below first zero pid below = refl
  none_below first (suc n) pid below =
      let other : (first == pid) ≡ false = grind (arith, nat_tests) in
      at_other first pid (v.processes first) (fates_from v x (first + 1) n) other ∙ none_below (first + 1) n pid (omega arith)

  among : (first n pid : ℕ) → first ≤ pid → pid < first + n → fate_in (fates_from v x first n) pid ≡ option_map (λ p. fate_of v x pid p) (v.processes pid)
  unfolding fates_from
  among first zero pid above below = absurd (omega arith)
  among first (suc n) pid above below = elim (cases_Bool (first == pid)) [
    | inl same ↦
        let is : first ≡ pid = grind (arith, nat_tests) in
        subst (λ q. fate_in (fates_from v x first (suc n)) q ≡ option_map (λ p. fate_of v x q p) (v.processes q)) is
        (at_one first (v.processes first) (fates_from v x (first + 1) n) (none_below (first + 1) n first (omega arith)))
    | inr other ↦
        at_other first pid (v.processes first) (fates_from v x (first + 1) n) other ∙ among (first + 1) n pid (grind (arith, nat_tests)) (omega arith)
  ]

  all_above : (least first n : ℕ) → least < first → All (λ (told : ℕ × Fate). least < told.0) (fates_from v x first n)
  unfolding fates_from
  all_above least first zero below = All-nil (λ (told : ℕ × Fate). least < told.0)
  all_above least first (suc n) below = above_one least first (v.processes first) (fates_from v x (first + 1) n) below (all_above least (first + 1) n (omega arith))

  rising : (first n : ℕ) → AllPairs (λ (some later : ℕ × Fate). some.0 < later.0) (fates_from v x first n)
  unfolding fates_from
  rising first zero = no_pairs (λ (some later : ℕ × Fate). some.0 < later.0)
  rising first (suc n) = from_one first (v.processes first) (fates_from v x (first + 1) n) (all_above first (first + 1) n (omega arith)) (rising (first + 1) n)

  pub fates_rise : AllPairs (λ (some later : ℕ × Fate). some.0 < later.0) (fates v x)
  unfolding fates
  fates_rise = rising 1 most_pids

  pub fate_in_is : (pid : ℕ) → 1 ≤ pid → pid ≤ most_pids → fate_in (fates v x) pid ≡ option_map (λ p. fate_of v x pid p) (v.processes pid)
  unfolding fates
  fate_in_is pid above below = among 1 most_pids pid above (omega arith)
