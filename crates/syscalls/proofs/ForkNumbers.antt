-- Pids and slots of records on which a fork is done: they are numbered as before, and the child has the next pid.
use Rattle.std.proofs.Common.{◌≡◌, ◌⊎◌, ℕ, ◌+◌, ◌<◌, ◌≤◌, true, nat_lt, Option, Some, IfSome, inl, inr, refl, sym, ap, subst, ◌∙◌, arith}
use Rattle.std.proofs.lemmas.Bool.Decides.{nat_tests}
use Rattle.ow_base.specs.Words.{updated}
use Rattle.ow_base.specs.declared.machine.Bank.{Bank}
use Rattle.record_layouts.specs.declared.places.RecordId.TheVariants as id
use Rattle.record_layouts.specs.declared.head.HeadRec.{HeadRec}
use Rattle.record_layouts.specs.declared.proc.ProcRec.{ProcRec}
use Rattle.record_layouts.specs.declared.sig.SigRec.{SigRec}
use Rattle.record_layouts.specs.declared.exit.ExitRec.{ExitRec}
use Rattle.record_layouts.specs.Decode.{next_by, slot_by}
use Rattle.record_layouts.specs.Head.{FitsHead}
use Rattle.record_layouts.specs.Held.{Records}
use Rattle.record_layouts.specs.Pages.{is_live}
use Rattle.record_layouts.specs.Sound.{AreNumbered, IsIn, is_used}
use Rattle.process_table.specs.Patches.{answered_process, forked_exit, forked_process, forked_signals, saved_process}
use Rattle.process_table.specs.Slots.{is_free}
use Rattle.process_table.proofs.EndedSound.{where_held}
use Rattle.process_table.proofs.Endings.{used_by}
use Rattle.process_table.proofs.Kept.{same_or_not, set_here, set_other}
use Rattle.process_table.proofs.Seats.{pid_range}
use Rattle.syscalls.proofs.Becoming.{prepared}
use Rattle.syscalls.proofs.Forked.{CanFork, forked_exits, forked_procs, forked_records, forked_sigs}

-- the record of a live process is not free
live_taken : (r : Records) (process : ProcRec) → is_live process ≡ true → is_free r (Some process) ≡ true → ⊥
live_taken r process live free = absurd (grind (arith, nat_tests, live, free))

-- the pid that is given away is the only one that was not below the next one before
counts_next : (pid next : ℕ) → (pid ≡ next → ⊥) → nat_lt pid next ≡ nat_lt pid (next + 1)
counts_next pid next apart = grind (arith, nat_tests, apart)

-- an exit record that tells of an ended process tells of one
used_ended : (held : Option ExitRec) (exit : ExitRec) → held ≡ Some exit → exit.state ≡ 2 → is_used held ≡ true
used_ended held exit is state = rw is (grind (arith, nat_tests, state))

module _ (r : Records) (head : HeadRec) (slot child : ℕ) (process : ProcRec) (bank : Bank) (signals : SigRec) (trap : ℕ)
    (can : CanFork r head slot child process signals) where
  abbrev saved : ProcRec
  saved = saved_process process bank

  abbrev parent : ProcRec
  parent = answered_process saved head.next

  abbrev copy : ProcRec
  copy = forked_process saved head.next

  abbrev procs : ℕ → Option ProcRec
  procs = forked_procs r head slot child saved

  abbrev sigs : ℕ → Option SigRec
  sigs = forked_sigs r head child signals

  abbrev exits : ℕ → Option ExitRec
  exits = forked_exits r head child

  -- the child's slot is another one, and in it no process was live
  none_lives : (other : ProcRec) → IsIn r child other → ⊥
  none_lives other there = live_taken r other there.live (subst (λ (held : Option ProcRec). is_free r held ≡ true) there.there can.free)

  pub apart : slot ≡ child → ⊥
  apart same = none_lives process (subst (λ (k : ℕ). IsIn r k process) same can.is)

  -- who has a record is the child, or its parent, or had it before
  who : (place : ℕ) (other : ProcRec) → procs place ≡ Some other
      → ((place ≡ child) × (other ≡ copy)) ⊎ (((place ≡ slot) × (other ≡ parent)) ⊎ ((place ≡ child → ⊥) × (place ≡ slot → ⊥) × (r.procs place ≡ Some other)))
  who place other there = elim (where_held (updated r.procs slot (Some parent)) child place copy other there) [
    | inl new ↦ inl new
    | inr old ↦ inr (elim (where_held r.procs slot place parent other old.1) [
      | inl own ↦ inl own
      | inr before ↦ inr (old.0, before.0, before.1)
    ])
  ]

  pub head_fits : FitsHead head
  head_fits = subst (λ (h : Option HeadRec). IfSome h FitsHead) can.is_head (can.sound.values id.Head)

  -- no process has had the pid that is given away
  next_is : next_by r.head ≡ head.next
  next_is = ap next_by can.is_head

  not_next : (pid : ℕ) → is_used (r.exits pid) ≡ true → pid ≡ head.next → ⊥
  not_next pid used same =
      let now : is_used (r.exits head.next) ≡ true = subst (λ (p : ℕ). is_used (r.exits p) ≡ true) same used in
      let below : is_used (r.exits head.next) ≡ nat_lt head.next head.next = can.sound.numbered.used head.next head_fits.next_from can.few ∙ ap (nat_lt head.next) next_is in
      let same_below : nat_lt head.next head.next ≡ true = sym below ∙ now in
      absurd (grind (arith, nat_tests, same_below))

  live_not_next : (pid place : ℕ) → slot_by (r.exits pid) ≡ Some place → pid ≡ head.next → ⊥
  live_not_next pid place exit = not_next pid (used_by (r.exits pid) place exit)

  -- what becomes of exit records
  exit_still : (pid place : ℕ) → slot_by (r.exits pid) ≡ Some place → slot_by (exits pid) ≡ Some place
  exit_still pid place exit = ap slot_by (set_other r.exits head.next (Some (forked_exit child)) pid (live_not_next pid place exit)) ∙ exit

  exit_of : (pid place : ℕ) → slot_by (exits pid) ≡ Some place → ((pid ≡ head.next) × (place ≡ child)) ⊎ (slot_by (r.exits pid) ≡ Some place)
  exit_of pid place exit = elim (same_or_not pid head.next) [
    | inl same ↦
        let there : slot_by (exits head.next) ≡ Some place = subst (λ (p : ℕ). slot_by (exits p) ≡ Some place) same exit in
        let both : Some child ≡ Some place = sym (ap slot_by (set_here r.exits head.next (Some (forked_exit child)))) ∙ there in
        let equal : place ≡ child = cc in
        inl (same, equal)
    | inr other ↦ inr (sym (ap slot_by (set_other r.exits head.next (Some (forked_exit child)) pid other)) ∙ exit)
  ]

  place_apart : (pid place : ℕ) → slot_by (r.exits pid) ≡ Some place → place ≡ child → ⊥
  place_apart pid place exit same =
      let found = can.sound.numbered.process pid place exit in
      none_lives found.0 (subst (λ (k : ℕ). IsIn r k found.0) same found.1)

  used_then : (pid : ℕ) → 1 ≤ pid → pid ≤ 256 → is_used (exits pid) ≡ nat_lt pid (head.next + 1)
  used_then pid from to = elim (same_or_not pid head.next) [
    | inl same ↦
        let below : nat_lt pid (head.next + 1) ≡ true = grind (arith, nat_tests, same) in
        subst (λ (p : ℕ). is_used (exits p) ≡ true) (sym same) (ap is_used (set_here r.exits head.next (Some (forked_exit child)))) ∙ sym below
    | inr other ↦
        ap is_used (set_other r.exits head.next (Some (forked_exit child)) pid other)
        ∙ (can.sound.numbered.used pid from to ∙ (ap (nat_lt pid) next_is ∙ counts_next pid head.next other))
  ]

  one_slot_then : (pid other place : ℕ) → slot_by (exits pid) ≡ Some place → slot_by (exits other) ≡ Some place → pid ≡ other
  one_slot_then pid other place one two = elim (exit_of pid place one) [
    | inl new ↦ elim (exit_of other place two) [
      | inl too ↦ new.0 ∙ sym too.0
      | inr before ↦ absurd (place_apart other place before new.1)
    ]
    | inr before ↦ elim (exit_of other place two) [
      | inl new ↦ absurd (place_apart pid place before new.1)
      | inr too ↦ can.sound.numbered.one_slot pid other place before too
    ]
  ]

  module _ (owners : ℕ → ℕ) (tables : (slot table word : ℕ) → ℕ) where
    abbrev base : Records
    base = prepared r owners tables

    abbrev now : Records
    now = forked_records base head slot child saved signals trap

    copy_in : IsIn now child copy
    copy_in = record { within = can.within; there = set_here (updated r.procs slot (Some parent)) child (Some copy); live = refl }

    parent_in : IsIn now slot parent
    parent_in = record {
      within = can.is.within;
      there = set_other (updated r.procs slot (Some parent)) child (Some copy) slot apart ∙ set_here r.procs slot (Some parent);
      live = refl;
    }

    still_in : (place : ℕ) (other : ProcRec) → (place ≡ child → ⊥) → (place ≡ slot → ⊥) → IsIn r place other → IsIn now place other
    still_in place other no_child no_parent before = record {
      within = before.within;
      there = set_other (updated r.procs slot (Some parent)) child (Some copy) place no_child ∙ (set_other r.procs slot (Some parent) place no_parent ∙ before.there);
      live = before.live;
    }

    -- a live process is the child, or its parent, or was live before
    pub were : (place : ℕ) (other : ProcRec) → IsIn now place other
        → ((place ≡ child) × (other ≡ copy)) ⊎ (((place ≡ slot) × (other ≡ parent)) ⊎ ((place ≡ child → ⊥) × IsIn r place other))
    were place other there = elim (who place other there.there) [
      | inl new ↦ inl new
      | inr rest ↦ inr (elim rest [
        | inl own ↦ inl own
        | inr before ↦ inr (before.0, record { within = there.within; there = before.2; live = there.live })
      ])
    ]

    exit_then : (place : ℕ) (other : ProcRec) → IsIn now place other → slot_by (exits other.pid) ≡ Some place
    exit_then place other there = elim (were place other there) [
      | inl new ↦
          ap (λ (p : ProcRec). slot_by (exits p.pid)) new.1
          ∙ (ap slot_by (set_here r.exits head.next (Some (forked_exit child))) ∙ ap (λ (k : ℕ). Some k) (sym new.0))
      | inr rest ↦ elim rest [
        | inl own ↦
            ap (λ (p : ProcRec). slot_by (exits p.pid)) own.1
            ∙ (exit_still process.pid slot (can.sound.numbered.exit slot process can.is) ∙ ap (λ (k : ℕ). Some k) (sym own.0))
        | inr before ↦ exit_still other.pid place (can.sound.numbered.exit place other before.1)
      ]
    ]

    process_then : (pid place : ℕ) → slot_by (exits pid) ≡ Some place → (other : ProcRec) × (IsIn now place other) × (other.pid ≡ pid)
    process_then pid place exit = elim (exit_of pid place exit) [
      | inl new ↦ (copy, subst (λ (k : ℕ). IsIn now k copy) (sym new.1) copy_in, sym new.0)
      | inr before ↦
          let found = can.sound.numbered.process pid place before in
          elim (same_or_not place slot) [
            | inl same ↦
                let own : slot_by (r.exits pid) ≡ Some slot = subst (λ (k : ℕ). slot_by (r.exits pid) ≡ Some k) same before in
                (parent, subst (λ (k : ℕ). IsIn now k parent) (sym same) parent_in, can.sound.numbered.one_slot process.pid pid slot (can.sound.numbered.exit slot process can.is) own)
            | inr other ↦ (found.0, still_in place found.0 (place_apart pid place before) other found.1, found.2)
          ]
    ]

    signals_then : (place : ℕ) (other : ProcRec) → IsIn now place other → (own : SigRec) × (sigs place ≡ Some own) × (own.pid ≡ other.pid)
    signals_then place other there = elim (were place other there) [
      | inl new ↦ (
        forked_signals signals head.next,
        subst (λ (k : ℕ). sigs k ≡ Some (forked_signals signals head.next)) (sym new.0) (set_here r.sigs child (Some (forked_signals signals head.next))),
        sym (ap (λ (p : ProcRec). p.pid) new.1),
      )
      | inr rest ↦ elim rest [
        | inl own ↦
            let had = can.sound.numbered.signals slot process can.is in (
              had.0,
              subst (λ (k : ℕ). sigs k ≡ Some had.0) (sym own.0) (set_other r.sigs child (Some (forked_signals signals head.next)) slot apart ∙ had.1),
              had.2 ∙ sym (ap (λ (p : ProcRec). p.pid) own.1),
            )
        | inr before ↦
            let had = can.sound.numbered.signals place other before.1 in
            (had.0, set_other r.sigs child (Some (forked_signals signals head.next)) place before.0 ∙ had.1, had.2)
      ]
    ]

    -- processes that have ended had before
    ended_still : (place : ℕ) (other : ProcRec) → procs place ≡ Some other → other.state ≡ 3 → r.procs place ≡ Some other
    ended_still place other there state = elim (who place other there) [
      | inl new ↦ let one : other.state ≡ 1 = ap (λ (p : ProcRec). p.state) new.1 in absurd (omega (arith, one, state))
      | inr rest ↦ elim rest [
        | inl own ↦ let one : other.state ≡ 1 = ap (λ (p : ProcRec). p.state) own.1 in absurd (omega (arith, one, state))
        | inr before ↦ before.2
      ]
    ]

    ended_then : (place : ℕ) (other : ProcRec) → procs place ≡ Some other → other.state ≡ 3 → (exit : ExitRec) × (exits other.pid ≡ Some exit) × (exit.state ≡ 2)
    ended_then place other there state =
        let had = can.sound.numbered.ended place other (ended_still place other there state) state in (
          had.0,
          set_other r.exits head.next (Some (forked_exit child)) other.pid (not_next other.pid (used_ended (r.exits other.pid) had.0 had.1 had.2)) ∙ had.1,
          had.2,
        )

    process_below : process.pid < head.next
    process_below =
        let range = pid_range r slot process can.sound.values can.is in
        let below : nat_lt process.pid head.next ≡ true =
        sym (can.sound.numbered.used process.pid range.0 range.1 ∙ ap (nat_lt process.pid) next_is) ∙ used_by (r.exits process.pid) slot (can.sound.numbered.exit slot process can.is) in
        grind (arith, nat_tests, below)

    parents_then : (place : ℕ) (other : ProcRec) → procs place ≡ Some other → other.parent < head.next + 1
    parents_then place other there = elim (who place other there) [
      | inl new ↦ let is : other.parent ≡ process.pid = ap (λ (p : ProcRec). p.parent) new.1 in omega (arith, is, process_below)
      | inr rest ↦ elim rest [
        | inl own ↦
            let is : other.parent ≡ process.parent = ap (λ (p : ProcRec). p.parent) own.1 in
            omega (arith, is, next_is, can.sound.numbered.parents slot process can.is.there)
        | inr before ↦ omega (arith, next_is, can.sound.numbered.parents place other before.2)
      ]
    ]

    pub numbered_then : AreNumbered now
    numbered_then = record {
      used = used_then;
      one_slot = one_slot_then;
      exit = exit_then;
      process = process_then;
      signals = signals_then;
      ended = ended_then;
      one_ended = λ place third other another there too state states same.
          can.sound.numbered.one_ended place third other another (ended_still place other there state) (ended_still third another too states) state states same;
      parents = parents_then;
    }
