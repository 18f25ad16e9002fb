-- Records on which a wait is done are sound again: the child that has ended has left its slot, or the process waits.
use Rattle.std.proofs.Common.{◌≡◌, ◌==◌, ℕ, true, Option, Some, None, IfSome, option_and_then, inl, inr, refl, sym, ap, subst, ◌∙◌, arith}
use Rattle.std.proofs.lemmas.Bool.{cases_Bool}
use Rattle.ow_base.specs.Pages.{Pages}
use Rattle.ow_base.specs.Words.{minus, updated}
use Rattle.ow_base.specs.declared.machine.Bank.{Bank}
use Rattle.record_layouts.specs.declared.head.HeadRec.{HeadRec}
use Rattle.record_layouts.specs.declared.patch.AnyRec.TheVariants as any
use Rattle.record_layouts.specs.declared.places.RecordId.TheVariants as id
use Rattle.record_layouts.specs.declared.proc.ProcRec.{ProcRec}
use Rattle.record_layouts.specs.Held.{Records, with_items, with_record}
use Rattle.record_layouts.specs.Pages.{is_live}
use Rattle.record_layouts.specs.Proc.{FitsLive, FitsProc}
use Rattle.record_layouts.specs.Sound.{AreNumbered, AreSound, IsIn}
use Rattle.record_layouts.proofs.At.{complete_with, values_with}
use Rattle.process_table.specs.Children.{child_slot}
use Rattle.process_table.specs.Patches.{answered_process, free_process, saved_process, wait_items}
use Rattle.process_table.specs.Slots.{has_such, is_live_child, is_live_one}
use Rattle.process_table.proofs.Ended.{free_fits, live_fits}
use Rattle.process_table.proofs.EndedSound.{where_held}
use Rattle.process_table.proofs.Kept.{AllWere, calls_stay, kin_itself, mapped_stay, set_other}
use Rattle.syscalls.specs.Done.{KeepsSound}
use Rattle.syscalls.specs.Planned.{argument_of, caller_with, items_of, planned_take, planned_wait, planned_wait_on, refuses_status, waiting_items, waiting_process}
use Rattle.syscalls.proofs.AfterSound.{after_sound}
use Rattle.syscalls.proofs.Becoming.{IsAfter}
use Rattle.syscalls.proofs.WaitPlan.{HasEnded, ended_elsewhere, has_ended_there}

-- a slot in which a process has ended is free now
module _ (r : Records) (place : ℕ) (ended : HasEnded r place) where
  abbrev freed : ℕ → Option ProcRec
  freed = updated r.procs place (Some free_process)

  abbrev freed_records : Records
  freed_records = with_record r (id.Proc place) (any.Proc free_process)

  -- a process that goes on was there before
  lived : (slot : ℕ) (process : ProcRec) → IsIn freed_records slot process → IsIn r slot process
  lived slot process is = elim (where_held r.procs place slot free_process process is.there) [
    | inl free ↦ let live : is_live free_process ≡ true = sym (ap is_live free.1) ∙ is.live in absurd (cc live)
    | inr held ↦ record { within = is.within; there = held.1; live = is.live }
  ]

  lives_still : (slot : ℕ) (process : ProcRec) → IsIn r slot process → IsIn freed_records slot process
  lives_still slot process is =
      let apart : slot ≡ place → ⊥ = ended_elsewhere r slot place ended (ap is_live_one is.there ∙ is.live) in
      record { within = is.within; there = set_other r.procs place (Some free_process) slot apart ∙ is.there; live = is.live }

  -- and so was one that has ended
  ended_still : (slot : ℕ) (process : ProcRec) → freed slot ≡ Some process → process.state ≡ 3 → r.procs slot ≡ Some process
  ended_still slot process there state = elim (where_held r.procs place slot free_process process there) [
    | inl free ↦ let three : free_process.state ≡ 3 = sym (ap (λ (p : ProcRec). p.state) free.1) ∙ state in absurd (omega (arith, three))
    | inr held ↦ held.1
  ]

  freed_numbered : AreNumbered r → AreNumbered freed_records
  freed_numbered numbered = record {
    used = numbered.used;
    one_slot = numbered.one_slot;
    exit = λ slot process is. numbered.exit slot process (lived slot process is);
    process = λ pid slot exit.
        let found = numbered.process pid slot exit in
        (found.0, lives_still slot found.0 found.1, found.2);
    signals = λ slot process is. numbered.signals slot process (lived slot process is);
    ended = λ slot process there state. numbered.ended slot process (ended_still slot process there state) state;
    one_ended = λ slot other process another there too state states same.
        numbered.one_ended slot other process another (ended_still slot process there state) (ended_still other another too states) state states same;
    parents = λ slot process there. elim (where_held r.procs place slot free_process process there) [
      | inl free ↦
          let parent : process.parent ≡ 0 = ap (λ (p : ProcRec). p.parent) free.1 in
          omega (arith, parent, numbered.parents place ended.child ended.there)
      | inr held ↦ numbered.parents slot process held.1
    ];
  }

  freed_were : AllWere r r.head freed r.sigs r.exits
  freed_were = record { was = λ slot process is. record { old = process; is = lived slot process is; kin = kin_itself process is.live } }

  pub freed_sound : AreSound r → AreSound freed_records
  freed_sound sound = record {
    complete = complete_with r (id.Proc place) (any.Proc free_process) sound.complete tt;
    values = values_with r (id.Proc place) (any.Proc free_process) sound.values tt free_fits;
    numbered = freed_numbered sound.numbered;
    in_calls = calls_stay r r.head freed r.sigs r.exits freed_were sound.in_calls;
    mapped = mapped_stay r r.head freed r.sigs r.exits freed_were sound.mapped;
  }

-- what a wait sets, where records are sound with each answer
module _ (r : Records) (head : HeadRec) (slot : ℕ) (process : ProcRec) (bank : Bank) (trap : ℕ) (sound : AreSound r) (is_head : r.head ≡ Some head) (is : IsIn r slot process)
    (answered : (answer : ℕ) → AreSound (with_items r (items_of (caller_with slot trap head (saved_process process bank)) (answered_process (saved_process process bank) answer)))) where
  abbrev saved : ProcRec
  saved = saved_process process bank

  -- a process that has ended is in the same slot once the process of another one is answered
  still_ended : (place answer : ℕ) → HasEnded r place → HasEnded (with_items r (items_of (caller_with slot trap head saved) (answered_process saved answer))) place
  still_ended place answer ended =
      let apart : place ≡ slot → ⊥ = λ same. ended_elsewhere r slot place ended (ap is_live_one is.there ∙ is.live) (sym same) in
      record {
        child = ended.child;
        within = ended.within;
        there = set_other r.procs slot (Some (answered_process saved answer)) place apart ∙ ended.there;
        state = ended.state;
      }

  pub taken_sound : (place pid : ℕ) → HasEnded r place → AreSound (with_items r (wait_items head slot saved place pid trap))
  unfolding wait_items
  taken_sound place pid ended =
      freed_sound (with_items r (items_of (caller_with slot trap head saved) (answered_process saved pid))) place (still_ended place pid ended) (answered pid)

  held : FitsLive process
  held =
      let fits : FitsProc process = subst (λ (p : Option ProcRec). IfSome p FitsProc) is.there (sound.values (id.Proc slot)) in
      live_fits process fits is.live

  waiting_fits : FitsProc (waiting_process saved)
  waiting_fits = record {
    state = omega arith;
    free = λ s. absurd (omega (arith, s));
    live = λ s. record {
      pid = held.pid;
      parent = held.parent;
      code_pages = held.code_pages;
      data_pages = held.data_pages;
      heap_end = held.heap_end;
      flags = held.flags;
      status = held.status;
      descs = held.descs;
    };
    no_call = λ s. absurd (omega (arith, s));
    none_done = λ s. absurd (omega (arith, s));
    ended = λ s. absurd (omega (arith, s));
  }

  waiting_after : IsAfter process (waiting_process saved)
  waiting_after = record { pid = refl; parent = refl; status = refl; descs = refl; regions = record { live = refl; lives = is.live; code = refl; values = refl; brk = refl } }

  pub waiting_sound : AreSound (with_items r (items_of (caller_with slot trap head saved) (waiting_process saved)))
  waiting_sound = after_sound r head slot process (waiting_process saved) trap sound is_head is waiting_after waiting_fits (λ s. inr (inr (refl, refl)))

  none_sound : AreSound (with_items r (waiting_items r (caller_with slot trap head saved)))
  none_sound = elim (cases_Bool (has_such r (is_live_child process.pid))) [ inl lives ↦ rw lives waiting_sound | inr none ↦ rw none (answered (minus 10)) ]

  take_keeps : (place : ℕ) (ended : HasEnded r place) → KeepsSound r slot process (planned_take (caller_with slot trap head saved) place ended.child)
  take_keeps place ended =
      let taken = taken_sound place ended.child.pid ended in
      elim (cases_Bool (argument_of saved 0 == 0)) [ inl nowhere ↦ rw nowhere taken | inr somewhere ↦ rw somewhere taken ]

  module _ (pages : Pages) where
    found_keeps : (place : ℕ) (ended : HasEnded r place) → KeepsSound r slot process (planned_wait_on r pages (caller_with slot trap head saved) (Some place) (Some ended.child))
    found_keeps place ended = elim (cases_Bool (refuses_status pages (caller_with slot trap head saved))) [
      | inl refuses ↦ rw refuses (answered (minus 14))
      | inr takes ↦ rw takes (take_keeps place ended)
    ]

    wait_on_keeps : (found : Option ℕ) → child_slot r process.pid ≡ found
        → KeepsSound r slot process (planned_wait_on r pages (caller_with slot trap head saved) found (option_and_then r.procs found))
    wait_on_keeps None found = none_sound
    wait_on_keeps (Some place) found =
        let ended = has_ended_there r process.pid place found in
        subst (λ (child : Option ProcRec). KeepsSound r slot process (planned_wait_on r pages (caller_with slot trap head saved) (Some place) child))
        (sym ended.there) (found_keeps place ended)

    pub wait_keeps : KeepsSound r slot process (planned_wait r pages (caller_with slot trap head saved))
    unfolding planned_wait
    wait_keeps = wait_on_keeps (child_slot r process.pid) refl
