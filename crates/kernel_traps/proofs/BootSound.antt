-- A kernel that has booted is sound.
use Rattle.std.proofs.Common.{◌≡◌, ℕ, ◌+◌, ◌*◌, ◌<◌, ◌≤◌, Bool, true, false, ◌==◌, if◌then◌else◌, [], length, refl, sym, ap, subst, ◌∙◌, arith}
use Rattle.ow_base.specs.Screen.{blank_screen, screen_of}
use Rattle.ow_base.specs.declared.machine.Shape.{Shape}
use Rattle.ow_base.specs.declared.worlds.Load.{Load}
use Rattle.phys_memory.specs.Memory.{words_of}
use Rattle.record_layouts.specs.declared.places.RecordId.TheVariants as id
use Rattle.record_layouts.specs.declared.proc.ProcRec.{ProcRec}
use Rattle.record_layouts.specs.Held.{AreComplete, AreValues, Records}
use Rattle.record_layouts.specs.Pages.{is_mapped}
use Rattle.record_layouts.specs.Sound.{AreSound, IsIn, is_table_place}
use Rattle.record_layouts.specs.Unix.State.{start_of}
use Rattle.record_layouts.specs.Values.{are_values}
use Rattle.tty_screen.specs.Shown.{IsBlank, ShowsScreen}
use Rattle.ow_plant.specs.State.{PlantState, silent_device, tty_of, Device}
use Rattle.intent_store.specs.Live.{map_of, records_held, rest_of}
use Rattle.intent_store.proofs.Holding.{shut_gate}
use Rattle.tty_screen.proofs.ShownScreens.{blank_shows}
use Rattle.ow_plant.specs.Images.{tapes_of}
use Rattle.kernel_traps.specs.Boot.{IsBootable, pages_before}
use Rattle.kernel_traps.specs.BootRecords.{silent_record}
use Rattle.kernel_traps.specs.BootState.{IsBooted}
use Rattle.kernel_traps.specs.Plants.{AreTerminalsSound, IsHeldSound, IsOfDevice, IsSound, unix_at}
use Rattle.kernel_traps.specs.Turning.{IsSameMachine}
use Rattle.kernel_traps.proofs.BootFrames.{clean_there, is_mapped_there}
use Rattle.kernel_traps.proofs.BootHeld.{IsMade, booted, last, of_shape, words_booted}
use Rattle.kernel_traps.proofs.BootNumbers.{are_in_calls, are_in_built_calls, are_numbered, are_on_terminals, in_started}
use Rattle.kernel_traps.proofs.BootLayout.{start_loadable}
use Rattle.kernel_traps.proofs.BootReads.{booted_decodes}
use Rattle.kernel_traps.proofs.BootStores.{booting_base}
use Rattle.kernel_traps.proofs.BootUnix.{unix_same}

module _ (r : Records) (load : Load) (is : IsBootable load) (b : IsBooted r load) where
  are_complete : AreComplete r
  are_complete one there = rw (b.records one there) (booted_decodes load one)

  mapped : (slot : ℕ) (process : ProcRec) → IsIn r slot process → is_mapped r slot process ≡ true
  mapped slot process inside =
      let s = in_started r load is b slot process inside in
      let loadable = start_loadable load slot s.program is s.low s.found in
      subst (λ (p : ProcRec). is_mapped r slot p ≡ true) (sym s.is)
      (is_mapped_there slot s.program loadable r (pages_before load slot) b.base b.pool (b.tables slot s.program s.low s.found))

  clean : (slot : ℕ) (process : ProcRec) → IsIn r slot process → (table word : ℕ) → table < 3 → word < 1024
      → is_table_place process table word ≡ false → r.table_words slot table word ≡ 0
  clean slot process inside table word low small out =
      let s = in_started r load is b slot process inside in
      let loadable = start_loadable load slot s.program is s.low s.found in
      clean_there slot s.program loadable r (pages_before load slot) b.base b.pool (b.tables slot s.program s.low s.found) table word low small
      (subst (λ (p : ProcRec). is_table_place p table word ≡ false) s.is out)

  are_sound : AreValues r → AreSound r
  are_sound values = record {
    complete = are_complete;
    values = values;
    numbered = are_numbered r load is b;
    in_calls = are_in_calls r load is b;
    mapped = record { mapped = mapped; clean = clean };
  }

  -- the terminals show blank screens
  is_blank : (tty : ℕ) → tty < 2 → IsBlank r tty
  is_blank tty low = record {
    row = rw (b.records (id.Term tty) low) refl;
    col = rw (b.records (id.Term tty) low) refl;
    rows = λ place few. rw (b.records (id.Row (24 * tty + place)) (omega arith)) refl;
  }

-- a device on which nothing was written is as its record says
silent_sound : (r : Records) (tty room : ℕ) (device : Device) → device ≡ silent_device room → ShowsScreen r tty blank_screen
    → IsOfDevice r tty device (silent_record tty)
unfolding screen_of
silent_sound r tty room device silent shown = rw silent (record { tape = record { counted = refl; base = omega arith; rows = shown }; display = refl })

silent_bytes : (device : Device) (steps room : ℕ) → device ≡ silent_device room → length device.tape ≤ 16 * steps
silent_bytes device steps room silent = rw silent (omega arith)

module _ (load : Load) (old new : PlantState) (b : IsMade load old new) where
  rest : rest_of new ≡ rest_of old
  rest = b.same_rest

  pub no_steps : new.steps ≡ 0
  no_steps = ap (λ (s : PlantState). s.steps) rest ∙ b.ready.no_steps

  idle : new.in_user ≡ false
  idle = ap (λ (s : PlantState). s.in_user) rest ∙ b.ready.in_kernel

  outside : new.in_trap ≡ false
  outside = ap (λ (s : PlantState). s.in_trap) rest ∙ b.ready.no_trap_runs

  device : (tty : ℕ) → tty_of new tty ≡ silent_device (16 * new.shape.budget)
  device tty =
      let budget : load.shape.budget ≡ new.shape.budget = sym (ap (λ (s : Shape). s.budget) (of_shape load old new b)) in
      let zeroth : new.tty0 ≡ silent_device (16 * new.shape.budget) =
      ap (λ (s : PlantState). s.tty0) rest ∙ b.ready.tty0 ∙ ap (λ (n : ℕ). silent_device (16 * n)) budget in
      let other : new.tty1 ≡ silent_device (16 * new.shape.budget) =
      ap (λ (s : PlantState). s.tty1) rest ∙ b.ready.tty1 ∙ ap (λ (n : ℕ). silent_device (16 * n)) budget in
      which zeroth other (tty == 0)
    where
      which : new.tty0 ≡ silent_device (16 * new.shape.budget) → new.tty1 ≡ silent_device (16 * new.shape.budget) → (zeroth : Bool)
          → (if zeroth then new.tty0 else new.tty1) ≡ silent_device (16 * new.shape.budget)
      which zeroth other true = zeroth
      which zeroth other false = other

  silent : (tty : ℕ) → tapes_of new tty ≡ []
  silent tty =
      tape (ap (λ (t : Device). t.tape) (device 0)) (ap (λ (t : Device). t.tape) (device 1)) (tty == 0) (tty == 1)
    where
      tape : new.tty0.tape ≡ [] → new.tty1.tape ≡ [] → (zeroth one : Bool)
          → (if zeroth then new.tty0.tape else if one then new.tty1.tape else []) ≡ []
      tape zeroth other true one = zeroth
      tape zeroth other false true = other
      tape zeroth other false false = refl

  is_booted : IsBooted (records_held new) load
  is_booted = booted load old new b

  is_held : IsHeldSound new
  is_held = record {
    armed = (last load old new b).armed;
    able = (last load old new b).able;
    shut = shut_gate new 1 (sym (booting_base new (last load old new b))) (last load old new b).shut;
    records = are_sound (records_held new) load b.is is_booted (are_values (map_of new) (words_of new.memory));
    on_terminals = are_on_terminals (records_held new) load b.is is_booted;
    in_built_calls = are_in_built_calls (records_held new) load b.is is_booted;
  }

  are_terminals : AreTerminalsSound new new.steps
  are_terminals = record {
    records = λ tty low.
        rw (is_booted.records (id.Term tty) low)
        (silent_sound (records_held new) tty (16 * new.shape.budget) (tty_of new tty) (device tty) (blank_shows (is_blank
        (records_held new) load b.is is_booted tty low)));
    bytes = λ tty low. silent_bytes (tty_of new tty) new.steps (16 * new.shape.budget) (device tty);
  }

  pub sound_booted : IsSound new
  sound_booted = record {
    held = is_held;
    no_trap_runs = outside;
    served = rw (is_booted.records id.Head tt, outside, (last load old new b).first) (omega arith);
    terminals = are_terminals;
    budget = omega (arith, no_steps);
    in_user = λ inside. absurd (cc (inside, idle));
  }

  pub started_booted : unix_at new ≡ start_of load
  unfolding unix_at
  started_booted =
      rw (idle, no_steps, (last load old new b).first)
      (unix_same (records_held new) (words_of new.memory) load b.is is_booted (words_booted load old new b) (tapes_of new) silent)

  pub same_booted : IsSameMachine old new
  same_booted = record {
    shape = ap (λ (s : PlantState). s.shape) rest;
    points = ap (λ (s : PlantState). s.points) rest;
    live = ap (λ (s : PlantState). s.live) rest;
    history = ap (λ (s : PlantState). s.history) rest;
    reviving = ap (λ (s : PlantState). s.reviving) rest;
  }
