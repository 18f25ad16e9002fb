-- A turn of the process in user mode, on the plant and in the Unix.
use Rattle.std.proofs.Common.{◌≡◌, ℕ, ◌+◌, ◌^◌, ◌<◌, ◌≤◌, Bool, true, false, nat_lt, List, Option, Some, IfSome, MatchBool, refl, sym, ap, subst, ◌∙◌, arith}
use Rattle.ow_base.specs.Pages.{Pages, page_space}
use Rattle.ow_base.specs.Sv32.{pages_by}
use Rattle.ow_base.specs.Words.{updated}
use Rattle.ow_base.specs.UserStep.{Stepped, Next, Call, Faulted, user_step}
use Rattle.ow_base.specs.declared.machine.Bank.{Bank}
use Rattle.ow_base.proofs.Simulations.{Follows}
use Rattle.phys_memory.specs.Memory.{MemoryParts, words_of}
use Rattle.sv32_tables.specs.Spaces.{IsMapped, Mapping, satp_of}
use Rattle.sv32_tables.proofs.Spaces.{IsSpaceOf, steps_follow}
use Rattle.record_layouts.specs.declared.proc.ProcRec.{ProcRec}
use Rattle.record_layouts.specs.Unix.Choice.{no_keys}
use Rattle.record_layouts.specs.Decode.{Context, InUser, process_of, processes_of, unix_of}
use Rattle.record_layouts.specs.Held.{Records}
use Rattle.record_layouts.specs.Pages.{pages_of, table_frame}
use Rattle.record_layouts.specs.Proc.{FitsProc}
use Rattle.record_layouts.specs.Reading.{records_in, records_of}
use Rattle.record_layouts.specs.Sound.{AreInBuiltCalls, AreOnTerminals, AreSound, IsIn}
use Rattle.record_layouts.specs.SoundImages.{IsServedBefore}
use Rattle.record_layouts.specs.Unix.Turn.{step_of, stepped, turn_at, user_turn}
use Rattle.record_layouts.specs.Unix.State.{AtUser, Process, Unix}
use Rattle.record_layouts.specs.Memory.{AreOfMemory}
use Rattle.frame_table.specs.Maps.{map_of as pages_map}
use Rattle.frame_table.proofs.Counting.{fits_there}
use Rattle.frame_table.proofs.Found.{frame_found}
use Rattle.frame_table.proofs.Tables.{map_tells, pages_by_tables, pages_same, tables_mapped}
use Rattle.syscalls.proofs.Becoming.{caller_decodes}
use Rattle.ow_plant.specs.State.{PlantState, Seen, StepsAs, TakesUserTurn, now_of, risen, seen_by, seen_space, tty_of}
use Rattle.ow_plant.specs.declared.UserEnd.{UserEnd}
use Rattle.ow_plant.specs.declared.UserEnd.TheVariants as end
use Rattle.ow_plant.proofs.Programs.{root_seen, with_seen, words_seen}
use Rattle.intent_store.specs.Live.{map_of, records_held}
use Rattle.ow_plant.specs.Images.{tapes_of}
use Rattle.kernel_traps.specs.Plants.{IsOfDevice, IsRunning, IsSound, context_of, unix_at}
use Rattle.kernel_traps.specs.User.{IsInUser, IsStepped, IsTurnOf, IsUserTurn}
use Rattle.kernel_traps.proofs.Causes.{fault_status}
use Rattle.kernel_traps.proofs.Isolated.{IsKept, gate_stays, kept_first, sets_kept}
use Rattle.intent_store.specs.OfMemory.{of_memory}
use Rattle.kernel_traps.proofs.Stepping.{processes_now, stepped_to, unix_with}
use Rattle.kernel_traps.proofs.UnixBy.{unix_by, unix_is}

-- the plant after an instruction
abbrev after_step : PlantState → MemoryParts → (satp : ℕ) → Bank → PlantState
after_step s memory satp bank = record s { memory = memory; satp = satp; bank = bank; slice = s.slice + 1; steps = risen s.steps }

module _ (s : PlantState) (sound : IsSound s) (in_user : s.in_user ≡ true) (slot : ℕ) (its : ProcRec) (runs : IsRunning s slot its) where
  -- the root of the process's tables, and where its pages lie
  abbrev root : ℕ
  root = (records_held s).map.area_base + table_frame slot 0

  abbrev its_map : ℕ → Option Mapping
  its_map = pages_map (records_held s) slot its

  -- the process in the Unix
  abbrev in_unix : Process
  in_unix = record (process_of (records_held s) (words_of s.memory) slot its) { bank = s.bank }

  -- and with these registers and pages
  abbrev in_unix_with : Bank → Pages → Process
  in_unix_with bank pages = record in_unix { bank = bank; pages = pages }

  fits : FitsProc its
  fits = fits_there (records_held s) slot its sound.held.records.values runs.there.there

  of : AreOfMemory (records_held s) (words_of s.memory)
  of = of_memory s sound.held.armed

  behind : (page : ℕ) (mapping : Mapping) → its_map page ≡ Some mapping → (map_of s).pool_base ≤ mapping.frame
  unfolding records_of records_in
  behind page mapping e = (frame_found (records_held s) slot its page mapping.frame (map_tells (records_held s) slot its page mapping e).0).of_users

  in_mode : context_of s ≡ InUser s.user_pid s.slice s.bank
  in_mode = rw in_user refl

  live : (unix_at s).processes s.user_pid ≡ Some in_unix
  unfolding unix_at unix_of
  live =
      let user = InUser s.user_pid s.slice s.bank in
      ap (λ (c : Context). processes_of (records_held s) (words_of s.memory) c s.user_pid) in_mode
      ∙ subst (λ (pid : ℕ). processes_of (records_held s) (words_of s.memory) user pid ≡ Some in_unix) runs.pid
      (caller_decodes (records_held s) (words_of s.memory) user slot its sound.held.records runs.there (sym runs.pid))

  -- the state of the Unix by its processes
  unix_before : unix_at s
      ≡ unix_by (records_held s) (tapes_of s) (processes_of (records_held s) (words_of s.memory) (InUser s.user_pid s.slice s.bank)) s.user_pid s.steps s.traps
      (AtUser s.user_pid s.slice)
  unfolding unix_at
  unix_before =
      ap (λ (c : Context). unix_of (records_held s) (words_of s.memory) (tapes_of s) c s.steps s.traps) in_mode
      ∙ unix_is (records_held s) (words_of s.memory) (tapes_of s) (InUser s.user_pid s.slice s.bank) s.steps s.traps

  is_in_user : IsInUser s in_unix
  is_in_user = record { slot = slot; its = its; runs = runs; live = live }

  -- what a step through the tables came to is what it comes to on pages, and it leaves the program's memory
  abbrev ComesTo : Stepped Seen → Stepped Pages → Type 0
  ComesTo made paged = Follows (IsSpaceOf words_seen root_seen with_seen (IsKept s its_map) root its_map) seen_space page_space made paged

  -- the step on the tables is that of the process in the Unix
  steps_alike : s.bank.pc < 2 ^ 32 → ComesTo (user_step seen_space s.bank.regs s.bank.pc (seen_by s)) (step_of in_unix)
  unfolding seen_space step_of process_of
  steps_alike small =
      let r = records_held s in
      let words = words_of s.memory in
      let tables = sound.held.records.mapped in
      let mapped : IsMapped words root its_map = tables_mapped r slot its runs.there tables words of fits in
      let pages : pages_by words s.satp ≡ pages_of r words slot its = ap (pages_by words) runs.root ∙ pages_by_tables r slot its runs.there tables words of fits in
      let sets = sets_kept s its_map sound.held.armed.few_frames behind in
      let first = kept_first s its_map sound.held.armed.sized in
      subst (λ (p : Pages). ComesTo (user_step seen_space s.bank.regs s.bank.pc (seen_by s)) (user_step page_space s.bank.regs s.bank.pc p)) pages
      (steps_follow words_seen root_seen with_seen (IsKept s its_map) sets (seen_by s) s.bank.regs s.bank.pc first mapped runs.root small)

  module _ (memory : MemoryParts) (satp : ℕ) (bank : Bank)
      (kept : IsKept s its_map (record { memory = memory; satp = satp })) (left : s.steps < s.shape.budget) (most : s.shape.budget ≤ 2000000) where
    abbrev now : PlantState
    now = after_step s memory satp bank

    one_more : risen s.steps ≡ s.steps + 1
    one_more = omega (arith, left, most)

    by_records : (P : Records → Type 0) → P (records_held s) → P (records_held now)
    by_records P is = subst P (sym kept.records) is

    sound_now : satp ≡ satp_of root → IsSound now
    unfolding records_of records_in
    sound_now on = record {
      held = record {
        armed = record { armed = sound.held.armed.armed; sized = kept.sized; few_frames = sound.held.armed.few_frames };
        able = sound.held.able;
        shut = gate_stays s now its_map behind sound.held.shut kept.beside refl;
        records = by_records AreSound sound.held.records;
        on_terminals = by_records AreOnTerminals sound.held.on_terminals;
        in_built_calls = by_records AreInBuiltCalls sound.held.in_built_calls;
      };
      no_trap_runs = sound.no_trap_runs;
      served = by_records (λ (r : Records). IsServedBefore r (now_of s).trap) sound.served;
      terminals = record {
        records = λ tty low. by_records (λ (r : Records). IfSome (r.terms tty) (IsOfDevice r tty (tty_of s tty))) (sound.terminals.records tty low);
        bytes = λ tty low. omega (arith, one_more, sound.terminals.bytes tty low);
      };
      budget = omega (arith, one_more, left);
      in_user = λ still. (
        slot,
        its,
        record {
          there = by_records (λ (r : Records). IsIn r slot its) runs.there;
          pid = runs.pid;
          outside = runs.outside;
          root = on;
        },
      );
    }

    -- the processes are those before with this one in its place
    processes_then : (pages : Pages) → pages ≡ pages_of (records_held s) (words_of memory) slot its
        → processes_of (records_held s) (words_of memory) (InUser s.user_pid (s.slice + 1) bank)
        ≡ updated (processes_of (records_held s) (words_of s.memory) (InUser s.user_pid s.slice s.bank)) s.user_pid (Some (in_unix_with bank pages))
    processes_then pages same =
        λ i q. processes_now (records_held s) (words_of s.memory) (words_of memory) slot its sound.held.records runs.there kept.beside
        s.user_pid s.slice (s.slice + 1) s.bank bank pages (sym runs.pid) same q i

    -- what the plant then stands for
    unix_now : (pages : Pages) → pages ≡ pages_of (records_held s) (words_of memory) slot its
        → unix_at now ≡ stepped_to (unix_at s) s.user_pid s.slice (in_unix_with bank pages)
    unfolding unix_at
    unix_now pages same =
        let r = records_held s in
        let tapes = tapes_of s in
        let pid = s.user_pid in
        let later = InUser pid (s.slice + 1) bank in
        let ps = processes_of r (words_of s.memory) (InUser pid s.slice s.bank) in
        let new : Process = in_unix_with bank pages in
        let mode : context_of now ≡ later = rw in_user refl in
        let at_user : ps pid ≡ Some in_unix = ap (λ (u : Unix). u.processes pid) (sym unix_before) ∙ live in
        (λ i. unix_of (kept.records i) (words_of memory) tapes (mode i) (one_more i) s.traps)
        ∙ (unix_is r (words_of memory) tapes later (s.steps + 1) s.traps
        ∙ (ap (λ (f : ℕ → Option Process). unix_by r tapes f pid (s.steps + 1) s.traps (AtUser pid (s.slice + 1))) (processes_then pages same)
        ∙ (unix_with r tapes ps pid pid s.steps s.traps s.slice in_unix new at_user refl
        ∙ ap (λ (u : Unix). stepped_to u pid s.slice new) (sym unix_before))))

  -- the turn of the Unix where an instruction is made
  turn_made : (regs : List ℕ) (pc : ℕ) (pages : Pages) → nat_lt s.slice s.shape.quantum ≡ true → step_of in_unix ≡ Next regs pc pages
      → turn_at no_keys s.shape.quantum (unix_at s) (AtUser s.user_pid s.slice)
      ≡ stepped_to (unix_at s) s.user_pid s.slice (in_unix_with (record { pc = pc; regs = regs }) pages)
  unfolding turn_at user_turn stepped
  turn_made regs pc pages going step = ap (user_turn s.shape.quantum (unix_at s) s.user_pid s.slice) live ∙ rw (going, step) refl

  -- an instruction is made
  stepped_is : (memory : MemoryParts) (satp : ℕ) (regs : List ℕ) (pc : ℕ) (pages : Pages) → s.steps < s.shape.budget → s.shape.budget ≤ 2000000
      → nat_lt s.slice s.shape.quantum ≡ true → step_of in_unix ≡ Next regs pc pages
      → IsSpaceOf words_seen root_seen with_seen (IsKept s its_map) root its_map (record { memory = memory; satp = satp }) pages
      → IsStepped s (after_step s memory satp (record { pc = pc; regs = regs }))
  stepped_is memory satp regs pc pages left most going step is =
      let bank : Bank = record { pc = pc; regs = regs } in
      let same : pages ≡ pages_of (records_held s) (words_of memory) slot its =
      is.holds ∙ pages_same (records_held s) slot its (sound.held.records.mapped.mapped slot its runs.there) (words_of memory) in
      record {
        sound = sound_now memory satp bank is.fits left most is.on;
        turn = unix_now memory satp bank is.fits left most pages same ∙ sym (turn_made regs pc pages going step);
        steps = one_more memory satp bank is.fits left most;
        traps = refl;
        same = record { shape = refl; points = refl; live = refl; history = refl; reviving = refl };
      }

  by_step : (new : PlantState) (result : UserEnd) (made : Stepped Seen) (paged : Stepped Pages) → s.steps < s.shape.budget → s.shape.budget ≤ 2000000
      → nat_lt s.slice s.shape.quantum ≡ true → step_of in_unix ≡ paged → ComesTo made paged → StepsAs s new result made → IsTurnOf s in_unix new result
  by_step new result (Next regs pc seen) paged left most going step follows m =
      rw m.0 (subst (λ (t : PlantState). IsStepped s t) (sym m.1) (stepped_is seen.memory seen.satp regs pc follows.0 left most going (step ∙ follows.1) follows.2))
  by_step new result Call paged left most going step follows m = rw m.0 (m.1, going, step ∙ follows)
  by_step new result (Faulted fault) paged left most going step follows m = rw m.0 (m.1, going, step ∙ follows, fault_status in_unix fault (step ∙ follows))

  by_test : (new : PlantState) (result : UserEnd) (going : Bool) (made : Stepped Seen) (paged : Stepped Pages) → s.steps < s.shape.budget → s.shape.budget ≤ 2000000
      → nat_lt s.slice s.shape.quantum ≡ going → step_of in_unix ≡ paged → ComesTo made paged
      → MatchBool going (StepsAs s new result made) ((result ≡ end.Slice) × (new ≡ s)) → IsTurnOf s in_unix new result
  by_test new result true made paged left most going step follows m = by_step new result made paged left most going step follows m
  by_test new result false made paged left most going step follows m = rw m.0 (m.1, going)

  in_slot : (new : PlantState) (result : UserEnd) → s.steps < s.shape.budget → s.shape.budget ≤ 2000000 → s.bank.pc < 2 ^ 32 → TakesUserTurn s new result → IsUserTurn s new result
  in_slot new result left most small taken =
      let made = user_step seen_space s.bank.regs s.bank.pc (seen_by s) in
      let turn = by_test new result (nat_lt s.slice s.shape.quantum) made (step_of in_unix) left most refl refl (steps_alike small) taken in
      (in_unix, is_in_user, turn)

-- a turn in user mode on the plant is one of the Unix
pub takes_turn : (s new : PlantState) (result : UserEnd) → IsSound s → s.in_user ≡ true → s.steps < s.shape.budget → s.shape.budget ≤ 2000000 → s.bank.pc < 2 ^ 32
    → TakesUserTurn s new result → IsUserTurn s new result
takes_turn s new result sound in_user left most small taken =
    let found = sound.in_user in_user in
    in_slot s sound in_user found.0 found.1 found.2 new result left most small taken
