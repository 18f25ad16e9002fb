-- Once a service is carried out the plant is sound again as the trap is left.
use Rattle.std.proofs.Common.{◌≡◌, ◌+◌, ◌*◌, ◌^◌, ◌<◌, ◌≤◌, ℕ, zero, suc, false, List, length, Option, Some, None, IfSome, refl, sym, ap, subst, ◌∙◌, arith}
use Rattle.ow_base.specs.Pages.{Pages, bytes_at}
use Rattle.phys_memory.specs.Memory.{words_of}
use Rattle.record_layouts.specs.declared.places.RecordId.TheVariants as id
use Rattle.record_layouts.specs.declared.head.HeadRec.{HeadRec}
use Rattle.record_layouts.specs.declared.proc.ProcRec.{ProcRec}
use Rattle.record_layouts.specs.declared.term.TermRec.{TermRec}
use Rattle.record_layouts.specs.declared.row.RowRec.{RowRec}
use Rattle.record_layouts.specs.declared.intent.Gate.TheVariants.{Closed}
use Rattle.record_layouts.specs.declared.patch.PatchItem.{PatchItem}
use Rattle.record_layouts.specs.Held.{AreValues, Held, Records, patched, with_items}
use Rattle.record_layouts.specs.Row.{FitsRow}
use Rattle.record_layouts.specs.Sound.{AreInBuiltCalls, AreOnTerminals, AreSound}
use Rattle.record_layouts.specs.Term.{FitsTerm}
use Rattle.record_layouts.specs.Values.{are_values}
use Rattle.address_space.specs.Spaces.{IsCopied, IsGrown, OnlyPrepares}
use Rattle.process_table.proofs.Descriptors.{on_terminals_stay}
use Rattle.syscalls.specs.Planned.{Planned, PlanFork, PlanGrow, PlanOnce, PlanPut, PlanWrite, items_in}
use Rattle.ow_plant.specs.State.{PlantState, left_trap, risen, tty_of, Device}
use Rattle.intent_store.specs.Live.{IsStanding, gate_held, held_of, map_of, records_held, rest_of}
use Rattle.kernel_traps.specs.Plants.{AreTerminalsSound, IsInTrap, IsOfDevice, IsSound}
use Rattle.kernel_traps.specs.Putting.{AreDrawn, IsPut, with_puts}
use Rattle.kernel_traps.specs.Carrying.{HasRoomFor, IsCarriedOut, bytes_of}
use Rattle.kernel_traps.specs.Ending.{EndsTrap, HasStep}
use Rattle.kernel_traps.proofs.Puts.{puts_beside}
use Rattle.kernel_traps.proofs.OfProcesses.{items_beside, same_rows, same_terms, shown_by}
use Rattle.kernel_traps.proofs.Preparing.{copied_as, grown_as, items_prepared, prepared_by, prepared_terminals, prepared_built_calls, prepares_as}
use Rattle.kernel_traps.proofs.ShownSound.{drawn_rows, drawn_terms, on_terminals_too, shown_sound, built_calls_too}
use Rattle.kernel_traps.proofs.Terminals.{few_bytes, of_device-same, of_devices}

-- what is written is short, and goes to a terminal that there is
abbrev pub IsShort : Planned → Type 0
IsShort (PlanOnce items) = Unit {0}
IsShort (PlanWrite tty from len items) = (tty < 2) × (len ≤ 16)
IsShort (PlanGrow count items) = Unit {0}
IsShort (PlanFork child items) = Unit {0}
IsShort (PlanPut address status items) = Unit {0}

pub length-bytes_at : (pages : Pages) (address count : ℕ) → length (bytes_at pages address count) ≡ count
unfolding bytes_at
length-bytes_at pages address zero = refl
length-bytes_at pages address (suc count) = ap suc (length-bytes_at pages (address + 1) count)

-- the parts of what becomes of a trap's records and terminals, while nothing else of the plant changes but words
pub record IsKept (s new : PlantState) : Type 0 where
  pub tty0 : Device
  pub tty1 : Device
  pub rest : rest_of new ≡ record (rest_of s) { tty0 = tty0; tty1 = tty1 }
  pub records : AreSound (records_held new)
  pub on_terminals : AreOnTerminals (records_held new)
  pub in_built_calls : AreInBuiltCalls (records_held new)
  pub terminals : AreTerminalsSound new s.steps
  pub head : HeadRec
  pub is_head : (records_held new).head ≡ Some head
  pub served : head.served ≡ s.traps

-- a plant whose records and terminals are so is sound as the trap is left
pub left_sound : (s new : PlantState) (steps : ℕ) → IsInTrap s steps → IsKept s new → IsStanding new → new.refusal ≡ None → gate_held new ≡ Closed
    → IsSound (left_trap new)
left_sound s new steps trap kept stands able shut =
    let same_steps : new.steps ≡ s.steps = ap (λ (p : PlantState). p.steps) kept.rest in
    let same_traps : new.traps ≡ s.traps = ap (λ (p : PlantState). p.traps) kept.rest in
    let same_budget : new.shape.budget ≡ s.shape.budget = ap (λ (p : PlantState). p.shape.budget) kept.rest in
    let in_kernel : new.in_user ≡ false = ap (λ (p : PlantState). p.in_user) kept.rest ∙ trap.in_kernel in
    let terminals : AreTerminalsSound new new.steps = subst (λ (n : ℕ). AreTerminalsSound new n) (sym same_steps) kept.terminals in
    record {
      held = record {
        armed = record { armed = stands.armed.armed; sized = stands.armed.sized; few_frames = stands.armed.few_frames };
        able = able;
        shut = shut;
        records = kept.records;
        on_terminals = kept.on_terminals;
        in_built_calls = kept.in_built_calls;
      };
      no_trap_runs = refl;
      served = subst (λ (held : Option HeadRec). IfSome held (λ head. head.served < risen new.traps)) (sym kept.is_head)
          (omega (arith, kept.served, same_traps, trap.fits));
      terminals = record { records = terminals.records; bytes = terminals.bytes };
      budget = omega (arith, same_steps, same_budget, trap.budget);
      in_user = λ inside. absurd (cc (inside, in_kernel));
    }

-- the records between the bytes and the patch are sound
between_sound : (r put : Records) (tty : ℕ) (bytes : List ℕ) → AreSound r → AreDrawn tty bytes r put
    → ((other : ℕ) → IfSome (put.terms other) FitsTerm) → ((i : ℕ) → IfSome (put.rows i) FitsRow) → AreSound (shown_by r put.terms put.rows)
between_sound r put tty bytes sound drawn terms rows = shown_sound r put.terms put.rows sound (record {
  terms_decode = drawn_terms tty bytes r put drawn sound.complete;
  rows_decode = drawn_rows tty bytes r put drawn sound.complete;
  terms_fit = terms;
  rows_fit = rows;
})

-- the terminals where neither their records nor the plant beside its words changed
pub terminals_kept : (s new : PlantState) (steps : ℕ) → IsInTrap s steps → rest_of new ≡ rest_of s
    → (records_held new).terms ≡ (records_held s).terms → (records_held new).rows ≡ (records_held s).rows → AreTerminalsSound new s.steps
terminals_kept s new steps trap rest terms rows =
    let r = records_held s in
    record {
      records = λ tty low. subst (λ (p : PlantState). IfSome ((records_held new).terms tty) (IsOfDevice (records_held new) tty (tty_of p tty))) (sym rest)
          (of_device-same r (records_held new) tty (tty_of s tty) (ap (λ (f : ℕ → Option TermRec). f tty) terms)
          (λ index within. ap (λ (f : ℕ → Option RowRec). f index) rows) (trap.terminals.records tty low));
      bytes = λ tty low.
          let was = trap.terminals.bytes tty low in
          subst (λ (p : PlantState). length (tty_of p tty).tape ≤ 16 * s.steps) (sym rest) (omega (arith, was, trap.counted));
    }

-- records that are set, and nothing else changes but words
set_kept : (s new : PlantState) (steps slot : ℕ) (plan : Planned) → IsInTrap s steps → EndsTrap (records_held s) slot s.traps plan
    → AreSound (with_items (records_held s) (items_in plan)) → records_held new ≡ with_items (records_held s) (items_in plan) → rest_of new ≡ rest_of s → IsKept s new
set_kept s new steps slot plan trap ends sound records rest =
    let r = records_held s in
    let items = items_in plan in
    let terms : (records_held new).terms ≡ r.terms = ap (λ (q : Records). q.terms) records ∙ same_terms r items ends.of_processes in
    let rows : (records_held new).rows ≡ r.rows = ap (λ (q : Records). q.rows) records ∙ same_rows r items ends.of_processes in
    record {
      tty0 = s.tty0;
      tty1 = s.tty1;
      rest = rest;
      records = subst AreSound (sym records) sound;
      on_terminals = subst AreOnTerminals (sym records) (on_terminals_stay r items ends.keeps_descriptors trap.held.on_terminals);
      in_built_calls = subst AreInBuiltCalls (sym records) ends.in_built_calls;
      terminals = terminals_kept s new steps trap rest terms rows;
      head = ends.head;
      is_head = ap (λ (q : Records). q.head) records ∙ ends.is_head;
      served = ends.served;
    }

-- the terminals behind the bytes
write_terminals : (s new : PlantState) (steps tty : ℕ) (bytes : List ℕ) (put : Records) → IsInTrap s steps → s.shape.budget ≤ 2000000 → steps < s.steps → tty < 2 → length bytes ≤ 16
    → AreDrawn tty bytes (records_held s) put → rest_of new ≡ with_puts (rest_of s) tty bytes
    → (records_held new).terms ≡ put.terms → (records_held new).rows ≡ put.rows → AreTerminalsSound new s.steps
write_terminals s new steps tty bytes put trap most step low short drawn rest terms rows =
    let was = trap.terminals.bytes tty low in
    let few : length (tty_of s tty).tape + length bytes < 2 ^ 32 = omega (arith, was, trap.counted, trap.budget, most) in
    let devices = of_devices (rest_of s) tty bytes (records_held s) put low drawn few trap.terminals.records in
    let counts = few_bytes (rest_of s) tty bytes steps s.steps low short step trap.terminals.bytes in
    record {
      records = λ other low_too. subst (λ (p : PlantState). IfSome ((records_held new).terms other) (IsOfDevice (records_held new) other (tty_of p other))) (sym rest)
          (of_device-same put (records_held new) other (tty_of (with_puts (rest_of s) tty bytes) other) (ap (λ (f : ℕ → Option TermRec). f other) terms)
          (λ index within. ap (λ (f : ℕ → Option RowRec). f index) rows) (devices other low_too));
      bytes = λ other low_too. subst (λ (p : PlantState). length (tty_of p other).tape ≤ 16 * s.steps) (sym rest) (counts other low_too);
    }

-- records that are set behind bytes
write_kept : (s new : PlantState) (steps slot tty from len : ℕ) (bytes : List ℕ) (items : List PatchItem) (put : Held PlantState)
    → IsInTrap s steps → s.shape.budget ≤ 2000000 → steps < s.steps → EndsTrap (records_held s) slot s.traps (PlanWrite tty from len items) → tty < 2 → length bytes ≤ 16
    → IsPut (held_of s) tty bytes bytes put → held_of new ≡ patched items put → IsKept s new
write_kept s new steps slot tty from len bytes items put trap most step ends low short is last =
    let r = records_held s in
    let of = ends.of_processes in
    let records : records_held new ≡ with_items put.records items = ap (λ (h : Held PlantState). h.records) last in
    let rest : rest_of new ≡ with_puts (rest_of s) tty bytes = ap (λ (h : Held PlantState). h.rest) last ∙ ap (λ (h : Held PlantState). h.rest) is.rest in
    let terms : (records_held new).terms ≡ put.records.terms = ap (λ (q : Records). q.terms) records ∙ same_terms put.records items of in
    let rows : (records_held new).rows ≡ put.records.rows = ap (λ (q : Records). q.rows) records ∙ same_rows put.records items of in
    let values : AreValues (records_held new) = are_values (map_of new) (words_of new.memory) in
    let between : put.records ≡ shown_by r put.records.terms put.records.rows = is.drawn.beside.rest in
    let now : records_held new ≡ with_items (shown_by r put.records.terms put.records.rows) items = records ∙ ap (λ (q : Records). with_items q items) between in
    let beside : records_held new ≡ shown_by (with_items r items) put.records.terms put.records.rows = now ∙ items_beside r put.records.terms put.records.rows items of in
    let sound : AreSound (shown_by r put.records.terms put.records.rows) =
    between_sound r put.records tty bytes trap.held.records is.drawn
    (λ other. subst (λ (f : ℕ → Option TermRec). IfSome (f other) FitsTerm) terms (values (id.Term other)))
    (λ i. subst (λ (f : ℕ → Option RowRec). IfSome (f i) FitsRow) rows (values (id.Row i))) in
    record {
      tty0 = (with_puts (rest_of s) tty bytes).tty0;
      tty1 = (with_puts (rest_of s) tty bytes).tty1;
      rest = rest ∙ puts_beside (rest_of s) tty bytes;
      records = subst AreSound (sym now) (ends.keeps_sound put.records.terms put.records.rows sound);
      on_terminals = subst AreOnTerminals (sym beside) (on_terminals_too (with_items r items) put.records.terms put.records.rows
          (on_terminals_stay r items ends.keeps_descriptors trap.held.on_terminals));
      in_built_calls = subst AreInBuiltCalls (sym beside) (built_calls_too (with_items r items) put.records.terms put.records.rows ends.in_built_calls);
      terminals = write_terminals s new steps tty bytes put.records trap most step low short is.drawn rest terms rows;
      head = ends.head;
      is_head = ap (λ (q : Records). q.head) beside ∙ ends.is_head;
      served = ends.served;
    }

-- records that are set behind pages that were prepared
prepared_kept : (s new : PlantState) (steps slot place : ℕ) (plan : Planned) (prepared : Held PlantState)
    → IsInTrap s steps → EndsTrap (records_held s) slot s.traps plan → OnlyPrepares place (held_of s) prepared
    → AreSound (with_items prepared.records (items_in plan)) → held_of new ≡ patched (items_in plan) prepared → IsKept s new
prepared_kept s new steps slot place plan prepared trap ends only sound last =
    let r = records_held s in
    let items = items_in plan in
    let of = ends.of_processes in
    let owners = prepared.records.owners in
    let tables = prepared.records.table_words in
    let rest : rest_of new ≡ rest_of s = ap (λ (h : Held PlantState). h.rest) last ∙ only.rest in
    let records : records_held new ≡ with_items prepared.records items = ap (λ (h : Held PlantState). h.records) last in
    let beside : records_held new ≡ prepared_by (with_items r items) owners tables =
    records ∙ (ap (λ (q : Records). with_items q items) only.records ∙ items_prepared r owners tables items) in
    let terms : (records_held new).terms ≡ r.terms = ap (λ (q : Records). q.terms) beside ∙ same_terms r items of in
    let rows : (records_held new).rows ≡ r.rows = ap (λ (q : Records). q.rows) beside ∙ same_rows r items of in
    record {
      tty0 = s.tty0;
      tty1 = s.tty1;
      rest = rest;
      records = subst AreSound (sym records) sound;
      on_terminals = subst AreOnTerminals (sym beside) (prepared_terminals (with_items r items) owners tables (on_terminals_stay r items ends.keeps_descriptors trap.held.on_terminals));
      in_built_calls = subst AreInBuiltCalls (sym beside) (prepared_built_calls (with_items r items) owners tables ends.in_built_calls);
      terminals = terminals_kept s new steps trap rest terms rows;
      head = ends.head;
      is_head = ap (λ (q : Records). q.head) beside ∙ ends.is_head;
      served = ends.served;
    }

grow_kept : (s new : PlantState) (steps slot count : ℕ) (items : List PatchItem) (prepared : Held PlantState)
    → IsInTrap s steps → EndsTrap (records_held s) slot s.traps (PlanGrow count items) → OnlyPrepares slot (held_of s) prepared
    → IfSome ((records_held s).procs slot) (IsGrown (held_of s) prepared slot count) → held_of new ≡ patched items prepared → IsKept s new
grow_kept s new steps slot count items prepared trap ends only grown last =
    let its = subst (λ (held : Option ProcRec). IfSome held (IsGrown (held_of s) prepared slot count)) ends.there grown in
    prepared_kept s new steps slot slot (PlanGrow count items) prepared trap ends only
    (ends.keeps_sound (held_of s).contents prepared.contents prepared.records (prepares_as slot (held_of s) prepared only)
    (grown_as slot (held_of s) prepared count ends.process its)) last

fork_kept : (s new : PlantState) (steps slot child : ℕ) (items : List PatchItem) (prepared : Held PlantState)
    → IsInTrap s steps → EndsTrap (records_held s) slot s.traps (PlanFork child items) → OnlyPrepares child (held_of s) prepared
    → IfSome ((records_held s).procs slot) (IsCopied (held_of s) prepared slot child) → held_of new ≡ patched items prepared → IsKept s new
fork_kept s new steps slot child items prepared trap ends only copied last =
    let its = subst (λ (held : Option ProcRec). IfSome held (IsCopied (held_of s) prepared slot child)) ends.there copied in
    prepared_kept s new steps slot child (PlanFork child items) prepared trap ends only
    (ends.keeps_sound (held_of s).contents prepared.contents prepared.records (prepares_as child (held_of s) prepared only)
    (copied_as slot child (held_of s) prepared ends.process its)) last

-- a service is carried out
pub kept : (s new : PlantState) (steps slot : ℕ) (plan : Planned) → IsInTrap s steps → s.shape.budget ≤ 2000000 → HasStep plan steps s.steps → EndsTrap (records_held s) slot s.traps plan → IsShort plan
    → IsCarriedOut s slot plan (held_of new) → IsKept s new
kept s new steps slot (PlanOnce items) trap most step ends short is =
    set_kept s new steps slot (PlanOnce items) trap ends ends.keeps_sound (ap (λ (h : Held PlantState). h.records) is) (ap (λ (h : Held PlantState). h.rest) is)
kept s new steps slot (PlanWrite tty from len items) trap most step ends (low, short) (put, is, last) =
    let bytes = bytes_of s slot from len in
    let long : length bytes ≡ len = length-bytes_at _ from len in
    write_kept s new steps slot tty from len bytes items put trap most step ends low (omega (arith, long, short)) is last
kept s new steps slot (PlanGrow count items) trap most step ends short (prepared, only, grown, last) =
    grow_kept s new steps slot count items prepared trap ends only grown last
kept s new steps slot (PlanFork child items) trap most step ends short (prepared, only, copied, last) =
    fork_kept s new steps slot child items prepared trap ends only copied last
kept s new steps slot (PlanPut address status items) trap most step ends short (put, is, last) =
    set_kept s new steps slot (PlanPut address status items) trap ends ends.keeps_sound
    (ap (λ (h : Held PlantState). h.records) last ∙ ap (λ (q : Records). with_items q items) is.records) (ap (λ (h : Held PlantState). h.rest) last ∙ is.rest)

-- and the trap is left
pub carried_sound : (s new : PlantState) (steps slot : ℕ) (plan : Planned) → IsInTrap s steps → s.shape.budget ≤ 2000000 → HasStep plan steps s.steps
    → EndsTrap (records_held s) slot s.traps plan → IsShort plan → IsCarriedOut s slot plan (held_of new)
    → new.refusal ≡ None → gate_held new ≡ Closed → IsStanding new → IsSound (left_trap new)
carried_sound s new steps slot plan trap most step ends short is able shut stands =
    left_sound s new steps trap (kept s new steps slot plan trap most step ends short is) stands able shut

-- the terminals have room for what a plan writes, as each has for 16 bytes in each step of the budget
pub has_room : (s : PlantState) (steps : ℕ) (plan : Planned) → IsInTrap s steps → HasStep plan steps s.steps
    → ((tty : ℕ) → tty < 2 → (tty_of s tty).room ≡ 16 * s.shape.budget) → HasRoomFor s plan
has_room s steps (PlanOnce items) trap step room = tt
has_room s steps (PlanWrite tty from len items) trap step room =
    record { each = λ tty low. omega (arith, trap.terminals.bytes tty low, room tty low, step, trap.budget) }
has_room s steps (PlanGrow count items) trap step room = tt
has_room s steps (PlanFork child items) trap step room = tt
has_room s steps (PlanPut address status items) trap step room = tt
