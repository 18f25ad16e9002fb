-- What is left of what was held when a trap with a plan was refused a store, or its end: records are sound, and terminals
-- but for a last byte that is not out.
use Rattle.std.proofs.Common.{◌≡◌, ◌∙◌, ◌+◌, ◌^◌, ◌<◌, ◌≤◌, ℕ, List, length, take, Option, Some, None, IfSome, inl, inr, refl, sym, ap, subst, arith}
use Rattle.std.proofs.lemmas.List.{length-take}
use Rattle.address_space.specs.Spaces.{OnlyPrepares}
use Rattle.phys_memory.specs.Memory.{words_of}
use Rattle.record_layouts.specs.declared.head.HeadRec.{HeadRec}
use Rattle.record_layouts.specs.declared.places.RecordId.TheVariants as id
use Rattle.record_layouts.specs.Decode.{tape_by}
use Rattle.record_layouts.specs.Held.{AreValues, Held, Records}
use Rattle.record_layouts.specs.Sound.{AreInBuiltCalls, AreOnTerminals, AreSound}
use Rattle.record_layouts.specs.SoundImages.{AreOfTapes, IsServedBefore}
use Rattle.record_layouts.specs.Values.{are_values}
use Rattle.syscalls.specs.Planned.{Planned, PlanFork, PlanGrow, PlanOnce, PlanPut, PlanWrite}
use Rattle.ow_plant.specs.Images.{AreFronts, tapes_of}
use Rattle.ow_plant.specs.State.{PlantState, tty_of, Device}
use Rattle.intent_store.specs.Live.{held_of, map_of, records_held, rest_of}
use Rattle.kernel_traps.specs.Carrying.{IsCarriedOut, MayBeLeft, bytes_of}
use Rattle.kernel_traps.specs.Ending.{EndsTrap, HasStep, MayBeLeftOfPlan}
use Rattle.kernel_traps.specs.Plants.{IsInTrap}
use Rattle.kernel_traps.specs.Putting.{IsPut, with_puts}
use Rattle.kernel_traps.proofs.Carried.{IsKept, IsShort, kept, length-bytes_at, terminals_kept}
use Rattle.kernel_traps.proofs.LeftSoundTapes.{AreOutByOne, devices_decoded, fronts_put, fronts_same, out_by_one, puts_decoded, tapes_decoded}
use Rattle.kernel_traps.proofs.OfProcesses.{shown_by}
use Rattle.kernel_traps.proofs.Preparing.{AreSoundLeft, prepared_left_sound, prepared_terminals, prepared_built_calls, sound_left}
use Rattle.kernel_traps.proofs.Puts.{puts_beside}
use Rattle.kernel_traps.proofs.ShownSound.{AreShown, drawn_rows, drawn_terms, on_terminals_too, shown_sound, built_calls_too}
use Rattle.kernel_traps.proofs.Terminals.{few_bytes, of_devices}

-- what is left: nothing changes beside records, words and terminals, of which the tapes only grow
pub record IsHeldLeft (old new : Held PlantState) : Type 0 where
  pub tty0 : Device
  pub tty1 : Device
  pub rest : new.rest ≡ record old.rest { tty0 = tty0; tty1 = tty1 }
  pub fronts : AreFronts old.rest new.rest
  pub records : AreSoundLeft new.records
  pub on_terminals : AreOnTerminals new.records
  pub in_built_calls : AreInBuiltCalls new.records
  pub served : IsServedBefore new.records (old.rest.traps + 1)
  pub terminals : AreOfTapes new.records (λ tty terminal. tape_by (tapes_of new.rest tty) terminal) old.rest.steps

served_too : (held : Option HeadRec) (trap : ℕ) → IfSome held (λ head. head.served < trap) → IfSome held (λ head. head.served < trap + 1)
served_too (Some head) trap before = omega (arith, before)
served_too None trap before = tt

-- no record changes, and nothing else but words
left_words : (s new : PlantState) (steps : ℕ) → IsInTrap s steps → records_held new ≡ records_held s → rest_of new ≡ rest_of s → IsHeldLeft (held_of s) (held_of new)
left_words s new steps trap records rest =
    let still = terminals_kept s new steps trap rest (ap (λ (q : Records). q.terms) records) (ap (λ (q : Records). q.rows) records) in
    record {
      tty0 = s.tty0;
      tty1 = s.tty1;
      rest = rest;
      fronts = subst (λ (p : PlantState). AreFronts (rest_of s) p) (sym rest) (fronts_same (rest_of s));
      records = subst AreSoundLeft (sym records) (sound_left (records_held s) trap.held.records);
      on_terminals = subst AreOnTerminals (sym records) trap.held.on_terminals;
      in_built_calls = subst AreInBuiltCalls (sym records) trap.held.in_built_calls;
      served = subst (λ (q : Records). IfSome q.head (λ head. head.served < s.traps + 1)) (sym records) (served_too (records_held s).head s.traps trap.served);
      terminals = tapes_decoded (rest_of new) (records_held new) (λ tty. (tty_of new tty).tape) s.steps
          (devices_decoded (rest_of new) (records_held new) still.records) still.bytes;
    }

-- pages are prepared, which no record counts
left_prepared : (s new : PlantState) (steps slot : ℕ) → IsInTrap s steps → OnlyPrepares slot (held_of s) (held_of new) → IsHeldLeft (held_of s) (held_of new)
left_prepared s new steps slot trap only =
    let r = records_held s in
    let owners = (records_held new).owners in
    let tables = (records_held new).table_words in
    let still = terminals_kept s new steps trap only.rest (ap (λ (q : Records). q.terms) only.records) (ap (λ (q : Records). q.rows) only.records) in
    record {
      tty0 = s.tty0;
      tty1 = s.tty1;
      rest = only.rest;
      fronts = subst (λ (p : PlantState). AreFronts (rest_of s) p) (sym only.rest) (fronts_same (rest_of s));
      records = prepared_left_sound slot (held_of s) (held_of new) only trap.held.records;
      on_terminals = subst AreOnTerminals (sym only.records) (prepared_terminals r owners tables trap.held.on_terminals);
      in_built_calls = subst AreInBuiltCalls (sym only.records) (prepared_built_calls r owners tables trap.held.in_built_calls);
      served = subst (λ (held : Option HeadRec). IfSome held (λ head. head.served < s.traps + 1)) (sym (ap (λ (q : Records). q.head) only.records)) (served_too r.head s.traps trap.served);
      terminals = tapes_decoded (rest_of new) (records_held new) (λ tty. (tty_of new tty).tape) s.steps
          (devices_decoded (rest_of new) (records_held new) still.records) still.bytes;
    }

-- all was done
carried_fronts : (s new : PlantState) (slot : ℕ) (plan : Planned) → IsCarriedOut s slot plan (held_of new) → AreFronts (rest_of s) (rest_of new)
carried_fronts s new slot (PlanOnce items) is =
    subst (λ (p : PlantState). AreFronts (rest_of s) p) (sym (ap (λ (h : Held PlantState). h.rest) is)) (fronts_same (rest_of s))
carried_fronts s new slot (PlanWrite tty from len items) (put, is, last) =
    let rest : rest_of new ≡ with_puts (rest_of s) tty (bytes_of s slot from len) =
    ap (λ (h : Held PlantState). h.rest) last ∙ ap (λ (h : Held PlantState). h.rest) is.rest in
    subst (λ (p : PlantState). AreFronts (rest_of s) p) (sym rest) (fronts_put (rest_of s) tty (bytes_of s slot from len))
carried_fronts s new slot (PlanGrow count items) (prepared, only, grown, last) =
    subst (λ (p : PlantState). AreFronts (rest_of s) p) (sym (ap (λ (h : Held PlantState). h.rest) last ∙ only.rest)) (fronts_same (rest_of s))
carried_fronts s new slot (PlanFork child items) (prepared, only, copied, last) =
    subst (λ (p : PlantState). AreFronts (rest_of s) p) (sym (ap (λ (h : Held PlantState). h.rest) last ∙ only.rest)) (fronts_same (rest_of s))
carried_fronts s new slot (PlanPut address status items) (put, is, last) =
    subst (λ (p : PlantState). AreFronts (rest_of s) p) (sym (ap (λ (h : Held PlantState). h.rest) last ∙ is.rest)) (fronts_same (rest_of s))

left_kept : (s new : PlantState) → IsKept s new → AreFronts (rest_of s) (rest_of new) → IsHeldLeft (held_of s) (held_of new)
left_kept s new all fronts = record {
  tty0 = all.tty0;
  tty1 = all.tty1;
  rest = all.rest;
  fronts = fronts;
  records = sound_left (records_held new) all.records;
  on_terminals = all.on_terminals;
  in_built_calls = all.in_built_calls;
  served = subst (λ (held : Option HeadRec). IfSome held (λ head. head.served < s.traps + 1)) (sym all.is_head) (omega (arith, all.served));
  terminals = tapes_decoded (rest_of new) (records_held new) (λ tty. (tty_of new tty).tape) s.steps
      (devices_decoded (rest_of new) (records_held new) all.terminals.records) all.terminals.bytes;
}

-- bytes were counted, and are out but for the last of them
module _ (s new : PlantState) (steps tty : ℕ) (counted out : List ℕ) (trap : IsInTrap s steps) (most : s.shape.budget ≤ 2000000) (step : steps < s.steps) (low : tty < 2)
    (short : length counted ≤ 16) (outs : AreOutByOne counted out) (is : IsPut (held_of s) tty counted out (held_of new)) where
  abbrev before : Records
  before = records_held s

  abbrev after : Records
  after = records_held new

  put_rest : rest_of new ≡ with_puts (rest_of s) tty out
  put_rest = ap (λ (h : Held PlantState). h.rest) is.rest

  put_records : after ≡ shown_by before after.terms after.rows
  put_records = is.drawn.beside.rest

  put_shown : AreShown after.terms after.rows
  put_shown =
      let values : AreValues after = are_values (map_of new) (words_of new.memory) in
      record {
        terms_decode = drawn_terms tty counted before after is.drawn trap.held.records.complete;
        rows_decode = drawn_rows tty counted before after is.drawn trap.held.records.complete;
        terms_fit = λ other. values (id.Term other);
        rows_fit = λ i. values (id.Row i);
      }

  put_tapes : AreOfTapes after (λ tty terminal. tape_by (tapes_of (rest_of new) tty) terminal) s.steps
  put_tapes =
      let was = trap.terminals.bytes tty low in
      let few : length (tty_of s tty).tape + length counted < 2 ^ 32 = omega (arith, was, trap.counted, trap.budget, most, short) in
      let devices = of_devices (rest_of s) tty counted before after low is.drawn few trap.terminals.records in
      let counts = few_bytes (rest_of s) tty counted steps s.steps low short step trap.terminals.bytes in
      let decoded = puts_decoded (rest_of s) tty counted out after (before.terms tty) low outs is.drawn.counted devices in
      subst (λ (p : PlantState). AreOfTapes after (λ tty terminal. tape_by (tapes_of p tty) terminal) s.steps) (sym put_rest)
      (tapes_decoded (with_puts (rest_of s) tty out) after (λ other. (tty_of (with_puts (rest_of s) tty counted) other).tape) s.steps decoded counts)

  left_put : IsHeldLeft (held_of s) (held_of new)
  left_put = record {
    tty0 = (with_puts (rest_of s) tty out).tty0;
    tty1 = (with_puts (rest_of s) tty out).tty1;
    rest = put_rest ∙ puts_beside (rest_of s) tty out;
    fronts = subst (λ (p : PlantState). AreFronts (rest_of s) p) (sym put_rest) (fronts_put (rest_of s) tty out);
    records = sound_left after (subst AreSound (sym put_records) (shown_sound before after.terms after.rows trap.held.records put_shown));
    on_terminals = subst AreOnTerminals (sym put_records) (on_terminals_too before after.terms after.rows trap.held.on_terminals);
    in_built_calls = subst AreInBuiltCalls (sym put_records) (built_calls_too before after.terms after.rows trap.held.in_built_calls);
    served = subst (λ (held : Option HeadRec). IfSome held (λ head. head.served < s.traps + 1)) (sym (ap (λ (q : Records). q.head) put_records))
        (served_too before.head s.traps trap.served);
    terminals = put_tapes;
  }

-- a trap with its plan
module _ (s new : PlantState) (steps slot : ℕ) (trap : IsInTrap s steps) (most : s.shape.budget ≤ 2000000) where
  left_carried : (plan : Planned) → HasStep plan steps s.steps → EndsTrap (records_held s) slot s.traps plan → IsShort plan → IsCarriedOut s slot plan (held_of new)
      → IsHeldLeft (held_of s) (held_of new)
  left_carried plan step ends short is = left_kept s new (kept s new steps slot plan trap most step ends short is) (carried_fronts s new slot plan is)

  left_partly : (plan : Planned) → HasStep plan steps s.steps → EndsTrap (records_held s) slot s.traps plan → IsShort plan → MayBeLeft s slot plan (held_of new)
      → IsHeldLeft (held_of s) (held_of new)
  left_partly (PlanOnce items) step ends short (inl same) =
      left_words s new steps trap (ap (λ (h : Held PlantState). h.records) same) (ap (λ (h : Held PlantState). h.rest) same)
  left_partly (PlanOnce items) step ends short (inr set) = left_carried (PlanOnce items) step ends short set
  left_partly (PlanWrite tty from len items) step ends (low, few) (inl (count, within, inl put)) =
      let bytes = bytes_of s slot from len in
      let long : length bytes ≡ len = length-bytes_at _ from len in
      left_put s new steps tty (take count bytes) (take count bytes) trap most step low (omega (arith, length-take count bytes, long, few)) (inl refl) put
  left_partly (PlanWrite tty from len items) step ends (low, few) (inl (count, within, inr put)) =
      let bytes = bytes_of s slot from len in
      let long : length bytes ≡ len = length-bytes_at _ from len in
      left_put s new steps tty (take (count + 1) bytes) (take count bytes) trap most step low (omega (arith, length-take (count + 1) bytes, long, few))
      (out_by_one bytes count within) put
  left_partly (PlanWrite tty from len items) step ends (low, few) (inr (inl put)) =
      let bytes = bytes_of s slot from len in
      let long : length bytes ≡ len = length-bytes_at _ from len in
      left_put s new steps tty bytes bytes trap most step low (omega (arith, long, few)) (inl refl) put
  left_partly (PlanWrite tty from len items) step ends short (inr (inr written)) = left_carried (PlanWrite tty from len items) step ends short written
  left_partly (PlanGrow count items) step ends short (inl only) = left_prepared s new steps slot trap only
  left_partly (PlanGrow count items) step ends short (inr grown) = left_carried (PlanGrow count items) step ends short grown
  left_partly (PlanFork child items) step ends short (inl only) = left_prepared s new steps child trap only
  left_partly (PlanFork child items) step ends short (inr forked) = left_carried (PlanFork child items) step ends short forked
  left_partly (PlanPut address status items) step ends short (inl same) =
      left_words s new steps trap (ap (λ (h : Held PlantState). h.records) same) (ap (λ (h : Held PlantState). h.rest) same)
  left_partly (PlanPut address status items) step ends short (inr (inl put)) = left_words s new steps trap put.records put.rest
  left_partly (PlanPut address status items) step ends short (inr (inr waited)) = left_carried (PlanPut address status items) step ends short waited

  pub left_of_plan : (plan : Planned) → HasStep plan steps s.steps → EndsTrap (records_held s) slot s.traps plan → IsShort plan → MayBeLeftOfPlan s slot plan new
      → IsHeldLeft (held_of s) (held_of new)
  left_of_plan plan step ends short (inl (refused, left)) = left_partly plan step ends short left
  left_of_plan plan step ends short (inr (refused, all)) = left_carried plan step ends short all
