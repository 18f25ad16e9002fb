-- What is left of a trap that was refused a store, or its end, stands for a state that the Unix may leave: nothing of the
-- trap is done, a part of its bytes is put, or it is done.
use Rattle.std.proofs.Common.{◌≡◌, ◌∙◌, ◌+◌, ◌^◌, ◌<◌, ◌≤◌, ℕ, List, ◌++◌, length, take, Option, Some, inl, inr, refl, sym, ap, subst, arith}
use Rattle.std.proofs.lemmas.Bool.{cases_lt}
use Rattle.std.proofs.lemmas.List.{length-take}
use Rattle.dead_reader.specs.Left.{told_by as told_left}
use Rattle.ow_base.specs.Pages.{Pages, bytes_at}
use Rattle.ow_base.specs.Words.{updated}
use Rattle.phys_memory.specs.Memory.{words_of}
use Rattle.record_layouts.specs.declared.patch.PatchItem.{PatchItem}
use Rattle.record_layouts.specs.declared.proc.ProcRec.{ProcRec}
use Rattle.record_layouts.specs.declared.term.TermRec.{TermRec}
use Rattle.record_layouts.specs.declared.traps.Trap.{Trap}
use Rattle.record_layouts.specs.Decode.{terminal_by, unix_of}
use Rattle.record_layouts.specs.Held.{Held, Records, with_items}
use Rattle.record_layouts.specs.Pages.{pages_of}
use Rattle.record_layouts.specs.Unix.Broken.{IsBrokenFrom, IsDone, IsPartlyPut, IsUndone, done_of, undone_of}
use Rattle.record_layouts.specs.Unix.Calls.{with_tape, written_on}
use Rattle.record_layouts.specs.Unix.State.{Terminal, Unix}
use Rattle.record_layouts.specs.Unix.Traps.{after_trap}
use Rattle.process_table.proofs.Kept.{set_here, set_other}
use Rattle.syscalls.specs.Done.{AreCountedBy, AreWritten}
use Rattle.syscalls.specs.Planned.{Planned, PlanFork, PlanGrow, PlanOnce, PlanPut, PlanWrite, pages_if}
use Rattle.syscalls.proofs.Written.{terminals_then}
use Rattle.ow_plant.specs.declared.refusal.Refusal.TheVariants as refusal
use Rattle.ow_plant.specs.Images.{tapes_of}
use Rattle.ow_plant.specs.State.{PlantState, handed_over}
use Rattle.intent_store.specs.Live.{held_of, records_held, rest_of}
use Rattle.kernel_traps.specs.Broken.{unix_left_at}
use Rattle.kernel_traps.specs.Carrying.{IsCarriedOut, MayBeLeft, bytes_of}
use Rattle.kernel_traps.specs.Ending.{MayBeLeftOfPlan}
use Rattle.kernel_traps.specs.Plants.{context_of, unix_at}
use Rattle.kernel_traps.specs.Putting.{AreCounted, counted_after, last_of}
use Rattle.kernel_traps.specs.Refused.{IsRefusedIn}
use Rattle.kernel_traps.specs.Traps.{IsDue, IsPlanOf, begun_by}
use Rattle.kernel_traps.proofs.Done.{told_by as counted_told}
use Rattle.kernel_traps.proofs.Entering.{MayTrap}
use Rattle.kernel_traps.proofs.LeftPut.{IsPutTo, bytes_are, partly_is, put_all, put_to, put_unix}
use Rattle.kernel_traps.proofs.LeftTraps.{all_left, below, counted_there, in_trap, keeps, left_at, low_put, made_by, nothing_left, plan_begun, prepared_left, short, small_by, there, told_on, undone_with}
use Rattle.kernel_traps.proofs.OfProcesses.{same_terms}
use Rattle.kernel_traps.proofs.LeftRecords.{left_by}
use Rattle.kernel_traps.proofs.Puts.{puts_beside}
use Rattle.kernel_traps.proofs.StatusLeft.{status_left}
use Rattle.kernel_traps.proofs.Stays.{contents_of, pages_beside, unix_beside}
use Rattle.kernel_traps.proofs.TrapKinds.{trap_ends}
use Rattle.kernel_traps.proofs.TrapUnix.{by_rest}

-- What is left of a trap that begins from a state stands for a state that a broken trap may leave: the one of before where
-- no store was made, and the one after the trap where its end was refused, which comes behind a store.
pub record IsUnixLeft (before : Unix) (t : Trap) (new : PlantState) : Type 0 where
  pub broken : IsBrokenFrom t before (unix_left_at new)
  pub unstored : new.stores ≡ 0 → unix_left_at new ≡ undone_of t before
  pub over : new.refusal ≡ Some refusal.Leave → (1 ≤ new.stores) × (unix_left_at new ≡ done_of t before)

-- The bytes that a plan writes are those by which the tape of its terminal is longer after the trap: the plan could be
-- carried out, with the terminal's record counting them all.
abbrev counted_in : TermRec → (bytes : List ℕ) → TermRec
counted_in terminal bytes = record terminal { written = counted_after terminal.written bytes; last = last_of terminal.last bytes }

module _ (r : Records) (tapes : ℕ → List ℕ) (tty : ℕ) (bytes : List ℕ) (terminal : TermRec) where
  abbrev counting : Records
  counting = record r { terms = updated r.terms tty (Some (counted_in terminal bytes)) }

  abbrev with_all : ℕ → List ℕ
  with_all = updated tapes tty (tapes tty ++ bytes)

  are_written : r.terms tty ≡ Some terminal → AreCountedBy bytes (tapes tty) (with_all tty) (r.terms tty) (counting.terms tty) → AreWritten r tapes tty bytes counting with_all
  are_written is counted = record {
    rest = refl;
    terms = λ other apart. set_other r.terms tty (Some (counted_in terminal bytes)) other apart;
    rows = λ index apart. refl;
    own_tape = set_here tapes tty (tapes tty ++ bytes);
    other_tapes = λ other apart. set_other tapes tty (tapes tty ++ bytes) other apart;
    counted = counted;
  }

-- a trap that may come on a plant, of the process in a slot
module _ (s : PlantState) (t : Trap) (may : MayTrap s t) (due : IsDue s t) (slot : ℕ) where
  abbrev b : PlantState
  b = begun_by s t

  abbrev before : Unix
  before = unix_at s

  -- the plan that writes them makes the tape of the terminal longer by these bytes
  after_write : (tty from len : ℕ) (items : List PatchItem) (terminal : TermRec) → IsPlanOf b t slot (PlanWrite tty from len items) → tty < 2 → (records_held b).terms tty ≡ Some terminal
      → (after_trap before t).terminals tty ≡ with_tape (before.terminals tty) (bytes_of b slot from len)
  unfolding unix_at unix_of
  after_write tty from len items terminal is low counts =
      let plan = PlanWrite tty from len items in
      let r = records_held b in
      let bytes = bytes_of b slot from len in
      let written = counting r (tapes_of s) tty bytes terminal in
      let tapes = with_all r (tapes_of s) tty bytes terminal in
      let told = told_on b s.steps tty (in_trap s t may due slot) low in
      let small = small_by b s.steps slot tty from len (in_trap s t may due slot) may.most low (short s t may due slot plan is).1 in
      let are : AreWritten r (tapes_of s) tty bytes written tapes = are_written r (tapes_of s) tty bytes terminal counts
      (subst (λ (tape : List ℕ). AreCountedBy bytes (tapes_of s tty) tape (r.terms tty) (written.terms tty)) (sym (set_here (tapes_of s) tty (tapes_of s tty ++ bytes)))
      (counted_told bytes (tapes_of s tty) (r.terms tty) (written.terms tty) told small
      (subst (λ (held : Option TermRec). AreCounted bytes held (written.terms tty)) (sym counts)
      (subst (λ (held : Option TermRec). AreCounted bytes (Some terminal) held) (sym (set_here r.terms tty (Some (counted_in terminal bytes))))
      (record { written = refl; last = refl; consumed = refl; base = refl; tty = refl }))))) in
      let by_slot : AreWritten r (tapes_of s) tty (bytes_at (pages_if r (words_of s.memory) slot (Some is.process)) from len) written tapes =
      subst (λ (held : Option ProcRec). AreWritten r (tapes_of s) tty (bytes_at (pages_if r (words_of s.memory) slot held) from len) written tapes) (there s t may due slot plan is) are in
      let its : AreWritten r (tapes_of s) tty (bytes_at (pages_of r (contents_of s) slot is.process) from len) written tapes =
      subst (λ (pages : Pages). AreWritten r (tapes_of s) tty (bytes_at pages from len) written tapes) (pages_beside s slot is.process) by_slot in
      let made = made_by s t may due slot plan is (with_items written items) (contents_of s) tapes (written, its, refl, refl) in
      let of = (trap_ends s b t slot plan (plan_begun s t may due slot plan is)).of_processes in
      sym (ap (λ (u : Unix). u.terminals tty) made)
      ∙ (ap (λ (f : ℕ → Option TermRec). terminal_by (tapes tty) (f tty)) (same_terms written items of)
      ∙ (ap (λ (f : ℕ → Terminal). f tty) (terminals_then r (tapes_of s) tty bytes written tapes are)
      ∙ set_here (λ k. terminal_by (tapes_of s k) (r.terms k)) tty (with_tape (terminal_by (tapes_of s tty) (r.terms tty)) bytes)))

  -- a part of the bytes is put
  part_left : (tty from len : ℕ) (items : List PatchItem) (new : PlantState) → IsPlanOf b t slot (PlanWrite tty from len items)
      → IsPutTo (held_of b) tty (bytes_of b slot from len) (held_of new) → IsBrokenFrom t before (unix_left_at new)
  unfolding unix_at
  part_left tty from len items new is part =
      let plan = PlanWrite tty from len items in
      let bytes = bytes_of b slot from len in
      let counted = take part.count bytes in
      let words = contents_of s in
      let low = low_put b tty counted part.out (held_of new) part.put in
      let told = told_on b s.steps tty (in_trap s t may due slot) low in
      let all = small_by b s.steps slot tty from len (in_trap s t may due slot) may.most low (short s t may due slot plan is).1 in
      let small : length (tapes_of b tty) + length counted < 2 ^ 32 = omega (arith, all, length-take part.count bytes) in
      let (terminal, counts) = counted_there counted ((records_held b).terms tty) ((records_held new).terms tty) part.put.drawn.counted in
      let after = after_write tty from len items terminal is low counts in
      let rest = ap (λ (h : Held PlantState). h.rest) part.put.rest ∙ puts_beside (rest_of b) tty part.out in
      let put_contents : contents_of new ≡ contents_of s = ap (λ (h : Held PlantState). h.contents) part.put.rest in
      let stands = by_rest b new _ _ rest in
      let head : (records_held new).head ≡ Some is.head = ap (λ (r : Records). r.head) part.put.drawn.beside.rest ∙ is.is_head in
      IsPartlyPut tty part.count (subst (λ (l : List ℕ). part.count ≤ length l) (sym (bytes_are t before tty bytes after)) part.within)
      (left_at b new _ _ stands rest
      ∙ ((λ i. left_by (told_left (handed_over b)) (records_held new) (put_contents i) (tapes_of new) b.steps b.traps)
      ∙ (undone_with s t may due slot (records_held new) words (tapes_of new) is.head head is.is_head
      ∙ (ap (undone_of t) (put_unix (held_of b) (held_of new) tty counted part.out part.put part.are_out low told small words (context_of s) s.steps s.traps ∙ ap (λ (u : Unix). written_on u tty counted) (unix_beside s (tapes_of s) (context_of s) s.steps s.traps))
      ∙ partly_is t before tty bytes after part.count))))

  -- all of the plan is carried out
  all_done : (plan : Planned) (new : PlantState) → IsPlanOf b t slot plan → IsCarriedOut b slot plan (held_of new) → IsBrokenFrom t before (unix_left_at new)
  all_done plan new is carried = IsDone (all_left s t may due slot plan new is carried)

  -- a store of the plan was refused, or its end
  of_store : (plan : Planned) (new : PlantState) → IsPlanOf b t slot plan → MayBeLeft b slot plan (held_of new) → IsBrokenFrom t before (unix_left_at new)
  of_store (PlanOnce items) new is (inl same) = IsUndone (nothing_left s t may due slot new is.head is.is_head same)
  of_store (PlanOnce items) new is (inr carried) = all_done (PlanOnce items) new is carried
  of_store (PlanWrite tty from len items) new is (inl partly) = part_left tty from len items new is (put_to (held_of b) (held_of new) tty (bytes_of b slot from len) partly)
  of_store (PlanWrite tty from len items) new is (inr (inl put)) = part_left tty from len items new is (put_all (held_of b) (held_of new) tty (bytes_of b slot from len) put)
  of_store (PlanWrite tty from len items) new is (inr (inr carried)) = all_done (PlanWrite tty from len items) new is carried
  of_store (PlanGrow count items) new is (inl only) = IsUndone (prepared_left s t may due slot slot new is.head is.is_head only)
  of_store (PlanGrow count items) new is (inr carried) = all_done (PlanGrow count items) new is carried
  of_store (PlanFork child items) new is (inl only) = IsUndone (prepared_left s t may due slot child new is.head is.is_head only)
  of_store (PlanFork child items) new is (inr carried) = all_done (PlanFork child items) new is carried
  of_store (PlanPut address status items) new is (inl same) = IsUndone (nothing_left s t may due slot new is.head is.is_head same)
  of_store (PlanPut address status items) new is (inr (inl put)) = status_left s t may due slot address status items new is put
  of_store (PlanPut address status items) new is (inr (inr carried)) = all_done (PlanPut address status items) new is carried

  of_plan : (plan : Planned) (new : PlantState) → IsPlanOf b t slot plan → MayBeLeftOfPlan b slot plan new → IsBrokenFrom t before (unix_left_at new)
  of_plan plan new is (inl (store, left)) = of_store plan new is left
  of_plan plan new is (inr (leave, carried)) = all_done plan new is carried

  -- where its end was refused the plan is carried out, behind a store
  ended : (plan : Planned) (new : PlantState) → new.refusal ≡ Some refusal.Leave → MayBeLeftOfPlan b slot plan new → IsCarriedOut b slot plan (held_of new)
  ended plan new leave (inl (store, left)) = absurd (let both : Some refusal.Store ≡ Some refusal.Leave = sym store ∙ leave in cc)
  ended plan new leave (inr (own, carried)) = carried

  changed : (plan : Planned) (new : PlantState) → IsPlanOf b t slot plan → IsCarriedOut b slot plan (held_of new) → held_of new ≡ held_of b → ⊥
  changed plan new is carried same =
      let k = keeps s t may due slot plan new is carried in
      let under = below s t may due slot k.head (sym (ap (λ (h : Held PlantState). h.records.head) same) ∙ k.is_head) in
      omega (arith, under, k.served)

  stored : (plan : Planned) (new : PlantState) → IsPlanOf b t slot plan → IsCarriedOut b slot plan (held_of new) → (new.stores ≡ 0 → held_of new ≡ held_of b) → 1 ≤ new.stores
  stored plan new is carried unstored = elim (cases_lt 0 new.stores) [
    | inl some ↦ omega (arith, some)
    | inr none ↦ absurd (changed plan new is carried (unstored (omega (arith, none))))
  ]

-- what is left of a trap that was refused a store, or its end
pub unix_left_of : (s new : PlantState) (t : Trap) → MayTrap s t → IsDue s t → IsRefusedIn s t new → IsUnixLeft (unix_at s) t new
unix_left_of s new t may due refused =
    let (slot, plan, is, left) = refused.left in
    record {
      broken = of_plan s t may due slot plan new is left;
      unstored = λ none. nothing_left s t may due slot new is.head is.is_head (refused.unstored none);
      over = λ leave.
          let carried = ended s t may due slot plan new leave left in
          (stored s t may due slot plan new is carried refused.unstored, all_left s t may due slot plan new is carried);
    }
