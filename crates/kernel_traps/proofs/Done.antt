-- What is held once a write is carried out is what the call asked for.
use Rattle.std.proofs.Common.{◌≡◌, ◌≢◌, ◌∙◌, ◌+◌, ◌^◌, ◌<◌, ℕ, zero, suc, List, [], ◌∷◌, ◌++◌, length, Option, Some, None, IfSome, refl, sym, ap, subst, arith, length-append}
use Rattle.std.proofs.lemmas.Bool.Decides.{nat_tests}
use Rattle.std.proofs.lemmas.Grind.{common_steps}
use Rattle.ow_base.specs.Sv32.{WordMap}
use Rattle.ow_base.specs.Pages.{Pages, bytes_at}
use Rattle.phys_memory.specs.Memory.{words_of}
use Rattle.record_layouts.specs.declared.term.TermRec.{TermRec}
use Rattle.record_layouts.specs.declared.proc.ProcRec.{ProcRec}
use Rattle.record_layouts.specs.declared.patch.PatchItem.{PatchItem}
use Rattle.record_layouts.specs.Held.{Held, Records, with_items}
use Rattle.record_layouts.specs.Decode.{tape_by}
use Rattle.record_layouts.specs.Pages.{pages_of}
use Rattle.address_space.specs.Spaces.{IsCopied, IsGrown, IsWordPut, OnlyPrepares}
use Rattle.syscalls.specs.Done.{AreCounted as IsTold, AreCountedBy, AreWritten, IsDone, held_as}
use Rattle.syscalls.specs.Planned.{PlanFork, PlanGrow, PlanPut, PlanWrite, pages_if}
use Rattle.ow_plant.specs.State.{PlantState, risen}
use Rattle.intent_store.specs.Live.{held_of, records_held, rest_of}
use Rattle.ow_plant.specs.Images.{tapes_of}
use Rattle.kernel_traps.specs.Putting.{AreCounted, CountsBytes, counted_after, with_puts}
use Rattle.kernel_traps.specs.Carrying.{IsCarriedOut, bytes_of}
use Rattle.kernel_traps.proofs.Preparing.{copied_as, grown_as, prepares_as, put_as}
use Rattle.kernel_traps.proofs.Stays.{contents_of, pages_beside}

pub own_tape : (s : PlantState) (tty : ℕ) (bytes : List ℕ) → tty < 2 → tapes_of (with_puts s tty bytes) tty ≡ tapes_of s tty ++ bytes
own_tape s zero bytes low = refl
own_tape s (suc zero) bytes low = refl
own_tape s (suc (suc n)) bytes low = absurd (omega arith)

pub other_tape : (s : PlantState) (tty other : ℕ) (bytes : List ℕ) → tty < 2 → other ≢ tty → tapes_of (with_puts s tty bytes) other ≡ tapes_of s other
other_tape s tty other bytes low apart = grind (arith, nat_tests, common_steps, apart)

-- a count that does not stand still
pub counted_is : (written : ℕ) (bytes : List ℕ) → written + length bytes < 2 ^ 32 → counted_after written bytes ≡ written + length bytes
counted_is written [] small = omega arith
counted_is written (byte ∷ bytes) small =
    let on : risen written ≡ written + 1 = omega arith in
    rw on (counted_is (written + 1) bytes (omega arith) ∙ omega arith)

-- a record that counts its tape adds nothing to it
pub tape_counted : (tape : List ℕ) (terminal : TermRec) → terminal.written ≡ length tape → tape_by tape terminal ≡ tape
tape_counted tape terminal counted = grind (arith, nat_tests, counted)

told : (bytes tape : List ℕ) (before after : TermRec) → before.written ≡ length tape → length tape + length bytes < 2 ^ 32 → CountsBytes bytes before after
    → IsTold bytes tape (tape ++ bytes) before after
told bytes tape before after counted small counts =
    let more : length (tape ++ bytes) ≡ length tape + length bytes = length-append tape bytes in
    let now : after.written ≡ length (tape ++ bytes) = counts.written ∙ counted_is before.written bytes (omega (arith, counted)) ∙ omega (arith, counted, more) in
    record {
      written = omega (arith, counted, now, more);
      consumed = counts.consumed;
      base = counts.base;
      decoded = tape_counted (tape ++ bytes) after now ∙ ap (λ (t : List ℕ). t ++ bytes) (sym (tape_counted tape before counted));
    }

pub told_by : (bytes tape : List ℕ) (before after : Option TermRec) → IfSome before (λ terminal. terminal.written ≡ length tape) → length tape + length bytes < 2 ^ 32
    → AreCounted bytes before after → AreCountedBy bytes tape (tape ++ bytes) before after
told_by bytes tape (Some before) (Some after) counted small counts = told bytes tape before after counted small counts
told_by bytes tape (Some before) None counted small counts = absurd counts
told_by bytes tape None after counted small counts = absurd counts

pub done : (s t : PlantState) (slot tty from len : ℕ) (items : List PatchItem) (process : ProcRec)
    → (records_held s).procs slot ≡ Some process → tty < 2
    → IfSome ((records_held s).terms tty) (λ terminal. terminal.written ≡ length (tapes_of s tty))
    → length (tapes_of s tty) + length (bytes_of s slot from len) < 2 ^ 32
    → IsCarriedOut s slot (PlanWrite tty from len items) (held_of t)
    → IsDone (records_held s) (contents_of s) (tapes_of s) slot process (PlanWrite tty from len items) (records_held t) (contents_of t) (tapes_of t)
done s t slot tty from len items process there low counted small (put, is, last) =
    let r = records_held s in
    let words = words_of s.memory in
    let bytes = bytes_of s slot from len in
    let rest : rest_of t ≡ with_puts (rest_of s) tty bytes = ap (λ (h : Held PlantState). h.rest) last ∙ ap (λ (h : Held PlantState). h.rest) is.rest in
    let tapes : tapes_of t ≡ tapes_of (with_puts (rest_of s) tty bytes) = ap (λ (p : PlantState). tapes_of p) rest in
    let own : tapes_of t tty ≡ tapes_of s tty ++ bytes = ap (λ (f : ℕ → List ℕ). f tty) tapes ∙ own_tape (rest_of s) tty bytes low in
    let written : AreWritten r (tapes_of s) tty bytes put.records (tapes_of t) = record {
      rest = is.drawn.beside.rest;
      terms = is.drawn.beside.terms;
      rows = λ index apart. is.drawn.beside.rows index (λ within. apart (omega (arith, within.0, within.1)));
      own_tape = own;
      other_tapes = λ other apart. ap (λ (f : ℕ → List ℕ). f other) tapes ∙ other_tape (rest_of s) tty other bytes low apart;
      counted = subst (λ (tape : List ℕ). AreCountedBy bytes (tapes_of s tty) tape (r.terms tty) (put.records.terms tty)) (sym own)
          (told_by bytes (tapes_of s tty) (r.terms tty) (put.records.terms tty) counted small is.drawn.counted);
    } in
    let of_pages : AreWritten r (tapes_of s) tty (bytes_at (pages_of r words slot process) from len) put.records (tapes_of t) =
    subst (λ (held : Option ProcRec). AreWritten r (tapes_of s) tty (bytes_at (pages_if r words slot held) from len) put.records (tapes_of t)) there written in (
      put.records,
      subst (λ (pages : Pages). AreWritten r (tapes_of s) tty (bytes_at pages from len) put.records (tapes_of t)) (pages_beside s slot process) of_pages,
      ap (λ (h : Held PlantState). h.records) last,
      ap (λ (h : Held PlantState). h.contents) last ∙ ap (λ (h : Held PlantState). h.contents) is.rest,
    )

-- and of pages that were prepared, behind a heap or for a child
pub grow_done : (s t : PlantState) (slot count : ℕ) (items : List PatchItem) (process : ProcRec) → (records_held s).procs slot ≡ Some process
    → IsCarriedOut s slot (PlanGrow count items) (held_of t)
    → IsDone (records_held s) (contents_of s) (tapes_of s) slot process (PlanGrow count items) (records_held t) (contents_of t) (tapes_of t)
grow_done s t slot count items process there (prepared, only, grown, last) =
    let its = subst (λ (held : Option ProcRec). IfSome held (IsGrown (held_of s) prepared slot count)) there grown in
    let words : contents_of t ≡ prepared.contents = ap (λ (h : Held PlantState). h.contents) last in (
      prepared.records,
      subst (λ (w : WordMap). OnlyPrepares slot (held_as (records_held s) (contents_of s)) (held_as prepared.records w)) (sym words) (prepares_as slot (held_of s) prepared only),
      subst (λ (w : WordMap). IsGrown (held_as (records_held s) (contents_of s)) (held_as prepared.records w) slot count process) (sym words)
          (grown_as slot (held_of s) prepared count process its),
      ap (λ (h : Held PlantState). h.records) last,
      ap (λ (h : Held PlantState). tapes_of h.rest) last ∙ ap (λ (p : PlantState). tapes_of p) only.rest,
    )

pub fork_done : (s t : PlantState) (slot child : ℕ) (items : List PatchItem) (process : ProcRec) → (records_held s).procs slot ≡ Some process
    → IsCarriedOut s slot (PlanFork child items) (held_of t)
    → IsDone (records_held s) (contents_of s) (tapes_of s) slot process (PlanFork child items) (records_held t) (contents_of t) (tapes_of t)
fork_done s t slot child items process there (prepared, only, copied, last) =
    let its = subst (λ (held : Option ProcRec). IfSome held (IsCopied (held_of s) prepared slot child)) there copied in
    let words : contents_of t ≡ prepared.contents = ap (λ (h : Held PlantState). h.contents) last in (
      prepared.records,
      subst (λ (w : WordMap). OnlyPrepares child (held_as (records_held s) (contents_of s)) (held_as prepared.records w)) (sym words) (prepares_as child (held_of s) prepared only),
      subst (λ (w : WordMap). IsCopied (held_as (records_held s) (contents_of s)) (held_as prepared.records w) slot child process) (sym words)
          (copied_as slot child (held_of s) prepared process its),
      ap (λ (h : Held PlantState). h.records) last,
      ap (λ (h : Held PlantState). tapes_of h.rest) last ∙ ap (λ (p : PlantState). tapes_of p) only.rest,
    )

-- and of a word that was stored
pub put_done : (s t : PlantState) (slot address status : ℕ) (items : List PatchItem) (process : ProcRec)
    → IsCarriedOut s slot (PlanPut address status items) (held_of t)
    → IsDone (records_held s) (contents_of s) (tapes_of s) slot process (PlanPut address status items) (records_held t) (contents_of t) (tapes_of t)
put_done s t slot address status items process (put, is, last) =
    let words : contents_of t ≡ put.contents = ap (λ (h : Held PlantState). h.contents) last in (
      subst (λ (w : WordMap). IsWordPut (held_as (records_held s) (contents_of s)) (held_as (records_held s) w) slot address status) (sym words) (put_as slot address status (held_of s) put is),
      ap (λ (h : Held PlantState). h.records) last ∙ ap (λ (r : Records). with_items r items) is.records,
      ap (λ (h : Held PlantState). tapes_of h.rest) last ∙ ap (λ (p : PlantState). tapes_of p) is.rest,
    )
