-- Records stay sound while bytes are drawn in them.
use Rattle.std.proofs.Common.{◌≡◌, ◌+◌, ◌-◌, ◌*◌, ◌/◌, ◌<◌, ℕ, true, List, Option, IfSome, is_some, inl, inr, ap, ◌∙◌, arith}
use Rattle.std.proofs.lemmas.Bool.Decides.{eqb_tells}
use Rattle.record_layouts.specs.declared.places.RecordId.TheVariants as id
use Rattle.record_layouts.specs.declared.proc.ProcRec.{ProcRec}
use Rattle.record_layouts.specs.declared.desc.DescRec.{DescRec}
use Rattle.record_layouts.specs.declared.term.TermRec.{TermRec}
use Rattle.record_layouts.specs.declared.row.RowRec.{RowRec}
use Rattle.record_layouts.specs.Held.{AreComplete, AreValues, Records}
use Rattle.record_layouts.specs.Row.{FitsRow}
use Rattle.record_layouts.specs.Term.{FitsTerm}
use Rattle.record_layouts.specs.Sound.{AreInCalls, AreInBuiltCalls, AreMapped, AreNumbered, AreOnTerminals, AreSound, IsIn, IsInCall, IsTransfer}
use Rattle.syscalls.proofs.Altered.{mapped_stays}
use Rattle.tty_screen.specs.Drawing.{IsRowOf}
use Rattle.kernel_traps.specs.Putting.{AreDrawn}
use Rattle.kernel_traps.proofs.OfProcesses.{shown_by}

-- records of terminals and rows that decode, and that can be spelled
pub record AreShown (terms : ℕ → Option TermRec) (rows : ℕ → Option RowRec) : Type 0 where
  pub terms_decode : (tty : ℕ) → tty < 2 → is_some (terms tty) ≡ true
  pub rows_decode : (i : ℕ) → i < 48 → is_some (rows i) ≡ true
  pub terms_fit : (tty : ℕ) → IfSome (terms tty) FitsTerm
  pub rows_fit : (i : ℕ) → IfSome (rows i) FitsRow

module _ (r : Records) (terms : ℕ → Option TermRec) (rows : ℕ → Option RowRec) where
  -- the processes are the same
  was_in : (slot : ℕ) (process : ProcRec) → IsIn (shown_by r terms rows) slot process → IsIn r slot process
  was_in slot process is = record { within = is.within; there = is.there; live = is.live }

  in_too : (slot : ℕ) (process : ProcRec) → IsIn r slot process → IsIn (shown_by r terms rows) slot process
  in_too slot process is = record { within = is.within; there = is.there; live = is.live }

  transfer_too : (process : ProcRec) (mode : ℕ) (description : DescRec) → IsTransfer r process mode description
      → IsTransfer (shown_by r terms rows) process mode description
  transfer_too process mode description it = record {
    descriptor = it.descriptor;
    named = it.named;
    there = it.there;
    allowed = it.allowed;
    count = it.count;
    left = it.left;
  }

  call_too : (process : ProcRec) → IsInCall r process → IsInCall (shown_by r terms rows) process
  call_too process it = elim it [
    | inl write ↦ inl (write.0, (write.1.0, transfer_too process 2 write.1.0 write.1.1))
    | inr rest ↦ inr (elim rest [
      | inl read ↦ inl (read.0, read.1, (read.2.0, transfer_too process 1 read.2.0 read.2.1, read.2.2))
      | inr wait ↦ inr wait
    ])
  ]

  numbered_too : AreNumbered r → AreNumbered (shown_by r terms rows)
  numbered_too sound = record {
    used = sound.used;
    one_slot = sound.one_slot;
    exit = λ slot process is. sound.exit slot process (was_in slot process is);
    process = λ pid slot exit. let found = sound.process pid slot exit in (found.0, in_too slot found.0 found.1, found.2);
    signals = λ slot process is. sound.signals slot process (was_in slot process is);
    ended = sound.ended;
    one_ended = sound.one_ended;
    parents = sound.parents;
  }

  calls_too : AreInCalls r → AreInCalls (shown_by r terms rows)
  calls_too sound = record {
    calls = λ slot process is state. call_too process (sound.calls slot process (was_in slot process is) state);
    described = λ slot process is fd within named. sound.described slot process (was_in slot process is) fd within named;
  }

  mapped_too : AreMapped r → AreMapped (shown_by r terms rows)
  mapped_too sound = record {
    mapped = λ slot process is. mapped_stays r r.head r.procs terms rows slot process ∙ sound.mapped slot process (was_in slot process is);
    clean = λ slot process is table word few small no_place. sound.clean slot process (was_in slot process is) table word few small no_place;
  }

  complete_too : AreComplete r → AreShown terms rows → AreComplete (shown_by r terms rows)
  complete_too complete shown (id.Term tty) there = shown.terms_decode tty there
  complete_too complete shown (id.Row index) there = shown.rows_decode index there
  complete_too complete shown one there = complete one there

  values_too : AreValues r → AreShown terms rows → AreValues (shown_by r terms rows)
  values_too values shown (id.Term tty) = shown.terms_fit tty
  values_too values shown (id.Row index) = shown.rows_fit index
  values_too values shown one = values one

  pub shown_sound : AreSound r → AreShown terms rows → AreSound (shown_by r terms rows)
  shown_sound sound shown = record {
    complete = complete_too sound.complete shown;
    values = values_too sound.values shown;
    numbered = numbered_too sound.numbered;
    in_calls = calls_too sound.in_calls;
    mapped = mapped_too sound.mapped;
  }

  pub on_terminals_too : AreOnTerminals r → AreOnTerminals (shown_by r terms rows)
  on_terminals_too on = record { each = λ slot process is fd within named. on.each slot process (was_in slot process is) fd within named }

  pub built_calls_too : AreInBuiltCalls r → AreInBuiltCalls (shown_by r terms rows)
  built_calls_too writes = record { each = λ slot process is state. writes.each slot process (was_in slot process is) state }

-- the terminals and rows decode in which bytes are drawn
module _ (tty : ℕ) (bytes : List ℕ) (old new : Records) (drawn : AreDrawn tty bytes old new) (complete : AreComplete old) where
  pub drawn_terms : (other : ℕ) → other < 2 → is_some (new.terms other) ≡ true
  drawn_terms other low = elim (eqb_tells other tty) [
    | inl (test, same) ↦ ap (λ (k : ℕ). is_some (new.terms k)) same ∙ drawn.decodes.terminal
    | inr (test, apart) ↦ ap (λ (held : Option TermRec). is_some held) (drawn.beside.terms other apart) ∙ complete (id.Term other) low
  ]

  pub drawn_rows : (index : ℕ) → index < 48 → is_some (new.rows index) ≡ true
  drawn_rows index low = elim (eqb_tells (index / 24) tty) [
    | inl (test, same) ↦
        let place : index ≡ 24 * tty + (index - 24 * tty) = omega (arith, same) in
        ap (λ (k : ℕ). is_some (new.rows k)) place ∙ drawn.decodes.rows (index - 24 * tty) (omega (arith, same))
    | inr (test, apart) ↦
        let outside : (IsRowOf tty index → ⊥) = λ within. apart (omega (arith, within.0, within.1)) in
        ap (λ (held : Option RowRec). is_some held) (drawn.beside.rows index outside) ∙ complete (id.Row index) low
  ]
