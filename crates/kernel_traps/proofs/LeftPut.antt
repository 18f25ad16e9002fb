-- What is left of bytes that a trap puts on a terminal: the first of them are on its tape, and nothing else is done.
use Rattle.std.proofs.Common.{◌≡◌, ◌≢◌, ◌∙◌, ◌⊎◌, ◌==◌, ◌+◌, ◌^◌, ◌<◌, ◌≤◌, ℕ, true, if◌then◌else◌, List, [], ◌∷◌, ◌++◌, length, take, drop, get_or, Option, Some, None, IfSome, inl, inr, refl, sym, ap, subst, arith, append_assoc, length-append}
use Rattle.std.proofs.Math.Seq.{take-append-add, drop-append_seam, take_all}
use Rattle.std.proofs.lemmas.Bool.Decides.{nat_tests}
use Rattle.std.proofs.lemmas.List.{take_more}
use Rattle.ow_base.specs.Sv32.{WordMap}
use Rattle.ow_base.specs.Words.{updated}
use Rattle.record_layouts.specs.declared.row.RowRec.{RowRec}
use Rattle.record_layouts.specs.declared.proc.ProcRec.{ProcRec}
use Rattle.record_layouts.specs.declared.term.TermRec.{TermRec}
use Rattle.record_layouts.specs.declared.traps.Trap.{Trap}
use Rattle.record_layouts.specs.Decode.{Context, InKernel, InUser, decodes, description_by, ended_in, ended_of, is_ended_as, is_number, last_by, next_by, pid_in, position_by, process_at, process_by, process_in, processes_of, slot_by, status_by, tape_by, terminal_by, unix_of, with_bank}
use Rattle.record_layouts.specs.Held.{Held, Records}
use Rattle.record_layouts.specs.Pages.{is_mapped}
use Rattle.record_layouts.specs.Unix.Broken.{bytes_put, partly_put, undone_of, with_bytes_put}
use Rattle.record_layouts.specs.Unix.Calls.{with_tape, written_on}
use Rattle.record_layouts.specs.Unix.Choice.{least_from}
use Rattle.record_layouts.specs.Unix.State.{Process, Terminal, Unix, in_use}
use Rattle.record_layouts.specs.Unix.Traps.{after_trap}
use Rattle.process_table.proofs.Kept.{same_or_not, set_here, set_other}
use Rattle.syscalls.proofs.Altered.{decoded_stays, mapped_stays}
use Rattle.ow_plant.specs.Images.{tapes_of}
use Rattle.ow_plant.specs.State.{PlantState}
use Rattle.kernel_traps.specs.Putting.{AreCounted, CountsBytes, IsPut, IsPutPartly, last_of, with_puts}
use Rattle.kernel_traps.proofs.Done.{counted_is, other_tape, own_tape, tape_counted}
use Rattle.kernel_traps.proofs.OfProcesses.{shown_by}
use Rattle.kernel_traps.proofs.Puts.{last_of-then}

-- bytes that a record counts are out, but for the last of them at most
abbrev pub AreOut : (counted out : List ℕ) → Type 0
AreOut counted out = (counted ≡ out) ⊎ ((byte : ℕ) × (counted ≡ out ++ byte ∷ []))

-- so many of some bytes are put, the first ones
pub record IsPutTo (h : Held PlantState) (tty : ℕ) (bytes : List ℕ) (new : Held PlantState) : Type 0 where
  pub count : ℕ
  pub within : count ≤ length bytes
  pub out : List ℕ
  pub are_out : AreOut (take count bytes) out
  pub put : IsPut h tty (take count bytes) out new

pub put_to : (h new : Held PlantState) (tty : ℕ) (bytes : List ℕ) → IsPutPartly h tty bytes new → IsPutTo h tty bytes new
put_to h new tty bytes (count, below, inl put) = record { count = count; within = omega (arith, below); out = take count bytes; are_out = inl refl; put = put }
put_to h new tty bytes (count, below, inr put) =
    record { count = count + 1; within = omega (arith, below); out = take count bytes; are_out = inr (get_or bytes count 0, take_more bytes count 0 below); put = put }

pub put_all : (h new : Held PlantState) (tty : ℕ) (bytes : List ℕ) → IsPut h tty bytes bytes new → IsPutTo h tty bytes new
put_all h new tty bytes put =
    let all : take (length bytes) bytes ≡ bytes = take_all (length bytes) bytes (omega arith) in
    record { count = length bytes; within = omega arith; out = bytes; are_out = inl all; put = subst (λ (counted : List ℕ). IsPut h tty counted bytes new) (sym all) put }

-- the tape has all bytes that its record counts
tape_put : (tape out counted : List ℕ) (before after : TermRec) → before.written ≡ length tape → length tape + length counted < 2 ^ 32 → AreOut counted out
    → CountsBytes counted before after → tape_by (tape ++ out) after ≡ tape ++ counted
tape_put tape out counted before after told small (inl same) counts =
    let long : length (tape ++ out) ≡ length tape + length out = length-append tape out in
    let bytes : length counted ≡ length out = ap (λ (l : List ℕ). length l) same in
    let written : after.written ≡ length (tape ++ out) = counts.written ∙ counted_is before.written counted (omega (arith, told, small)) ∙ omega (arith, told, bytes, long) in
    tape_counted (tape ++ out) after written ∙ ap (λ (l : List ℕ). tape ++ l) (sym same)
tape_put tape out counted before after told small (inr (byte, is)) counts =
    let long : length (tape ++ out) ≡ length tape + length out = length-append tape out in
    let bytes : length counted ≡ length out + 1 = ap (λ (l : List ℕ). length l) is ∙ length-append out (byte ∷ []) in
    let written : after.written ≡ length (tape ++ out) + 1 = counts.written ∙ counted_is before.written counted (omega (arith, told, small)) ∙ omega (arith, told, bytes, long) in
    let last : after.last ≡ byte = counts.last ∙ ap (last_of before.last) is ∙ last_of-then before.last out (byte ∷ []) in
    let one_more : (after.written == length (tape ++ out) + 1) ≡ true = grind (arith, nat_tests, written) in
    rw one_more (ap (λ (b : ℕ). (tape ++ out) ++ b ∷ []) last) ∙ append_assoc tape out (byte ∷ []) ∙ ap (λ (l : List ℕ). tape ++ l) (sym is)

terminal_put : (tape out counted : List ℕ) (before after : Option TermRec) → IfSome before (λ terminal. terminal.written ≡ length tape) → length tape + length counted < 2 ^ 32
    → AreOut counted out → AreCounted counted before after → terminal_by (tape ++ out) after ≡ with_tape (terminal_by tape before) counted
terminal_put tape out counted (Some before) (Some after) told small are counts =
    let same : tape_by (tape ++ out) after ≡ tape_by tape before ++ counted =
    tape_put tape out counted before after told small are counts ∙ ap (λ (l : List ℕ). l ++ counted) (sym (tape_counted tape before told)) in
    λ i. record { tape = same i; base = counts.base i; consumed = counts.consumed i }
terminal_put tape out counted (Some before) None told small are counts = absurd counts
terminal_put tape out counted None after told small are counts = absurd counts

-- Records of which only terminals and rows are others stand for the same but for terminals.
module _ (r : Records) (terms : ℕ → Option TermRec) (rows : ℕ → Option RowRec) (words : WordMap) where
  abbrev shown : Records
  shown = shown_by r terms rows

  decodes_still : (slot pid : ℕ) (process : ProcRec) → decodes shown slot pid process ≡ decodes r slot pid process
  decodes_still slot pid process = let mapped : is_mapped shown slot process ≡ is_mapped r slot process = mapped_stays r r.head r.procs terms rows slot process in rw mapped refl

  process_still : (slot pid : ℕ) (held : Option ProcRec) → process_by shown words slot pid held ≡ process_by r words slot pid held
  process_still slot pid (Some process) = λ i. if decodes_still slot pid process i then Some (decoded_stays r r.head r.procs terms rows words slot process i) else None
  process_still slot pid None = refl

  in_slot_still : (pid : ℕ) (slot : Option ℕ) → process_in shown words pid slot ≡ process_in r words pid slot
  unfolding pid_in
  in_slot_still pid (Some slot) = ap (λ (p : Option Process). if is_number (pid_in r slot) pid then p else None) (process_still slot pid (r.procs slot))
  in_slot_still pid None = refl

  at_still : (pid : ℕ) → process_at shown words pid ≡ process_at r words pid
  unfolding process_at
  at_still pid = in_slot_still pid (slot_by (r.exits pid))

  processes_still : (context : Context) → processes_of shown words context ≡ processes_of r words context
  unfolding processes_of
  processes_still InKernel = λ i pid. at_still pid i
  processes_still (InUser user count bank) = λ i pid. if pid == user then with_bank bank (at_still pid i) else at_still pid i

  children_still : (ps : ℕ → Option Process) (slot : Option ℕ) → ended_in shown ps slot ≡ ended_in r ps slot
  children_still ps (Some slot) = refl
  children_still ps None = refl

  ended_still : (ps : ℕ → Option Process) → ended_of shown ps ≡ ended_of r ps
  unfolding ended_of
  ended_still ps = λ i pid. children_still ps (least_from (λ slot. is_ended_as pid (r.procs slot)) 0 16) i

  shown_unix : (tapes others : ℕ → List ℕ) (context : Context) (steps traps : ℕ)
      → unix_of shown words others context steps traps ≡ record (unix_of r words tapes context steps traps) { terminals = λ tty. terminal_by (others tty) (terms tty) }
  unfolding unix_of
  shown_unix tapes others context steps traps = λ i. record {
    processes = processes_still context i;
    ended = (ended_still (processes_of shown words context) ∙ ap (ended_of r) (processes_still context)) i;
    descriptions = in_use (processes_still context i) (λ number. description_by (r.descs number));
    files = λ _. None;
    room = r.map.user_frames;
    terminals = λ tty. terminal_by (others tty) (terms tty);
    exits = λ pid. status_by (r.exits pid);
    next_pid = next_by r.head;
    last_pid = last_by r.head context;
    steps = steps;
    traps = traps;
    position = position_by context;
  }

-- bytes that are put are written on their terminal
module _ (h new : Held PlantState) (tty : ℕ) (counted out : List ℕ) (put : IsPut h tty counted out new) (are : AreOut counted out) (low : tty < 2)
    (told : IfSome (h.records.terms tty) (λ terminal. terminal.written ≡ length (tapes_of h.rest tty))) (small : length (tapes_of h.rest tty) + length counted < 2 ^ 32) where
  abbrev was : ℕ → Terminal
  was k = terminal_by (tapes_of h.rest k) (h.records.terms k)

  tapes_now : tapes_of new.rest ≡ tapes_of (with_puts h.rest tty out)
  tapes_now = ap (λ (n : Held PlantState). tapes_of n.rest) put.rest

  own_terminal : terminal_by (tapes_of new.rest tty) (new.records.terms tty) ≡ with_tape (was tty) counted
  own_terminal =
      ap (λ (tape : List ℕ). terminal_by tape (new.records.terms tty)) (ap (λ (f : ℕ → List ℕ). f tty) tapes_now ∙ own_tape h.rest tty out low)
      ∙ terminal_put (tapes_of h.rest tty) out counted (h.records.terms tty) (new.records.terms tty) told small are put.drawn.counted

  other_terminal : (k : ℕ) → k ≢ tty → terminal_by (tapes_of new.rest k) (new.records.terms k) ≡ was k
  other_terminal k apart =
      ap (λ (tape : List ℕ). terminal_by tape (new.records.terms k)) (ap (λ (f : ℕ → List ℕ). f k) tapes_now ∙ other_tape h.rest tty k out low apart)
      ∙ ap (terminal_by (tapes_of h.rest k)) (put.drawn.beside.terms k apart)

  terminal_now : (k : ℕ) → terminal_by (tapes_of new.rest k) (new.records.terms k) ≡ updated was tty (with_tape (was tty) counted) k
  terminal_now k = elim (same_or_not k tty) [
    | inl same ↦ subst (λ (n : ℕ). terminal_by (tapes_of new.rest n) (new.records.terms n) ≡ updated was tty (with_tape (was tty) counted) n) (sym same)
        (own_terminal ∙ sym (set_here was tty (with_tape (was tty) counted)))
    | inr apart ↦ other_terminal k apart ∙ sym (set_other was tty (with_tape (was tty) counted) k apart)
  ]

  pub put_unix : (words : WordMap) (context : Context) (steps traps : ℕ)
      → unix_of new.records words (tapes_of new.rest) context steps traps ≡ written_on (unix_of h.records words (tapes_of h.rest) context steps traps) tty counted
  unfolding unix_of
  put_unix words context steps traps =
      ap (λ (r : Records). unix_of r words (tapes_of new.rest) context steps traps) put.drawn.beside.rest
      ∙ (shown_unix h.records new.records.terms new.records.rows words (tapes_of h.rest) (tapes_of new.rest) context steps traps
      ∙ (λ i. record (unix_of h.records words (tapes_of h.rest) context steps traps) { terminals = λ k. terminal_now k i }))

-- where the trap writes bytes on a terminal, these are the ones that it puts, and so many of them are a part of it
module _ (t : Trap) (before : Unix) (tty : ℕ) (bytes : List ℕ) (after : (after_trap before t).terminals tty ≡ with_tape (before.terminals tty) bytes) where
  pub bytes_are : bytes_put t before tty ≡ bytes
  bytes_are = ap (λ (terminal : Terminal). drop (length (before.terminals tty).tape) terminal.tape) after ∙ drop-append_seam (before.terminals tty).tape bytes

  part_put : (count : ℕ) → with_bytes_put t before tty count (before.terminals tty) ≡ with_tape (before.terminals tty) (take count bytes)
  part_put count =
      let tape : List ℕ = (before.terminals tty).tape in
      let part : take (length tape + count) ((after_trap before t).terminals tty).tape ≡ tape ++ take count bytes =
      ap (λ (terminal : Terminal). take (length tape + count) terminal.tape) after ∙ take-append-add tape bytes count in
      ap (λ (l : List ℕ). record (before.terminals tty) { tape = l }) part

  pub partly_is : (count : ℕ) → undone_of t (written_on before tty (take count bytes)) ≡ partly_put t before tty count
  unfolding undone_of partly_put
  partly_is count = ap (λ (terminal : Terminal). undone_of t (record before { terminals = updated before.terminals tty terminal })) (sym (part_put count))
