-- How the parts of the report follow each other, and the texts of its lines.
use Rattle.std.proofs.Common.{◌≡◌, ℕ, zero, suc, ◌+◌, ◌-◌, ◌<◌, ◌≤◌, min, nat_eq, true, false, List, [], ◌∷◌, ◌++◌, length, take, drop, get_or, length-drop, drop-cons, add-one, Option, Some, None, Result, inl, inr, refl, sym, ap, ◌∙◌, arith, append_assoc, append-nil}
use Rattle.std.specs.Prelude.{decimal, codes, flat_map}
use lib.Pointwise.{pointwise}
use Rattle.std.proofs.lemmas.List.{take_all}
use Rattle.std.proofs.Math.ListN.{drop_of_length-le}
use Rattle.std.proofs.Math.Seq.{drop-length, drop-nil}
use Rattle.std.proofs.lemmas.Bool.{cases_lt, and_parts, and_cases, eqb-true}
use Rattle.std.proofs.lemmas.Bool.Decides.{nat_tests}
use Rattle.ow_base.specs.Lines.{line, spaced, escaped}
use Rattle.record_layouts.specs.Unix.Report.{status_words, process_line, out_lines, trimmed, kept_before, row_lines, row_line_of, process_lines, head_text, shown_on, state_text}
use Rattle.record_layouts.specs.Unix.PanicReport.{with_fates, panic_lines, or_entry, entry_for, unused_lines, report_with}
use Rattle.record_layouts.specs.Unix.State.{Unix}
use Rattle.record_layouts.specs.Decode.{unix_of}
use Rattle.record_layouts.specs.declared.fates.Fate.{Fate}
use Rattle.ow_base.specs.declared.worlds.Ending.{Ending}
use Rattle.ow_base.specs.declared.worlds.PanicLine.{PanicLine}
use Rattle.ow_base.specs.declared.worlds.PanicRecord.{PanicRecord}
use Rattle.ow_plant.specs.State.{PlantState}
use Rattle.ow_report.specs.Agrees.{PlantAgrees, exits_of, next_pid_of, plant_text, terminals_text}
use Rattle.ow_report.specs.declared.lines.Token.{Token}
use Rattle.ow_report.specs.declared.processes.Exit.{Exit}
use Rattle.ow_report.specs.declared.processes.Exit.TheVariants.{Code, Signal, Fault, Lost}
use Rattle.ow_report.specs.Writing.{token_text, line_text, exit_key, exit_number, status_word, IsExit, tape_line_count, unused_by}
use Rattle.ow_base.specs.Outside.{appended, IsFront, Writes}
use Rattle.ow_base.proofs.Writing.{appended-nil, both, shifted, cut, then_writes}

-- of a text a front is written, and this rest is left
pub record PartWay (text rest : List ℕ) (old now : Option (List ℕ)) : Type 0 where
  pub done : List ℕ
  pub whole : text ≡ done ++ rest
  pub put : now ≡ appended old done

-- at first all is left
pub begun : (text : List ℕ) (u : Option (List ℕ)) → PartWay text text u u
begun text u = record { done = []; whole = refl; put = sym (appended-nil u) }

-- a part more is written
pub further : (text a rest : List ℕ) (u v w : Option (List ℕ)) → PartWay text (a ++ rest) u v → w ≡ appended v a → PartWay text rest u w
further text a rest u v w p e = record {
  done = p.done ++ a;
  whole = p.whole ∙ sym (append_assoc p.done a rest);
  put = both p.done a u v w p.put e;
}

-- a front of the next part is written, and so a front of the text
pub broken : (text a rest : List ℕ) (u v w : Option (List ℕ)) → PartWay text (a ++ rest) u v → IsFront a v w → IsFront text u w
broken text a rest u v w p front = rw p.whole (shifted p.done (a ++ rest) u v w p.put (cut a rest v w front))

-- the last part is written, or a front of it
pub finished : {T E : Type 0} (r : Result T E) (text a : List ℕ) (u v w : Option (List ℕ)) → PartWay text a u v → Writes r a v w → Writes r text u w
finished r text a u v w p e = rw p.whole (then_writes r p.done a u v w p.put e)

-- nothing is left
pub complete : (text : List ℕ) (u v : Option (List ℕ)) → PartWay text [] u v → v ≡ appended u text
complete text u v p = rw (p.whole, append-nil) p.put

-- lines of one, of two and of three tokens behind the key word
pub one_token : (key : List ℕ) (a : Token) → line_text key (a ∷ []) ≡ line (spaced key (token_text a))
unfolding line_text
one_token key a = simp append_assoc

pub two_tokens : (key : List ℕ) (a b : Token) → line_text key (a ∷ b ∷ []) ≡ line (spaced (spaced key (token_text a)) (token_text b))
unfolding line_text
two_tokens key a b = simp append_assoc refl

pub three_tokens : (key : List ℕ) (a b d : Token) → line_text key (a ∷ b ∷ d ∷ []) ≡ line (spaced (spaced (spaced key (token_text a)) (token_text b)) (token_text d))
unfolding line_text
three_tokens key a b d = simp append_assoc refl

-- a token more behind a longer key
token_first : (key : List ℕ) (a : Token) (others : List Token) → line_text key (a ∷ others) ≡ line_text (spaced key (token_text a)) others
unfolding line_text
token_first key a others = simp append_assoc refl

pub five_tokens : (key : List ℕ) (a b d e f : Token) → line_text key (a ∷ b ∷ d ∷ e ∷ f ∷ [])
    ≡ line (spaced (spaced (spaced (spaced (spaced key (token_text a)) (token_text b)) (token_text d)) (token_text e)) (token_text f))
five_tokens key a b d e f =
    token_first key a (b ∷ d ∷ e ∷ f ∷ []) ∙ token_first (spaced key (token_text a)) b (d ∷ e ∷ f ∷ [])
    ∙ three_tokens (spaced (spaced key (token_text a)) (token_text b)) d e f

-- the words of a status
pub exit_words : (e : Exit) → IsExit e → status_words (status_word e) ≡ spaced (exit_key e) (decimal (exit_number e))
unfolding status_words
exit_words (Code n) h = grind (arith, nat_tests)
exit_words (Signal n) h = grind (arith, nat_tests)
exit_words (Fault n) h = grind (arith, nat_tests)
exit_words (Lost n) h = grind (arith, nat_tests)

-- a word and a number stand in a line as any two tokens do
regrouped : (key p x y : List ℕ) → line (spaced (spaced (spaced key p) x) y) ≡ line (spaced (spaced key p) (spaced x y))
regrouped key p x y = simp append_assoc refl

-- the line of an exit
pub exit_line : (pid : ℕ) (e : Exit) (a b d : Token) → IsExit e → token_text a ≡ decimal pid → token_text b ≡ exit_key e → token_text d ≡ decimal (exit_number e)
    → line_text (codes "exit") (a ∷ b ∷ d ∷ []) ≡ process_line pid (Some (status_word e))
exit_line pid e a b d h p k n =
    three_tokens (codes "exit") a b d
    ∙ rw (p, k, n) (regrouped (codes "exit") (decimal pid) (exit_key e) (decimal (exit_number e)))
    ∙ ap (λ (text : List ℕ). line (spaced (spaced (codes "exit") (decimal pid)) text)) (sym (exit_words e h))

-- a tape that is not empty begins with a line of 64 bytes
pub out_more : (tape : List ℕ) → 0 < length tape → out_lines (tape_line_count tape) tape ≡ line (spaced (codes "out") (escaped (take 64 tape))) ++ out_lines (tape_line_count (drop 64 tape)) (drop 64 tape)
unfolding out_lines
out_more tape h =
    let more : tape_line_count tape ≡ suc (tape_line_count (drop 64 tape)) = rw length-drop (omega arith) in
    rw more refl

-- an empty one has no line
pub out_none : (tape : List ℕ) → length tape ≡ 0 → out_lines (tape_line_count tape) tape ≡ []
unfolding out_lines
out_none [] h = refl
out_none (b ∷ tape) h = absurd (omega arith)

-- the least of the length and 64 splits a tape as 64 does
pub split_front : (tape : List ℕ) → take (min (length tape) 64) tape ≡ take 64 tape
split_front tape = elim (cases_lt (length tape) 64) [
  | inl h ↦ (let all : min (length tape) 64 ≡ length tape = omega arith in
      rw all (take_all (length tape) tape (omega arith) ∙ sym (take_all 64 tape (omega arith))))
  | inr h ↦ (let some : min (length tape) 64 ≡ 64 = omega arith in rw some refl)
]

pub split_back : (tape : List ℕ) → drop (min (length tape) 64) tape ≡ drop 64 tape
split_back tape = elim (cases_lt (length tape) 64) [
  | inl h ↦ (let all : min (length tape) 64 ≡ length tape = omega arith in
      let short : length tape ≤ 64 = omega arith in
      rw all (drop-length tape ∙ sym (drop_of_length-le tape short)))
  | inr h ↦ (let some : min (length tape) 64 ≡ 64 = omega arith in rw some refl)
]

-- a row without the space at its end, and one with none there
pub trim_space : (row : List ℕ) → pointwise nat_eq (drop (length row - 1) row) (32 ∷ []) ≡ true → trimmed (take (length row - 1) row) ≡ trimmed row
unfolding trimmed
trim_space [] h = refl
trim_space (b ∷ []) h = let e : nat_eq b 32 ≡ true = (and_parts (nat_eq b 32) true h).0 in rw e refl
trim_space (b ∷ (d ∷ row)) h =
    let e : length (b ∷ (d ∷ row)) - 1 ≡ suc (length (d ∷ row) - 1) = omega arith in
    rw e (ap (λ (text : List ℕ). kept_before b text) (trim_space (d ∷ row) (rw e at h)))

pub trim_none : (row : List ℕ) → pointwise nat_eq (drop (length row - 1) row) (32 ∷ []) ≡ false → trimmed row ≡ row
unfolding trimmed
trim_none [] h = refl
trim_none (b ∷ []) h = elim (and_cases (nat_eq b 32) true h) [ inl e ↦ rw e refl | inr e ↦ absurd (cc) ]
trim_none (b ∷ (d ∷ row)) h =
    let e : length (b ∷ (d ∷ row)) - 1 ≡ suc (length (d ∷ row) - 1) = omega arith in
    ap (λ (text : List ℕ). kept_before b text) (trim_none (d ∷ row) (rw e at h))

-- the line of a row that is not blank
pub row_line : (number : ℕ) (text : List ℕ) (a b : Token) → false ≡ nat_eq (length text) 0 → token_text a ≡ decimal number → token_text b ≡ escaped text
    → line_text (codes "row") (a ∷ b ∷ []) ≡ row_line_of number text
row_line number [] a b h p q = absurd (cc)
row_line number (d ∷ text) a b h p q = two_tokens (codes "row") a b ∙ rw (p, q) refl

-- what the test for an empty list says
pub some_left : (xs : List ℕ) → false ≡ nat_eq (length xs) 0 → 0 < length xs
some_left [] h = absurd (cc)
some_left (b ∷ xs) h = omega arith

pub none_left : (xs : List ℕ) → true ≡ nat_eq (length xs) 0 → length xs ≡ 0
none_left xs h = eqb-true (length xs) 0 (sym h)

-- one line more of a tape, whose bytes and the others were split off the rest
pub out_further : (text rest bytes others : List ℕ) (n : ℕ) (u v w : Option (List ℕ)) → 0 < length rest → n ≡ min (length rest) 64 → bytes ≡ take n rest → others ≡ drop n rest
    → PartWay text (out_lines (tape_line_count rest) rest) u v → w ≡ appended v (line (spaced (codes "out") (escaped bytes)))
    → PartWay text (out_lines (tape_line_count others) others) u w
out_further text rest bytes others n u v w some least front back p e =
    let others_are : others ≡ drop 64 rest = back ∙ ap (λ (m : ℕ). drop m rest) least ∙ split_back rest in
    let bytes_are : bytes ≡ take 64 rest = front ∙ ap (λ (m : ℕ). take m rest) least ∙ split_front rest in
    rw others_are (further text (line (spaced (codes "out") (escaped (take 64 rest)))) _ u v w (rw (out_more rest some) at p) (rw bytes_are at e))

pub out_broken : (text rest bytes : List ℕ) (n : ℕ) (u v w : Option (List ℕ)) → 0 < length rest → n ≡ min (length rest) 64 → bytes ≡ take n rest
    → PartWay text (out_lines (tape_line_count rest) rest) u v → IsFront (line (spaced (codes "out") (escaped bytes))) v w → IsFront text u w
out_broken text rest bytes n u v w some least front p e =
    let bytes_are : bytes ≡ take 64 rest = front ∙ ap (λ (m : ℕ). take m rest) least ∙ split_front rest in
    broken text (line (spaced (codes "out") (escaped (take 64 rest)))) _ u v w (rw (out_more rest some) at p) (rw bytes_are at e)

pub out_complete : (text rest : List ℕ) (u v : Option (List ℕ)) → length rest ≡ 0 → PartWay text (out_lines (tape_line_count rest) rest) u v → v ≡ appended u text
out_complete text rest u v none p = complete text u v (rw (out_none rest none) at p)

-- the lines of the rows from one on are its line and those of the others
pub rows_more : (rows : List (List ℕ)) (r : ℕ) → r < length rows → row_lines r (drop r rows) ≡ row_line_of r (trimmed (get_or rows r [])) ++ row_lines (r + 1) (drop (r + 1) rows)
unfolding row_lines
rows_more rows r h = let e : drop r rows ≡ get_or rows r [] ∷ drop (r + 1) rows = rw add-one (drop-cons rows r [] h) in rw e refl

-- behind the last row there is none
pub rows_none : (rows : List (List ℕ)) (r : ℕ) → length rows ≡ r → row_lines r (drop r rows) ≡ []
unfolding row_lines
rows_none rows r h = rw (← h, drop-length) refl

-- one row more of a screen
pub rows_further : (text : List ℕ) (rows : List (List ℕ)) (r : ℕ) (row : List ℕ) (u v w : Option (List ℕ)) → r < length rows → row ≡ get_or rows r []
    → PartWay text (row_lines r (drop r rows)) u v → w ≡ appended v (row_line_of r (trimmed row)) → PartWay text (row_lines (r + 1) (drop (r + 1) rows)) u w
rows_further text rows r row u v w h is p e =
    further text (row_line_of r (trimmed (get_or rows r []))) _ u v w (rw (rows_more rows r h) at p) (rw is at e)

pub rows_broken : (text : List ℕ) (rows : List (List ℕ)) (r : ℕ) (row : List ℕ) (u v w : Option (List ℕ)) → r < length rows → row ≡ get_or rows r []
    → PartWay text (row_lines r (drop r rows)) u v → IsFront (row_line_of r (trimmed row)) v w → IsFront text u w
rows_broken text rows r row u v w h is p e =
    broken text (row_line_of r (trimmed (get_or rows r []))) _ u v w (rw (rows_more rows r h) at p) (rw is at e)

pub rows_complete : (text : List ℕ) (rows : List (List ℕ)) (r : ℕ) (u v : Option (List ℕ)) → length rows ≡ r → PartWay text (row_lines r (drop r rows)) u v → v ≡ appended u text
rows_complete text rows r u v h p = complete text u v (rw (rows_none rows r h) at p)

-- the lines of the processes from a pid on are its line and those of the others
pub processes_more : (exits : ℕ → Option ℕ) (pid next : ℕ) → pid < next
    → process_lines exits pid (next - pid) ≡ process_line pid (exits pid) ++ process_lines exits (pid + 1) (next - (pid + 1))
unfolding process_lines
processes_more exits pid next h = let more : next - pid ≡ suc (next - (pid + 1)) = omega arith in rw more refl

-- from the next pid on there is none
pub processes_none : (exits : ℕ → Option ℕ) (pid next : ℕ) → next ≤ pid → process_lines exits pid (next - pid) ≡ []
unfolding process_lines
processes_none exits pid next h = let none : next - pid ≡ 0 = omega arith in rw none refl

-- one process more
pub processes_further : (text : List ℕ) (exits : ℕ → Option ℕ) (pid next : ℕ) (ended : Option ℕ) (u v w : Option (List ℕ)) → pid < next → ended ≡ exits pid
    → PartWay text (process_lines exits pid (next - pid)) u v → w ≡ appended v (process_line pid ended) → PartWay text (process_lines exits (pid + 1) (next - (pid + 1))) u w
processes_further text exits pid next ended u v w h is p e =
    further text (process_line pid (exits pid)) _ u v w (rw (processes_more exits pid next h) at p) (rw is at e)

pub processes_broken : (text : List ℕ) (exits : ℕ → Option ℕ) (pid next : ℕ) (ended : Option ℕ) (u v w : Option (List ℕ)) → pid < next → ended ≡ exits pid
    → PartWay text (process_lines exits pid (next - pid)) u v → IsFront (process_line pid ended) v w → IsFront text u w
processes_broken text exits pid next ended u v w h is p e =
    broken text (process_line pid (exits pid)) _ u v w (rw (processes_more exits pid next h) at p) (rw is at e)

pub processes_complete : (text : List ℕ) (exits : ℕ → Option ℕ) (pid next : ℕ) (u v : Option (List ℕ)) → next ≤ pid
    → PartWay text (process_lines exits pid (next - pid)) u v → v ≡ appended u text
processes_complete text exits pid next u v h p = complete text u v (rw (processes_none exits pid next h) at p)

-- a panic more: its line and those behind it, and its fates if the log has them
pub panics_more : (history : List PanicRecord) (told : List (List (ℕ × Fate))) (i : ℕ) (entry : PanicRecord) → i < length history → entry ≡ get_or history i entry
    → panic_lines (drop i history) (drop i told) ≡ with_fates entry (get_or told i []) ++ panic_lines (drop (suc i) history) (drop (suc i) told)
unfolding panic_lines
panics_more [] told i entry h is = absurd (omega arith)
panics_more (x ∷ history) [] zero entry h is = rw is refl
panics_more (x ∷ history) (fates ∷ told) zero entry h is = rw is refl
panics_more (x ∷ history) [] (suc i) entry h is = rw (drop-nil i) at (panics_more history [] i entry (omega arith) is)
panics_more (x ∷ history) (fates ∷ told) (suc i) entry h is = panics_more history told i entry (omega arith) is

pub panics_further : (text : List ℕ) (history : List PanicRecord) (told : List (List (ℕ × Fate))) (i : ℕ) (entry : PanicRecord) (fates : List (ℕ × Fate)) (u v w : Option (List ℕ))
    → i < length history → entry ≡ get_or history i entry → fates ≡ get_or told i []
    → PartWay text (panic_lines (drop i history) (drop i told)) u v → w ≡ appended v (with_fates entry fates) → PartWay text (panic_lines (drop (i + 1) history) (drop (i + 1) told)) u w
panics_further text history told i entry fates u v w h is are p e =
    rw add-one (further text (with_fates entry (get_or told i [])) _ u v w (rw (panics_more history told i entry h is) at p) (rw are at e))

pub panics_broken : (text : List ℕ) (history : List PanicRecord) (told : List (List (ℕ × Fate))) (i : ℕ) (entry : PanicRecord) (fates : List (ℕ × Fate)) (u v w : Option (List ℕ))
    → i < length history → entry ≡ get_or history i entry → fates ≡ get_or told i []
    → PartWay text (panic_lines (drop i history) (drop i told)) u v → IsFront (with_fates entry fates) v w → IsFront text u w
panics_broken text history told i entry fates u v w h is are p e =
    broken text (with_fates entry (get_or told i [])) _ u v w (rw (panics_more history told i entry h is) at p) (rw are at e)

pub panics_complete : (text : List ℕ) (history : List PanicRecord) (told : List (List (ℕ × Fate))) (i : ℕ) (u v : Option (List ℕ)) → length history ≤ i
    → PartWay text (panic_lines (drop i history) (drop i told)) u v → v ≡ appended u text
unfolding panic_lines
panics_complete text history told i u v h p =
    let none : drop i history ≡ [] = drop_of_length-le history h in
    complete text u v (rw none at p)

-- the entry of a trap is the next one, or among those behind it
pub entry_more : (history : List PanicRecord) (trap i : ℕ) (entry : PanicRecord) → i < length history → entry ≡ get_or history i entry
    → entry_for (drop i history) trap ≡ or_entry entry trap (entry_for (drop (i + 1) history) trap)
unfolding entry_for
entry_more history trap i entry h is = let next : drop i history ≡ entry ∷ drop (i + 1) history = rw add-one (drop-cons history i entry h ∙ rw (← is) refl) in rw next refl

pub entry_none : (history : List PanicRecord) (trap i : ℕ) → length history ≤ i → entry_for (drop i history) trap ≡ None
unfolding entry_for
entry_none history trap i h = let none : drop i history ≡ [] = drop_of_length-le history h in rw none refl

-- what did not come is told of one panic of the world after the other
pub unused_each : (panics : List PanicLine) (history : List PanicRecord) → unused_lines panics history ≡ flat_map (unused_by history) panics
unfolding unused_lines
unused_each [] history = refl
unused_each (panic ∷ panics) history = ap (λ (text : List ℕ). unused_by history panic ++ text) (unused_each panics history)

-- what is told of a plant is told of a state with which it agrees
state_same : (s : PlantState) (w : Unix) → PlantAgrees s w → state_text w ≡ plant_text s
unfolding unix_of plant_text terminals_text
state_same s w agrees =
    let is = agrees.decodes.1 in
    let exits : w.exits ≡ exits_of s = ap (λ (u : Unix). u.exits) is in
    let next : w.next_pid ≡ next_pid_of s = ap (λ (u : Unix). u.next_pid) is in
    let tape0 : (w.terminals 0).tape ≡ s.tty0.tape = agrees.tapes 0 (omega arith) in
    let tape1 : (w.terminals 1).tape ≡ s.tty1.tape = agrees.tapes 1 (omega arith) in
    let shown0 : shown_on (w.terminals 0) ≡ s.tty0.display = sym (agrees.shown 0 (omega arith)) in
    let shown1 : shown_on (w.terminals 1) ≡ s.tty1.display = sym (agrees.shown 1 (omega arith)) in
    rw (exits, next, shown0, shown1, tape0, tape1) refl

-- the report of a run that left this plant, by its parts
pub report_parts : (panics : List PanicLine) (told : List (List (ℕ × Fate))) (ending : Ending) (s : PlantState) (w : Unix) → PlantAgrees s w
    → report_with panics s.history told ending w ≡ head_text ending s.steps s.traps ++ ((panic_lines s.history told ++ unused_lines panics s.history) ++ plant_text s)
unfolding report_with unix_of
report_parts panics told ending s w agrees =
    let steps : w.steps ≡ s.steps = ap (λ (u : Unix). u.steps) agrees.decodes.1 in
    let traps : w.traps ≡ s.traps = ap (λ (u : Unix). u.traps) agrees.decodes.1 in
    rw (steps, traps, state_same s w agrees, append_assoc) refl
