-- A text is refused exactly where reading it ends with a refusal.
use Rattle.std.proofs.Common.{◌≡◌, ℕ, ◌+◌, ◌<◌, ◌≤◌, Bool, true, false, nat_lt, List, [], ◌∷◌, ◌++◌, length, reverse, Option, Some, None, Ok, Err, Result, codes, bytes_eq, arith, ap, ◌∙◌, sym, refl, subst, append_assoc, if◌then◌else◌}
use Rattle.std.proofs.lemmas.Grind.{common_steps}
use Rattle.std.proofs.lemmas.List.{reverse-append}
use Rattle.std.proofs.lemmas.Slice.Eq.{bytes_eq-Decides}
use Rattle.ow_base.specs.declared.worlds.World.{World}
use Rattle.world_file.specs.declared.why.Why.{Why}
use Rattle.world_file.specs.declared.why.Why.TheVariants.{End, TooLarge}
use Rattle.world_file.specs.WorldLines.{Line, pieces}
use Rattle.world_file.specs.WorldFacts.{Facts, facts, last_key, shape_of, finished, opened, starts, panics}
use Rattle.world_file.specs.WorldReasons.{first_reason, reason_at}
use Rattle.world_file.specs.WorldRefusals.{AreRead, IsReadTo, IsRefused}
use Rattle.world_file.specs.WorldRefusals.IsRefused.{Refused, Early, Behind, Long}
use Rattle.world_file.specs.WorldReading.{Refusal, nothing_said, with_line, world_of, is_nothing, ended, read_line, read_lines, read_text}
use Rattle.world_file.proofs.WorldPieces.{has_piece}
use Rattle.world_file.proofs.WorldNumbers.{same_bytes}

-- one line more
facts_more : (behind : List Line) (line : Line) → with_line (facts behind) line ≡ facts (line ∷ behind)
unfolding with_line last_key shape_of finished opened starts panics
facts_more behind line = refl

facts_none : nothing_said ≡ facts []
unfolding last_key shape_of finished opened starts panics
facts_none = refl

read_further : (behind : List Line) (line next : Line) (ahead : List Line)
    → read_lines (with_line (facts behind) line) (length behind + 1) (next ∷ ahead) ≡ read_lines (facts (line ∷ behind)) (length (line ∷ behind)) (next ∷ ahead)
read_further behind line next ahead =
    let count : length behind + 1 ≡ length (line ∷ behind) = omega arith in
    ap (λ f. read_lines f (length behind + 1) (next ∷ ahead)) (facts_more behind line)
    ∙ ap (λ n. read_lines (facts (line ∷ behind)) n (next ∷ ahead)) count

reverse_more : (line : Line) (behind ahead : List Line) → reverse (line ∷ behind) ++ ahead ≡ reverse behind ++ line ∷ ahead
reverse_more line behind ahead =
    ap (λ front. front ++ ahead) (reverse-append (line ∷ []) behind) ∙ append_assoc (reverse behind) (line ∷ []) ahead

other_line : (line : Line) → (line ≡ codes "end" → ⊥) → bytes_eq line (codes "end") ≡ false
other_line line other = by_test (bytes_eq line (codes "end")) refl
  where
    by_test : (test : Bool) → bytes_eq line (codes "end") ≡ test → test ≡ false
    by_test true e = absurd (other (same_bytes line (codes "end") e))
    by_test false e = refl

-- a line that is neither refused nor the last
step_on : (f : Facts) (number : ℕ) (line next : Line) (ahead : List Line) → first_reason f line ≡ None → (line ≡ codes "end" → ⊥)
    → read_lines f number (line ∷ next ∷ ahead) ≡ read_lines (with_line f line) (number + 1) (next ∷ ahead)
unfolding read_lines
step_on f number line next ahead no_reason other =
    let more = read_lines (with_line f line) (number + 1) (next ∷ ahead) in
    ap (λ reason. read_line reason f number line (next ∷ ahead) more) no_reason
    ∙ ap (λ test. if test then ended f number (next ∷ ahead) else more) (other_line line other)

-- reading goes on behind lines of which none is refused or the last
read_on : (behind : List Line) (next : Line) (ahead : List Line) → AreRead behind
    → read_lines nothing_said 0 (reverse behind ++ next ∷ ahead) ≡ read_lines (facts behind) (length behind) (next ∷ ahead)
unfolding AreRead
read_on [] next ahead read = ap (λ f. read_lines f 0 (next ∷ ahead)) facts_none
read_on (line ∷ behind) next ahead read =
    ap (read_lines nothing_said 0) (reverse_more line behind (next ∷ ahead))
    ∙ read_on behind line (next ∷ ahead) read.2
    ∙ step_on (facts behind) (length behind) line next ahead read.0 read.1
    ∙ read_further behind line next ahead

-- a text that is not too long is read by its lines
pub in_time : (text : List ℕ) → length text ≤ 1048576 → read_text text ≡ read_lines nothing_said 0 (pieces 10 text)
unfolding read_text
in_time text size =
    let test : nat_lt 1048576 (length text) ≡ false = grind (arith, common_steps) in
    ap (λ b. if b then Err (record { line = 0; why = TooLarge }) else read_lines nothing_said 0 (pieces 10 text)) test

too_long : (text : List ℕ) → 1048576 < length text → read_text text ≡ Err (record { line = 0; why = TooLarge })
unfolding read_text
too_long text longer =
    let test : nat_lt 1048576 (length text) ≡ true = grind (arith, common_steps) in
    ap (λ b. if b then Err (record { line = 0; why = TooLarge }) else read_lines nothing_said 0 (pieces 10 text)) test

read_at : (text : List ℕ) (behind : List Line) (next : Line) (ahead : List Line) → IsReadTo text behind (next ∷ ahead)
    → read_text text ≡ read_lines (facts behind) (length behind) (next ∷ ahead)
read_at text behind next ahead place =
    in_time text place.size ∙ ap (read_lines nothing_said 0) place.split ∙ read_on behind next ahead place.read

-- what the last line that is looked at gives
stops_here : (f : Facts) (number : ℕ) (line : Line) (ahead : List Line) (why : Why) → 1 ≤ length ahead → first_reason f line ≡ Some why
    → read_lines f number (line ∷ ahead) ≡ Err (record { line = number + 1; why = why })
unfolding read_lines
stops_here f number line [] why whole reason = absurd (omega arith)
stops_here f number line (next ∷ ahead) why whole reason =
    ap (λ reason. read_line reason f number line (next ∷ ahead) (read_lines (with_line f line) (number + 1) (next ∷ ahead))) reason

runs_out : (f : Facts) (number : ℕ) (rest : Line) → read_lines f number (rest ∷ []) ≡ Err (record { line = number + 1; why = End })
unfolding read_lines
runs_out f number rest = refl

something : (ahead : List Line) → (ahead ≡ [] ∷ [] → ⊥) → is_nothing ahead ≡ false
something [] more = refl
something ([] ∷ []) more = absurd (more refl)
something ((b ∷ bs) ∷ []) more = refl
something ([] ∷ next ∷ ahead) more = refl
something ((b ∷ bs) ∷ next ∷ ahead) more = refl

goes_on : (f : Facts) (number : ℕ) (ahead : List Line) → 1 ≤ length ahead → first_reason f (codes "end") ≡ None → (ahead ≡ [] ∷ [] → ⊥)
    → read_lines f number (codes "end" ∷ ahead) ≡ Err (record { line = number + 2; why = End })
unfolding read_lines
goes_on f number [] whole no_reason more = absurd (omega arith)
goes_on f number (next ∷ ahead) whole no_reason more =
    let others = read_lines (with_line f (codes "end")) (number + 1) (next ∷ ahead) in
    ap (λ reason. read_line reason f number (codes "end") (next ∷ ahead) others) no_reason
    ∙ ap (λ test. if test then Ok (world_of f) else Err (record { line = number + 2; why = End })) (something (next ∷ ahead) more)

abbrev refusal : (line : ℕ) → Why → Result World Refusal
refusal line why = Err (record { line = line; why = why })

numbered : (m n : ℕ) (v w : Why) → m ≡ n → v ≡ w → refusal n w ≡ refusal m v
numbered m n v w number reason = rw (number, reason) refl

-- what is refused is not read, at the same line
pub refused_is_not_read : (text : List ℕ) (line : ℕ) (why : Why) → IsRefused text line why
    → read_text text ≡ Err (record { line = line; why = why })
refused_is_not_read text line why (Refused is) =
    read_at text is.behind is.refused is.ahead is.place
    ∙ stops_here (facts is.behind) (length is.behind) is.refused is.ahead why is.whole is.reason
    ∙ numbered line (length is.behind + 1) why why is.number refl
refused_is_not_read text line why (Early is) =
    read_at text is.behind is.rest [] is.place
    ∙ runs_out (facts is.behind) (length is.behind) is.rest
    ∙ numbered line (length is.behind + 1) why End is.number is.reason
refused_is_not_read text line why (Behind is) =
    read_at text is.behind (codes "end") is.ahead is.place
    ∙ goes_on (facts is.behind) (length is.behind) is.ahead is.whole is.may_stand is.more
    ∙ numbered line (length is.behind + 2) why End is.number is.reason
refused_is_not_read text line why (Long is) = too_long text is.longer ∙ numbered line 0 why TooLarge is.number is.reason

same_refusal : (a b : Refusal) → refusal a.line a.why ≡ refusal b.line b.why → a ≡ b
same_refusal a b h = cc

-- from a place on, a text that is not read is refused
abbrev Falls : (text : List ℕ) (behind : List Line) (line : Line) (ahead : List Line) (r : Refusal) → Type 0
Falls text behind line ahead r =
    IsReadTo text behind (line ∷ ahead) → read_lines (facts behind) (length behind) (line ∷ ahead) ≡ Err r → IsRefused text r.line r.why

true_is_not_false : true ≡ false → ⊥
true_is_not_false e = cc

behind_end : (text : List ℕ) (behind ahead : List Line) (r : Refusal) → IsReadTo text behind (codes "end" ∷ ahead) → 1 ≤ length ahead
    → reason_at behind (codes "end") ≡ None → ended (facts behind) (length behind) ahead ≡ Err r → IsRefused text r.line r.why
behind_end text behind ahead r place whole may_stand h = by_test (is_nothing ahead) refl h
  where
    by_test : (test : Bool) → is_nothing ahead ≡ test → (if test then Ok (world_of (facts behind)) else refusal (length behind + 2) End) ≡ Err r → IsRefused text r.line r.why
    by_test true e h = cc
    by_test false e h =
        let same = same_refusal (record { line = length behind + 2; why = End }) r h in
        Behind (record {
          behind = behind;
          ahead = ahead;
          place = place;
          whole = whole;
          may_stand = may_stand;
          more = λ nothing. true_is_not_false (sym (ap is_nothing nothing) ∙ e);
          reason = ap (λ (x : Refusal). x.why) (sym same);
          number = ap (λ (x : Refusal). x.line) (sym same);
        })

-- a line for which there is a reason
falls_here : (text : List ℕ) (behind : List Line) (line next : Line) (ahead : List Line) (why : Why) (r : Refusal)
    → IsReadTo text behind (line ∷ next ∷ ahead) → reason_at behind line ≡ Some why → refusal (length behind + 1) why ≡ Err r → IsRefused text r.line r.why
falls_here text behind line next ahead why r place reason h =
    let same = same_refusal (record { line = length behind + 1; why = why }) r h in
    Refused (record {
      behind = behind;
      refused = line;
      ahead = next ∷ ahead;
      place = place;
      whole = omega arith;
      reason = reason ∙ ap (λ (x : Refusal). Some x.why) same;
      number = ap (λ (x : Refusal). x.line) (sym same);
    })

-- the next place
one_further : (text : List ℕ) (behind : List Line) (line next : Line) (ahead : List Line)
    → IsReadTo text behind (line ∷ next ∷ ahead) → reason_at behind line ≡ None → (line ≡ codes "end" → ⊥) → IsReadTo text (line ∷ behind) (next ∷ ahead)
unfolding AreRead
one_further text behind line next ahead place no_reason other = record {
  split = place.split ∙ sym (reverse_more line behind (next ∷ ahead));
  size = place.size;
  read = (no_reason, other, place.read);
}

falls_on : (text : List ℕ) (behind : List Line) (line next : Line) (ahead : List Line) (r : Refusal) → Falls text (line ∷ behind) next ahead r
    → Falls text behind line (next ∷ ahead) r
unfolding read_lines
falls_on text behind line next ahead r later place h =
    by_reason (first_reason (facts behind) line) (read_lines (with_line (facts behind) line) (length behind + 1) (next ∷ ahead)) refl (read_further behind line next ahead) h
  where
    by_test : (more : Result World Refusal) → reason_at behind line ≡ None → more ≡ read_lines (facts (line ∷ behind)) (length (line ∷ behind)) (next ∷ ahead)
        → (test : Bool) → bytes_eq line (codes "end") ≡ test → (if test then ended (facts behind) (length behind) (next ∷ ahead) else more) ≡ Err r → IsRefused text r.line r.why
    by_test more no_reason same true e h =
        let last = same_bytes line (codes "end") e in
        behind_end text behind (next ∷ ahead) r (subst (λ l. IsReadTo text behind (l ∷ next ∷ ahead)) last place) (omega arith)
        (subst (λ l. reason_at behind l ≡ None) last no_reason) h
    by_test more no_reason same false e h =
        let other = λ (is : line ≡ codes "end"). true_is_not_false (sym ((bytes_eq-Decides line (codes "end")).1 is) ∙ e) in
        later (one_further text behind line next ahead place no_reason other) (sym same ∙ h)

    by_reason : (reason : Option Why) (more : Result World Refusal) → first_reason (facts behind) line ≡ reason
        → more ≡ read_lines (facts (line ∷ behind)) (length (line ∷ behind)) (next ∷ ahead)
        → read_line reason (facts behind) (length behind) line (next ∷ ahead) more ≡ Err r → IsRefused text r.line r.why
    by_reason (Some why) more e same h = falls_here text behind line next ahead why r place e h
    by_reason None more e same h = by_test more e same (bytes_eq line (codes "end")) refl h

falls : (text : List ℕ) (behind : List Line) (line : Line) (ahead : List Line) (r : Refusal) → Falls text behind line ahead r
unfolding read_lines
falls text behind line [] r place h =
    let same = same_refusal (record { line = length behind + 1; why = End }) r h in
    Early (record {
      behind = behind;
      rest = line;
      place = place;
      reason = ap (λ (x : Refusal). x.why) (sym same);
      number = ap (λ (x : Refusal). x.line) (sym same);
    })
falls text behind line (next ∷ ahead) r place h =
    falls_on text behind line next ahead r (falls text (line ∷ behind) next ahead r) place h

-- what is not read is refused, at the same line
pub unread_is_refused : (text : List ℕ) (r : Refusal) → read_text text ≡ Err r → IsRefused text r.line r.why
unfolding read_text AreRead
unread_is_refused text r h = by_size (nat_lt 1048576 (length text)) refl h
  where
    by_size : (test : Bool) → nat_lt 1048576 (length text) ≡ test
        → (if test then refusal 0 TooLarge else read_lines nothing_said 0 (pieces 10 text)) ≡ Err r → IsRefused text r.line r.why
    by_size true e h =
        let same = same_refusal (record { line = 0; why = TooLarge }) r h in
        Long (record {
          longer = grind (arith, common_steps, e);
          reason = ap (λ (x : Refusal). x.why) (sym same);
          number = ap (λ (x : Refusal). x.line) (sym same);
        })
    by_size false e h =
        let first = has_piece 10 text in
        falls text [] first.0 first.1 r (record { split = first.2; size = grind (arith, common_steps, e); read = tt })
        (ap (λ f. read_lines f 0 (first.0 ∷ first.1)) (sym facts_none) ∙ ap (read_lines nothing_said 0) (sym first.2) ∙ h)

-- a text is refused at one line at most, for one reason
pub one_refusal_of : (text : List ℕ) (m n : ℕ) (v w : Why) → IsRefused text m v → IsRefused text n w → (m ≡ n) × (v ≡ w)
one_refusal_of text m n v w a b =
    let same = same_refusal (record { line = m; why = v }) (record { line = n; why = w }) (sym (refused_is_not_read text m v a) ∙ refused_is_not_read text n w b) in
    (ap (λ (x : Refusal). x.line) same, ap (λ (x : Refusal). x.why) same)

-- what is read is not refused
pub read_is_not_refused : (text : List ℕ) (world : World) (line : ℕ) (why : Why) → read_text text ≡ Ok world → IsRefused text line why → ⊥
read_is_not_refused text world line why read is =
    let both = sym read ∙ refused_is_not_read text line why is in cc
