-- The head, the files and the programs of a text are told one way.
use Rattle.std.proofs.Common.{◌≡◌, ℕ, ◌^◌, ◌<◌, true, List, ◌∷◌, ◌++◌, codes, decimal, arith, ap, ◌∙◌, sym, refl, append_assoc}
use Rattle.std.specs.List.{flat_map, concat}
use Rattle.std.proofs.lemmas.List.{append_cancel_left}
use Rattle.std.proofs.lemmas.List.Elements.{recursion_from_All}
use Rattle.ow_base.specs.Lines.{line, spaced, number_line, escaped}
use Rattle.ow_base.specs.World.{IsName, IsShape, head_lines, AreBytes, put_line, IsFile, word_line, IsLineful}
use Rattle.ow_base.specs.declared.machine.Shape.{Shape}
use Rattle.ow_base.specs.declared.worlds.FileText.{FileText}
use Rattle.world_file.proofs.WorldPieces.{free, free-append}
use Rattle.world_file.proofs.LinesUnique.{AreSame, tail_same, line_unique, decimal_unique, words_unique}
use Rattle.world_file.proofs.WorldFields.{free_decimal, free_name}
use Rattle.world_file.proofs.WorldSpelled.{word_text, free_words}
use Rattle.world_file.proofs.EscapesUnique.{escaped_unique, free_escaped}
use Rattle.world_file.proofs.TextsUnique.{opening, Anything, AreUnique, texts_unique, IsLineOf, lines_are}
use Rattle.world_file.proofs.WorldHead.{shape_with, five}

-- lines of a key word and one field
pub field_unique : (key x y r t : List ℕ) → free 10 key ≡ true → free 10 x ≡ true → free 10 y ≡ true → line (spaced key x) ++ r ≡ line (spaced key y) ++ t → AreSame x y r t
field_unique key x y r t clean clean_x clean_y e =
    let same = line_unique (spaced key x) (spaced key y) r t (free-append 10 key (32 ∷ x) clean clean_x) (free-append 10 key (32 ∷ y) clean clean_y) e in
    (tail_same 32 32 x y (append_cancel_left key (32 ∷ x) (32 ∷ y) same.0), same.1)

pub number_line_unique : (key : List ℕ) (m n : ℕ) (r t : List ℕ) → free 10 key ≡ true → m < 2 ^ 32 → n < 2 ^ 32 → number_line key m ++ r ≡ number_line key n ++ t → AreSame m n r t
number_line_unique key m n r t clean small_m small_n e =
    let same = field_unique key (decimal m) (decimal n) r t clean (free_decimal 10 m (omega arith) small_m) (free_decimal 10 n (omega arith) small_n) e in
    (decimal_unique m n small_m small_n same.0, same.1)

pub named_line_unique : (key x y r t : List ℕ) → free 10 key ≡ true → IsName x → IsName y → line (spaced key x) ++ r ≡ line (spaced key y) ++ t → AreSame x y r t
named_line_unique key x y r t clean is_x is_y e = field_unique key x y r t clean (free_name 10 x (omega arith) is_x) (free_name 10 y (omega arith) is_y) e

head_text : (s : Shape) (r : List ℕ) → head_lines s ++ r ≡ line (codes "world 1") ++ (number_line (codes "frames") s.user_frames ++ (number_line (codes "sectors") s.sectors
    ++ (number_line (codes "quantum") s.quantum ++ (number_line (codes "budget") s.budget ++ r))))
head_text s r = five (line (codes "world 1")) (number_line (codes "frames") s.user_frames) (number_line (codes "sectors") s.sectors) (number_line (codes "quantum") s.quantum) (number_line (codes "budget") s.budget) r

pub shape_unique : (a b : Shape) (r t : List ℕ) → IsShape a → IsShape b → head_lines a ++ r ≡ head_lines b ++ t → AreSame a b r t
shape_unique a b r t is_a is_b e =
    let a4 = number_line (codes "budget") a.budget ++ r in
    let b4 = number_line (codes "budget") b.budget ++ t in
    let a3 = number_line (codes "quantum") a.quantum ++ a4 in
    let b3 = number_line (codes "quantum") b.quantum ++ b4 in
    let a2 = number_line (codes "sectors") a.sectors ++ a3 in
    let b2 = number_line (codes "sectors") b.sectors ++ b3 in
    let a1 = number_line (codes "frames") a.user_frames ++ a2 in
    let b1 = number_line (codes "frames") b.user_frames ++ b2 in
    let first = append_cancel_left (line (codes "world 1")) a1 b1 (sym (head_text a r) ∙ e ∙ head_text b t) in
    let frames = number_line_unique (codes "frames") a.user_frames b.user_frames a2 b2 refl (omega (arith, is_a.most_frames)) (omega (arith, is_b.most_frames)) first in
    let sectors = number_line_unique (codes "sectors") a.sectors b.sectors a3 b3 refl (omega (arith, is_a.most_sectors)) (omega (arith, is_b.most_sectors)) frames.1 in
    let quantum = number_line_unique (codes "quantum") a.quantum b.quantum a4 b4 refl (omega (arith, is_a.longest_slice)) (omega (arith, is_b.longest_slice)) sectors.1 in
    let budget = number_line_unique (codes "budget") a.budget b.budget r t refl (omega (arith, is_a.most_steps)) (omega (arith, is_b.most_steps)) quantum.1 in
    let same : a ≡ b =
    ap (λ n. shape_with n a.sectors a.quantum a.budget) frames.0
    ∙ ap (λ n. shape_with b.user_frames n a.quantum a.budget) sectors.0
    ∙ ap (λ n. shape_with b.user_frames b.sectors n a.budget) quantum.0
    ∙ ap (λ n. shape_with b.user_frames b.sectors b.quantum n) budget.0 in
    (same, budget.1)

-- files
abbrev pub put_key : ℕ
put_key = opening (codes "put")

puts_unique : AreUnique (IsLineOf put_line AreBytes) put_key Anything
puts_unique = record {
  opens = λ text bytes r is. ap (λ t. opening (t ++ r)) is.0;
  follows = tt;
  one = λ text_a text_b a b r t is_a is_b may_r may_t e.
      let same = field_unique (codes "put") (escaped a) (escaped b) r t refl (free_escaped a) (free_escaped b) (ap (λ x. x ++ r) (sym is_a.0) ∙ e ∙ ap (λ x. x ++ t) is_b.0) in
      (escaped_unique a b is_a.1 is_b.1 same.0, same.1);
}

abbrev file_with : (name bytes : List ℕ) → FileText
file_with name bytes = record { name = name; bytes = bytes }

abbrev pub IsNoPut : ℕ → Type 0
IsNoPut k = k ≡ put_key → ⊥

file_one : (text_a text_b : List ℕ) (a b : FileText) (r t : List ℕ) → IsFile text_a a → IsFile text_b b → IsNoPut (opening r) → IsNoPut (opening t) → text_a ++ r ≡ text_b ++ t → AreSame a b r t
file_one text_a text_b a b r t is_a is_b may_r may_t e =
    let name_a = line (spaced (codes "file") a.name) in
    let name_b = line (spaced (codes "file") b.name) in
    let puts_a = flat_map put_line is_a.puts in
    let puts_b = flat_map put_line is_b.puts in
    let whole : name_a ++ (puts_a ++ r) ≡ name_b ++ (puts_b ++ t) =
    sym (append_assoc name_a puts_a r) ∙ ap (λ x. x ++ r) (sym is_a.spelled) ∙ e ∙ ap (λ x. x ++ t) is_b.spelled ∙ append_assoc name_b puts_b t in
    let name = named_line_unique (codes "file") a.name b.name (puts_a ++ r) (puts_b ++ t) refl is_a.named is_b.named whole in
    let lines_a = lines_are put_line AreBytes is_a.puts (recursion_from_All AreBytes is_a.puts is_a.each) in
    let lines_b = lines_are put_line AreBytes is_b.puts (recursion_from_All AreBytes is_b.puts is_b.each) in
    let puts = texts_unique (IsLineOf put_line AreBytes) put_key Anything puts_unique puts_a puts_b is_a.puts is_b.puts r t lines_a lines_b may_r may_t tt tt name.1 in
    let bytes : a.bytes ≡ b.bytes = is_a.joined ∙ ap concat puts.0 ∙ sym is_b.joined in
    (ap (λ n. file_with n a.bytes) name.0 ∙ ap (λ bs. file_with b.name bs) bytes, puts.1)

abbrev pub file_key : ℕ
file_key = opening (codes "file")

pub files_unique : AreUnique IsFile file_key IsNoPut
files_unique = record {
  opens = λ text file r is. ap (λ t. opening (t ++ r)) is.spelled;
  follows = λ e. omega (arith, e);
  one = file_one;
}

-- lines of words
word_line_unique : (key vs ws r t : List ℕ) → free 10 key ≡ true → IsLineful vs → IsLineful ws → word_line key vs ++ r ≡ word_line key ws ++ t → AreSame vs ws r t
word_line_unique key vs ws r t clean is_v is_w e =
    let text_v = flat_map word_text vs in
    let text_w = flat_map word_text ws in
    let same = line_unique (key ++ text_v) (key ++ text_w) r t (free-append 10 key text_v clean (free_words vs)) (free-append 10 key text_w clean (free_words ws)) e in
    let small_v = recursion_from_All (λ w. w < 2 ^ 32) vs is_v.each in
    let small_w = recursion_from_All (λ w. w < 2 ^ 32) ws is_w.each in
    (words_unique vs ws small_v small_w (append_cancel_left key text_v text_w same.0), same.1)

abbrev pub IsWordLine : (key : List ℕ) → List ℕ → List ℕ → Type 0
IsWordLine key = IsLineOf (word_line key) IsLineful

pub word_lines_unique : (key : List ℕ) (a b : ℕ) (others : List ℕ) → key ≡ a ∷ b ∷ others → free 10 key ≡ true → AreUnique (IsWordLine key) (opening key) Anything
word_lines_unique key a b others spelled clean = record {
  opens = λ text ws r is. ap (λ t. opening (t ++ r)) is.0 ∙ ap (λ k. opening (word_line k ws ++ r)) spelled ∙ ap opening (sym spelled);
  follows = tt;
  one = λ text_a text_b vs ws r t is_v is_w may_r may_t e.
      word_line_unique key vs ws r t clean is_v.1 is_w.1 (ap (λ x. x ++ r) (sym is_v.0) ∙ e ∙ ap (λ x. x ++ t) is_w.0);
}
