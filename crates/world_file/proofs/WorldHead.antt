-- The five lines at the head of a world are read.
use Rattle.std.proofs.Common.{◌≡◌, ℕ, ◌^◌, ◌<◌, ◌≤◌, true, false, List, [], ◌∷◌, ◌++◌, Some, None, codes, decimal, bytes_eq, arith, sym, refl, subst, append_assoc}
use Rattle.ow_base.specs.Lines.{line, spaced, number_line}
use Rattle.ow_base.specs.World.{IsShape, head_lines}
use Rattle.ow_base.specs.declared.machine.Shape.{Shape}
use Rattle.ow_base.specs.declared.worlds.World.{World}
use Rattle.world_file.specs.declared.key.Key.{Key}
use Rattle.world_file.specs.declared.key.Key.TheVariants.{World as WorldKey, Frames, Sectors, Quantum, Budget}
use Rattle.world_file.specs.WorldLines.{Line, tokens, pieces, key, key_of}
use Rattle.world_file.specs.WorldFacts.{Facts, no_shape}
use Rattle.world_file.specs.WorldReading.{with_line, nothing_said}
use Rattle.world_file.proofs.WorldPieces.{free, free-append}
use Rattle.world_file.proofs.WorldNumbers.{number_of_accepts}
use Rattle.world_file.proofs.WorldFields.{free_decimal, le_is_true}
use Rattle.world_file.proofs.WorldSpelled.{two_words, some_number}
use Rattle.world_file.proofs.WorldPassed.{IsPassed, Reads, reads_line}

-- what is said up to the line of this key, before there are programs
abbrev pub at_head : Key → Shape → Facts
at_head last shape = record { last = Some last; shape = shape; finished = []; opened = None; starts = []; panics = [] }

abbrev pub shape_with : (frames sectors quantum budget : ℕ) → Shape
shape_with frames sectors quantum budget = record { user_frames = frames; sectors = sectors; quantum = quantum; budget = budget }

first_passed : IsPassed nothing_said (codes "world 1")
unfolding tokens pieces key_of
first_passed = record { first = refl; built = refl; word = refl; count = refl; fields = refl; number = refl; name = refl; hex = refl; once = refl; program = refl; order = refl; frames = refl }

pub first_said : with_line nothing_said (codes "world 1") ≡ at_head WorldKey no_shape
unfolding with_line tokens pieces key_of
first_said = refl

frames_passed : (shape : Shape) (l : Line) (n : ℕ) → tokens l ≡ codes "frames" ∷ decimal n ∷ [] → 16 ≤ n → n ≤ 384 → IsPassed (at_head WorldKey shape) l
unfolding key_of
frames_passed shape l n w low high =
    let k : key l ≡ Frames = rw w refl in
    let some = some_number n (omega arith) in
    let value = number_of_accepts n (omega arith) in
    let fewest = le_is_true 16 n low in
    let most = le_is_true n 384 high in
    record {
      first = refl;
      built = rw k refl;
      word = rw k refl;
      count = rw k refl;
      fields = rw (k, w, some) refl;
      number = rw (k, w, value, fewest, most) refl;
      name = rw k refl;
      hex = rw k refl;
      once = rw k refl;
      program = rw k refl;
      order = rw k refl;
      frames = rw k refl;
    }

pub frames_said : (shape : Shape) (l : Line) (n : ℕ) → tokens l ≡ codes "frames" ∷ decimal n ∷ [] → n < 2 ^ 32 → with_line (at_head WorldKey shape) l ≡ at_head Frames (record shape { user_frames = n })
unfolding with_line key_of
frames_said shape l n w small =
    let k : key l ≡ Frames = rw w refl in
    let value = number_of_accepts n small in
    rw (k, w, value) refl

sectors_passed : (shape : Shape) (l : Line) (n : ℕ) → tokens l ≡ codes "sectors" ∷ decimal n ∷ [] → 1 ≤ n → n ≤ 2048 → IsPassed (at_head Frames shape) l
unfolding key_of
sectors_passed shape l n w low high =
    let k : key l ≡ Sectors = rw w refl in
    let some = some_number n (omega arith) in
    let value = number_of_accepts n (omega arith) in
    let fewest = le_is_true 1 n low in
    let most = le_is_true n 2048 high in
    record {
      first = refl;
      built = rw k refl;
      word = rw k refl;
      count = rw k refl;
      fields = rw (k, w, some) refl;
      number = rw (k, w, value, fewest, most) refl;
      name = rw k refl;
      hex = rw k refl;
      once = rw k refl;
      program = rw k refl;
      order = rw k refl;
      frames = rw k refl;
    }

pub sectors_said : (shape : Shape) (l : Line) (n : ℕ) → tokens l ≡ codes "sectors" ∷ decimal n ∷ [] → n < 2 ^ 32 → with_line (at_head Frames shape) l ≡ at_head Sectors (record shape { sectors = n })
unfolding with_line key_of
sectors_said shape l n w small =
    let k : key l ≡ Sectors = rw w refl in
    let value = number_of_accepts n small in
    rw (k, w, value) refl

quantum_passed : (shape : Shape) (l : Line) (n : ℕ) → tokens l ≡ codes "quantum" ∷ decimal n ∷ [] → 1 ≤ n → n ≤ 10000 → IsPassed (at_head Sectors shape) l
unfolding key_of
quantum_passed shape l n w low high =
    let k : key l ≡ Quantum = rw w refl in
    let some = some_number n (omega arith) in
    let value = number_of_accepts n (omega arith) in
    let fewest = le_is_true 1 n low in
    let most = le_is_true n 10000 high in
    record {
      first = refl;
      built = rw k refl;
      word = rw k refl;
      count = rw k refl;
      fields = rw (k, w, some) refl;
      number = rw (k, w, value, fewest, most) refl;
      name = rw k refl;
      hex = rw k refl;
      once = rw k refl;
      program = rw k refl;
      order = rw k refl;
      frames = rw k refl;
    }

pub quantum_said : (shape : Shape) (l : Line) (n : ℕ) → tokens l ≡ codes "quantum" ∷ decimal n ∷ [] → n < 2 ^ 32 → with_line (at_head Sectors shape) l ≡ at_head Quantum (record shape { quantum = n })
unfolding with_line key_of
quantum_said shape l n w small =
    let k : key l ≡ Quantum = rw w refl in
    let value = number_of_accepts n small in
    rw (k, w, value) refl

budget_passed : (shape : Shape) (l : Line) (n : ℕ) → tokens l ≡ codes "budget" ∷ decimal n ∷ [] → 0 ≤ n → n ≤ 2000000 → IsPassed (at_head Quantum shape) l
unfolding key_of
budget_passed shape l n w low high =
    let k : key l ≡ Budget = rw w refl in
    let some = some_number n (omega arith) in
    let value = number_of_accepts n (omega arith) in
    let fewest = le_is_true 0 n low in
    let most = le_is_true n 2000000 high in
    record {
      first = refl;
      built = rw k refl;
      word = rw k refl;
      count = rw k refl;
      fields = rw (k, w, some) refl;
      number = rw (k, w, value, fewest, most) refl;
      name = rw k refl;
      hex = rw k refl;
      once = rw k refl;
      program = rw k refl;
      order = rw k refl;
      frames = rw k refl;
    }

pub budget_said : (shape : Shape) (l : Line) (n : ℕ) → tokens l ≡ codes "budget" ∷ decimal n ∷ [] → n < 2 ^ 32 → with_line (at_head Quantum shape) l ≡ at_head Budget (record shape { budget = n })
unfolding with_line key_of
budget_said shape l n w small =
    let k : key l ≡ Budget = rw w refl in
    let value = number_of_accepts n small in
    rw (k, w, value) refl

pub five : (a b c d e r : List ℕ) → (a ++ (b ++ (c ++ (d ++ e)))) ++ r ≡ a ++ (b ++ (c ++ (d ++ (e ++ r))))
five a b c d e r = simp append_assoc

-- a line of a key and a number
number_line_read : (f g : Facts) (key : List ℕ) (n : ℕ) (rest : List ℕ) (world : World) → free 10 (spaced key (decimal n)) ≡ true → bytes_eq (spaced key (decimal n)) (codes "end") ≡ false
    → IsPassed f (spaced key (decimal n)) → with_line f (spaced key (decimal n)) ≡ g → Reads g rest world → Reads f (number_line key n ++ rest) world
number_line_read f g key n rest world clean other is said more =
    reads_line f (spaced key (decimal n)) rest world clean is other (subst (λ h. Reads h rest world) (sym said) more)

free_number_line : (key : List ℕ) (n : ℕ) → free 10 key ≡ true → n < 2 ^ 32 → free 10 (spaced key (decimal n)) ≡ true
free_number_line key n clean small = free-append 10 key (32 ∷ decimal n) clean (free_decimal 10 n (omega arith) small)

number_words : (key : List ℕ) (n : ℕ) → free 32 key ≡ true → n < 2 ^ 32 → tokens (spaced key (decimal n)) ≡ key ∷ decimal n ∷ []
number_words key n clean small = two_words key (decimal n) clean (free_decimal 32 n (omega arith) small)

pub head_read : (shape : Shape) (rest : List ℕ) (world : World) → IsShape shape → Reads (at_head Budget shape) rest world → Reads nothing_said (head_lines shape ++ rest) world
head_read shape rest world is more =
    let u = shape.user_frames in
    let s = shape.sectors in
    let q = shape.quantum in
    let b = shape.budget in
    let r4 = number_line (codes "budget") b ++ rest in
    let r3 = number_line (codes "quantum") q ++ r4 in
    let r2 = number_line (codes "sectors") s ++ r3 in
    let r1 = number_line (codes "frames") u ++ r2 in
    let bu : u < 2 ^ 32 = omega (arith, is.most_frames) in
    let bs : s < 2 ^ 32 = omega (arith, is.most_sectors) in
    let bq : q < 2 ^ 32 = omega (arith, is.longest_slice) in
    let bb : b < 2 ^ 32 = omega (arith, is.most_steps) in
    let wu = number_words (codes "frames") u refl bu in
    let ws = number_words (codes "sectors") s refl bs in
    let wq = number_words (codes "quantum") q refl bq in
    let wb = number_words (codes "budget") b refl bb in
    let s1 = shape_with u 0 0 0 in
    let s2 = shape_with u s 0 0 in
    let s3 = shape_with u s q 0 in
    let d = number_line_read (at_head Quantum s3) (at_head Budget shape) (codes "budget") b rest world (free_number_line (codes "budget") b refl bb) refl
    (budget_passed s3 (spaced (codes "budget") (decimal b)) b wb (omega arith) is.most_steps) (budget_said s3 (spaced (codes "budget") (decimal b)) b wb bb) more in
    let c = number_line_read (at_head Sectors s2) (at_head Quantum s3) (codes "quantum") q r4 world (free_number_line (codes "quantum") q refl bq) refl
    (quantum_passed s2 (spaced (codes "quantum") (decimal q)) q wq is.shortest_slice is.longest_slice) (quantum_said s2 (spaced (codes "quantum") (decimal q)) q wq bq) d in
    let e = number_line_read (at_head Frames s1) (at_head Sectors s2) (codes "sectors") s r3 world (free_number_line (codes "sectors") s refl bs) refl
    (sectors_passed s1 (spaced (codes "sectors") (decimal s)) s ws is.fewest_sectors is.most_sectors) (sectors_said s1 (spaced (codes "sectors") (decimal s)) s ws bs) c in
    let a = number_line_read (at_head WorldKey no_shape) (at_head Frames s1) (codes "frames") u r2 world (free_number_line (codes "frames") u refl bu) refl
    (frames_passed no_shape (spaced (codes "frames") (decimal u)) u wu is.fewest_frames is.most_frames) (frames_said no_shape (spaced (codes "frames") (decimal u)) u wu bu) e in
    let z = reads_line nothing_said (codes "world 1") r1 world refl first_passed refl (subst (λ h. Reads h r1 world) (sym first_said) a) in
    subst (λ t. Reads nothing_said t world) (sym (five (line (codes "world 1")) (number_line (codes "frames") u) (number_line (codes "sectors") s) (number_line (codes "quantum") q) (number_line (codes "budget") b) rest)) z
