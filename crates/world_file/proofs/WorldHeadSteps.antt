-- The head of a world, line by line, from the lines that were read.
use Rattle.std.proofs.Common.{◌≡◌, ℕ, List, [], ◌++◌, codes, decimal, bytes_eq, arith, ap, ◌∙◌, sym, refl, subst, append_assoc, append-nil}
use Rattle.ow_base.specs.Lines.{line, number_line}
use Rattle.ow_base.specs.World.{AreTexts, head_lines}
use Rattle.ow_base.specs.declared.machine.Shape.{Shape}
use Rattle.world_file.specs.declared.key.Key.{Key}
use Rattle.world_file.specs.declared.key.Key.TheVariants.{World as WorldKey, Frames, Sectors, Quantum, Budget}
use Rattle.world_file.specs.WorldLines.{Line, key}
use Rattle.world_file.specs.WorldFacts.{Facts, no_shape}
use Rattle.world_file.specs.WorldReasons.{place_of}
use Rattle.world_file.specs.declared.reasons.Place.TheVariants.{Free}
use Rattle.world_file.specs.WorldReading.{with_line, nothing_said}
use Rattle.world_file.proofs.WorldNumbers.{same_bytes}
use Rattle.world_file.proofs.WorldSpelled.{spelled_two}
use Rattle.world_file.proofs.WorldPassed.{IsPassed}
use Rattle.world_file.proofs.WorldHead.{at_head, shape_with, first_said, frames_said, sectors_said, quantum_said, budget_said}
use Rattle.world_file.proofs.WorldBlocks.{NamesApart}
use Rattle.world_file.proofs.WorldKeys.{not_false, first_word}
use Rattle.world_file.proofs.WorldSaid.{IsIn, SoFar, may_stand, limit_found}
use Rattle.world_file.proofs.TextsUnique.{three}
use Rattle.world_file.proofs.WorldSaid.SoFar.{First, ToFrames, ToSectors, ToQuantum, ToBudget}

-- which key may follow
after_world : (k : Key) (shape : Shape) → place_of k (at_head WorldKey shape) ≡ Free → k ≡ Frames
after_world Frames shape h = refl
after_world other shape h = cc

after_frames : (k : Key) (shape : Shape) → place_of k (at_head Frames shape) ≡ Free → k ≡ Sectors
after_frames Sectors shape h = refl
after_frames other shape h = cc

after_sectors : (k : Key) (shape : Shape) → place_of k (at_head Sectors shape) ≡ Free → k ≡ Quantum
after_sectors Quantum shape h = refl
after_sectors other shape h = cc

after_quantum : (k : Key) (shape : Shape) → place_of k (at_head Quantum shape) ≡ Free → k ≡ Budget
after_quantum Budget shape h = refl
after_quantum other shape h = cc

pub first_step : (text : List ℕ) (f : Facts) (l : Line) → text ≡ [] → f ≡ nothing_said → IsPassed f l → SoFar (text ++ line l) (with_line f l)
first_step text f l t e is =
    let p = subst (λ f. IsPassed f l) e is in
    let same : l ≡ codes "world 1" = same_bytes l (codes "world 1") (not_false (bytes_eq l (codes "world 1")) p.first) in
    First (ap (λ t. t ++ line l) t ∙ ap line same) (ap (λ f. with_line f l) e ∙ ap (with_line nothing_said) same ∙ first_said)

pub frames_step : (text : List ℕ) (f : Facts) (l : Line) → text ≡ line (codes "world 1") → f ≡ at_head WorldKey no_shape → IsPassed f l → SoFar (text ++ line l) (with_line f l)
frames_step text f l t e is =
    let p = subst (λ f. IsPassed f l) e is in
    let k = after_world (key l) no_shape (may_stand (at_head WorldKey no_shape) l p) in
    let found = limit_found (at_head WorldKey no_shape) l 16 384 (codes "frames") Frames k (first_word l Frames k) refl refl p in
    ToFrames found.0 found.2 (ap (λ t. t ++ line l) t ∙ ap (λ l. line (codes "world 1") ++ line l) (spelled_two l (codes "frames") (decimal found.0) found.1))
    (ap (λ f. with_line f l) e ∙ frames_said no_shape l found.0 found.1 found.3)

pub sectors_step : (text : List ℕ) (f : Facts) (l : Line) (u : ℕ) → IsIn 16 384 u → text ≡ line (codes "world 1") ++ number_line (codes "frames") u → f ≡ at_head Frames (shape_with u 0 0 0)
    → IsPassed f l → SoFar (text ++ line l) (with_line f l)
sectors_step text f l u in_u t e is =
    let p = subst (λ f. IsPassed f l) e is in
    let shape = shape_with u 0 0 0 in
    let k = after_frames (key l) shape (may_stand (at_head Frames shape) l p) in
    let found = limit_found (at_head Frames shape) l 1 2048 (codes "sectors") Sectors k (first_word l Sectors k) refl refl p in
    ToSectors u found.0 in_u found.2
    (ap (λ t. t ++ line l) t ∙ append_assoc (line (codes "world 1")) (number_line (codes "frames") u) (line l)
    ∙ ap (λ l. line (codes "world 1") ++ (number_line (codes "frames") u ++ line l)) (spelled_two l (codes "sectors") (decimal found.0) found.1))
    (ap (λ f. with_line f l) e ∙ sectors_said shape l found.0 found.1 found.3)

pub quantum_step : (text : List ℕ) (f : Facts) (l : Line) (u s : ℕ) → IsIn 16 384 u → IsIn 1 2048 s
    → text ≡ line (codes "world 1") ++ (number_line (codes "frames") u ++ number_line (codes "sectors") s) → f ≡ at_head Sectors (shape_with u s 0 0)
    → IsPassed f l → SoFar (text ++ line l) (with_line f l)
quantum_step text f l u s in_u in_s t e is =
    let p = subst (λ f. IsPassed f l) e is in
    let shape = shape_with u s 0 0 in
    let k = after_sectors (key l) shape (may_stand (at_head Sectors shape) l p) in
    let found = limit_found (at_head Sectors shape) l 1 10000 (codes "quantum") Quantum k (first_word l Quantum k) refl refl p in
    ToQuantum u s found.0 in_u in_s found.2
    (ap (λ t. t ++ line l) t ∙ three (line (codes "world 1")) (number_line (codes "frames") u) (number_line (codes "sectors") s) (line l)
    ∙ ap (λ l. line (codes "world 1") ++ (number_line (codes "frames") u ++ (number_line (codes "sectors") s ++ line l))) (spelled_two l (codes "quantum") (decimal found.0) found.1))
    (ap (λ f. with_line f l) e ∙ quantum_said shape l found.0 found.1 found.3)

four : (a b c d e : List ℕ) → (a ++ (b ++ (c ++ d))) ++ e ≡ a ++ (b ++ (c ++ (d ++ e)))
four a b c d e = simp append_assoc

none_apart : NamesApart []
none_apart i j d low high = absurd (omega arith)

pub budget_step : (text : List ℕ) (f : Facts) (l : Line) (u s q : ℕ) → IsIn 16 384 u → IsIn 1 2048 s → IsIn 1 10000 q
    → text ≡ line (codes "world 1") ++ (number_line (codes "frames") u ++ (number_line (codes "sectors") s ++ number_line (codes "quantum") q)) → f ≡ at_head Quantum (shape_with u s q 0)
    → IsPassed f l → SoFar (text ++ line l) (with_line f l)
unfolding AreTexts
budget_step text f l u s q in_u in_s in_q t e is =
    let p = subst (λ f. IsPassed f l) e is in
    let before = shape_with u s q 0 in
    let k = after_quantum (key l) before (may_stand (at_head Quantum before) l p) in
    let found = limit_found (at_head Quantum before) l 0 2000000 (codes "budget") Budget k (first_word l Budget k) refl refl p in
    let shape = shape_with u s q found.0 in
    let spelled : text ++ line l ≡ head_lines shape =
    ap (λ t. t ++ line l) t ∙ four (line (codes "world 1")) (number_line (codes "frames") u) (number_line (codes "sectors") s) (number_line (codes "quantum") q) (line l)
    ∙ ap (λ l. line (codes "world 1") ++ (number_line (codes "frames") u ++ (number_line (codes "sectors") s ++ (number_line (codes "quantum") q ++ line l)))) (spelled_two l (codes "budget") (decimal found.0) found.1) in
    ToBudget shape (record {
      blocks = [];
      spelled = spelled ∙ sym (append-nil (head_lines shape));
      head = record { fewest_frames = in_u.0; most_frames = in_u.1; fewest_sectors = in_s.0; most_sectors = in_s.1; shortest_slice = in_q.0; longest_slice = in_q.1; most_steps = found.2.1 };
      each = refl;
      apart = none_apart;
      few = omega arith;
    }) (ap (λ f. with_line f l) e ∙ budget_said before l found.0 found.1 found.3)
