-- Too few words spell no hand-over.
use Rattle.std.proofs.Common.{◌≡◌, ℕ, ◌<◌, ◌==◌, false, List, take, length, None, refl, arith, take_all}
use Rattle.std.proofs.lemmas.Bool.{ne_eqb}
use Rattle.panic_handover.specs.HandOver.{are_hand_over, hand_over_in}

pub few_hand_nothing : (image : List ℕ) → length image < 40 → hand_over_in (take 40 image) ≡ None
unfolding hand_over_in are_hand_over
few_hand_nothing image few =
    let all : take 40 image ≡ image = take_all 40 image (omega arith) in
    let other : (length image == 40) ≡ false = ne_eqb (length image) 40 (λ e. absurd (omega (arith, e))) in
    rw (all, other) refl
