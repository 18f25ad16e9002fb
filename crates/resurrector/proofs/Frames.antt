-- The frame of a page is a user frame.
use Rattle.std.proofs.Common.{◌^◌, true, nat_lt, Option, None, refl, ◌≡◌, ℕ, ◌-◌, ◌<◌, ◌≤◌, Some, sym, ◌∙◌, inl, inr, arith, ◌+◌, ◌/◌, ◌%◌}
use Rattle.std.proofs.lemmas.Bool.{cases_Bool, cases_lt}
use Rattle.std.proofs.lemmas.Bool.Decides.{nat_tests}
use Rattle.std.proofs.lemmas.Grind.{common_steps}
use Rattle.ow_base.specs.Sv32.{WordMap, word_or_zero}
use Rattle.kernel_builder.specs.declared.blueprint.Holder.{Holder}
use Rattle.kernel_builder.specs.declared.blueprint.Placed.{Placed}
use Rattle.record_layouts.specs.Left.{HandedOver}
use Rattle.resurrector.specs.Revived.{holder_if, is_placed_in, revived_holder, revived_page, word_by}
use Rattle.record_layouts.specs.declared.proc.ProcRec.{ProcRec}
use Rattle.record_layouts.specs.Held.{Records}
use Rattle.record_layouts.specs.Pages.{claim_of, frame_of}
use Rattle.frame_table.proofs.Found.{frame_found}

pub past_base : (r : Records) (slot : ℕ) (process : ProcRec) (page frame : ℕ) → frame_of r slot process page ≡ Some frame → r.map.pool_base ≤ frame
past_base r slot process page frame e = (frame_found r slot process page frame e).of_users

some_claim : (slot page : ℕ) → claim_of slot page ≡ 0 → ⊥
some_claim slot page e = omega (arith, e)

pub of_users : (r : Records) (slot : ℕ) (process : ProcRec) (page frame : ℕ)
    → ((number : ℕ) → r.map.user_frames ≤ number → r.owners number ≡ 0)
    → frame_of r slot process page ≡ Some frame → frame - r.map.pool_base < r.map.user_frames
of_users r slot process page frame owned e =
    let found = frame_found r slot process page frame e in
    elim (cases_lt (frame - r.map.pool_base) r.map.user_frames) [
      | inl less ↦ less
      | inr behind ↦ absurd (some_claim slot page (sym found.claimed ∙ owned (frame - r.map.pool_base) behind))
    ]

-- a page that is in a frame has the words of this frame
word_placed : (r : Records) (words : WordMap) (frame word : ℕ) (placed : Option Placed) → is_placed_in frame placed ≡ true
    → word_by r words word placed ≡ word_or_zero (words (r.map.pool_base + frame) word)
word_placed r words frame word (Some placed) there =
    let same : placed.frame ≡ frame = grind (arith, nat_tests, there) in rw same refl
word_placed r words frame word None there = absurd (grind (arith, there))

held_if : (r : Records) (handed : Option HandedOver) (frame slot page : ℕ) (holder : Holder) → holder_if r handed frame slot page ≡ Some holder
    → is_placed_in frame (revived_page r handed holder.slot holder.page) ≡ true
held_if r handed frame slot page holder e = grind (arith, common_steps, nat_tests, e)

pub held_word : (r : Records) (handed : Option HandedOver) (words : WordMap) (frame word : ℕ) (holder : Holder) → revived_holder r handed frame ≡ Some holder
    → word_by r words word (revived_page r handed holder.slot holder.page) ≡ word_or_zero (words (r.map.pool_base + frame) word)
unfolding revived_holder
held_word r handed words frame word holder e = elim (cases_Bool (nat_lt (r.owners frame) (2 ^ 20))) [
  | inl low ↦ absurd (grind (arith, common_steps, e, low))
  | inr past ↦
      let found : holder_if r handed frame (r.owners frame / 2 ^ 20 - 1) (r.owners frame % 2 ^ 20) ≡ Some holder = rw past at e in
      word_placed r words frame word _ (held_if r handed frame (r.owners frame / 2 ^ 20 - 1) (r.owners frame % 2 ^ 20) holder found)
]
