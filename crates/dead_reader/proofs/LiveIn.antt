-- The pids that are live in the slots, found from the last exit record to the first.
use Rattle.std.proofs.Common.{◌≡◌, ◌≢◌, ◌==◌, ℕ, zero, suc, ◌+◌, ◌-◌, ◌<◌, Bool, if◌then◌else◌, Option, Some, None, List, [], ◌∷◌, length, slice_get, slice_set, inl, inr, refl, sym, ap, ◌∙◌, arith}
use Rattle.std.proofs.Math.ListN.{replicate}
use Rattle.std.proofs.lemmas.Bool.{cases_Bool, eq-eqb, eqb-true}
use Rattle.record_layouts.specs.Decode.{is_number, pid_in, slot_by}
use Rattle.record_layouts.specs.Held.{Records}
use Rattle.record_layouts.specs.Unix.Choice.{least_from}

-- each slot has the least of the last so many pids that is live in it
pub record AreOfLast (r : Records) (count : ℕ) (pids : List (Option ℕ)) : Type 0 where
  pub long : length pids ≡ 16
  pub each : (slot : ℕ) → slot < 16
      → slice_get pids slot ≡ Some (least_from (λ (pid : ℕ). is_number (slot_by (r.exits pid)) slot) (257 - count) count)

get_replicated : (n i : ℕ) → i < n → slice_get (replicate {A = Option ℕ} n None) i ≡ Some None
get_replicated zero i low = absurd (omega (arith, low))
get_replicated (suc n) zero low = refl
get_replicated (suc n) (suc i) low = get_replicated n i (omega (arith, low))

-- of no pid, none is live
pub of_none : (r : Records) → AreOfLast r 0 (replicate {A = Option ℕ} 16 None)
unfolding least_from
of_none r = record { long = refl; each = λ slot low. get_replicated 16 slot low }

next_from : (test : ℕ → Bool) (first count : ℕ) → least_from test first (count + 1) ≡ (if test first then Some first else least_from test (first + 1) count)
unfolding least_from
next_from test first count = let next : count + 1 ≡ suc count = omega (arith) in rw next refl

step : (test : ℕ → Bool) (count : ℕ) (was now : Option (Option ℕ)) → count < 256
    → was ≡ Some (least_from test (257 - count) count)
    → now ≡ (if test (256 - count) then Some (Some (256 - count)) else was)
    → now ≡ Some (least_from test (257 - (count + 1)) (count + 1))
step test count was now few were is =
    let first : 257 - (count + 1) ≡ 256 - count = omega (arith, few) in
    let behind : 256 - count + 1 ≡ 257 - count = omega (arith, few) in
    let next : least_from test (256 - count) (count + 1) ≡ (if test (256 - count) then Some (256 - count) else least_from test (256 - count + 1) count)
    = next_from test (256 - count) count in
    rw first (rw next (rw behind (elim (cases_Bool (test (256 - count))) [
      | inl passes ↦ rw passes (rw passes at is)
      | inr fails ↦ rw fails ((rw fails at is) ∙ were)
    ])))

-- one pid more, before those
one_more : (r : Records) (count : ℕ) (pids noted : List (Option ℕ)) → count < 256 → AreOfLast r count pids → length noted ≡ 16
    → ((slot : ℕ) → slot < 16
    → slice_get noted slot ≡ (if is_number (slot_by (r.exits (256 - count))) slot then Some (Some (256 - count)) else slice_get pids slot))
    → AreOfLast r (count + 1) noted
one_more r count pids noted few were long is = record {
  long = long;
  each = λ slot low. step (λ (pid : ℕ). is_number (slot_by (r.exits pid)) slot) count (slice_get pids slot) (slice_get noted slot) few
      (were.each slot low) (is slot low);
}

-- it is live in no slot
pub past_none : (r : Records) (count : ℕ) (pids : List (Option ℕ)) → count < 256 → AreOfLast r count pids
    → slot_by (r.exits (256 - count)) ≡ None → AreOfLast r (count + 1) pids
past_none r count pids few were none = one_more r count pids pids few were were.long (λ slot low. rw none refl)

set_long : (pids : List (Option ℕ)) (k : ℕ) (pid : Option ℕ) → length (slice_set pids k pid) ≡ length pids
set_long [] k pid = refl
set_long (p ∷ pids) zero pid = refl
set_long (p ∷ pids) (suc k) pid = ap (λ (n : ℕ). suc n) (set_long pids k pid)

get_same : (pids : List (Option ℕ)) (k : ℕ) (pid : Option ℕ) → k < length pids → slice_get (slice_set pids k pid) k ≡ Some pid
get_same [] k pid less = absurd (omega (arith, less))
get_same (p ∷ pids) zero pid less = refl
get_same (p ∷ pids) (suc k) pid less = get_same pids k pid (omega (arith, less))

get_other : (pids : List (Option ℕ)) (k other : ℕ) (pid : Option ℕ) → other ≢ k → slice_get (slice_set pids k pid) other ≡ slice_get pids other
get_other [] k other pid apart = refl
get_other (p ∷ pids) zero zero pid apart = absurd (apart refl)
get_other (p ∷ pids) zero (suc other) pid apart = refl
get_other (p ∷ pids) (suc k) zero pid apart = refl
get_other (p ∷ pids) (suc k) (suc other) pid apart = get_other pids k other pid (λ e. apart (ap (λ (n : ℕ). suc n) e))

-- it is live in a slot
pub past_live : (r : Records) (count : ℕ) (pids : List (Option ℕ)) (slot : ℕ) → count < 256 → AreOfLast r count pids
    → slot_by (r.exits (256 - count)) ≡ Some slot → slot < 16 → AreOfLast r (count + 1) (slice_set pids slot (Some (256 - count)))
past_live r count pids slot few were live low =
    one_more r count pids (slice_set pids slot (Some (256 - count))) few were (set_long pids slot (Some (256 - count)) ∙ were.long) noted where
      noted : (other : ℕ) → other < 16 → slice_get (slice_set pids slot (Some (256 - count))) other
          ≡ (if is_number (slot_by (r.exits (256 - count))) other then Some (Some (256 - count)) else slice_get pids other)
      noted other lower = rw live (elim (cases_Bool (slot == other)) [
        | inl same ↦
            let here : slot ≡ other = eqb-true slot other same in
            rw same (rw (← here) (get_same pids slot (Some (256 - count)) (omega (arith, were.long, low))))
        | inr apart ↦ rw apart (get_other pids slot other (Some (256 - count)) (λ e. absurd (cc (sym apart ∙ eq-eqb slot other (sym e)))))
      ])

-- of all pids
pub of_all : (r : Records) (count : ℕ) (pids : List (Option ℕ)) → count ≡ 256 → AreOfLast r count pids
    → (slot : ℕ) → slot < 16 → slice_get pids slot ≡ Some (pid_in r slot)
unfolding pid_in
of_all r count pids all are slot low = rw all at (are.each slot low)
