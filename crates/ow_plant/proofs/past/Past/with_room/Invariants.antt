use Rattle.std.proofs.Common.{◌≡◌, ◌-◌, ◌≤◌, [], All}
use Rattle.std.specs.Vec.{vec_capacity, vec_len}
use Rattle.ow_plant.proofs.past.Past.with_room.Given as goal

-- so far each vector is empty and has room for the words
abbrev pub invariant-loop-alloc : goal.invariant-loop-alloc
invariant-loop-alloc l = record {
  few : vec_len l.spare ≤ l.count;
  each : All (λ v. (v.items ≡ []) × (l.words ≤ vec_capacity v)) l.spare.items;
}

abbrev pub decreases-loop-alloc : goal.decreases-loop-alloc
decreases-loop-alloc l = l.count - vec_len l.spare
