use Rattle.std.proofs.Common.{◌≡◌, ◌≤◌, ◌*◌, map, take}
use Rattle.record_layouts.specs.Parts.{item_of}
use Rattle.intent_store.proofs.Payloads.{spelled_length}
use Rattle.intent_store.proofs.payload.payload_length.Given as goal

-- the ranges so far are counted
abbrev pub invariant-loop-part : goal.invariant-loop-part
invariant-loop-part l = record {
  counted : l.length ≡ spelled_length (map item_of (take l.part-index l.part-items));
  few : l.length ≤ 131 * l.part-index;
}
