use Rattle.std.proofs.Common.{◌≡◌, None, take}
use Rattle.intent_store.specs.Live.{IsStanding, IsUnstored, held_of}
use Rattle.kernel_traps.specs.Putting.{IsPut}
use Rattle.kernel_traps.proofs.services.put_bytes.Given as goal

-- the bytes so far are counted and out
abbrev pub invariant-loop-byte : goal.invariant-loop-byte
invariant-loop-byte l =
    let front = take l.byte-index l.bytes in
    record {
      put : IsPut (held_of l.fn.live.plant.now) l.tty front front (held_of l.live.plant.now);
      unstored : IsUnstored l.fn.live.plant.now l.live.plant.now;
      stands : IsStanding l.live.plant.now;
      able : l.live.plant.now.refusal ≡ None;
      same_reference : l.live.plant.ghost_name ≡ l.fn.live.plant.ghost_name;
    }
