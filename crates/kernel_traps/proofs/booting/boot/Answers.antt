use Rattle.kernel_traps.proofs.BootHeld.{IsMade, booted, last, words_booted}
use Rattle.kernel_traps.proofs.BootReady.{ready_boots}
use Rattle.kernel_traps.proofs.BootSound.{no_steps, same_booted, sound_booted, started_booted}
use Rattle.kernel_traps.proofs.booting.boot.Goals as goal

pub build_load-requires-clause-booting : goal.build_load-requires-clause-booting
build_load-requires-clause-booting c =
    ready_boots c.args.load.now.shape c.args.plant.now c.requires.load.most_frames c.requires.ready c.requires.none

pub returns : goal.returns
returns c =
    let load = c.args.load.now in
    let old = c.args.plant.now in
    let new = c.build_load.new.plant in
    let m : IsMade load old new = record {
      is = c.requires.load;
      ready = c.requires.ready;
      first = build_load-requires-clause-booting c.before;
      built = c.build_load.ensures.built;
      same_rest = c.build_load.ensures.same_rest;
      able = c.build_load.ensures.able;
    } in
    record {
      started = started_booted load old new m;
      booted = booted load old new m;
      words = words_booted load old new m;
      sound = sound_booted load old new m;
      same = same_booted load old new m;
      no_steps = no_steps load old new m;
      no_traps = (last load old new m).first;
    }
