use Rattle.std.proofs.Common.{refl}
use Rattle.record_layouts.proofs.exit.ExitRec.to_words.Goals as goal

pub returns : goal.returns
returns c =
    let words = c.put_seal.ensures.seal in
    record {
      long = rw words refl;
      all_words = c.put_seal.ensures.fits;
      kind = rw words refl;
      state = rw words refl;
      value = rw words refl;
      fits = c.requires;
      seal = rw words refl;
    }
