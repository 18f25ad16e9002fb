use Rattle.std.proofs.Common.{refl}
use Rattle.record_layouts.proofs.Records.{zeros}
use Rattle.record_layouts.proofs.head.HeadRec.to_words.Goals as goal

pub returns : goal.returns
returns c =
    let words = c.put_seal.ensures.seal in
    record {
      long = rw words refl;
      all_words = c.put_seal.ensures.fits;
      kind = rw words refl;
      layout = rw words refl;
      served = rw words refl;
      last = rw words refl;
      next = rw words refl;
      hand = rw words refl;
      unused = zeros c.put_seal.new.words 6 15 (rw words refl);
      fits = c.requires;
      seal = rw words refl;
    }
