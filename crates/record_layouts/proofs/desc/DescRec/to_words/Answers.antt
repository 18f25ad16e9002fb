use Rattle.std.proofs.Common.{refl}
use Rattle.record_layouts.proofs.Records.{zeros}
use Rattle.record_layouts.proofs.desc.DescRec.to_words.Goals as goal

pub returns : goal.returns
returns c =
    let words = c.put_seal.ensures.seal in
    record {
      long = rw words refl;
      all_words = c.put_seal.ensures.fits;
      kind = rw words refl;
      object = rw words refl;
      index = rw words refl;
      mode = rw words refl;
      offset = rw words refl;
      unused = zeros c.put_seal.new.words 5 15 (rw words refl);
      fits = c.requires;
      seal = rw words refl;
    }
