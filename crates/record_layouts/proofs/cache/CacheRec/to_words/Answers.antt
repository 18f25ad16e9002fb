use Rattle.std.proofs.Common.{refl}
use Rattle.record_layouts.proofs.Records.{zeros}
use Rattle.record_layouts.proofs.cache.CacheRec.to_words.Goals as goal

pub returns : goal.returns
returns c =
    let words = c.put_seal.ensures.seal in
    record {
      long = rw words refl;
      all_words = c.put_seal.ensures.fits;
      kind = rw words refl;
      state = rw words refl;
      file = rw words refl;
      page = rw words refl;
      unused = zeros c.put_seal.new.words 4 7 (rw words refl);
      fits = c.requires;
      seal = rw words refl;
    }
