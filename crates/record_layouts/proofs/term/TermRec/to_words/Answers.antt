use Rattle.std.proofs.Common.{refl}
use Rattle.record_layouts.proofs.Records.{zeros}
use Rattle.record_layouts.proofs.term.TermRec.to_words.Goals as goal

pub returns : goal.returns
returns c =
    let words = c.put_seal.ensures.seal in
    record {
      long = rw words refl;
      all_words = c.put_seal.ensures.fits;
      kind = rw words refl;
      tty = rw words refl;
      written = rw words refl;
      last = rw words refl;
      consumed = rw words refl;
      top = rw words refl;
      row = rw words refl;
      col = rw words refl;
      base = rw words refl;
      unused = zeros c.put_seal.new.words 9 15 (rw words refl);
      fits = c.requires;
      seal = rw words refl;
    }
