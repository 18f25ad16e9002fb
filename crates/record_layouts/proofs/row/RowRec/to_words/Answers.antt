use Rattle.std.proofs.Common.{rules}
use Rattle.record_layouts.proofs.Rows.{written}
use Rattle.record_layouts.proofs.row.RowRec.to_words.Goals as goal

pub returns : goal.returns
returns c =
    written c.args.self.now c.pack.new.words c.put_seal.new.words (search rules) c.pack.ensures c.requires c.put_seal.ensures.seal c.put_seal.ensures.fits
