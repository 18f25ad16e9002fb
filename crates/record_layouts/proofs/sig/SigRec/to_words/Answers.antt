use Rattle.record_layouts.proofs.Signals.{written}
use Rattle.record_layouts.proofs.sig.SigRec.to_words.Goals as goal

pub returns : goal.returns
returns c =
    written c.args.self.now c.copy_from_slice.new.self c.put_seal.new.words c.copy_from_slice.ensures.len c.copy_from_slice.ensures.after c.requires
    c.put_seal.ensures.seal c.put_seal.ensures.fits
