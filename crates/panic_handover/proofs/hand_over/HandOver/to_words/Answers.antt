use Rattle.std.proofs.Common.{rules}
use Rattle.panic_handover.proofs.Spelled.{written}
use Rattle.panic_handover.proofs.hand_over.HandOver.to_words.Goals as goal

pub returns : goal.returns
returns c =
    written c.put_seal.new.words c.args.self.now (search rules) c.requires c.put_seal.ensures.fits (search rules)
