-- Each part is followed from where it was put to the end: what is put later lies behind it.
use Rattle.std.proofs.Common.{◌≡◌, ◌∙◌, length, take, replicate, arith, refl}
use Rattle.record_layouts.proofs.Parts.{front_before, part_before, zeros_before, zeros_behind, before_seal}
use Rattle.record_layouts.proofs.Laying.{seal_put}
use Rattle.record_layouts.proofs.Processes.{bank_before, numbers}
use Rattle.record_layouts.proofs.Records.{zeros}
use Rattle.record_layouts.proofs.proc.ProcRec.to_words.Goals as goal

pub returns : goal.returns
returns c =
    let words = c.put_seal.new.words in
    let with_front = c.put.new.words in
    let with_descs = c.put-2.new.words in
    let with_bank = c.put_bank.new.words in
    let with_handler = c.put_bank-2.new.words in
    let with_crash = c.put_bank-3.new.words in
    let sealed_words = c.put_seal.ensures.seal in
    let behind_seal : take 127 words ≡ take 127 with_crash = rw sealed_words (before_seal with_crash 127 (omega arith)) in
    let to_crash = front_before _ _ 127 85 behind_seal (omega arith) ∙ c.put_bank-3.ensures.before in
    let to_handler = front_before _ _ 85 53 to_crash (omega arith) ∙ c.put_bank-2.ensures.before in
    let to_bank = front_before _ _ 53 21 to_handler (omega arith) ∙ c.put_bank.ensures.before in
    let to_descs = front_before _ _ 21 13 to_bank (omega arith) ∙ c.put-2.ensures.before in
    let thirteen : length c.front.result ≡ 13 = omega arith in
    let eight : length c.args.self.now.descs ≡ 8 = omega arith in
    record {
      long = omega arith;
      all_words = c.put_seal.ensures.fits;
      front = numbers words c.front.result c.args.self.now (to_descs ∙ rw thirteen at c.put.ensures.part) c.front.ensures;
      descs = part_before _ _ 21 13 8 to_bank (omega arith) ∙ rw eight at c.put-2.ensures.part;
      bank = bank_before _ _ 53 21 _ to_handler (omega arith) c.put_bank.ensures.bank;
      handler_save = bank_before _ _ 85 53 _ to_crash (omega arith) c.put_bank-2.ensures.bank;
      crash_save = bank_before _ _ 127 85 _ behind_seal (omega arith) c.put_bank-3.ensures.bank;
      unused = zeros_before words with_crash 127 117 127 behind_seal (omega arith)
          (zeros_behind with_crash with_handler 117 117 127 c.put_bank-3.ensures.behind (omega arith)
          (zeros_behind with_handler with_bank 85 117 127 c.put_bank-2.ensures.behind (omega arith)
          (zeros_behind with_bank with_descs 53 117 127 c.put_bank.ensures.behind (omega arith)
          (zeros_behind with_descs with_front 21 117 127 (rw eight at c.put-2.ensures.behind) (omega arith)
          (zeros_behind with_front (replicate 128 0) 13 117 127 (rw thirteen at c.put.ensures.behind) (omega arith)
          (zeros (replicate 128 0) 117 127 refl))))));
      fits = c.requires;
      seal = rw sealed_words (seal_put with_crash (omega arith));
    }
