use Rattle.std.proofs.Common.{◌≡◌, ◌+◌, ◌∙◌, ◌<◌, length, arith, get_or-set_same}
use Rattle.std.proofs.lemmas.List.{take-set-le}
use Rattle.record_layouts.proofs.Parts.{part_before}
use Rattle.record_layouts.proofs.proc.put_bank.Goals as goal

pub returns-clause-bank : goal.returns-clause-bank
returns-clause-bank c =
    let same = take-set-le (c.args.at + 31) c.put.new.words (c.args.at + 31) c.args.bank.now.pc (omega arith) in
    let within : c.args.at + 31 < length c.put.new.words = omega arith in
    let count : length c.words.result.now ≡ 31 = omega arith in
    record {
      regs = part_before _ _ (c.args.at + 31) c.args.at 31 same (omega arith) ∙ rw count at c.put.ensures.part ∙ c.words.ensures;
      pc = get_or-set_same _ _ _ 0 within;
    }
