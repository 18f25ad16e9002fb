use Rattle.std.proofs.Common.{rules, is_some, ap, ◌∙◌}
use Rattle.phys_memory.specs.Reading.{words_read}
use Rattle.phys_memory.proofs.Words.{words_of-some}
use Rattle.phys_memory.proofs.Own.{words_beside-rest}
use Rattle.phys_memory.proofs.Copies.{copied_words}
use Rattle.phys_memory.proofs.whole.Memory.copy_frame.Goals as goal

pub copy_frame-requires-clause-from : goal.copy_frame-requires-clause-from
copy_frame-requires-clause-from c w fits =
    let rest = words_beside-rest c.args.self.now c.args.dead c.args.from w c.requires.from_rest in
    ap (λ words. is_some (words c.args.from w)) c.split-own.ensures.dead_words ∙ ap is_some rest ∙ words_of-some c.args.self.now c.args.from w c.requires.from fits

pub returns-clause-words : goal.returns-clause-words
returns-clause-words c f w =
    copied_words c.args.self.now c.args.dead (words_read c.split-own.result.0) c.args.from c.args.to c.split-own.result.1 c.copy_frame.new.self _ (record {
      framed = c.split-own.ensures.whole_frames;
      rest_is = c.split-own.ensures.dead_words;
      from_rest = c.requires.from_rest;
      to_own = c.requires.to;
      own_words = c.split-own.ensures.own_words;
      own_frames = c.split-own.ensures.own_frames;
      words = c.copy_frame.ensures.words;
      length = c.copy_frame.ensures.length;
      first = c.copy_frame.ensures.first;
      left = search rules;
    }) f w
