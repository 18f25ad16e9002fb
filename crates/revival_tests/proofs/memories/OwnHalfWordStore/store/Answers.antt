use Rattle.std.proofs.Common.{ℕ, List, ap, ◌∙◌}
use Rattle.phys_memory.specs.Halves.{words_from}
use Rattle.word_store.proofs.Owned.{among_there, words_set}
use Rattle.revival_tests.proofs.memories.OwnHalfWordStore.store.Goals as goal

pub returns-clause-ok : goal.returns-clause-ok
returns-clause-ok c =
    let half = c.args.self.now.half.now in
    let there = among_there half.first half.words.items c.args.frame c.args.word c.requires.there in
    ap (λ (first : ℕ). words_from first c.store.new.self.words.items) c.store.ensures.first
    ∙ ap (λ (words : List ℕ). words_from half.first words) c.store.ensures.words
    ∙ words_set half.first half.words.items c.args.frame c.args.word c.args.value there c.requires.word
