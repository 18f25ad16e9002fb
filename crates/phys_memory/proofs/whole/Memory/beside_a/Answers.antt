use Rattle.std.proofs.Common.{◌≡◌, ◌+◌, ◌*◌, ◌/◌, sym, ap, ◌∙◌, length, arith}
use Rattle.phys_memory.specs.Memory.{MemoryParts}
use Rattle.phys_memory.proofs.Own.{beside_a}
use Rattle.phys_memory.proofs.whole.Memory.beside_a.Goals as goal

pub returns-clause-words : goal.returns-clause-words
returns-clause-words c own frames =
    let m : MemoryParts = c.args.self.now in
    let boot : length m.boot ≡ 1024 * c.count.result = ap (λ (n : MemoryParts). length n.boot) (sym c.self.view_is) ∙ c.count.ensures.count in
    let first : c.count.result + c.args.own_frames ≡ (length m.boot + length own) / 1024 = omega arith in
    beside_a (record m { a = own }) c.new.result (omega arith) (omega arith) (c.new.ensures.boot ∙ ap (λ (n : MemoryParts). n.boot) c.self.view_is)
    (c.new.ensures.half ∙ ap (λ (n : MemoryParts). n.b) c.self.view_is) (c.new.ensures.first ∙ first)
