use Rattle.std.proofs.Common.{◌≡◌, ◌*◌, ◌/◌, sym, ap, ◌∙◌, length, arith}
use Rattle.phys_memory.specs.Memory.{MemoryParts}
use Rattle.phys_memory.proofs.Own.{beside_b}
use Rattle.phys_memory.proofs.whole.Memory.beside_b.Goals as goal

pub returns-clause-words : goal.returns-clause-words
returns-clause-words c own =
    let m : MemoryParts = c.args.self.now in
    let boot : length m.boot ≡ 1024 * c.count-2.result = ap (λ (n : MemoryParts). length n.boot) (sym c.self.view_is) ∙ c.count-2.ensures.count in
    let a : length m.a ≡ 1024 * c.count.result = ap (λ (n : MemoryParts). length n.a) (sym c.self.view_is) ∙ c.count.ensures.count in
    let first : c.count-2.result ≡ length m.boot / 1024 = omega arith in
    beside_b (record m { b = own }) c.new.result (omega arith) (omega arith) (c.new.ensures.boot ∙ ap (λ (n : MemoryParts). n.boot) c.self.view_is)
    (c.new.ensures.half ∙ ap (λ (n : MemoryParts). n.a) c.self.view_is) (c.new.ensures.first ∙ first)
