use Rattle.std.proofs.Common.{◌≡◌, ◌+◌, ◌-◌, ◌++◌, ◌/◌, ◌*◌, sym, ap, subst, ◌∙◌, refl, length, length-append, arith}
use Rattle.phys_memory.specs.Memory.{MemoryParts, AreWholeFrames, frame_count}
use Rattle.phys_memory.proofs.Own.{beside_b}
use Rattle.phys_memory.proofs.whole.Memory.lend_b.Goals as goal

pub returns : goal.returns
returns c =
    let m : MemoryParts = c.args.self.now in
    let framed : AreWholeFrames m = subst AreWholeFrames c.self.view_is c.frame_count.ensures.whole_frames in
    let count : c.frame_count.result ≡ frame_count m = c.frame_count.ensures.count ∙ ap frame_count c.self.view_is in
    let boot : length m.boot ≡ 1024 * c.count-boot.result = ap (λ (n : MemoryParts). length n.boot) (sym c.self.view_is) ∙ c.count-boot.ensures.count in
    let b : length m.b ≡ 1024 * c.count.result = ap (λ (n : MemoryParts). length n.b) (sym c.self.view_is) ∙ c.count.ensures.count in
    let behind : c.frame_count.result - c.count.result ≡ (length m.boot + length m.a) / 1024 =
    omega (arith, count, framed.boot, framed.a, length-append m.boot (m.a ++ m.b), length-append m.a m.b) in
    let before : c.count-boot.result ≡ length m.boot / 1024 = omega arith in (
      (refl, λ w. ap (λ (n : MemoryParts). record n { b = w }) c.self.view_is),
      record {
        lends = tt;
        dead_words = beside_b m c.new.result framed.boot framed.a (c.new.ensures.boot ∙ ap (λ (n : MemoryParts). n.boot) c.self.view_is)
            (c.new.ensures.half ∙ ap (λ (n : MemoryParts). n.a) c.self.view_is) (c.new.ensures.first ∙ before);
        own_words = ap (λ (n : MemoryParts). n.b) c.self.view_is;
        own_frames = behind;
        whole_frames = framed;
      },
    )
