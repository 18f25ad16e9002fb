use Rattle.std.proofs.Common.{◌≡◌, ◌⊎◌, ap, subst, sym, inl, inr}
use Rattle.phys_memory.specs.Memory.{words_of}
use Rattle.record_layouts.specs.declared.memory_map.MemoryMap.{MemoryMap}
use Rattle.record_layouts.specs.Held.{patched}
use Rattle.record_layouts.specs.Overlay.{HasArea, area_at}
use Rattle.intent_store.specs.Blocks.{IsSeenAs, IsSeenSet}
use Rattle.intent_store.specs.Live.{held_of, map_of}
use Rattle.word_store.proofs.Outcomes.{on_ok, on_err, either_way}
use Rattle.intent_store.specs.OfMemory.{has_area}
use Rattle.intent_store.proofs.Holding.{committed_as, committed_set, held_either}
use Rattle.intent_store.proofs.Unstored.{unstored_held}
use Rattle.intent_store.proofs.live.LiveWriter.commit.Goals as goal

pub commit-requires-clause-area : goal.commit-requires-clause-area
commit-requires-clause-area c =
    let s = c.args.self.now.plant.now in
    let is : c.map-base.result.area_base ≡ (map_of s).area_base = ap (λ (m : MemoryMap). m.area_base) c.map-base.ensures.map in
    subst (λ b. HasArea (words_of s.memory) b) (sym is) (has_area s c.requires.stands.armed)

pub returns-clause-ok : goal.returns-clause-ok
returns-clause-ok c =
    let s = c.args.self.now.plant.now in
    let t = c.commit.new.store.plant.now in
    let is : c.map-base.result.area_base ≡ (map_of s).area_base = ap (λ (m : MemoryMap). m.area_base) c.map-base.ensures.map in
    on_ok c.commit.result _ _ (λ e. committed_set s t c.map-base.result.area_base is c.commit.ensures.rest c.commit.ensures.beside c.args.patch.now c.requires.stands.armed.few_frames c.requires.patch.sectors e) c.commit.ensures.ok

pub returns-clause-err : goal.returns-clause-err
returns-clause-err c =
    let s = c.args.self.now.plant.now in
    let t = c.commit.new.store.plant.now in
    let base = c.map-base.result.area_base in
    let items = c.args.patch.now in
    let is : base ≡ (map_of s).area_base = ap (λ (m : MemoryMap). m.area_base) c.map-base.ensures.map in
    let either : IsSeenAs (area_at (words_of s.memory) base) (area_at (words_of t.memory) base) ⊎ IsSeenSet items (area_at (words_of s.memory) base) (area_at (words_of t.memory) base)
    → (held_of t ≡ held_of s) ⊎ (held_of t ≡ patched items (held_of s)) = elim [
      | inl like ↦ inl (committed_as s t base is c.commit.ensures.rest c.commit.ensures.beside like)
      | inr set ↦ inr (committed_set s t base is c.commit.ensures.rest c.commit.ensures.beside items c.requires.stands.armed.few_frames c.requires.patch.sectors set)
    ] in
    on_err c.commit.result _ _ either c.commit.ensures.err

pub returns-clause-still_stands : goal.returns-clause-still_stands
returns-clause-still_stands c =
    let s = c.args.self.now.plant.now in
    let t = c.commit.new.store.plant.now in
    let base = c.map-base.result.area_base in
    let items = c.args.patch.now in
    let is : base ≡ (map_of s).area_base = ap (λ (m : MemoryMap). m.area_base) c.map-base.ensures.map in
    either_way c.commit.result _
    (on_ok c.commit.result _ _ (λ e. held_either s t items c.requires.stands (inr (committed_set s t base is c.commit.ensures.rest c.commit.ensures.beside items c.requires.stands.armed.few_frames c.requires.patch.sectors e))) c.commit.ensures.ok)
    (on_err c.commit.result _ _ (elim [
      | inl like ↦ held_either s t items c.requires.stands (inl (committed_as s t base is c.commit.ensures.rest c.commit.ensures.beside like))
      | inr set ↦ held_either s t items c.requires.stands (inr (committed_set s t base is c.commit.ensures.rest c.commit.ensures.beside items c.requires.stands.armed.few_frames c.requires.patch.sectors set))
    ]) c.commit.ensures.err)

pub returns-clause-unstored : goal.returns-clause-unstored
returns-clause-unstored c = unstored_held c.args.self.now.plant.now c.commit.new.store.plant.now c.commit.ensures.rest c.commit.ensures.unstored
