-- What the parts of the builder make together.
use Rattle.std.proofs.Common.{◌≡◌, ℕ, ◌+◌, ◌-◌, ◌*◌, ◌/◌, ◌%◌, ◌<◌, ◌≤◌, true, false, if◌then◌else◌, List, Some, None, refl, sym, ◌∙◌, ap, subst, inl, inr, arith}
use Rattle.std.proofs.lemmas.Grind.{common_steps}
use Rattle.std.proofs.lemmas.Bool.Decides.{nat_tests}
use Rattle.std.proofs.lemmas.Bool.{cases_Bool, lt-ltb}
use Rattle.ow_base.specs.Sv32.{WordMap}
use Rattle.ow_base.specs.Words.{updated}
use Rattle.record_layouts.specs.declared.memory_map.MemoryMap.{MemoryMap}
use Rattle.record_layouts.specs.declared.places.RecordId.{RecordId}
use Rattle.record_layouts.specs.Held.{beside, is_of_area}
use Rattle.record_layouts.specs.Overlay.{Area, HasArea, area_at, lies_in, may_change, or_zero}
use Rattle.record_layouts.specs.Places.{IsRecordId, first_word, length_of}
use Rattle.record_layouts.specs.Seam.{IsSpelled}
use Rattle.record_layouts.proofs.Intents.{words_from-same}
use Rattle.kernel_builder.specs.declared.blueprint.Holder.{Holder}
use Rattle.kernel_builder.specs.Plan.{HasFrames, Plan, entry_word, owner_word}
use Rattle.kernel_builder.specs.Sets.{HasPool, HasRecords, IsBuilt, IsFilled, is_own, outside, slot_of, table_of, unrecorded, with_owners, with_pages, with_tables, without_pool}

-- records lie before the tables, and none has a word of the owners
below_tables : (one : RecordId) → IsRecordId one → first_word one + length_of one ≤ 12288
below_tables one there = grind (arith, common_steps)

beside_owners : (one : RecordId) → IsRecordId one → (number : ℕ) → first_word one ≤ number → number < first_word one + length_of one
    → lies_in 10240 11264 number ≡ false
beside_owners one there number low high = grind (arith, common_steps, nat_tests)

-- records are spelled by their own words alone
pub records_same : (old new : Area) (record_of : RecordId → _) (count : ℕ)
    → ((number : ℕ) → number < 12288 → lies_in 10240 11264 number ≡ false → new number ≡ old number)
    → HasRecords old record_of count → HasRecords new record_of count
records_same old new record_of count same has = record {
  each = λ one there less.
      subst (λ (words : List ℕ). IsSpelled (record_of one) words)
      (words_from-same old new (first_word one) (length_of one)
      (λ number low high. sym (same number (omega (arith, below_tables one there, high)) (beside_owners one there number low high))))
      (has.each one there less);
}

module _ (map : MemoryMap) (plan : Plan) (area : Area) where
  owners_beside : (number : ℕ) → lies_in 10240 11264 number ≡ false → with_owners map plan area 1024 number ≡ area number
  unfolding with_owners
  owners_beside number out = rw out refl

  owners_here : (i : ℕ) → i < 1024 → with_owners map plan area 1024 (10240 + i) ≡ owner_word map plan i
  unfolding with_owners
  owners_here i less =
      let here : lies_in 10240 11264 (10240 + i) ≡ true = grind (arith, nat_tests) in
      let at : 10240 + i - 10240 ≡ i = omega arith in
      rw (here, at) refl

  tables_beside : (number : ℕ) → number < 16384 → with_tables map plan area 16 number ≡ area number
  unfolding with_tables
  tables_beside number low = let out : lies_in 16384 65536 number ≡ false = grind (arith, nat_tests) in rw out refl

  tables_here : (slot table word : ℕ) → slot < 16 → table < 3 → word < 1024
      → with_tables map plan area 16 (1024 * (16 + 3 * slot + table) + word)
      ≡ (if plan.is_live slot then entry_word map plan slot table word else area (1024 * (16 + 3 * slot + table) + word))
  unfolding with_tables
  tables_here slot table word s t w =
      let here : lies_in 16384 65536 (1024 * (16 + 3 * slot + table) + word) ≡ true = grind (arith, nat_tests) in
      let of : slot_of (1024 * (16 + 3 * slot + table) + word) ≡ slot = omega arith in
      let kind : table_of (1024 * (16 + 3 * slot + table) + word) ≡ table = omega arith in
      let place : (1024 * (16 + 3 * slot + table) + word) % 1024 ≡ word = omega arith in
      rw (here, of, kind, place) refl

unrecorded-at : (old new : Area) → unrecorded new ≡ unrecorded old → (number : ℕ) → may_change number (number + 1) ≡ false → new number ≡ old number
unfolding unrecorded
unrecorded-at old new same number out =
    let e : (if may_change number (number + 1) then 0 else new number) ≡ (if may_change number (number + 1) then 0 else old number) = λ i. same i number in
    rw out at e

module _ (map : MemoryMap) (plan : Plan) (old opened set : Area) (records : HasRecords set plan.record_of 467)
    (gate : opened ≡ updated old 16 0) (kept : unrecorded set ≡ unrecorded opened) where
  done : Area
  done = with_owners map plan (with_tables map plan set 16) 1024

  done_low : (number : ℕ) → number < 16384 → lies_in 10240 11264 number ≡ false → done number ≡ set number
  unfolding done
  done_low number low out = owners_beside map plan (with_tables map plan set 16) number out ∙ tables_beside map plan set number low

  set_shut : set 16 ≡ 0
  set_shut = unrecorded-at opened set kept 16 refl ∙ ap (λ (a : Area). a 16) gate

  set_tables : (number : ℕ) → 16384 ≤ number → set number ≡ old number
  set_tables number past =
      let out : may_change number (number + 1) ≡ false = grind (arith, nat_tests) in
      let other : updated old 16 0 number ≡ old number = grind (arith, nat_tests) in
      unrecorded-at opened set kept number out ∙ ap (λ (a : Area). a number) gate ∙ other

  done_table : (slot table word : ℕ) → slot < 16 → table < 3 → word < 1024
      → done (1024 * (16 + 3 * slot + table) + word)
      ≡ (if plan.is_live slot then entry_word map plan slot table word else old (1024 * (16 + 3 * slot + table) + word))
  unfolding done
  done_table slot table word s t w =
      let out : lies_in 10240 11264 (1024 * (16 + 3 * slot + table) + word) ≡ false = grind (arith, nat_tests) in
      owners_beside map plan (with_tables map plan set 16) (1024 * (16 + 3 * slot + table) + word) out
      ∙ tables_here map plan set slot table word s t w
      ∙ ap (λ (n : ℕ). if plan.is_live slot then entry_word map plan slot table word else n)
      (set_tables (1024 * (16 + 3 * slot + table) + word) (omega arith))

  done_owner : (number : ℕ) → number < 1024 → done (10240 + number) ≡ owner_word map plan number
  unfolding done
  done_owner number less = owners_here map plan (with_tables map plan set 16) number less

  pub filled : (new : Area) → new ≡ with_owners map plan (with_tables map plan set 16) 1024 → IsFilled map plan old new
  unfolding done
  filled new is = subst (λ (a : Area). IsFilled map plan old a) (sym is) (record {
    shut = done_low 16 (omega arith) refl ∙ set_shut;
    records = records_same set done plan.record_of 467 (λ number low out. done_low number (omega arith) out) records;
    owners = done_owner;
    tables = done_table;
  })

beside-at : (base : ℕ) (old new : WordMap) → beside base new ≡ beside base old → (f w : ℕ) → is_of_area base f ≡ false → new f w ≡ old f w
unfolding beside
beside-at base old new same f w out =
    let e : (if is_of_area base f then None else new f w) ≡ (if is_of_area base f then None else old f w) = λ i. same i f w in
    rw out at e

without_pool-at : (map : MemoryMap) (old new : WordMap) → without_pool map new ≡ without_pool map old
    → (f w : ℕ) → lies_in map.pool_base (map.pool_base + map.user_frames) f ≡ false → new f w ≡ old f w
unfolding without_pool
without_pool-at map old new same f w out =
    let e : (if lies_in map.pool_base (map.pool_base + map.user_frames) f then None else new f w)
    ≡ (if lies_in map.pool_base (map.pool_base + map.user_frames) f then None else old f w) = λ i. same i f w in
    rw out at e

-- what leaves all beside the area, or all beside the user frames, leaves what is outside
pub outside_beside : (map : MemoryMap) (old new : WordMap) → beside map.area_base new ≡ beside map.area_base old → outside map new ≡ outside map old
unfolding outside
outside_beside map old new same = λ i f w. (let e : outside map new f w ≡ outside map old f w =
    elim (cases_Bool (is_own map f)) [
      | inl own ↦ rw own refl
      | inr other ↦ rw other (beside-at map.area_base old new same f w (grind (arith, nat_tests)))
    ] in e) i

pub outside_pool : (map : MemoryMap) (old new : WordMap) → without_pool map new ≡ without_pool map old → outside map new ≡ outside map old
unfolding outside
outside_pool map old new same = λ i f w. (let e : outside map new f w ≡ outside map old f w =
    elim (cases_Bool (is_own map f)) [
      | inl own ↦ rw own refl
      | inr other ↦ rw other (without_pool-at map old new same f w (grind (arith, nat_tests)))
    ] in e) i

-- the user frames are beside the area
pub pool_kept : (map : MemoryMap) (old new : WordMap) → HasFrames old map → beside map.area_base new ≡ beside map.area_base old → HasPool new map
pool_kept map old new has same = record {
  there = λ frame word less low.
      let e : new (map.pool_base + frame) word ≡ old (map.pool_base + frame) word =
      beside-at map.area_base old new same (map.pool_base + frame) word (grind (arith, nat_tests, has.apart)) in
      rw e (has.there frame word less low);
}

pages_here : (map : MemoryMap) (plan : Plan) (words : WordMap) (frame word : ℕ) (holder : Holder) → frame < map.user_frames → word < 1024
    → plan.holder frame ≡ Some holder
    → with_pages map plan words map.user_frames (map.pool_base + frame) word ≡ Some (plan.word_at holder.slot holder.page word)
unfolding with_pages
pages_here map plan words frame word holder less low held =
    let at : map.pool_base + frame - map.pool_base ≡ frame = omega arith in
    let in_pool : lies_in map.pool_base (map.pool_base + map.user_frames) (map.pool_base + frame) ≡ true = grind (arith, nat_tests) in
    rw (at, held, in_pool, lt-ltb word 1024 low) refl

-- the words of the area are not of the user frames
low_same : (map : MemoryMap) (old some new : WordMap) → HasFrames old map → without_pool map new ≡ without_pool map some → (number : ℕ) → number < 65536
    → area_at new map.area_base number ≡ area_at some map.area_base number
low_same map old some new has same number low =
    let out : lies_in map.pool_base (map.pool_base + map.user_frames) (map.area_base + number / 1024) ≡ false = grind (arith, nat_tests, has.apart) in
    ap or_zero (without_pool-at map some new same (map.area_base + number / 1024) (number % 1024) out)

filled_same : (map : MemoryMap) (plan : Plan) (old some new : Area) → ((number : ℕ) → number < 65536 → new number ≡ some number)
    → IsFilled map plan old some → IsFilled map plan old new
filled_same map plan old some new same filled = record {
  shut = same 16 (omega arith) ∙ filled.shut;
  records = records_same some new plan.record_of 467 (λ number low out. same number (omega arith)) filled.records;
  owners = λ number less. same (10240 + number) (omega arith) ∙ filled.owners number less;
  tables = λ slot table word s t w. same (1024 * (16 + 3 * slot + table) + word) (omega arith) ∙ filled.tables slot table word s t w;
}

pub built : (map : MemoryMap) (plan : Plan) (old some new : WordMap) → HasFrames old map
    → IsFilled map plan (area_at old map.area_base) (area_at some map.area_base)
    → without_pool map new ≡ without_pool map some → new ≡ with_pages map plan some map.user_frames → IsBuilt map plan old new
built map plan old some new has filled same is = record {
  area = filled_same map plan (area_at old map.area_base) (area_at some map.area_base) (area_at new map.area_base) (low_same map old some new has same) filled;
  pages = λ frame word holder less low held.
      ap (λ (ws : WordMap). ws (map.pool_base + frame) word) is ∙ pages_here map plan some frame word holder less low held;
}

-- the frames stay there
pub frames_there : (old new : WordMap) (map : MemoryMap) → HasFrames old map → HasArea new map.area_base → HasPool new map → HasFrames new map
frames_there old new map has area pool = record {
  area = area;
  low = has.low;
  numbered = has.numbered;
  few = has.few;
  apart = has.apart;
  there = pool.there;
}

pub area_there : (old some new : WordMap) (map : MemoryMap) → HasFrames old map → HasArea some map.area_base
    → without_pool map new ≡ without_pool map some → HasArea new map.area_base
area_there old some new map has area same = record {
  numbered = area.numbered;
  there = λ frame word less low.
      let out : lies_in map.pool_base (map.pool_base + map.user_frames) (map.area_base + frame) ≡ false = grind (arith, nat_tests, has.apart) in
      let e : new (map.area_base + frame) word ≡ some (map.area_base + frame) word = without_pool-at map some new same (map.area_base + frame) word out in
      rw e (area.there frame word less low);
}
