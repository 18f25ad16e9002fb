-- Pages that are copied word by word.
use Rattle.std.proofs.Common.{◌≡◌, ℕ, ◌+◌, ◌-◌, ◌<◌, true, false, Option, Some, None, nat_lt, ◌==◌, if◌then◌else◌, inl, inr, refl, sym, ◌∙◌, ap, arith}
use Rattle.std.proofs.lemmas.Bool.Decides.{nat_tests}
use Rattle.std.proofs.lemmas.Bool.{cases_Bool, cases_eq, eq-eqb, ne_eqb}
use Rattle.record_layouts.specs.declared.memory_map.MemoryMap.{MemoryMap}
use Rattle.kernel_builder.specs.declared.blueprint.Holder.{Holder}
use Rattle.ow_base.specs.Sv32.{WordMap}
use Rattle.record_layouts.specs.Overlay.{lies_in}
use Rattle.word_store.specs.Stores.{with_word_at}
use Rattle.kernel_builder.specs.Plan.{Plan}
use Rattle.kernel_builder.specs.Sets.{HasFrame, HasPool, with_frame, with_pages, without, without_pool}

-- no word of a frame is copied yet, and one word more, which leaves the words beside the frame
pub frame_none : (words : WordMap) (frame : ℕ) (value : ℕ → ℕ) → words ≡ with_frame words frame value 0
unfolding with_frame
frame_none words frame value = λ i f w. (let e : words f w ≡ with_frame words frame value 0 f w = grind (arith, nat_tests) in e) i

pub frame_more : (words now : WordMap) (frame : ℕ) (value : ℕ → ℕ) (count v : ℕ) → now ≡ with_frame words frame value count → v ≡ value count
    → with_word_at now frame count v ≡ with_frame words frame value (count + 1)
unfolding with_frame with_word_at
frame_more words now frame value count v is next =
    ap (λ (ws : WordMap). with_word_at ws frame count v) is
    ∙ (λ i f w. (let e : with_word_at (with_frame words frame value count) frame count v f w ≡ with_frame words frame value (count + 1) f w =
    grind (arith, nat_tests) in e) i)

pub without_set : (words : WordMap) (frame word value : ℕ) → without frame (with_word_at words frame word value) ≡ without frame words
unfolding without with_word_at
without_set words frame word value =
    λ i f w. (let e : without frame (with_word_at words frame word value) f w ≡ without frame words f w = grind (arith, nat_tests) in e) i

pub frame_there : (words : WordMap) (frame word value : ℕ) → HasFrame words frame → HasFrame (with_word_at words frame word value) frame
unfolding with_word_at
frame_there words frame word value has = record { there = λ w less. grind (arith, nat_tests, has.there w less) }

-- no page is copied yet
pub pages_none : (map : MemoryMap) (plan : Plan) (words : WordMap) → words ≡ with_pages map plan words 0
unfolding with_pages
pages_none map plan words = λ i f w. (let e : words f w ≡ with_pages map plan words 0 f w = grind (arith, nat_tests) in e) i

module _ (map : MemoryMap) (plan : Plan) (words : WordMap) where
  -- one frame more: the others stay, and what it holds is copied
  pages_beside : (frame f w : ℕ) → (f ≡ map.pool_base + frame → ⊥) → with_pages map plan words frame f w ≡ with_pages map plan words (frame + 1) f w
  unfolding with_pages
  pages_beside frame f w other =
      let same : lies_in map.pool_base (map.pool_base + frame) f ≡ lies_in map.pool_base (map.pool_base + (frame + 1)) f = grind (arith, nat_tests) in
      rw same refl

  pages_new : (frame w : ℕ) → with_pages map plan words frame (map.pool_base + frame) w ≡ words (map.pool_base + frame) w
  unfolding with_pages
  pages_new frame w =
      let out : lies_in map.pool_base (map.pool_base + frame) (map.pool_base + frame) ≡ false = grind (arith, nat_tests) in
      rw out refl

  pages_empty : (frame w : ℕ) → plan.holder frame ≡ None
      → with_pages map plan words (frame + 1) (map.pool_base + frame) w ≡ words (map.pool_base + frame) w
  unfolding with_pages
  pages_empty frame w free =
      let at : map.pool_base + frame - map.pool_base ≡ frame = omega arith in
      rw (at, free) (grind (arith, nat_tests))

  pages_full : (frame w : ℕ) (holder : Holder) → plan.holder frame ≡ Some holder
      → with_pages map plan words (frame + 1) (map.pool_base + frame) w
      ≡ (if nat_lt w 1024 then Some (plan.word_at holder.slot holder.page w) else words (map.pool_base + frame) w)
  unfolding with_pages
  pages_full frame w holder held =
      let at : map.pool_base + frame - map.pool_base ≡ frame = omega arith in
      let in_pool : lies_in map.pool_base (map.pool_base + (frame + 1)) (map.pool_base + frame) ≡ true = grind (arith, nat_tests) in
      rw (at, held, in_pool) (grind (arith, nat_tests))

  frame_here : (now : WordMap) (frame w : ℕ) (value : ℕ → ℕ)
      → with_frame now frame value 1024 frame w ≡ (if nat_lt w 1024 then Some (value w) else now frame w)
  unfolding with_frame
  frame_here now frame w value = rw (eq-eqb frame frame refl) refl

  frame_beside : (now : WordMap) (frame f w : ℕ) (value : ℕ → ℕ) → (f ≡ frame → ⊥) → with_frame now frame value 1024 f w ≡ now f w
  unfolding with_frame
  frame_beside now frame f w value other = rw (ne_eqb f frame other) refl

  -- a frame that holds no page, and one that holds one
  pub pages_free : (now : WordMap) (frame : ℕ) → now ≡ with_pages map plan words frame → plan.holder frame ≡ None
      → now ≡ with_pages map plan words (frame + 1)
  pages_free now frame is free = is ∙ (λ i f w. (let e : with_pages map plan words frame f w ≡ with_pages map plan words (frame + 1) f w =
      elim (cases_eq f (map.pool_base + frame)) [
        | inl here ↦ rw here (pages_new frame w ∙ sym (pages_empty frame w free))
        | inr other ↦ pages_beside frame f w other
      ] in e) i)

  pub pages_held : (now : WordMap) (frame : ℕ) (holder : Holder) → now ≡ with_pages map plan words frame → plan.holder frame ≡ Some holder
      → with_frame now (map.pool_base + frame) (plan.word_at holder.slot holder.page) 1024 ≡ with_pages map plan words (frame + 1)
  pages_held now frame holder is held = λ i f w. (let e : with_frame now (map.pool_base + frame) (plan.word_at holder.slot holder.page) 1024 f w
      ≡ with_pages map plan words (frame + 1) f w =
      elim (cases_eq f (map.pool_base + frame)) [
        | inl here ↦ rw here (frame_here now (map.pool_base + frame) w (plan.word_at holder.slot holder.page)
            ∙ ap (λ (o : Option ℕ). if nat_lt w 1024 then Some (plan.word_at holder.slot holder.page w) else o)
            (ap (λ (ws : WordMap). ws (map.pool_base + frame) w) is ∙ pages_new frame w)
            ∙ sym (pages_full frame w holder held))
        | inr other ↦ frame_beside now (map.pool_base + frame) f w (plan.word_at holder.slot holder.page) other
            ∙ ap (λ (ws : WordMap). ws f w) is ∙ pages_beside frame f w other
      ] in e) i

-- the user frames are there after as before, and the words beside them stay
pub pool_frame : (words : WordMap) (map : MemoryMap) (frame : ℕ) → HasPool words map → frame < map.user_frames → HasFrame words (map.pool_base + frame)
pool_frame words map frame has less = record { there = λ word low. has.there frame word less low }

pub without-at : (old new : WordMap) (frame : ℕ) → without frame new ≡ without frame old → (f w : ℕ) → (f ≡ frame → ⊥) → new f w ≡ old f w
unfolding without
without-at old new frame same f w other =
    let differs = ne_eqb f frame other in
    let e : (if f == frame then None else new f w) ≡ (if f == frame then None else old f w) = λ i. same i f w in
    rw differs at e

pub pool_there : (old new : WordMap) (map : MemoryMap) (frame : ℕ) → HasPool old map → HasFrame new (map.pool_base + frame)
    → without (map.pool_base + frame) new ≡ without (map.pool_base + frame) old → HasPool new map
pool_there old new map frame has here same = record {
  there = λ other word less low. elim (cases_eq other frame) [
    | inl is ↦ rw is (here.there word low)
    | inr differs ↦
        let e : new (map.pool_base + other) word ≡ old (map.pool_base + other) word =
        without-at old new (map.pool_base + frame) same (map.pool_base + other) word (λ p. differs (omega arith)) in
        rw e (has.there other word less low)
  ];
}

pub pool_without : (old new : WordMap) (map : MemoryMap) (frame : ℕ) → frame < map.user_frames
    → without (map.pool_base + frame) new ≡ without (map.pool_base + frame) old
    → without_pool map new ≡ without_pool map old
unfolding without_pool
pool_without old new map frame less same = λ i f w. (let e : without_pool map new f w ≡ without_pool map old f w =
    elim (cases_Bool (lies_in map.pool_base (map.pool_base + map.user_frames) f)) [
      | inl own ↦ rw own refl
      | inr other ↦ rw other (without-at old new (map.pool_base + frame) same f w (λ p. grind (arith, nat_tests)))
    ] in e) i
