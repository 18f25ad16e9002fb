-- Which page of a process is the first that has no frame.
use Rattle.std.proofs.Common.{◌≡◌, ℕ, ◌+◌, ◌-◌, ◌<◌, ◌≤◌, Bool, true, false, not, Option, Some, None, is_some, IfSome, IfNone, refl, inl, inr, arith}
use Rattle.record_layouts.specs.declared.proc.ProcRec.{ProcRec}
use Rattle.record_layouts.specs.Held.{Records}
use Rattle.record_layouts.specs.Least.{IsLeast, NonePasses}
use Rattle.record_layouts.specs.Left.{has_tables, lacks_frame}
use Rattle.record_layouts.specs.Pages.{frame_of, have_frames, heap_pages, is_live, is_mapped, page_total, region_of}
use Rattle.record_layouts.proofs.Frames.{have_all}
use Rattle.frame_table.proofs.Counting.{IsOfRegions, in_or_out, region_none, region_there, values_end}

module _ (r : Records) (slot : ℕ) (process : ProcRec) where
  -- the page has no frame
  abbrev pub is_bare : (page : ℕ) → Bool
  is_bare page = not (is_some (frame_of r slot process page))

  all_framed : (first count end : ℕ) → end ≡ first + count → NonePasses is_bare first end → have_frames r slot process first count ≡ true
  all_framed first count end sum none = have_all r slot process first count end sum (λ page from to.
      let bare : not (is_some (frame_of r slot process page)) ≡ false = none.none page from to in
      grind (arith, bare))

  -- a process is mapped where its tables are found and no page of its regions is without a frame
  pub mapped_by : has_tables r slot ≡ true → NonePasses is_bare 16 (values_end process) → NonePasses is_bare 0x7fffc 0x80000
      → is_mapped r slot process ≡ true
  unfolding is_mapped
  mapped_by tables front stack =
      let low : have_frames r slot process 16 (process.code_pages + (process.data_pages + heap_pages process)) ≡ true = all_framed 16 _ _ refl front in
      let high : have_frames r slot process 0x7fffc 4 ≡ true = all_framed 0x7fffc 4 0x80000 refl stack in
      grind (arith, tables, low, high)

  module _ (live : is_live process ≡ true) where
    lacks_in : (page : ℕ) → IsOfRegions process page → is_bare page ≡ true → lacks_frame r slot page (Some process) ≡ true
    lacks_in page inside bare = let there = region_there process page live inside in grind (arith, there, bare)

  lacks_not : (page : ℕ) → is_bare page ≡ false → lacks_frame r slot page (Some process) ≡ false
  lacks_not page framed = grind (arith, framed)

  lacks_outside : (page : ℕ) → region_of process page ≡ None → lacks_frame r slot page (Some process) ≡ false
  lacks_outside page none = grind (arith, none)

  -- the pages of a process that goes on: those before the stack, which end here, and the stack's four
  pub front_ends : (total : ℕ) → is_live process ≡ true → total ≡ page_total process → (4 ≤ total) × (16 + (total - 4) ≡ values_end process)
  unfolding page_total
  front_ends total live is =
      let sum : total ≡ process.code_pages + (process.data_pages + heap_pages process) + 4 = rw live at is in
      (omega (arith, sum), omega (arith, sum))

  -- the first page of the regions that has no frame, in the part before the stack or in the stack
  pub first_in_front : (end page : ℕ) → is_live process ≡ true → end ≡ values_end process → IsLeast is_bare 16 end page
      → lacks_frame r slot page (Some process) ≡ true
  first_in_front end page live ends least = lacks_in live page (inl (least.from, omega (arith, ends, least.to))) least.passes

  pub first_in_stack : (page : ℕ) → is_live process ≡ true → IsLeast is_bare 0x7fffc 0x80000 page → lacks_frame r slot page (Some process) ≡ true
  first_in_stack page live least = lacks_in live page (inr (least.from, least.to)) least.passes

  -- and no page below lacks one
  pub none_below_front : (end page lower : ℕ) → end ≡ values_end process → values_end process ≤ 1024 → IsLeast is_bare 16 end page → lower < page
      → lacks_frame r slot lower (Some process) ≡ false
  none_below_front end page lower ends low least less = elim (in_or_out process lower) [
    | inl inside ↦ elim inside [
      | inl front ↦ lacks_not lower (least.below.none lower front.0 less)
      | inr stack ↦ absurd (omega (arith, ends, low, least.to, less, stack.0))
    ]
    | inr outside ↦ lacks_outside lower (region_none process lower outside.0 outside.1)
  ]

  pub none_below_stack : (end page lower : ℕ) → end ≡ values_end process → NonePasses is_bare 16 end → IsLeast is_bare 0x7fffc 0x80000 page → lower < page
      → lacks_frame r slot lower (Some process) ≡ false
  none_below_stack end page lower ends front least less = elim (in_or_out process lower) [
    | inl inside ↦ elim inside [
      | inl here ↦ lacks_not lower (front.none lower here.0 (omega (arith, ends, here.1)))
      | inr stack ↦ lacks_not lower (least.below.none lower stack.0 less)
    ]
    | inr outside ↦ lacks_outside lower (region_none process lower outside.0 outside.1)
  ]

  -- where no page lacks a frame, those of the regions have one
  pub all_have : (is_live process ≡ true) → has_tables r slot ≡ true → ((page : ℕ) → lacks_frame r slot page (Some process) ≡ false) → is_mapped r slot process ≡ true
  all_have live tables none =
      let framed = λ (page : ℕ) (inside : IsOfRegions process page).
      let there = region_there process page live inside in
      let lacks = none page in
      let is : is_bare page ≡ false = grind (arith, there, lacks) in is in
      mapped_by tables
      (record { none = λ page from to. framed page (inl (from, to)) })
      (record { none = λ page from to. framed page (inr (from, to)) })

-- what holds of a value, or where there is none, tells something else of it
pub if_some : {A : Type 0} (P Q : A → Type 0) (found : Option A) → ((a : A) → P a → Q a) → IfSome found P → IfSome found Q
if_some P Q (Some a) tells holds = tells a holds
if_some P Q None tells holds = tt

pub if_none : {A : Type 0} (P Q : Type 0) (found : Option A) → (P → Q) → IfNone found P → IfNone found Q
if_none P Q (Some a) tells holds = tt
if_none P Q None tells holds = tells holds
