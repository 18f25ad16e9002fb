-- Which pages the regions of a process hold, and how many.
use Rattle.std.proofs.Common.{◌≡◌, ℕ, zero, suc, ◌+◌, ◌-◌, ◌^◌, ◌<◌, ◌≤◌, ◌⊎◌, true, false, min, Option, Some, None, is_some, IfSome, refl, ap, subst, inl, inr, arith}
use Rattle.std.proofs.lemmas.Bool.{cases_Bool, cases_lt}
use Rattle.std.proofs.lemmas.Bool.Decides.{nat_tests}
use Rattle.ow_base.specs.declared.machine.Rights.{Rights}
use Rattle.record_layouts.specs.declared.places.RecordId.TheVariants as id
use Rattle.record_layouts.specs.declared.proc.ProcRec.{ProcRec}
use Rattle.record_layouts.specs.Held.{AreValues, Records}
use Rattle.record_layouts.specs.Proc.{FitsProc, FitsLive}
use Rattle.record_layouts.specs.Pages.{is_live, heap_pages, region_of, page_total}
use Rattle.frame_table.specs.Counts.{one_page, pages_held}

-- the page behind code, data and heap
abbrev pub values_end : ProcRec → ℕ
values_end process = 16 + (process.code_pages + (process.data_pages + heap_pages process))

-- a page from 16 up to the heap's end, or one of the stack's four
abbrev pub IsOfRegions : ProcRec → (page : ℕ) → Type 0
IsOfRegions process page = ((16 ≤ page) × (page < values_end process)) ⊎ ((0x7fffc ≤ page) × (page < 0x80000))

-- a record that is there is a value of its layout
pub fits_there : (r : Records) (slot : ℕ) (process : ProcRec) → AreValues r → r.procs slot ≡ Some process → FitsProc process
fits_there r slot process values there = subst (λ (held : Option ProcRec). IfSome held FitsProc) there (values (id.Proc slot))

pub live_fits : (process : ProcRec) → FitsProc process → is_live process ≡ true → FitsLive process
live_fits process fits live = fits.live (grind (arith, nat_tests))

-- the heap ends at the latest where the low table does
pub low_end : (process : ProcRec) → FitsProc process → is_live process ≡ true → values_end process ≤ 1024
low_end process fits live = let heap = (live_fits process fits live).heap_end in omega arith

pub region_there : (process : ProcRec) (page : ℕ) → is_live process ≡ true → IsOfRegions process page → is_some (region_of process page) ≡ true
unfolding region_of
region_there process page live there = grind (arith, nat_tests)

pub region_none : (process : ProcRec) (page : ℕ) → page < 16 ⊎ values_end process ≤ page → page < 0x7fffc ⊎ 0x80000 ≤ page → region_of process page ≡ None
unfolding region_of
region_none process page low high = grind (arith, nat_tests)

pub region_dead : (process : ProcRec) (page : ℕ) → is_live process ≡ false → region_of process page ≡ None
unfolding region_of
region_dead process page dead = grind (arith, nat_tests)

-- behind the stack there is no page
pub behind_none : (process : ProcRec) (page : ℕ) → FitsProc process → is_live process ≡ true → 0x80000 ≤ page → region_of process page ≡ None
behind_none process page fits live behind =
    let low = low_end process fits live in
    region_none process page (inr (omega (arith, low, behind))) (inr behind)

-- a process that has a page goes on
pub held_lives : (process : ProcRec) (page : ℕ) (rights : Rights) → region_of process page ≡ Some rights → is_live process ≡ true
held_lives process page rights held = elim (cases_Bool (is_live process)) [
  | inl live ↦ live
  | inr dead ↦ let none = region_dead process page dead in absurd (cc (none, held))
]

-- a page is of the regions or is not
pub in_or_out : (process : ProcRec) (page : ℕ)
    → IsOfRegions process page ⊎ ((page < 16 ⊎ values_end process ≤ page) × (page < 0x7fffc ⊎ 0x80000 ≤ page))
in_or_out process page = elim (cases_lt page 16) [
  | inl low ↦ inr (inl low, inl (omega arith))
  | inr up ↦ elim (cases_lt page (values_end process)) [
    | inl inside ↦ inl (inl (omega arith, inside))
    | inr behind ↦ elim (cases_lt page 0x7fffc) [
      | inl between ↦ inr (inr (omega arith), inl between)
      | inr high ↦ elim (cases_lt page 0x80000) [
        | inl stack ↦ inl (inr (omega arith, stack))
        | inr last ↦ inr (inr (omega arith), inr (omega arith))
      ]
    ]
  ]
]

one_there : (rights : Option Rights) → is_some rights ≡ true → one_page rights ≡ 1
one_there (Some rights) there = refl
one_there None there = grind arith

-- the pages before one that are of code, data and heap, and those that are of the stack
abbrev below : ProcRec → (count : ℕ) → ℕ
below process count = (min count (values_end process) - 16) + (min count 0x80000 - 0x7fffc)

held_below : (process : ProcRec) (count : ℕ) → values_end process ≤ 1024 → is_live process ≡ true → pages_held process count ≡ below process count
unfolding pages_held
held_below process zero low live = omega arith
held_below process (suc count) low live =
    let before = held_below process count low live in
    elim (in_or_out process count) [
      | inl inside ↦ let one = one_there (region_of process count) (region_there process count live inside) in elim inside [
        | inl front ↦ omega (arith, before, one, front)
        | inr stack ↦ omega (arith, before, one, stack)
      ]
      | inr outside ↦ let none : one_page (region_of process count) ≡ 0 = ap one_page (region_none process count outside.0 outside.1) in elim outside.0 [
        | inl first ↦ omega (arith, before, none, first)
        | inr later ↦ elim outside.1 [
          | inl between ↦ omega (arith, before, none, later, between)
          | inr behind ↦ omega (arith, before, none, later, behind)
        ]
      ]
    ]

none_held : (process : ProcRec) (count : ℕ) → is_live process ≡ false → pages_held process count ≡ 0
unfolding pages_held
none_held process zero dead = refl
none_held process (suc count) dead = rw (none_held process count dead, region_dead process count dead) refl

-- from the first page behind the stack on all pages are counted
pub all_held : (process : ProcRec) (count : ℕ) → FitsProc process → 2 ^ 19 ≤ count → pages_held process count ≡ page_total process
unfolding page_total
all_held process count fits high = elim (cases_Bool (is_live process)) [
  | inl live ↦
      let low = low_end process fits live in
      let held = held_below process count low live in
      rw live (omega (arith, held, low))
  | inr dead ↦ rw dead (none_held process count dead)
]
