-- The process of a slot that goes on, and how many pages it has.
use Rattle.std.proofs.Common.{◌≡◌, ◌+◌, ◌≤◌, true, false, Option, Some, None, IfSome, is_some, refl, inl, inr, arith}
use Rattle.std.proofs.lemmas.Bool.{cases_Bool}
use Rattle.record_layouts.specs.declared.proc.ProcRec.{ProcRec}
use Rattle.record_layouts.specs.Pages.{heap_pages, is_live, live_one, page_total}
use Rattle.record_layouts.specs.Proc.{FitsProc}
use Rattle.frame_table.proofs.Counting.{low_end}
use Rattle.address_space.specs.Spaces.{heap_end}

-- where no process goes on, one that is there is not live
pub unused_dead : (process : ProcRec) → live_one (Some process) ≡ None → is_live process ≡ false
unused_dead process unused = elim (cases_Bool (is_live process)) [
  | inl live ↦ absurd (cc (rw live at unused))
  | inr dead ↦ dead
]

-- what is asked of the process that goes on holds of it
pub live_can : (held : Option ProcRec) (process : ProcRec) (Can : ProcRec → Type 0) → held ≡ Some process → is_some (live_one held) ≡ true
    → IfSome (live_one held) Can → Can process
live_can held process Can there goes can =
    let some : is_some (live_one (Some process)) ≡ true = rw there at goes in
    let if_some : IfSome (live_one (Some process)) Can = rw there at can in
    elim (cases_Bool (is_live process)) [
      | inl live ↦ rw live at if_some
      | inr dead ↦ absurd (cc (rw dead at some))
    ]

-- how many pages a live process has
pub pages_live : (process : ProcRec) → is_live process ≡ true → page_total process ≡ process.code_pages + (process.data_pages + heap_pages process) + 4
unfolding page_total
pages_live process live = rw live refl

pub end_fits : (process : ProcRec) → FitsProc process → is_live process ≡ true → heap_end process ≤ 1024
end_fits process fits live = let low = low_end process fits live in omega (arith, low)
