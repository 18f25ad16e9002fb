-- Addresses from 2^32 on lie in no page.
use Rattle.std.proofs.Common.{◌≡◌, ℕ, zero, suc, inl, inr, ◌+◌, ◌/◌, ◌^◌, ◌≤◌, false, Option, Some, None, IfSome, refl, arith}
use Rattle.std.proofs.lemmas.Bool.{cases_Bool}
use Rattle.ow_base.specs.Pages.{Pages, is_readable, rights_at}
use Rattle.ow_base.specs.Sv32.{WordMap}
use Rattle.record_layouts.specs.declared.proc.ProcRec.{ProcRec}
use Rattle.record_layouts.specs.Held.{Records}
use Rattle.record_layouts.specs.Pages.{is_live, heap_pages, pages_of, region_of}
use Rattle.record_layouts.specs.Proc.{FitsProc}
use Rattle.process_table.proofs.Ended.{live_fits}
use Rattle.syscalls.specs.Planned.{pages_if}

no_region : (process : ProcRec) (page : ℕ) → FitsProc process → 2 ^ 20 ≤ page → region_of process page ≡ None
unfolding region_of
no_region process page fits high = elim (cases_Bool (is_live process)) [
  | inl live ↦
      let held = live_fits process fits live in
      let heap : 16 + process.code_pages + (process.data_pages + heap_pages process) ≤ 1024 = omega (arith, held.heap_end) in
      rw live (grind (arith, held.code_pages, heap, high))
  | inr over ↦ rw over refl
]

-- a range of which the first byte lies in no page
first_unreadable : (pages : Pages) (address n : ℕ) → rights_at pages address ≡ None → is_readable pages address (suc n) ≡ false
unfolding is_readable
first_unreadable pages address n none = rw none refl

unreadable : (r : Records) (words : WordMap) (slot : ℕ) (process : ProcRec) (address n : ℕ) → FitsProc process → 2 ^ 32 ≤ address
    → is_readable (pages_of r words slot process) address (suc n) ≡ false
unfolding pages_of
unreadable r words slot process address n fits high = first_unreadable (pages_of r words slot process) address n (no_region process (address / 4096) fits (omega arith))

pub unreadable_behind : (r : Records) (words : WordMap) (slot : ℕ) (held : Option ProcRec) (address n : ℕ) → IfSome held FitsProc → 2 ^ 32 ≤ address → 1 ≤ n
    → is_readable (pages_if r words slot held) address n ≡ false
unreadable_behind r words slot (Some process) address (suc n) fits high some = unreadable r words slot process address n fits high
unreadable_behind r words slot None address (suc n) fits high some = first_unreadable (pages_if r words slot None) address n refl
unreadable_behind r words slot held address zero fits high some = absurd (omega arith)
