-- When pages can be prepared for a process.
use Rattle.std.proofs.Common.{◌≡◌, ℕ, ◌+◌, ◌≤◌, true, Option, Some, refl, sym, subst, arith}
use Rattle.std.specs.Prelude.{IfSome}
use Rattle.std.proofs.lemmas.Grind.{common_steps}
use Rattle.record_layouts.specs.declared.proc.ProcRec.{ProcRec}
use Rattle.record_layouts.specs.Held.{Records}
use Rattle.record_layouts.specs.Pages.{heap_pages, is_live, live_one, page_total}
use Rattle.frame_table.specs.Free.{free_before}
use Rattle.address_space.specs.Spaces.{CanGrow}

-- a process that goes on is the one of its slot
live_in : (held : Option ProcRec) (process : ProcRec) → live_one held ≡ Some process → (held ≡ Some process) × (is_live process ≡ true)
live_in held process is = grind (arith, common_steps)

-- its pages are those of its regions
total : (process : ProcRec) → is_live process ≡ true → page_total process ≡ process.code_pages + (process.data_pages + heap_pages process) + 4
unfolding page_total
total process live = rw live refl

pub can_grow : (r : Records) (slot count user_frames : ℕ) (process : ProcRec) → live_one (r.procs slot) ≡ Some process
    → page_total process + 12 + count ≤ 1024 → r.map.user_frames ≡ user_frames → count ≤ free_before r user_frames
    → IfSome (live_one (r.procs slot)) (CanGrow r slot count)
can_grow r slot count user_frames process is room all frames =
    let found = live_in (r.procs slot) process is in
    rw is (record { there = found.0; live = found.1; room = omega (arith, total process found.1, room); frames = subst (λ (n : ℕ). count ≤ free_before r n) (sym all) frames })
