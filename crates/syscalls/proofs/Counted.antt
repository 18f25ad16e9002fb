-- How many pages all live processes have, where their heaps end, and where their breaks are, in the Unix as by records.
use Rattle.std.proofs.Common.{◌≡◌, ◌==◌, if◌then◌else◌, ℕ, zero, suc, ◌+◌, ◌-◌, ◌<◌, ◌≤◌, true, false, min, nat_lt, not, Option, Some, None, is_some, inl, inr, refl, sym, ap, ◌∙◌, arith}
use Rattle.std.proofs.lemmas.Bool.{cases_Bool, cases_lt}
use Rattle.std.proofs.lemmas.Bool.Decides.{nat_tests}
use Rattle.ow_base.specs.Sv32.{WordMap}
use Rattle.ow_base.specs.declared.machine.Bank.{Bank}
use Rattle.record_layouts.specs.declared.proc.ProcRec.{ProcRec}
use Rattle.record_layouts.specs.Least.{IsLeast, NonePasses}
use Rattle.record_layouts.specs.Unix.State.{Process, count_from, sum_from}
use Rattle.record_layouts.specs.Unix.Spaces as unix
use Rattle.record_layouts.specs.Decode.{Context, InKernel, InUser, process_at, process_of, processes_of, with_bank}
use Rattle.record_layouts.specs.Held.{Records}
use Rattle.record_layouts.specs.Pages.{is_live, live_one, page_total, pages_of, region_of}
use Rattle.record_layouts.specs.Proc.{FitsProc}
use Rattle.record_layouts.specs.Sound.{AreSound, IsIn}
use Rattle.record_layouts.proofs.Least.{least_found, least_none}
use Rattle.frame_table.specs.Counts.{pages_of_all, total_of}
use Rattle.frame_table.proofs.Counting.{fits_there, low_end, region_none, region_there, values_end}
use Rattle.address_space.specs.Spaces.{heap_end}
use Rattle.process_table.proofs.PidSums.{over_slots}
use Rattle.process_table.proofs.Seats.{found_in}
use Rattle.syscalls.specs.Planned.{break_of}

-- a sum with one number more behind
sum_behind : (f : ℕ → ℕ) (first count : ℕ) → sum_from f first (suc count) ≡ sum_from f first count + f (first + count)
unfolding sum_from
sum_behind f first zero = let place : f (first + 0) ≡ f first = ap f (omega arith) in omega (arith, place)
sum_behind f first (suc count) =
    let behind = sum_behind f (first + 1) count in
    let place : f (first + 1 + count) ≡ f (first + suc count) = ap f (omega arith) in
    omega (arith, behind, place)

sum_last : (f : ℕ → ℕ) (count : ℕ) → sum_from f 0 (suc count) ≡ sum_from f 0 count + f count
sum_last f count =
    let behind = sum_behind f 0 count in
    let place : f (0 + count) ≡ f count = ap f (omega arith) in
    omega (arith, behind, place)

sum_ones : (f : ℕ → ℕ) (first count end : ℕ) → end ≡ first + count → ((k : ℕ) → first ≤ k → k < end → f k ≡ 1) → sum_from f first count ≡ count
unfolding sum_from
sum_ones f first zero end sum ones = refl
sum_ones f first (suc count) end sum ones =
    let here = ones first (omega arith) (omega arith) in
    let behind = sum_ones f (first + 1) count end (omega arith) (λ k from to. ones k (omega arith) to) in
    omega (arith, here, behind)

-- how many pages a process has below the stack, and in it
abbrev one_at : ProcRec → (page : ℕ) → ℕ
one_at process page = if is_some (region_of process page) then 1 else 0

held_one : (process : ProcRec) (page : ℕ) → is_some (region_of process page) ≡ true → one_at process page ≡ 1
held_one process page held = rw held refl

none_one : (process : ProcRec) (page : ℕ) → region_of process page ≡ None → one_at process page ≡ 0
none_one process page none = rw none refl

low_pages : (process : ProcRec) (count : ℕ) → is_live process ≡ true → count ≤ 0x7fffc → sum_from (one_at process) 0 count ≡ min count (values_end process) - 16
unfolding sum_from
low_pages process zero live few = omega arith
low_pages process (suc count) live few =
    let before = low_pages process count live (omega (arith, few)) in
    let more = sum_last (one_at process) count in
    elim (cases_lt count 16) [
      | inl low ↦ let none = none_one process count (region_none process count (inl low) (inl (omega (arith, few)))) in omega (arith, before, more, none, low)
      | inr up ↦ elim (cases_lt count (values_end process)) [
        | inl inside ↦ let one = held_one process count (region_there process count live (inl (up, inside))) in omega (arith, before, more, one, up, inside)
        | inr behind ↦ let none = none_one process count (region_none process count (inr behind) (inl (omega (arith, few)))) in omega (arith, before, more, none, up, behind)
      ]
    ]

stack_pages : (process : ProcRec) → is_live process ≡ true → sum_from (one_at process) 0x7fffc 4 ≡ 4
stack_pages process live = sum_ones (one_at process) 0x7fffc 4 0x80000 refl (λ k from to. held_one process k (region_there process k live (inr (from, to))))

all_pages : (process : ProcRec) → FitsProc process → is_live process ≡ true
    → count_from (λ page. is_some (region_of process page)) 0 1024 + count_from (λ page. is_some (region_of process page)) 0x7fffc 4 ≡ page_total process
unfolding count_from page_total
all_pages process fits live =
    let low = low_pages process 1024 live (omega arith) in
    let stack = stack_pages process live in
    let most = low_end process fits live in
    rw live (omega (arith, low, stack, most))

-- a heap ends where its record says
heap_tests : (process : ProcRec) → is_live process ≡ true → (page : ℕ) → 16 ≤ page → page < values_end process → not (is_some (region_of process page)) ≡ false
heap_tests process live page from to = rw (region_there process page live (inl (from, to))) refl

pub heap_ends : (r : Records) (words : WordMap) (slot : ℕ) (process : ProcRec) → FitsProc process → is_live process ≡ true → unix.heap_end (pages_of r words slot process) ≡ heap_end process
unfolding unix.heap_end pages_of
heap_ends r words slot process fits live =
    let most = low_end process fits live in
    let test = λ (page : ℕ). not (is_some (region_of process page)) in
    let below : NonePasses test 16 (values_end process) = record { none = heap_tests process live } in
    elim (cases_lt (values_end process) 1024) [
      | inl room ↦
          let free = region_none process (values_end process) (inr (omega arith)) (inl (omega (arith, room))) in
          let passes : test (values_end process) ≡ true = rw free refl in
          let least : IsLeast test 16 1024 (values_end process) = record { from = omega arith; to = room; passes = passes; below = below } in
          ap unix.or_last (least_found test 16 1008 1024 (values_end process) refl least) ∙ omega arith
      | inr full ↦
          let all : NonePasses test 16 1024 = record { none = λ k from to. heap_tests process live k from (omega (arith, full, to)) } in
          ap unix.or_last (least_none test 16 1008 1024 refl all) ∙ omega (arith, most, full)
    ]

-- the address of a break
pub break_is : (r : Records) (words : WordMap) (slot : ℕ) (process : ProcRec) (bank : Bank) → FitsProc process → is_live process ≡ true
    → unix.break_of (record (process_of r words slot process) { bank = bank }) ≡ break_of process
unfolding unix.break_of process_of
break_is r words slot process bank fits live = rw (heap_ends r words slot process fits live) (omega arith)

-- the pages of all live processes
banked_pages : (bank : Bank) (held : Option Process) → unix.pages_of_one (with_bank bank held) ≡ unix.pages_of_one held
banked_pages bank (Some p) = refl
banked_pages bank None = refl

pages_alike : (r : Records) (words : WordMap) (context : Context) (pid : ℕ) → unix.pages_of_one (processes_of r words context pid) ≡ unix.pages_of_one (process_at r words pid)
unfolding processes_of
pages_alike r words InKernel pid = refl
pages_alike r words (InUser user count bank) pid = elim (cases_Bool (pid == user)) [
  | inl same ↦ rw same (banked_pages bank (process_at r words pid))
  | inr other ↦ rw other refl
]

abbrev total_in : Records → (slot : ℕ) → ℕ
total_in r slot = total_of (live_one (r.procs slot))

over_first : (r : Records) (slots : ℕ) → pages_of_all r slots ≡ sum_from (total_in r) 0 slots
unfolding pages_of_all sum_from
over_first r zero = refl
over_first r (suc slots) =
    let before = over_first r slots in
    let last = sum_last (total_in r) slots in
    omega (arith, before, last)

pub decoded_pages : (r : Records) (words : WordMap) (slot : ℕ) (process : ProcRec) → FitsProc process → is_live process ≡ true → unix.pages_of_one (Some (process_of r words slot process)) ≡ page_total process
unfolding process_of pages_of
decoded_pages r words slot process fits live = all_pages process fits live

module _ (r : Records) (words : WordMap) (context : Context) (sound : AreSound r) where
  pages_in_slot : (slot : ℕ) (process : ProcRec) → IsIn r slot process → unix.pages_of_one (processes_of r words context process.pid) ≡ total_in r slot
  pages_in_slot slot process is =
      let live = is.live in
      let seat : live_one (r.procs slot) ≡ Some process = ap live_one is.there ∙ rw live refl in
      pages_alike r words context process.pid
      ∙ (ap unix.pages_of_one (found_in r words slot process sound is)
      ∙ (decoded_pages r words slot process (fits_there r slot process sound.values is.there) is.live
      ∙ sym (ap total_of seat)))

  pub all_counted : unix.pages_of_all (processes_of r words context) ≡ pages_of_all r 16
  unfolding unix.pages_of_all
  all_counted =
      over_slots r words context unix.pages_of_one sound refl (total_in r) pages_in_slot (λ slot within none. ap total_of none)
      ∙ sym (over_first r 16)

-- there is no room for pages where fewer frames are free
pub room_same : (free pages user new : ℕ) → free + pages ≡ user → nat_lt user (pages + new) ≡ nat_lt free new
room_same free pages user new all = grind (arith, nat_tests, all)
