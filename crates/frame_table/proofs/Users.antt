-- That the user frames are those that are free and those in which a page lies, and each page of a live process lies in one.
use Rattle.std.proofs.Common.{◌≡◌, ◌≢◌, ℕ, zero, suc, ◌+◌, ◌-◌, ◌^◌, ◌<◌, ◌≤◌, Bool, true, false, if◌then◌else◌, Option, Some, None, is_some, IfSome, refl, sym, ap, ◌∙◌, inl, inr, arith}
use Rattle.std.proofs.lemmas.Bool.{cases_Bool}
use Rattle.std.proofs.lemmas.Bool.Decides.{nat_tests}
use Rattle.ow_base.specs.Sv32.{WordMap}
use Rattle.record_layouts.specs.declared.proc.ProcRec.{ProcRec}
use Rattle.record_layouts.specs.Held.{AreValues, Records}
use Rattle.record_layouts.specs.Memory.{AreOfMemory}
use Rattle.record_layouts.specs.Proc.{FitsProc}
use Rattle.record_layouts.specs.Sound.{HaveFrames}
use Rattle.record_layouts.specs.Pages.{frame_if, frame_of, is_live, live_one, page_frame_of, page_total, region_of}
use Rattle.record_layouts.specs.Unix.State.{sum_from}
use Rattle.record_layouts.proofs.Least.{any_passing}
use Rattle.record_layouts.proofs.Sums.{sum_more, sum_none, sum_one, sum_ones, sum_plus, sum_same, sum_swap}
use Rattle.frame_table.specs.Counts.{one_page, pages_held, pages_of_all, total_of}
use Rattle.frame_table.specs.Free.{free_before, has_page_in, is_free_frame, is_this}
use Rattle.frame_table.proofs.Counting.{all_held, fits_there, low_end, region_dead}
use Rattle.frame_table.proofs.Found.{frame_found, one_page_in_slots}
use Rattle.frame_table.proofs.Free.{claimed_by, free_holds_none, this_found, this_one}
use Rattle.frame_table.proofs.Kept.{frame_behind}
use Rattle.frame_table.proofs.Tables.{HasFrame, HasNone, owned_below, page_case}

-- what a number counts that passes a test, and one that does not
abbrev one_if : Bool → ℕ
one_if passes = if passes then 1 else 0

-- the definitions as sums

free_sum : (r : Records) (count : ℕ) → free_before r count ≡ sum_from (λ number. one_if (is_free_frame r number)) 0 count
unfolding free_before sum_from
free_sum r zero = refl
free_sum r (suc count) = ap (λ n. n + one_if (is_free_frame r count)) (free_sum r count) ∙ sym (sum_more (λ number. one_if (is_free_frame r number)) count)

held_sum : (process : ProcRec) (count : ℕ) → pages_held process count ≡ sum_from (λ page. one_page (region_of process page)) 0 count
unfolding pages_held sum_from
held_sum process zero = refl
held_sum process (suc count) = ap (λ n. n + one_page (region_of process count)) (held_sum process count) ∙ sym (sum_more (λ page. one_page (region_of process page)) count)

-- how many pages the process of a slot has
abbrev pub total_at : Records → (slot : ℕ) → ℕ
total_at r slot = total_of (live_one (r.procs slot))

pub all_sum : (r : Records) (slots : ℕ) → pages_of_all r slots ≡ sum_from (total_at r) 0 slots
unfolding pages_of_all sum_from
all_sum r zero = refl
all_sum r (suc slots) = ap (λ n. n + total_at r slots) (all_sum r slots) ∙ sym (sum_more (total_at r) slots)

module _ (r : Records) where
  -- a page counts in the user frame that it lies in
  abbrev lying : (number slot page : ℕ) → ℕ
  lying number slot page = one_if (is_this (r.map.pool_base + number) (page_frame_of r slot page))

  -- how many pages of a slot, and of all, lie in a user frame
  abbrev lying_of : (number slot : ℕ) → ℕ
  lying_of number slot = sum_from (lying number slot) 0 (2 ^ 20)

  abbrev lying_in : (number : ℕ) → ℕ
  lying_in number = sum_from (lying_of number) 0 16

  none_in : (number : ℕ) → is_free_frame r number ≡ true → lying_in number ≡ 0
  none_in number free =
      let holds = free_holds_none r number free in
      sum_none (lying_of number) 0 16 16 refl
      (λ slot from within. sum_none (lying number slot) 0 (2 ^ 20) (2 ^ 20) refl (λ page from fits. ap one_if (holds.none slot page within fits)))

  -- the page that lies in a frame
  record LiesIn (number : ℕ) : Type 0 where
    slot : ℕ
    page : ℕ
    within : slot < 16
    fits : page < 2 ^ 20
    is : is_this (r.map.pool_base + number) (page_frame_of r slot page) ≡ true

  page_of_slot : (number slot : ℕ) → slot < 16 → has_page_in r slot (r.map.pool_base + number) ≡ true → LiesIn number
  unfolding has_page_in
  page_of_slot number slot within has =
      let found = any_passing (λ page. is_this (r.map.pool_base + number) (page_frame_of r slot page)) 0 (2 ^ 20) (2 ^ 20) refl has in
      record { slot = slot; page = found.number; within = within; fits = found.to; is = found.passes }

  page_in : (number : ℕ) → is_free_frame r number ≡ false → LiesIn number
  unfolding is_free_frame
  page_in number taken =
      let found = any_passing (λ slot. has_page_in r slot (r.map.pool_base + number)) 0 16 16 refl (grind (arith, taken)) in
      page_of_slot number found.number found.to found.passes

  module _ (number : ℕ) (in_it : LiesIn number) where
    one_only : (slot page : ℕ) → page < 2 ^ 20 → is_this (r.map.pool_base + number) (page_frame_of r slot page) ≡ true
        → (in_it.slot ≡ slot) × (in_it.page ≡ page)
    one_only slot page fits is =
        one_page_in_slots r in_it.slot slot in_it.page page (r.map.pool_base + number) in_it.fits fits (this_found _ _ in_it.is) (this_found _ _ is)

    other_page : (slot page : ℕ) → page < 2 ^ 20 → page ≢ in_it.page → lying number slot page ≡ 0
    other_page slot page fits other = elim (cases_Bool (is_this (r.map.pool_base + number) (page_frame_of r slot page))) [
      | inl is ↦ absurd (other (sym (one_only slot page fits is).1))
      | inr none ↦ ap one_if none
    ]

    other_slot : (slot page : ℕ) → page < 2 ^ 20 → slot ≢ in_it.slot → lying number slot page ≡ 0
    other_slot slot page fits other = elim (cases_Bool (is_this (r.map.pool_base + number) (page_frame_of r slot page))) [
      | inl is ↦ absurd (other (sym (one_only slot page fits is).0))
      | inr none ↦ ap one_if none
    ]

    one_in : lying_in number ≡ 1
    one_in =
        sum_one (lying_of number) in_it.slot 1 0 16 16 refl (omega arith) in_it.within
        (sum_one (lying number in_it.slot) in_it.page 1 0 (2 ^ 20) (2 ^ 20) refl (omega arith) in_it.fits (ap one_if in_it.is)
        (λ page from fits other. other_page in_it.slot page fits other))
        (λ slot from within other. sum_none (lying number slot) 0 (2 ^ 20) (2 ^ 20) refl (λ page from fits. other_slot slot page fits other))

  -- a frame is free or one page lies in it
  each_counted : (number : ℕ) → one_if (is_free_frame r number) + lying_in number ≡ 1
  each_counted number = elim (cases_Bool (is_free_frame r number)) [
    | inl free ↦ let one : one_if (is_free_frame r number) ≡ 1 = ap one_if free in omega (arith, one, none_in number free)
    | inr taken ↦ let no : one_if (is_free_frame r number) ≡ 0 = ap one_if taken in omega (arith, no, one_in number (page_in number taken))
  ]

  all_counted : free_before r r.map.user_frames + sum_from lying_in 0 r.map.user_frames ≡ r.map.user_frames
  all_counted =
      ap (λ n. n + sum_from lying_in 0 r.map.user_frames) (free_sum r r.map.user_frames)
      ∙ sym (sum_plus (λ number. one_if (is_free_frame r number)) lying_in 0 r.map.user_frames)
      ∙ sum_ones (λ number. one_if (is_free_frame r number) + lying_in number) 0 r.map.user_frames r.map.user_frames (omega arith)
      (λ number from below. each_counted number)

  module _ (words : WordMap) (of : AreOfMemory r words) where
    not_this : (frame other : ℕ) → other ≢ frame → one_if (is_this frame (Some other)) ≡ 0
    not_this frame other apart = grind (arith, nat_tests)

    -- where a page has a frame, it counts in one user frame
    once_by : (slot page : ℕ) (found : Option ℕ) → page_frame_of r slot page ≡ found
        → sum_from (λ number. one_if (is_this (r.map.pool_base + number) found)) 0 r.map.user_frames ≡ one_if (is_some found)
    once_by slot page (Some frame) e =
        let claim = claimed_by r slot page frame e in
        let own = claim.0 in
        let place : frame ≡ r.map.pool_base + (frame - r.map.pool_base) = omega (arith, own) in
        sum_one (λ number. one_if (is_this (r.map.pool_base + number) (Some frame))) (frame - r.map.pool_base) 1 0 r.map.user_frames r.map.user_frames (omega arith) (omega arith)
        (owned_below r words slot page (frame - r.map.pool_base) of claim.1)
        (ap one_if (this_one (r.map.pool_base + (frame - r.map.pool_base)) (Some frame) (ap Some place)))
        (λ number from below other. not_this (r.map.pool_base + number) frame (omega (arith, own)))
    once_by slot page None e = sum_none (λ number. one_if (is_this (r.map.pool_base + number) None)) 0 r.map.user_frames r.map.user_frames (omega arith) (λ number from below. refl)

    -- the pages of a slot that have a frame, in either order
    framed_once : (slot : ℕ) → sum_from (λ number. lying_of number slot) 0 r.map.user_frames ≡ sum_from (λ page. one_if (is_some (page_frame_of r slot page))) 0 (2 ^ 20)
    framed_once slot =
        sum_swap (λ number page. lying number slot page) 0 r.map.user_frames 0 (2 ^ 20)
        ∙ sum_same (λ page. sum_from (λ number. lying number slot page) 0 r.map.user_frames) (λ page. one_if (is_some (page_frame_of r slot page))) 0 (2 ^ 20) (2 ^ 20) refl
        (λ page from fits. once_by slot page (page_frame_of r slot page) refl)

    module _ (values : AreValues r) (have : HaveFrames r) where
      module _ (slot : ℕ) (within : slot < 16) where
        page_counts : (process : ProcRec) (page : ℕ) → r.procs slot ≡ Some process → is_live process ≡ true
            → one_if (is_some (frame_of r slot process page)) ≡ one_page (region_of process page)
        page_counts process page there live =
            elim (page_case r slot process page (have slot process (record { within = within; there = there; live = live }))) [
              | HasFrame frame found ↦ let f = frame_found r slot process page frame found in rw (found, f.held) refl
              | HasNone none ↦ rw (frame_behind r slot page process none, none) refl
            ]

        live_counts : (process : ProcRec) → r.procs slot ≡ Some process → is_live process ≡ true
            → sum_from (λ page. one_if (is_some (frame_of r slot process page))) 0 (2 ^ 20) ≡ page_total process
        live_counts process there live =
            sum_same (λ page. one_if (is_some (frame_of r slot process page))) (λ page. one_page (region_of process page)) 0 (2 ^ 20) (2 ^ 20) refl
            (λ page from fits. page_counts process page there live)
            ∙ sym (held_sum process (2 ^ 20))
            ∙ all_held process (2 ^ 20) (fits_there r slot process values there) (omega arith)

        dead_counts : (process : ProcRec) → is_live process ≡ false
            → sum_from (λ page. one_if (is_some (frame_of r slot process page))) 0 (2 ^ 20) ≡ 0
        dead_counts process dead =
            sum_none (λ page. one_if (is_some (frame_of r slot process page))) 0 (2 ^ 20) (2 ^ 20) refl
            (λ page from fits. ap (λ found. one_if (is_some found)) (frame_behind r slot page process (region_dead process page dead)))

        slot_by : (found : Option ProcRec) → r.procs slot ≡ found
            → sum_from (λ page. one_if (is_some (frame_if r slot page found))) 0 (2 ^ 20) ≡ total_of (live_one found)
        slot_by (Some process) there = elim (cases_Bool (is_live process)) [
          | inl live ↦ rw live (live_counts process there live)
          | inr dead ↦ rw dead (dead_counts process dead)
        ]
        slot_by None there = sum_none (λ page. one_if (is_some (frame_if r slot page None))) 0 (2 ^ 20) (2 ^ 20) refl (λ page from fits. refl)

        slot_counts : sum_from (λ page. one_if (is_some (page_frame_of r slot page))) 0 (2 ^ 20) ≡ total_at r slot
        unfolding page_frame_of
        slot_counts = slot_by (r.procs slot) refl

      pages_lie : sum_from lying_in 0 r.map.user_frames ≡ pages_of_all r 16
      pages_lie =
          sum_swap lying_of 0 r.map.user_frames 0 16
          ∙ sum_same (λ slot. sum_from (λ number. lying_of number slot) 0 r.map.user_frames) (total_at r) 0 16 16 refl
          (λ slot from within. framed_once slot ∙ slot_counts slot within)
          ∙ sym (all_sum r 16)

pub free_or_pages : (r : Records) (words : WordMap) → AreOfMemory r words → AreValues r → HaveFrames r
    → free_before r r.map.user_frames + pages_of_all r 16 ≡ r.map.user_frames
free_or_pages r words of values have = ap (λ n. free_before r r.map.user_frames + n) (sym (pages_lie r words of values have)) ∙ all_counted r

-- how many pages a process has at most
few_pages : (process : ProcRec) → FitsProc process → page_total process ≤ 1012
unfolding page_total
few_pages process fits = elim (cases_Bool (is_live process)) [
  | inl live ↦ let low = low_end process fits live in rw live (omega (arith, low))
  | inr dead ↦ rw dead (omega arith)
]

pub few_of : (found : Option ProcRec) → IfSome found FitsProc → total_of found ≤ 1012
few_of (Some process) fits = few_pages process fits
few_of None fits = omega arith

pub none_before : (r : Records) → pages_of_all r 0 ≡ 0
unfolding pages_of_all
none_before r = refl

pub one_slot_more : (r : Records) (slot : ℕ) → pages_of_all r (slot + 1) ≡ pages_of_all r slot + total_of (live_one (r.procs slot))
unfolding pages_of_all
one_slot_more r slot = let next : slot + 1 ≡ suc slot = omega arith in ap (pages_of_all r) next
