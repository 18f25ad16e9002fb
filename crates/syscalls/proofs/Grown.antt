-- Pages that are prepared behind the heap of a process: once its record counts them, it has them, and all others keep
-- theirs.
use Rattle.std.proofs.Common.{◌≡◌, ◌==◌, ◌&&◌, ◌||◌, ℕ, ◌+◌, ◌*◌, Bool, true, false, Some, is_some, inl, inr, refl, sym, ap, ◌∙◌, arith}
use Rattle.std.proofs.lemmas.Bool.{cases_Bool}
use Rattle.std.proofs.lemmas.Bool.Decides.{nat_tests}
use Rattle.ow_base.specs.Sv32.{WordMap}
use Rattle.ow_base.specs.Words.{updated}
use Rattle.record_layouts.specs.declared.head.HeadRec.{HeadRec}
use Rattle.record_layouts.specs.declared.proc.ProcRec.{ProcRec}
use Rattle.record_layouts.specs.Unix.State.{is_within}
use Rattle.record_layouts.specs.Held.{Records}
use Rattle.record_layouts.specs.Pages.{frame_of, high_place, is_live, is_mapped, low_place, pages_of, region_of}
use Rattle.record_layouts.specs.Proc.{FitsProc}
use Rattle.record_layouts.specs.Sound.{AreMapped, AreSound, IsIn, is_table_place}
use Rattle.frame_table.proofs.Counting.{fits_there}
use Rattle.frame_table.proofs.Kept.{frame_kept, pages_kept}
use Rattle.frame_table.proofs.Tables.{HasFrame, HasFrames, HasNone, mapped_frames, mapped_where_held, page_case}
use Rattle.address_space.specs.Spaces.{HasGrown, IsGrown, OnlyPrepares, heap_end}
use Rattle.address_space.proofs.Growing.{linked_kept, region_new, region_old}
use Rattle.process_table.proofs.Changes.{changed_records}
use Rattle.process_table.proofs.EndedSound.{where_held}
use Rattle.process_table.proofs.Endings.{served}
use Rattle.process_table.proofs.Regions.{mapped_stays}
use Rattle.syscalls.specs.Done.{held_as}
use Rattle.syscalls.specs.Planned.{grown_process, pages_more}
use Rattle.syscalls.proofs.Becoming.{OthersStay, prepared}

-- what a process has once its heap has so many bytes more
pub grown_has : (process saved : ProcRec) (bytes : ℕ) → saved.code_pages ≡ process.code_pages → saved.data_pages ≡ process.data_pages → saved.brk ≡ process.brk
    → HasGrown process (pages_more saved bytes) (grown_process saved bytes)
grown_has process saved bytes code values brk = record {
  live = refl;
  code = code;
  values = values;
  heap = omega (arith, brk);
}

-- pages that have rights have them too once more pages are there
module _ (process grown : ProcRec) (count : ℕ) (has : HasGrown process count grown) (live : is_live process ≡ true) where
  still_held : (page : ℕ) → is_some (region_of process page) ≡ true → is_some (region_of grown page) ≡ true
  still_held page held = elim (cases_Bool (is_within (heap_end process) count page)) [
    | inl within ↦ rw (region_new process grown count has live page within) refl
    | inr out ↦ rw (region_old process grown count has live page out) held
  ]

  new_held : (page : ℕ) → is_some (region_of grown page) ≡ false → is_within (heap_end process) count page ≡ false
  new_held page none = elim (cases_Bool (is_within (heap_end process) count page)) [
    | inl within ↦ let there : is_some (region_of grown page) ≡ true = rw (region_new process grown count has live page within) refl in absurd (cc (there, none))
    | inr out ↦ out
  ]

  was_none : (page : ℕ) → is_some (region_of grown page) ≡ false → is_some (region_of process page) ≡ false
  was_none page none = elim (cases_Bool (is_some (region_of process page))) [
    | inl held ↦ let there = still_held page held in absurd (cc (there, none))
    | inr free ↦ free
  ]

  no_place : (table word : ℕ) → (place low high low_then high_then : Bool) → (low_then ≡ false → low ≡ false) → (high_then ≡ false → high ≡ false)
      → (place || (table == 1 && low_then) || (table == 2 && high_then)) ≡ false → (place || (table == 1 && low) || (table == 2 && high)) ≡ false
  no_place table word place low high low_then high_then lows highs none = elim (cases_Bool (table == 1)) [
    | inl first ↦ elim (cases_Bool (table == 2)) [
      | inl second ↦ grind (arith, nat_tests, first, second)
      | inr other ↦ let was = lows (grind (arith, none, first, other)) in grind (arith, none, first, other, was)
    ]
    | inr other ↦ elim (cases_Bool (table == 2)) [
      | inl second ↦ let was = highs (grind (arith, none, second, other)) in grind (arith, none, second, other, was)
      | inr neither ↦ grind (arith, none, other, neither)
    ]
  ]

  pub no_place_before : (table word : ℕ) → is_table_place grown table word ≡ false → is_table_place process table word ≡ false
  no_place_before table word none =
      no_place table word (table == 0 && (word == low_place || word == high_place)) (is_some (region_of process word)) (is_some (region_of process (1024 * high_place + word)))
      (is_some (region_of grown word)) (is_some (region_of grown (1024 * high_place + word))) (was_none word) (was_none (1024 * high_place + word)) none

  pub no_new_place : (table word : ℕ) → is_table_place grown table word ≡ false → (table == 1 && is_within (heap_end process) count word) ≡ false
  no_new_place table word none = elim (cases_Bool (table == 1)) [
    | inl first ↦ rw first (new_held word (grind (arith, nat_tests, none, first)))
    | inr other ↦ rw other refl
  ]

module _ (r : Records) (words : WordMap) (slot : ℕ) (owners : ℕ → ℕ) (tables : (slot table word : ℕ) → ℕ) (words_then : WordMap) (sound : AreSound r)
    (prepares : OnlyPrepares slot (held_as r words) (held_as (prepared r owners tables) words_then)) where
  abbrev base : Records
  base = prepared r owners tables

  fits_at : (place : ℕ) (other : ProcRec) → IsIn r place other → FitsProc other
  fits_at place other there = fits_there r place other sound.values there.there

  -- the others keep their frames
  module _ (place : ℕ) (other : ProcRec) (there : IsIn r place other) (apart : place ≡ slot → ⊥) where
    roots : HasFrames r place other
    roots = mapped_frames r place other (sound.mapped.mapped place other there)

    has_frame : (page : ℕ) → is_some (region_of other page) ≡ true → is_some (frame_of base place other page) ≡ true
    has_frame page held = elim (page_case r place other page (sound.mapped.mapped place other there)) [
      | HasFrame frame found ↦
          rw (frame_kept (held_as r words) (held_as base words_then) prepares.pages place other there (fits_at place other there) page, found) refl
      | HasNone none ↦ absurd (cc (rw none at held))
    ]

    other_mapped : is_mapped base place other ≡ true
    other_mapped = mapped_where_held base place other there.live
        (linked_kept r base place 1 low_place refl (prepares.tables place 0 low_place apart) roots.low)
        (linked_kept r base place 2 high_place refl (prepares.tables place 0 high_place apart) roots.high)
        has_frame

    other_pages : pages_of base words_then place other ≡ pages_of r words place other
    other_pages = pages_kept (held_as r words) (held_as base words_then) prepares.pages place other there (fits_at place other there)

  pub others_stay : OthersStay r words slot (prepared r owners tables) words_then
  others_stay = record { mapped = other_mapped; pages = other_pages }

  module _ (process : ProcRec) (is : IsIn r slot process) (grown : ProcRec) (count : ℕ) (has : HasGrown process count grown)
      (grows : IsGrown (held_as r words) (held_as (prepared r owners tables) words_then) slot count process) where
    pub grown_mapped : is_mapped (prepared r owners tables) slot grown ≡ true
    grown_mapped = grows.mapped grown has (sound.mapped.mapped slot process is)

    -- all pages have frames and clean tables
    module _ (head : HeadRec) (trap : ℕ) where
      abbrev now : Records
      now = changed_records base head slot process grown r.sigs trap

      pub grown_are_mapped : AreMapped (changed_records (prepared r owners tables) head slot process grown r.sigs trap)
      grown_are_mapped = record {
        mapped = λ place other there.
            mapped_stays base (Some (served head trap process.pid)) (updated r.procs slot (Some grown)) r.sigs r.exits place other
            ∙ elim (where_held r.procs slot place grown other there.there) [
              | inl here ↦ ap (λ (k : ℕ). is_mapped base k other) here.0 ∙ (ap (is_mapped base slot) here.1 ∙ grown_mapped)
              | inr before ↦ other_mapped place other (record { within = there.within; there = before.1; live = there.live }) before.0
            ];
        clean = λ place other there table word few small free. elim (where_held r.procs slot place grown other there.there) [
          | inl here ↦
              let none : is_table_place grown table word ≡ false = sym (ap (λ (p : ProcRec). is_table_place p table word) here.1) ∙ free in
              ap (λ (k : ℕ). tables k table word) here.0
              ∙ (grows.tables table word (no_new_place process grown count has is.live table word none)
              ∙ sound.mapped.clean slot process is table word few small (no_place_before process grown count has is.live table word none))
          | inr before ↦
              prepares.tables place table word before.0
              ∙ sound.mapped.clean place other (record { within = there.within; there = before.1; live = there.live }) table word few small free
        ];
      }
