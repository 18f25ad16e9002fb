-- Words that are set for pages that do not count leave the frames of all other pages as they are.
use Rattle.std.proofs.Common.{◌≡◌, ℕ, ◌+◌, ◌-◌, ◌*◌, ◌/◌, ◌%◌, ◌^◌, ◌<◌, ◌≤◌, ◌⊎◌, Bool, true, false, nat_lt, ◌==◌, ◌&&◌, if◌then◌else◌, Option, Some, None, refl, sym, ap, ◌∙◌, inl, inr, arith}
use Rattle.std.proofs.lemmas.Bool.{cases_Bool, cases_eq}
use Rattle.std.proofs.lemmas.Bool.Decides.{nat_tests}
use Rattle.ow_base.specs.Entries.{leaf_word}
use Rattle.ow_base.specs.declared.machine.Rights.{Rights}
use Rattle.ow_base.specs.declared.machine.Rights.TheVariants.{Code, Values}
use Rattle.record_layouts.specs.declared.proc.ProcRec.{ProcRec}
use Rattle.record_layouts.specs.Held.{Records, with_owner_words, with_table_words}
use Rattle.record_layouts.specs.Pages.{claim_of, entry_for, frame_if, frame_of, is_live, leaf_frame, owned, page_frame_of, region_of, table_frame}
use Rattle.record_layouts.specs.Sound.{is_table_place}
use Rattle.frame_table.specs.Free.{ClaimsNone, KeepsFrames, is_free_frame, is_page_of, is_table_word_of}
use Rattle.frame_table.proofs.Counting.{held_lives}
use Rattle.frame_table.proofs.Found.{IsFrameOf, frame_found}
use Rattle.frame_table.proofs.Free.{free_holds_none, this_one}
use Rattle.frame_table.proofs.Tables.{all_four}

-- the frame of a page of a slot, and the process there
pub record PageFound (r : Records) (slot page frame : ℕ) : Type 0 where
  pub process : ProcRec
  pub there : r.procs slot ≡ Some process
  pub is : IsFrameOf r slot process page frame

found_if : (r : Records) (slot page frame : ℕ) (process : Option ProcRec) → r.procs slot ≡ process → frame_if r slot page process ≡ Some frame → PageFound r slot page frame
found_if r slot page frame (Some process) there e = record { process = process; there = there; is = frame_found r slot process page frame e }
found_if r slot page frame None there e = absurd (cc e)

pub page_found : (r : Records) (slot page frame : ℕ) → page_frame_of r slot page ≡ Some frame → PageFound r slot page frame
unfolding page_frame_of
page_found r slot page frame e = found_if r slot page frame (r.procs slot) refl e

leaf_back : (frame : ℕ) (rights : Rights) → leaf_frame (leaf_word frame rights) rights ≡ Some frame
leaf_back frame Code = grind (arith, nat_tests)
leaf_back frame Values = grind (arith, nat_tests)

owned_there : (r : Records) (slot page frame : ℕ) → r.map.pool_base ≤ frame → r.owners (frame - r.map.pool_base) ≡ claim_of slot page → owned r slot page (Some frame) ≡ Some frame
owned_there r slot page frame up claim = grind (arith, nat_tests, up, claim)

-- and back: such a frame is that of the page
pub frame_there : (r : Records) (slot : ℕ) (process : ProcRec) (page frame : ℕ) → IsFrameOf r slot process page frame → frame_of r slot process page ≡ Some frame
unfolding frame_of
frame_there r slot process page frame f =
    rw (f.entry, f.held) (ap (owned r slot page) (leaf_back frame f.rights) ∙ owned_there r slot page frame f.of_users f.claimed)

page_there : (r : Records) (slot page frame : ℕ) → PageFound r slot page frame → page_frame_of r slot page ≡ Some frame
unfolding page_frame_of
page_there r slot page frame f = rw f.there (frame_there r slot f.process page frame f.is)

same_options : (a b : Option ℕ) → ((n : ℕ) → a ≡ Some n → b ≡ Some n) → ((n : ℕ) → b ≡ Some n → a ≡ Some n) → a ≡ b
same_options (Some n) b there back = sym (there n refl)
same_options None (Some n) there back = back n refl
same_options None None there back = refl

-- the same pages are found both ways
same_frame : (r new : Records) (slot page : ℕ) → ((frame : ℕ) → PageFound r slot page frame → PageFound new slot page frame)
    → ((frame : ℕ) → PageFound new slot page frame → PageFound r slot page frame) → page_frame_of new slot page ≡ page_frame_of r slot page
same_frame r new slot page there back = same_options _ _
    (λ frame e. page_there r slot page frame (back frame (page_found new slot page frame e)))
    (λ frame e. page_there new slot page frame (there frame (page_found r slot page frame e)))

counted : (page : ℕ) (process : ProcRec) (rights : Rights) (held : Option ProcRec) → held ≡ Some process → region_of process page ≡ Some rights → is_page_of page held ≡ true
counted page process rights held there region = rw (there, region) refl

unset : (b : Bool) (x y : ℕ) → b ≡ false → (if b then x else y) ≡ y
unset true x y e = absurd (cc e)
unset false x y e = refl

set_to : (b : Bool) (x y : ℕ) → b ≡ true → (if b then x else y) ≡ x
set_to true x y e = refl
set_to false x y e = absurd (cc e)

pub and_false : (a b : Bool) → b ≡ false → (a && b) ≡ false
and_false true b e = e
and_false false b e = refl

equal_by : (m n : ℕ) → (m == n) ≡ true → m ≡ n
equal_by m n e = grind (arith, nat_tests, e)

-- the entry of a page is by two words of the root and by one more
entry_same : (r new : Records) (slot page : ℕ) → new.map.area_base ≡ r.map.area_base
    → new.table_words slot 0 0 ≡ r.table_words slot 0 0 → new.table_words slot 0 511 ≡ r.table_words slot 0 511
    → (page / 1024 ≡ 0 → new.table_words slot 1 (page % 1024) ≡ r.table_words slot 1 (page % 1024))
    → (page / 1024 ≡ 511 → new.table_words slot 2 (page % 1024) ≡ r.table_words slot 2 (page % 1024))
    → entry_for new slot page ≡ entry_for r slot page
unfolding entry_for
entry_same r new slot page area low high low_word high_word = elim (cases_eq (page / 1024) 0) [
  | inl first ↦ rw (area, low, high, low_word first, first) refl
  | inr other ↦ elim (cases_eq (page / 1024) 511) [
    | inl last ↦ rw (area, low, high, high_word last, last) refl
    | inr neither ↦ grind (arith, nat_tests, other, neither)
  ]
]

-- words that name owners, of free frames, that claim no page that counts
module _ (r : Records) (hit : ℕ → Bool) (value : ℕ → ℕ)
    (free : (i : ℕ) → hit i ≡ true → is_free_frame r i ≡ true) (claims : (i : ℕ) → hit i ≡ true → ClaimsNone r (value i)) where
  abbrev by_owners : Records
  by_owners = with_owner_words r hit value

  owner_kept : (i : ℕ) → hit i ≡ false → by_owners.owners i ≡ r.owners i
  owner_kept i missed = unset (nat_lt i r.map.user_frames && hit i) (value i) (r.owners i) (and_false _ _ missed)

  owner_set : (i : ℕ) → (by_owners.owners i ≡ r.owners i) ⊎ (by_owners.owners i ≡ value i)
  owner_set i = elim (cases_Bool (nat_lt i r.map.user_frames && hit i)) [
    | inl is ↦ inr (set_to (nat_lt i r.map.user_frames && hit i) (value i) (r.owners i) is)
    | inr misses ↦ inl (unset (nat_lt i r.map.user_frames && hit i) (value i) (r.owners i) misses)
  ]

  same_entry : (slot page : ℕ) → entry_for by_owners slot page ≡ entry_for r slot page
  unfolding entry_for
  same_entry slot page = refl

  place_of : (frame : ℕ) → r.map.pool_base ≤ frame → r.map.pool_base + (frame - r.map.pool_base) ≡ frame
  place_of frame up = omega arith

  owners_there : (slot page frame : ℕ) → slot < 16 → page < 2 ^ 20 → PageFound r slot page frame → PageFound by_owners slot page frame
  owners_there slot page frame within fits f =
      let i = frame - r.map.pool_base in
      record {
        process = f.process;
        there = f.there;
        is = record {
          rights = f.is.rights;
          held = f.is.held;
          entry = same_entry slot page ∙ f.is.entry;
          of_users = f.is.of_users;
          claimed = elim (cases_Bool (hit i)) [
            | inl set ↦
                let none = (free_holds_none r i (free i set)).none slot page within fits in
                let found = page_there r slot page frame f in
                let is_here = this_one (r.map.pool_base + i) (page_frame_of r slot page) (found ∙ ap Some (sym (place_of frame f.is.of_users))) in
                absurd (cc (none, is_here))
            | inr missed ↦ owner_kept i missed ∙ f.is.claimed
          ];
        };
      }

  owners_back : (slot page frame : ℕ) → slot < 16 → page < 2 ^ 20 → PageFound by_owners slot page frame → PageFound r slot page frame
  owners_back slot page frame within fits f =
      let i = frame - r.map.pool_base in
      record {
        process = f.process;
        there = f.there;
        is = record {
          rights = f.is.rights;
          held = f.is.held;
          entry = sym (same_entry slot page) ∙ f.is.entry;
          of_users = f.is.of_users;
          claimed = elim (cases_Bool (hit i)) [
            | inl set ↦ elim (owner_set i) [
              | inl kept ↦ sym kept ∙ f.is.claimed
              | inr is ↦
                  let none = claims i set slot page within fits (sym is ∙ f.is.claimed) in
                  let counts = counted page f.process f.is.rights (r.procs slot) f.there f.is.held in
                  absurd (cc (none, counts))
            ]
            | inr missed ↦ sym (owner_kept i missed) ∙ f.is.claimed
          ];
        };
      }

  pub owners_keep : KeepsFrames r by_owners
  owners_keep = record {
    map = refl;
    procs = λ slot. refl;
    frames = λ slot page within fits. same_frame r by_owners slot page
        (λ frame. owners_there slot page frame within fits) (λ frame. owners_back slot page frame within fits);
  }

-- words of tables that do not count
module _ (r : Records) (frame : ℕ) (hit : ℕ → Bool) (value : ℕ → ℕ)
    (unused : (slot table word : ℕ) → slot < 16 → table < 3 → word < 1024 → table_frame slot table ≡ frame → hit word ≡ true
    → is_table_word_of table word (r.procs slot) ≡ false) where
  abbrev by_tables : Records
  by_tables = with_table_words r frame hit value

  word_kept : (slot table word : ℕ) → slot < 16 → table < 3 → word < 1024 → is_table_word_of table word (r.procs slot) ≡ true
      → by_tables.table_words slot table word ≡ r.table_words slot table word
  word_kept slot table word within third small counts =
      let test = nat_lt table 3 && nat_lt word 1024 && 16 + 3 * slot + table == frame && hit word in
      elim (cases_Bool test) [
        | inl is ↦
            let parts = all_four (nat_lt table 3) (nat_lt word 1024) (16 + 3 * slot + table == frame) (hit word) is in
            let none = unused slot table word within third small (equal_by _ _ parts.2) parts.3 in
            absurd (cc (none, counts))
        | inr misses ↦ unset test (value word) (r.table_words slot table word) misses
      ]

  module _ (slot page : ℕ) (process : ProcRec) (rights : Rights) (within : slot < 16) (there : r.procs slot ≡ Some process)
      (held : region_of process page ≡ Some rights) where
    lives : is_live process ≡ true
    lives = held_lives process page rights held

    root_counts : (place : ℕ) → is_table_place process 0 place ≡ true → is_table_word_of 0 place (r.procs slot) ≡ true
    root_counts place is = rw (there, lives, is) refl

    low_root : by_tables.table_words slot 0 0 ≡ r.table_words slot 0 0
    low_root = word_kept slot 0 0 within (omega arith) (omega arith) (root_counts 0 (grind arith))

    high_root : by_tables.table_words slot 0 511 ≡ r.table_words slot 0 511
    high_root = word_kept slot 0 511 within (omega arith) (omega arith) (root_counts 511 (grind arith))

    low_word : page / 1024 ≡ 0 → by_tables.table_words slot 1 (page % 1024) ≡ r.table_words slot 1 (page % 1024)
    low_word first =
        let place : page % 1024 ≡ page = omega arith in
        word_kept slot 1 (page % 1024) within (omega arith) (omega arith) (rw (there, lives, place, held) refl)

    high_word : page / 1024 ≡ 511 → by_tables.table_words slot 2 (page % 1024) ≡ r.table_words slot 2 (page % 1024)
    high_word last =
        let place : 1024 * 511 + page % 1024 ≡ page = omega arith in
        word_kept slot 2 (page % 1024) within (omega arith) (omega arith) (rw (there, lives, place, held) refl)

    entry_kept : entry_for by_tables slot page ≡ entry_for r slot page
    entry_kept = entry_same r by_tables slot page refl low_root high_root low_word high_word

  tables_there : (slot page its : ℕ) → slot < 16 → PageFound r slot page its → PageFound by_tables slot page its
  tables_there slot page its within f = record {
    process = f.process;
    there = f.there;
    is = record {
      rights = f.is.rights;
      held = f.is.held;
      entry = entry_kept slot page f.process f.is.rights within f.there f.is.held ∙ f.is.entry;
      of_users = f.is.of_users;
      claimed = f.is.claimed;
    };
  }

  tables_back : (slot page its : ℕ) → slot < 16 → PageFound by_tables slot page its → PageFound r slot page its
  tables_back slot page its within f = record {
    process = f.process;
    there = f.there;
    is = record {
      rights = f.is.rights;
      held = f.is.held;
      entry = sym (entry_kept slot page f.process f.is.rights within f.there f.is.held) ∙ f.is.entry;
      of_users = f.is.of_users;
      claimed = f.is.claimed;
    };
  }

  pub tables_keep : KeepsFrames r by_tables
  tables_keep = record {
    map = refl;
    procs = λ slot. refl;
    frames = λ slot page within fits. same_frame r by_tables slot page
        (λ its. tables_there slot page its within) (λ its. tables_back slot page its within);
  }
