-- The pages of a process that goes on: they are where the plan places them, and have the bytes that they had.
use Rattle.std.proofs.Common.{◌≡◌, ℕ, zero, suc, ◌+◌, ◌-◌, ◌/◌, ◌%◌, ◌^◌, ◌<◌, ◌≤◌, Bool, true, false, nat_lt, ◌==◌, ◌&&◌, List, Option, Some, None, is_some, option_map, refl, sym, ap, subst, ◌∙◌, inl, inr, arith}
use Rattle.std.proofs.lemmas.Bool.{and_parts, cases_lt, lt-ltb, le-ltb}
use Rattle.std.proofs.lemmas.Bool.Decides.{nat_tests}
use Rattle.ow_base.specs.Entries.{leaf_flags, leaf_word}
use Rattle.ow_base.specs.Sv32.{WordMap, byte_of, word_or_zero}
use Rattle.ow_base.specs.declared.machine.Rights.{Rights}
use Rattle.ow_base.specs.declared.machine.Rights.TheVariants.{Code, Values}
use Rattle.record_layouts.specs.declared.proc.ProcRec.{ProcRec}
use Rattle.record_layouts.specs.Held.{Records}
use Rattle.record_layouts.specs.Left.{HandedOver}
use Rattle.record_layouts.specs.Pages.{byte_on, claim_of, entry_for, frame_by, frame_of, have_frames, heap_pages, high_place, is_linked, is_live, is_mapped, leaf_frame, low_place, owned, pages_of, region_of}
use Rattle.record_layouts.specs.Proc.{FitsProc}
use Rattle.frame_table.proofs.Counting.{in_or_out, low_end, region_none}
use Rattle.frame_table.proofs.Found.{frame_found}
use Rattle.kernel_builder.specs.declared.blueprint.Placed.{Placed}
use Rattle.kernel_builder.specs.Plan.{claim_by, entry_word, page_entry}
use Rattle.resurrector.specs.Rebuilt.{IsRevived}
use Rattle.resurrector.specs.Revived.{placed_by, revived_holder, revived_page, word_by}
use Rattle.resurrector.specs.Survivors.{survivor_in}

-- the frame of a leaf; 0 is none
leaf_read : (frame : ℕ) (rights : Rights) → leaf_frame (leaf_word frame rights) rights ≡ Some frame
leaf_read frame Code =
    let flags : (leaf_word frame Code % 1024 == leaf_flags Code) ≡ true = grind (arith, nat_tests) in
    let number : leaf_word frame Code / 1024 ≡ frame = omega arith in
    rw (flags, number) refl
leaf_read frame Values =
    let flags : (leaf_word frame Values % 1024 == leaf_flags Values) ≡ true = grind (arith, nat_tests) in
    let number : leaf_word frame Values / 1024 ≡ frame = omega arith in
    rw (flags, number) refl

no_leaf : (rights : Rights) → leaf_frame 0 rights ≡ None
no_leaf Code = refl
no_leaf Values = refl

no_rights : (r : Records) (slot page : ℕ) (entry : Option ℕ) → frame_by r slot page entry None ≡ None
no_rights r slot page (Some entry) = refl
no_rights r slot page None = refl

last_two : (a b c d : Bool) → (a && b && c && d) ≡ true → (c ≡ true) × (d ≡ true)
last_two a b c d all = let parts = and_parts (a && b && c) d all in ((and_parts (a && b) c parts.0).1, parts.1)

same_there : {A B : Type 0} (move : A → B) (o : Option A) → is_some (option_map move o) ≡ is_some o
same_there move (Some a) = refl
same_there move None = refl

module _ (r next : Records) (handed : Option HandedOver) (counts : List ℕ) (words next_words : WordMap)
    (is : IsRevived r handed counts words next next_words) (few : (frame : ℕ) → r.map.user_frames ≤ frame → r.owners frame ≡ 0)
    (slot : ℕ) (low : slot < 16) (process : ProcRec) (goes : survivor_in r handed slot ≡ Some process)
    (fits : FitsProc process) (live : is_live process ≡ true) where
  -- the number of a frame in the new pool
  abbrev moved : ℕ → ℕ
  moved frame = next.map.pool_base + (frame - r.map.pool_base)

  there : is_some (survivor_in r handed slot) ≡ true
  there = rw goes refl

  placed : (page : ℕ) → revived_page r handed slot page ≡ placed_by r (frame_of r slot process page) (region_of process page)
  unfolding revived_page
  placed page = rw goes refl

  low_linked : is_linked next slot 1 low_place ≡ true
  unfolding entry_word
  low_linked =
      let entry = is.tables slot 0 0 low (omega arith) (omega arith) there in
      grind (arith, nat_tests, entry)

  high_linked : is_linked next slot 2 high_place ≡ true
  unfolding entry_word
  high_linked =
      let entry = is.tables slot 0 511 low (omega arith) (omega arith) there in
      grind (arith, nat_tests, entry)

  abbrev entry_at : (page : ℕ) → ℕ
  entry_at page = page_entry next.map.pool_base (revived_page r handed slot page)

  low_word : (word : ℕ) → word < 1024 → next.table_words slot 1 word ≡ entry_at word
  unfolding entry_word
  low_word word small = is.tables slot 1 word low (omega arith) small there

  high_word : (word : ℕ) → word < 1024 → next.table_words slot 2 word ≡ entry_at (523264 + word)
  unfolding entry_word
  high_word word small = is.tables slot 2 word low (omega arith) small there

  low_entry : (page : ℕ) → page < 1024 → entry_for next slot page ≡ Some (entry_at page)
  unfolding entry_for
  low_entry page small =
      let table : (page / 1024 == low_place) ≡ true = grind (arith, nat_tests) in
      let word : page % 1024 ≡ page = omega arith in
      rw (table, low_linked, word, low_word page small) refl

  high_entry : (word : ℕ) → word < 1024 → entry_for next slot (523264 + word) ≡ Some (entry_at (523264 + word))
  unfolding entry_for
  high_entry word small =
      let other : ((523264 + word) / 1024 == low_place) ≡ false = grind (arith, nat_tests) in
      let table : ((523264 + word) / 1024 == high_place) ≡ true = grind (arith, nat_tests) in
      let same : (523264 + word) % 1024 ≡ word = omega arith in
      rw (other, table, high_linked, same, high_word word small) refl

  -- a page of the process is in the range of one of the tables
  entry_there : (page : ℕ) (rights : Rights) → region_of process page ≡ Some rights → (page < 2 ^ 19) × (entry_for next slot page ≡ Some (entry_at page))
  entry_there page rights held = elim (in_or_out process page) [
    | inl inside ↦ elim inside [
      | inl front ↦ let end = low_end process fits live in (omega (arith, front.1, end), low_entry page (omega (arith, front.1, end)))
      | inr stack ↦
          let back : 523264 + (page - 523264) ≡ page = omega (arith, stack.0) in
          (omega (arith, stack.1), subst (λ (n : ℕ). entry_for next slot n ≡ Some (entry_at n)) back (high_entry (page - 523264) (omega (arith, stack.0, stack.1))))
    ]
    | inr outside ↦ let none = region_none process page outside.0 outside.1 in absurd (grind (arith, none, held))
  ]

  -- the owner of a frame that a page is in
  module _ (page frame : ℕ) (found : frame_of r slot process page ≡ Some frame) where
    abbrev number : ℕ
    number = frame - r.map.pool_base

    claimed : r.owners number ≡ claim_of slot page
    claimed = (frame_found r slot process page frame found).claimed

    behind_pool : r.map.pool_base ≤ frame
    behind_pool = (frame_found r slot process page frame found).of_users

    in_pool : number < r.map.user_frames
    in_pool = elim (cases_lt number r.map.user_frames) [
      | inl less ↦ less
      | inr past ↦ absurd (omega (arith, few number past, claimed))
    ]

    abbrev rights : Rights
    rights = (frame_found r slot process page frame found).rights

    page_small : page < 2 ^ 19
    page_small = (entry_there page rights (frame_found r slot process page frame found).held).0

    placed_there : revived_page r handed slot page ≡ Some (record { frame = number; rights = rights })
    placed_there = placed page ∙ rw (found, (frame_found r slot process page frame found).held) refl

    held_there : revived_holder r handed number ≡ Some (record { slot = slot; page = page })
    unfolding revived_holder
    held_there =
        let large : nat_lt (claim_of slot page) (2 ^ 20) ≡ false = le-ltb _ _ (omega arith) in
        let own_slot : claim_of slot page / 2 ^ 20 - 1 ≡ slot = omega (arith, page_small) in
        let own_page : claim_of slot page % 2 ^ 20 ≡ page = omega (arith, page_small) in
        let same : (number == number) ≡ true = grind (arith, nat_tests) in
        rw (claimed, large, own_slot, own_page, lt-ltb slot 16 low, lt-ltb page (2 ^ 19) page_small, placed_there, same) refl

    owner_there : owned next slot page (Some (moved frame)) ≡ Some (moved frame)
    owner_there =
        let own : next.owners number ≡ claim_of slot page = is.owners number in_pool ∙ ap claim_by held_there in
        let behind : nat_lt (moved frame) next.map.pool_base ≡ false = le-ltb _ _ (omega arith) in
        let back : moved frame - next.map.pool_base ≡ number = omega arith in
        let same : (claim_of slot page == claim_of slot page) ≡ true = grind (arith, nat_tests) in
        rw (behind, back, own, same) refl

    pub word_there : (word : ℕ) → word < 1024 → next_words (moved frame) word ≡ Some (word_or_zero (words frame word))
    word_there word small =
        let back : r.map.pool_base + number ≡ frame = omega (arith, behind_pool) in
        is.contents number word (record { slot = slot; page = page }) in_pool small held_there
        ∙ ap (λ (o : Option Placed). Some (word_by r words word o)) placed_there
        ∙ ap (λ (f : ℕ). Some (word_or_zero (words f word))) back

  moved_by : (page : ℕ) (rights : Rights) (o : Option ℕ) → frame_of r slot process page ≡ o → region_of process page ≡ Some rights
      → owned next slot page (leaf_frame (page_entry next.map.pool_base (placed_by r o (Some rights))) rights) ≡ option_map moved o
  moved_by page rights (Some frame) found held =
      ap (λ (o : Option ℕ). owned next slot page o) (leaf_read (moved frame) rights) ∙ owner_there page frame found
  moved_by page rights None found held = ap (λ (o : Option ℕ). owned next slot page o) (no_leaf rights)

  pub frame_moved : (page : ℕ) → frame_of next slot process page ≡ option_map moved (frame_of r slot process page)
  unfolding frame_of
  frame_moved page = by_rights (region_of process page) refl
    where
      by_rights : (o : Option Rights) → region_of process page ≡ o → frame_of next slot process page ≡ option_map moved (frame_of r slot process page)
      by_rights (Some rights) held =
          ap (λ (o : Option ℕ). frame_by next slot page o (region_of process page)) ((entry_there page rights held).1)
          ∙ ap (λ (o : Option Rights). frame_by next slot page (Some (entry_at page)) o) held
          ∙ ap (λ (o : Option Placed). owned next slot page (leaf_frame (page_entry next.map.pool_base o) rights)) (placed page)
          ∙ ap (λ (o : Option Rights). owned next slot page (leaf_frame (page_entry next.map.pool_base (placed_by r (frame_of r slot process page) o)) rights)) held
          ∙ moved_by page rights (frame_of r slot process page) refl held
      by_rights None held =
          rw held (no_rights next slot page (entry_for next slot page) ∙ sym (ap (λ (o : Option ℕ). option_map moved o) (no_rights r slot page (entry_for r slot page))))

  frames_moved : (first count : ℕ) → have_frames next slot process first count ≡ have_frames r slot process first count
  unfolding have_frames
  frames_moved first zero = refl
  frames_moved first (suc count) =
      rw (frame_moved first, same_there moved (frame_of r slot process first), frames_moved (first + 1) count) refl

  -- it has a frame for each page where it had one
  pub mapped : is_mapped r slot process ≡ true → is_mapped next slot process ≡ true
  unfolding is_mapped
  mapped was =
      let ends : (have_frames r slot process 16 (process.code_pages + (process.data_pages + heap_pages process)) ≡ true) × (have_frames r slot process 0x7fffc 4 ≡ true) =
      last_two (is_linked r slot 1 low_place) (is_linked r slot 2 high_place) (have_frames r slot process 16 (process.code_pages + (process.data_pages + heap_pages process)))
      (have_frames r slot process 0x7fffc 4) was in
      rw (low_linked, high_linked, frames_moved 16 (process.code_pages + (process.data_pages + heap_pages process)), ends.0, frames_moved 0x7fffc 4, ends.1) refl

  byte_there : (page offset : ℕ) (o : Option ℕ) → frame_of r slot process page ≡ o → offset < 4096
      → byte_on next_words offset (option_map moved o) ≡ byte_on words offset o
  byte_there page offset (Some frame) found small =
      ap (λ (o : Option ℕ). byte_of (word_or_zero o) (offset % 4)) (word_there page frame found (offset / 4) (omega (arith, small)))
  byte_there page offset None found small = refl

  pub pages_same : pages_of next next_words slot process ≡ pages_of r words slot process
  unfolding pages_of
  pages_same = λ k. record {
    rights = region_of process;
    bytes = λ a.
        (ap (λ (o : Option ℕ). byte_on next_words (a % 4096) o) (frame_moved (a / 4096))
        ∙ byte_there (a / 4096) (a % 4096) (frame_of r slot process (a / 4096)) refl (omega arith)) k;
  }
