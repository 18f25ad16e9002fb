-- The frames of the pages of a process that has started.
use Rattle.std.proofs.Common.{◌≡◌, ℕ, zero, suc, ◌+◌, ◌-◌, ◌*◌, ◌/◌, ◌%◌, ◌^◌, ◌<◌, ◌≤◌, true, false, nat_lt, ◌==◌, List, length, slice_index, Option, Some, None, is_some, refl, sym, ap, subst, ◌∙◌, inl, inr, arith}
use Rattle.std.proofs.lemmas.Bool.{cases_Bool, cases_lt}
use Rattle.std.proofs.lemmas.Bool.Decides.{nat_tests}
use Rattle.std.proofs.lemmas.List.{get_or_past}
use Rattle.std.proofs.Math.Nat.{zero-div}
use Rattle.ow_base.specs.Entries.{leaf_flags, leaf_word, pointer_word}
use Rattle.ow_base.specs.Sv32.{WordMap, byte_of}
use Rattle.ow_base.specs.Words.{byte_of_words}
use Rattle.ow_base.specs.World.{page_count}
use Rattle.ow_base.specs.declared.machine.Rights.{Rights}
use Rattle.ow_base.specs.declared.machine.Rights.TheVariants.{Code, Values}
use Rattle.ow_base.specs.declared.worlds.Program.{Program}
use Rattle.record_layouts.specs.Held.{Records}
use Rattle.record_layouts.specs.Pages.{byte_on, claim_of, entry_for, frame_by, frame_of, have_frames, is_linked, is_mapped, leaf_frame, owned, pages_of, region_of}
use Rattle.record_layouts.specs.Sound.{is_table_place}
use Rattle.record_layouts.proofs.Frames.{have_all}
use Rattle.record_layouts.specs.Unix.State.{is_within, started_byte, started_pages, started_rights}
use Rattle.kernel_traps.specs.Boot.{IsLoadable}
use Rattle.kernel_traps.specs.BootRecords.{started_record}
use Rattle.kernel_traps.specs.BootTables.{HasTables, HasWords, low_rights}

-- the frame of a leaf
leaf_read : (frame : ℕ) (rights : Rights) → leaf_frame (leaf_word frame rights) rights ≡ Some frame
leaf_read frame Code =
    let flags : (leaf_word frame Code % 1024 == leaf_flags Code) ≡ true = grind (arith, nat_tests) in
    let number : leaf_word frame Code / 1024 ≡ frame = omega arith in
    rw (flags, number) refl
leaf_read frame Values =
    let flags : (leaf_word frame Values % 1024 == leaf_flags Values) ≡ true = grind (arith, nat_tests) in
    let number : leaf_word frame Values / 1024 ≡ frame = omega arith in
    rw (flags, number) refl

-- behind the last word there is no byte, and 0 has none
byte_past : (words : List ℕ) (j : ℕ) → length words ≤ j / 4 → byte_of_words words j ≡ 0
byte_past words j past = rw (get_or_past words (j / 4) 0 past) (ap (λ (n : ℕ). n % 256) (zero-div (256 ^ (j % 4))))

zero_byte : (k : ℕ) → byte_of 0 k ≡ 0
zero_byte k = ap (λ (n : ℕ). n % 256) (zero-div (256 ^ k))

module _ (slot : ℕ) (program : Program) (loadable : IsLoadable program) where
  -- the pages of the process are those that a program starts with
  region_at : (page : ℕ) → region_of (started_record slot program) page ≡ started_rights (page_count program.code) (page_count program.values) page
  unfolding region_of started_rights
  region_at page = let no_heap : page_count program.values + 0 ≡ page_count program.values = omega arith in rw no_heap refl

  pub region_started : region_of (started_record slot program) ≡ started_rights (page_count program.code) (page_count program.values)
  region_started = λ i page. region_at page i

  few : page_count program.code ≤ 64
  few = omega (arith, loadable.code)

  few_values : page_count program.values ≤ 64
  few_values = omega (arith, loadable.values)

  region_low : (number : ℕ) → number < page_count program.code + page_count program.values
      → started_rights (page_count program.code) (page_count program.values) (16 + number) ≡ Some (low_rights (page_count program.code) number)
  unfolding started_rights
  region_low number low = elim (cases_lt number (page_count program.code)) [
    | inl less ↦
        let code : is_within 16 (page_count program.code) (16 + number) ≡ true = grind (arith, nat_tests) in
        let is : nat_lt number (page_count program.code) ≡ true = grind (arith, nat_tests) in
        rw (code, is) refl
    | inr more ↦
        let code : is_within 16 (page_count program.code) (16 + number) ≡ false = grind (arith, nat_tests) in
        let values : is_within (16 + page_count program.code) (page_count program.values) (16 + number) ≡ true = grind (arith, nat_tests) in
        let is : nat_lt number (page_count program.code) ≡ false = grind (arith, nat_tests) in
        rw (code, values, is) refl
  ]

  region_high : (number : ℕ) → number < 4 → started_rights (page_count program.code) (page_count program.values) (0x7fffc + number) ≡ Some Values
  unfolding started_rights
  region_high number low =
      let small = few in
      let small_values = few_values in
      let code : is_within 16 (page_count program.code) (0x7fffc + number) ≡ false = grind (arith, nat_tests) in
      let values : is_within (16 + page_count program.code) (page_count program.values) (0x7fffc + number) ≡ false = grind (arith, nat_tests) in
      let stack : is_within 0x7fffc 4 (0x7fffc + number) ≡ true = grind (arith, nat_tests) in
      rw (code, values, stack) refl

  region_none : (page : ℕ) → is_within 16 (page_count program.code + page_count program.values) page ≡ false → is_within 0x7fffc 4 page ≡ false
      → started_rights (page_count program.code) (page_count program.values) page ≡ None
  unfolding started_rights
  region_none page out high =
      let code : is_within 16 (page_count program.code) page ≡ false = grind (arith, nat_tests) in
      let values : is_within (16 + page_count program.code) (page_count program.values) page ≡ false = grind (arith, nat_tests) in
      rw (code, values, high) refl

  module _ (r : Records) (frame : ℕ) (base : r.map.area_base ≡ 1) (pool : r.map.pool_base ≡ 129)
      (tables : HasTables r slot frame (page_count program.code) (page_count program.code + page_count program.values)) where
    linked_low : is_linked r slot 1 0 ≡ true
    linked_low =
        let word : r.table_words slot 0 0 ≡ pointer_word (r.map.area_base + (16 + 3 * slot + 1)) = omega (arith, tables.to_low, base) in
        grind (arith, nat_tests, word)

    linked_high : is_linked r slot 2 511 ≡ true
    linked_high =
        let word : r.table_words slot 0 511 ≡ pointer_word (r.map.area_base + (16 + 3 * slot + 2)) = omega (arith, tables.to_high, base) in
        grind (arith, nat_tests, word)

    entry_low : (number : ℕ) → number < 1000 → entry_for r slot (16 + number) ≡ Some (r.table_words slot 1 (16 + number))
    unfolding entry_for
    entry_low number low =
        let first : ((16 + number) / 1024 == 0) ≡ true = grind (arith, nat_tests) in
        let place : (16 + number) % 1024 ≡ 16 + number = omega arith in
        rw (first, linked_low, place) refl

    entry_high : (number : ℕ) → number < 4 → entry_for r slot (0x7fffc + number) ≡ Some (r.table_words slot 2 (1020 + number))
    unfolding entry_for
    entry_high number low =
        let first : ((0x7fffc + number) / 1024 == 0) ≡ false = grind (arith, nat_tests) in
        let last : ((0x7fffc + number) / 1024 == 511) ≡ true = grind (arith, nat_tests) in
        let place : (0x7fffc + number) % 1024 ≡ 1020 + number = omega arith in
        rw (first, last, linked_high, place) refl

    owned_there : (page user : ℕ) → r.owners user ≡ claim_of slot page → owned r slot page (Some (129 + user)) ≡ Some (129 + user)
    owned_there page user claimed =
        let past : nat_lt (129 + user) r.map.pool_base ≡ false = grind (arith, nat_tests, pool) in
        let place : 129 + user - r.map.pool_base ≡ user = omega (arith, pool) in
        let same : (claim_of slot page == claim_of slot page) ≡ true = grind (arith, nat_tests) in
        rw (past, place, claimed, same) refl

    pub frame_low : (number : ℕ) → number < page_count program.code + page_count program.values
        → frame_of r slot (started_record slot program) (16 + number) ≡ Some (129 + (frame + number))
    unfolding frame_of
    frame_low number low =
        let entry = entry_low number (omega (arith, few, few_values)) ∙ ap Some (tables.low number low) in
        let region = region_at (16 + number) ∙ region_low number low in
        rw (entry, region)
        (ap (owned r slot (16 + number)) (leaf_read (129 + (frame + number)) (low_rights (page_count program.code) number))
        ∙ owned_there (16 + number) (frame + number) (tables.low_owner number low))

    pub frame_high : (number : ℕ) → number < 4
        → frame_of r slot (started_record slot program) (0x7fffc + number) ≡ Some (129 + (frame + (page_count program.code + page_count program.values) + number))
    unfolding frame_of
    frame_high number low =
        let entry = entry_high number low ∙ ap Some (tables.high number low) in
        let region = region_at (0x7fffc + number) ∙ region_high number low in
        let user = frame + (page_count program.code + page_count program.values) + number in
        rw (entry, region)
        (ap (owned r slot (0x7fffc + number)) (leaf_read (129 + user) Values) ∙ owned_there (0x7fffc + number) user (tables.high_owner number low))

    no_frame : (page : ℕ) → is_within 16 (page_count program.code + page_count program.values) page ≡ false → is_within 0x7fffc 4 page ≡ false
        → frame_of r slot (started_record slot program) page ≡ None
    unfolding frame_of
    no_frame page out high =
        let region = region_at page ∙ region_none page out high in
        rw region (nothing (entry_for r slot page))
      where
        nothing : (entry : Option ℕ) → frame_by r slot page entry None ≡ None
        nothing (Some entry) = refl
        nothing None = refl

    -- each page has its frame
    pub is_mapped_there : is_mapped r slot (started_record slot program) ≡ true
    unfolding is_mapped
    is_mapped_there =
        let no_heap : page_count program.code + (page_count program.values + 0) ≡ page_count program.code + page_count program.values = omega arith in
        let low : have_frames r slot (started_record slot program) 16 (page_count program.code + page_count program.values) ≡ true =
        have_all r slot (started_record slot program) 16 (page_count program.code + page_count program.values) _ refl (λ page from to.
        subst (λ (page : ℕ). is_some (frame_of r slot (started_record slot program) page) ≡ true) (omega arith) (ap (λ o. is_some o) (frame_low (page - 16) (omega arith)))) in
        let high : have_frames r slot (started_record slot program) 0x7fffc 4 ≡ true =
        have_all r slot (started_record slot program) 0x7fffc 4 0x80000 refl (λ page from to.
        subst (λ (page : ℕ). is_some (frame_of r slot (started_record slot program) page) ≡ true) (omega arith) (ap (λ o. is_some o) (frame_high (page - 0x7fffc) (omega arith)))) in
        rw (linked_low, linked_high, no_heap, low, high) refl

    -- and no other word of the tables is used
    not_low : (word : ℕ) → is_some (region_of (started_record slot program) word) ≡ false
        → is_within 16 (page_count program.code + page_count program.values) word ≡ false
    not_low word none = elim (cases_Bool (is_within 16 (page_count program.code + page_count program.values) word)) [
      | inl within ↦
          let low : 16 ≤ word = grind (arith, nat_tests) in
          let high : word < 16 + (page_count program.code + page_count program.values) = grind (arith, nat_tests) in
          let place : 16 + (word - 16) ≡ word = omega arith in
          let some = subst (λ (page : ℕ). started_rights (page_count program.code) (page_count program.values) page
          ≡ Some (low_rights (page_count program.code) (word - 16))) place (region_low (word - 16) (omega arith)) in
          absurd (cc (none, ap (λ o. is_some o) (region_at word ∙ some)))
      | inr out ↦ out
    ]

    not_high : (word : ℕ) → is_some (region_of (started_record slot program) (1024 * 511 + word)) ≡ false → is_within 1020 4 word ≡ false
    not_high word none = elim (cases_Bool (is_within 1020 4 word)) [
      | inl within ↦
          let low : 1020 ≤ word = grind (arith, nat_tests) in
          let high : word < 1024 = grind (arith, nat_tests) in
          let place : 0x7fffc + (word - 1020) ≡ 1024 * 511 + word = omega arith in
          let some = subst (λ (page : ℕ). started_rights (page_count program.code) (page_count program.values) page ≡ Some Values)
          place (region_high (word - 1020) (omega arith)) in
          absurd (cc (none, ap (λ o. is_some o) (region_at (1024 * 511 + word) ∙ some)))
      | inr out ↦ out
    ]

    pub clean_there : (table word : ℕ) → table < 3 → word < 1024 → is_table_place (started_record slot program) table word ≡ false
        → r.table_words slot table word ≡ 0
    clean_there zero word low small out =
        tables.root_clean word (λ e. absurd (grind (arith, nat_tests, e, out))) (λ e. absurd (grind (arith, nat_tests, e, out)))
    clean_there (suc zero) word low small out =
        let none : is_some (region_of (started_record slot program) word) ≡ false = grind (arith, nat_tests, out) in
        tables.low_clean word (not_low word none)
    clean_there (suc (suc zero)) word low small out =
        let none : is_some (region_of (started_record slot program) (1024 * 511 + word)) ≡ false = grind (arith, nat_tests, out) in
        tables.high_clean word (not_high word none)
    clean_there (suc (suc (suc n))) word low small out = absurd (omega arith)

    -- the bytes of its pages
    module _ (words : WordMap) (has : HasWords words frame program) where
      byte_at : (a : ℕ) → ℕ
      byte_at a = byte_on words (a % 4096) (frame_of r slot (started_record slot program) (a / 4096))

      byte_of_frame : (a page user word : ℕ) → a / 4096 ≡ page → frame_of r slot (started_record slot program) page ≡ Some (129 + user)
          → words (129 + user) (a % 4096 / 4) ≡ Some word → byte_at a ≡ byte_of word (a % 4096 % 4)
      unfolding byte_at
      byte_of_frame a page user word is found there = rw (is, found, there) refl

      byte_of_none : (a : ℕ) → frame_of r slot (started_record slot program) (a / 4096) ≡ None → byte_at a ≡ 0
      unfolding byte_at
      byte_of_none a none = rw none refl

      byte_before : (a : ℕ) → a < 65536 → byte_at a ≡ started_byte program.code program.values a
      unfolding started_byte
      byte_before a low =
          let test : nat_lt a 65536 ≡ true = grind (arith, nat_tests) in
          rw test (byte_of_none a (no_frame (a / 4096) (grind (arith, nat_tests)) (grind (arith, nat_tests))))

      byte_of_code : (a : ℕ) → 65536 ≤ a → a < 65536 + 4096 * page_count program.code → byte_at a ≡ started_byte program.code program.values a
      unfolding started_byte
      byte_of_code a low high =
          let test : nat_lt a 65536 ≡ false = grind (arith, nat_tests) in
          let inside : nat_lt a (65536 + 4096 * page_count program.code) ≡ true = grind (arith, nat_tests) in
          let number = a / 4096 - 16 in
          let page : a / 4096 ≡ 16 + number = omega arith in
          let place : 1024 * number + a % 4096 / 4 ≡ (a - 65536) / 4 = omega arith in
          let rest : a % 4096 % 4 ≡ (a - 65536) % 4 = omega arith in
          rw (test, inside)
          (byte_of_frame a (16 + number) (frame + number) (slice_index program.code (1024 * number + a % 4096 / 4)) page
          (frame_low number (omega arith)) (has.code number (a % 4096 / 4) (omega arith) (omega arith))
          ∙ rw (place, rest) refl)

      byte_of_values : (a : ℕ) → 65536 + 4096 * page_count program.code ≤ a
          → a < 65536 + 4096 * page_count program.code + 4096 * page_count program.values → byte_at a ≡ started_byte program.code program.values a
      unfolding started_byte
      byte_of_values a low high =
          let test : nat_lt a 65536 ≡ false = grind (arith, nat_tests) in
          let inside : nat_lt a (65536 + 4096 * page_count program.code) ≡ false = grind (arith, nat_tests) in
          let number = a / 4096 - 16 - page_count program.code in
          let page : a / 4096 ≡ 16 + (page_count program.code + number) = omega arith in
          let user : frame + page_count program.code + number ≡ frame + (page_count program.code + number) = omega arith in
          let place : 1024 * number + a % 4096 / 4 ≡ (a - (65536 + 4096 * page_count program.code)) / 4 = omega arith in
          let rest : a % 4096 % 4 ≡ (a - (65536 + 4096 * page_count program.code)) % 4 = omega arith in
          let there = subst (λ (f : ℕ). words (129 + f) (a % 4096 / 4) ≡ Some (slice_index program.values (1024 * number + a % 4096 / 4))) user
          (has.values number (a % 4096 / 4) (omega arith) (omega arith)) in
          rw (test, inside)
          (byte_of_frame a (16 + (page_count program.code + number)) (frame + (page_count program.code + number))
          (slice_index program.values (1024 * number + a % 4096 / 4)) page
          (frame_low (page_count program.code + number) (omega arith)) there
          ∙ rw (place, rest) refl)

      zero_behind : (a : ℕ) → 65536 + 4096 * page_count program.code + 4096 * page_count program.values ≤ a → started_byte program.code program.values a ≡ 0
      unfolding started_byte
      zero_behind a low =
          let test : nat_lt a 65536 ≡ false = grind (arith, nat_tests) in
          let inside : nat_lt a (65536 + 4096 * page_count program.code) ≡ false = grind (arith, nat_tests) in
          rw (test, inside) (byte_past program.values (a - (65536 + 4096 * page_count program.code)) (omega arith))

      byte_of_stack : (a : ℕ) → is_within 0x7fffc 4 (a / 4096) ≡ true → byte_at a ≡ 0
      byte_of_stack a within =
          let low : 0x7fffc ≤ a / 4096 = grind (arith, nat_tests) in
          let high : a / 4096 < 0x80000 = grind (arith, nat_tests) in
          let number = a / 4096 - 0x7fffc in
          byte_of_frame a (0x7fffc + number) (frame + (page_count program.code + page_count program.values) + number) 0 (omega arith)
          (frame_high number (omega arith)) (has.stack number (a % 4096 / 4) (omega arith) (omega arith))
          ∙ zero_byte (a % 4096 % 4)

      byte_behind : (a : ℕ) → 65536 + 4096 * page_count program.code + 4096 * page_count program.values ≤ a
          → byte_at a ≡ started_byte program.code program.values a
      byte_behind a low = elim (cases_Bool (is_within 0x7fffc 4 (a / 4096))) [
        | inl within ↦ byte_of_stack a within ∙ sym (zero_behind a low)
        | inr out ↦ byte_of_none a (no_frame (a / 4096) (grind (arith, nat_tests)) out) ∙ sym (zero_behind a low)
      ]

      byte_same : (a : ℕ) → byte_at a ≡ started_byte program.code program.values a
      byte_same a = elim (cases_lt a 65536) [
        | inl less ↦ byte_before a less
        | inr more ↦ elim (cases_lt a (65536 + 4096 * page_count program.code)) [
          | inl code ↦ byte_of_code a more code
          | inr past ↦ elim (cases_lt a (65536 + 4096 * page_count program.code + 4096 * page_count program.values)) [
            | inl values ↦ byte_of_values a past values
            | inr behind ↦ byte_behind a behind
          ]
        ]
      ]

      pub pages_there : pages_of r words slot (started_record slot program) ≡ started_pages program
      unfolding pages_of started_pages byte_at
      pages_there = λ i. record { rights = region_started i; bytes = λ a. byte_same a i }
