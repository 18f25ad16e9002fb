-- The tables, the owners and the words of programs where a load is built.
use Rattle.std.proofs.Common.{◌≡◌, ◌≢◌, ℕ, ◌+◌, ◌-◌, ◌*◌, ◌<◌, ◌≤◌, true, false, nat_lt, ◌&&◌, List, length, slice_index, Some, None, refl, sym, ap, ◌∙◌, inl, inr, arith}
use Rattle.std.proofs.lemmas.Bool.{cases_Bool, cases_lt, le-ltb, lt-ltb}
use Rattle.std.proofs.lemmas.Bool.Decides.{nat_tests}
use Rattle.ow_base.specs.Entries.{leaf_word, pointer_word}
use Rattle.ow_base.specs.Sv32.{WordMap}
use Rattle.ow_base.specs.World.{page_count, started_page_count}
use Rattle.ow_base.specs.declared.machine.Rights.TheVariants.{Values}
use Rattle.ow_base.specs.declared.worlds.Load.{Load}
use Rattle.ow_base.specs.declared.worlds.Program.{Program}
use Rattle.record_layouts.specs.Held.{Records}
use Rattle.record_layouts.specs.Overlay.{Area}
use Rattle.record_layouts.specs.Pages.{claim_of}
use Rattle.record_layouts.specs.Reading.{records_in}
use Rattle.record_layouts.specs.Unix.State.{is_within}
use Rattle.kernel_traps.specs.Boot.{IsBootable, IsLoadable, pages_before, program_in}
use Rattle.kernel_traps.specs.BootLayout.{boot_map, booted_plan, holder_of, low_pages, number_in, page_in, placed_by, placed_in, word_at, word_by, word_in}
use Rattle.kernel_builder.specs.Plan.{claim_by, entry_word, owner_word, page_entry}
use Rattle.kernel_builder.specs.Sets.{IsBuilt, IsFilled}
use Rattle.kernel_traps.specs.BootTables.{HasTables, HasWords, low_rights}
use Rattle.kernel_traps.proofs.BootLayout.{holder_found, holder_missed, pages_fit, pages_more, start_loadable}

-- a program has few pages
page_few : (words : List ℕ) → length words ≤ 65536 → page_count words ≤ 64
page_few words few = omega (arith, few)

-- the numbers of the pages of a program
module _ (program : Program) (loadable : IsLoadable program) where
  low_few : low_pages program ≤ 128
  low_few = omega (arith, page_few program.code loadable.code, page_few program.values loadable.values)

  number_low : (number : ℕ) → number < low_pages program → number_in program (16 + number) ≡ Some number
  unfolding number_in
  number_low number less =
      let here : is_within 16 (low_pages program) (16 + number) ≡ true = grind (arith, nat_tests) in
      let back : 16 + number - 16 ≡ number = omega arith in
      rw (here, back) refl

  number_high : (number : ℕ) → number < 4 → number_in program (0x7fffc + number) ≡ Some (low_pages program + number)
  unfolding number_in
  number_high number less =
      let out : is_within 16 (low_pages program) (0x7fffc + number) ≡ false = grind (arith, nat_tests, low_few) in
      let here : is_within 0x7fffc 4 (0x7fffc + number) ≡ true = grind (arith, nat_tests) in
      let back : 0x7fffc + number - 0x7fffc ≡ number = omega arith in
      rw (out, here, back) refl

  number_none : (page : ℕ) → is_within 16 (low_pages program) page ≡ false → is_within 0x7fffc 4 page ≡ false → number_in program page ≡ None
  unfolding number_in
  number_none page low high = rw (low, high) refl

  page_low : (number : ℕ) → number < low_pages program → page_in program number ≡ 16 + number
  unfolding page_in
  page_low number less = rw (lt-ltb number (low_pages program) less) refl

  page_high : (number : ℕ) → page_in program (low_pages program + number) ≡ 0x7fffc + number
  unfolding page_in
  page_high number =
      let past : nat_lt (low_pages program + number) (low_pages program) ≡ false = grind (arith, nat_tests) in
      let back : low_pages program + number - low_pages program ≡ number = omega arith in
      rw (past, back) refl

  -- the page of a number has this number
  number_back : (number : ℕ) → number < started_page_count program → number_in program (page_in program number) ≡ Some number
  number_back number less = elim (cases_lt number (low_pages program)) [
    | inl low ↦ rw (page_low number low) (number_low number low)
    | inr past ↦
        let back : low_pages program + (number - low_pages program) ≡ number = omega arith in
        ap (λ (n : ℕ). number_in program (page_in program n)) (sym back)
        ∙ ap (λ (n : ℕ). number_in program n) (page_high (number - low_pages program))
        ∙ number_high (number - low_pages program) (omega (arith, less, past)) ∙ ap Some back
  ]

module _ (load : Load) (is : IsBootable load) (old new : Area) (blank : (number : ℕ) → old number ≡ 0)
    (filled : IsFilled (boot_map load) (booted_plan load) old new) where
  r : Records
  r = records_in (boot_map load) true new

  -- words of tables and owners, as the plan says
  table_is : (slot table word : ℕ) → slot < length load.starts → table < 3 → word < 1024
      → (records_in (boot_map load) true new).table_words slot table word ≡ entry_word (boot_map load) (booted_plan load) slot table word
  unfolding records_in
  table_is slot table word low kind small =
      let s : slot < 16 = omega (arith, low, is.most_starts) in
      rw (lt-ltb slot 16 s, lt-ltb table 3 kind, lt-ltb word 1024 small)
      (filled.tables slot table word s kind small ∙ rw (lt-ltb slot (length load.starts) low) refl)

  pub table_none : (slot table word : ℕ) → length load.starts ≤ slot → (records_in (boot_map load) true new).table_words slot table word ≡ 0
  unfolding records_in
  table_none slot table word past = elim (cases_Bool (nat_lt slot 16 && nat_lt table 3 && nat_lt word 1024)) [
    | inl there ↦
        let s : slot < 16 = grind (arith, nat_tests) in
        let kind : table < 3 = grind (arith, nat_tests) in
        let small : word < 1024 = grind (arith, nat_tests) in
        rw there (filled.tables slot table word s kind small
        ∙ rw (le-ltb slot (length load.starts) past) (blank (1024 * (16 + 3 * slot + table) + word)))
    | inr out ↦ rw out refl
  ]

  word_past : (slot table word : ℕ) → 1024 ≤ word → (records_in (boot_map load) true new).table_words slot table word ≡ 0
  unfolding records_in
  word_past slot table word past =
      let out : (nat_lt slot 16 && nat_lt table 3 && nat_lt word 1024) ≡ false = grind (arith, nat_tests) in rw out refl

  owner_is : (frame : ℕ) → frame < load.shape.user_frames
      → (records_in (boot_map load) true new).owners frame ≡ claim_by (holder_of load frame)
  unfolding records_in owner_word
  owner_is frame less =
      rw (lt-ltb frame load.shape.user_frames less)
      (filled.owners frame (omega (arith, less, is.most_frames)) ∙ rw (lt-ltb frame load.shape.user_frames less) refl)

  pub owner_none : (frame : ℕ) → pages_before load (length load.starts) ≤ frame → (records_in (boot_map load) true new).owners frame ≡ 0
  unfolding records_in
  owner_none frame past = elim (cases_lt frame load.shape.user_frames) [
    | inl less ↦ owner_is frame less ∙ ap claim_by (holder_missed load frame past)
    | inr behind ↦ rw (le-ltb frame load.shape.user_frames behind) refl
  ]

  pub cache_owner_none : (entry : ℕ) → (records_in (boot_map load) true new).cache_owners entry ≡ 0
  unfolding records_in owner_word
  cache_owner_none entry = elim (cases_lt entry 64) [
    | inl less ↦
        let past : nat_lt (960 + entry) load.shape.user_frames ≡ false = grind (arith, nat_tests, is.most_frames) in
        let place : 10 * 1024 + 960 + entry ≡ 10240 + (960 + entry) = omega arith in
        rw (lt-ltb entry 64 less) (ap (λ (n : ℕ). new n) place ∙ filled.owners (960 + entry) (omega arith) ∙ rw past refl)
    | inr behind ↦ rw (le-ltb entry 64 behind) refl
  ]

  module _ (slot : ℕ) (program : Program) (low : slot < length load.starts) (found : program_in load slot ≡ Some program) where
    loadable : IsLoadable program
    loadable = start_loadable load slot program is low found

    -- a page has its frame, and the frame its page
    frame_there : (number : ℕ) → number < started_page_count program → pages_before load slot + number < load.shape.user_frames
    frame_there number less =
        omega (arith, less, pages_more load slot program low found, pages_fit load (slot + 1) is)

    held : (number : ℕ) → number < started_page_count program
        → holder_of load (pages_before load slot + number) ≡ Some (record { slot = slot; page = page_in program number })
    held number less =
        holder_found load slot (pages_before load slot + number) number program low found less refl

    owner_there : (number page : ℕ) → number < started_page_count program → page_in program number ≡ page
        → r.owners (pages_before load slot + number) ≡ claim_of slot page
    unfolding r
    owner_there number page less there =
        owner_is (pages_before load slot + number) (frame_there number less) ∙ ap claim_by (held number less) ∙ ap (λ (p : ℕ). claim_of slot p) there

    root_is : (word : ℕ) → word < 1024 → r.table_words slot 0 word ≡ entry_word (boot_map load) (booted_plan load) slot 0 word
    unfolding r
    root_is word small = table_is slot 0 word low (omega arith) small

    low_is : (word : ℕ) → word < 1024 → r.table_words slot 1 word ≡ page_entry 129 (placed_in program (pages_before load slot) (number_in program word))
    unfolding r entry_word
    low_is word small =
        table_is slot 1 word low (omega arith) small ∙ ap (λ o. page_entry 129 (placed_by o (pages_before load slot) word)) found

    high_is : (word : ℕ) → word < 1024
        → r.table_words slot 2 word ≡ page_entry 129 (placed_in program (pages_before load slot) (number_in program (0x7fc00 + word)))
    unfolding r entry_word
    high_is word small =
        table_is slot 2 word low (omega arith) small ∙ ap (λ o. page_entry 129 (placed_by o (pages_before load slot) (0x7fc00 + word))) found

    to_low : r.table_words slot 0 0 ≡ pointer_word (17 + 3 * slot + 1)
    unfolding entry_word
    to_low = root_is 0 (omega arith) ∙ ap pointer_word (omega arith)

    to_high : r.table_words slot 0 511 ≡ pointer_word (17 + 3 * slot + 2)
    unfolding entry_word
    to_high = root_is 511 (omega arith) ∙ ap pointer_word (omega arith)

    low_leaf : (number : ℕ) → number < low_pages program
        → r.table_words slot 1 (16 + number) ≡ leaf_word (129 + (pages_before load slot + number)) (low_rights (page_count program.code) number)
    low_leaf number less =
        low_is (16 + number) (omega (arith, less, low_few program loadable))
        ∙ ap (λ o. page_entry 129 (placed_in program (pages_before load slot) o)) (number_low program loadable number less)

    high_leaf : (number : ℕ) → number < 4
        → r.table_words slot 2 (1020 + number) ≡ leaf_word (129 + (pages_before load slot + low_pages program + number)) Values
    high_leaf number less =
        let page : 0x7fc00 + (1020 + number) ≡ 0x7fffc + number = omega arith in
        let frame : 129 + (pages_before load slot + (low_pages program + number)) ≡ 129 + (pages_before load slot + low_pages program + number) = omega arith in
        let past : nat_lt (low_pages program + number) (page_count program.code) ≡ false = grind (arith, nat_tests) in
        high_is (1020 + number) (omega arith)
        ∙ ap (λ (n : ℕ). page_entry 129 (placed_in program (pages_before load slot) (number_in program n))) page
        ∙ ap (λ o. page_entry 129 (placed_in program (pages_before load slot) o)) (number_high program loadable number less)
        ∙ rw past (ap (λ (n : ℕ). leaf_word n Values) frame)

    root_clean : (word : ℕ) → word ≢ 0 → word ≢ 511 → r.table_words slot 0 word ≡ 0
    unfolding r entry_word
    root_clean word not_low not_high = elim (cases_lt word 1024) [
      | inl small ↦ root_is word small ∙ grind (arith, nat_tests, not_low, not_high)
      | inr past ↦ word_past slot 0 word past
    ]

    low_clean : (word : ℕ) → is_within 16 (low_pages program) word ≡ false → r.table_words slot 1 word ≡ 0
    unfolding r
    low_clean word out = elim (cases_lt word 1024) [
      | inl small ↦
          let no_stack : is_within 0x7fffc 4 word ≡ false = grind (arith, nat_tests, small) in
          low_is word small ∙ ap (λ o. page_entry 129 (placed_in program (pages_before load slot) o)) (number_none program loadable word out no_stack)
      | inr past ↦ word_past slot 1 word past
    ]

    high_clean : (word : ℕ) → is_within 1020 4 word ≡ false → r.table_words slot 2 word ≡ 0
    unfolding r
    high_clean word out = elim (cases_lt word 1024) [
      | inl small ↦
          let no_stack : is_within 0x7fffc 4 (0x7fc00 + word) ≡ false = grind (arith, nat_tests, small, out) in
          let no_low : is_within 16 (low_pages program) (0x7fc00 + word) ≡ false = grind (arith, nat_tests, low_few program loadable) in
          high_is word small
          ∙ ap (λ o. page_entry 129 (placed_in program (pages_before load slot) o)) (number_none program loadable (0x7fc00 + word) no_low no_stack)
      | inr past ↦ word_past slot 2 word past
    ]

    pub tables_there : HasTables (records_in (boot_map load) true new) slot (pages_before load slot) (page_count program.code) (low_pages program)
    unfolding r
    tables_there = record {
      to_low = to_low;
      to_high = to_high;
      low = low_leaf;
      high = high_leaf;
      low_owner = λ number less. owner_there number (16 + number) (omega (arith, less)) (page_low program loadable number less);
      high_owner = λ number less.
          let place : pages_before load slot + (low_pages program + number) ≡ pages_before load slot + low_pages program + number = omega arith in
          ap (λ (i : ℕ). r.owners i) (sym place)
          ∙ owner_there (low_pages program + number) (0x7fffc + number) (omega (arith, less)) (page_high program loadable number);
      root_clean = root_clean;
      low_clean = low_clean;
      high_clean = high_clean;
    }

-- the words of a program are those of its pages
module _ (load : Load) (is : IsBootable load) (old new : WordMap) (built : IsBuilt (boot_map load) (booted_plan load) old new)
    (slot : ℕ) (program : Program) (low : slot < length load.starts) (found : program_in load slot ≡ Some program) where
  word_there : (number word : ℕ) → number < started_page_count program → word < 1024
      → new (129 + (pages_before load slot + number)) word ≡ Some (word_in program number word)
  word_there number word less small =
      let loadable = start_loadable load slot program is low found in
      let room : pages_before load slot + number < load.shape.user_frames =
      omega (arith, less, pages_more load slot program low found, pages_fit load (slot + 1) is) in
      let held = holder_found load slot (pages_before load slot + number) number program low found less refl in
      built.pages (pages_before load slot + number) word (record { slot = slot; page = page_in program number }) room small held
      ∙ ap (λ o. Some (word_by o (page_in program number) word)) found
      ∙ ap (λ o. Some (word_at program o word)) (number_back program loadable number less)

  code_word : (number word : ℕ) → number < page_count program.code → word_in program number word ≡ slice_index program.code (1024 * number + word)
  unfolding word_in
  code_word number word less = rw (lt-ltb number (page_count program.code) less) refl

  value_word : (number word : ℕ) → number < page_count program.values
      → word_in program (page_count program.code + number) word ≡ slice_index program.values (1024 * number + word)
  unfolding word_in
  value_word number word less =
      let past : nat_lt (page_count program.code + number) (page_count program.code) ≡ false = grind (arith, nat_tests) in
      let here : nat_lt (page_count program.code + number) (low_pages program) ≡ true = grind (arith, nat_tests, less) in
      let back : page_count program.code + number - page_count program.code ≡ number = omega arith in
      rw (past, here, back) refl

  stack_word : (number word : ℕ) → word_in program (low_pages program + number) word ≡ 0
  unfolding word_in
  stack_word number word =
      let past : nat_lt (low_pages program + number) (page_count program.code) ≡ false = grind (arith, nat_tests) in
      let out : nat_lt (low_pages program + number) (low_pages program) ≡ false = grind (arith, nat_tests) in
      rw (past, out) refl

  pub words_there : HasWords new (pages_before load slot) program
  words_there = record {
    code = λ number word less small. word_there number word (omega (arith, less)) small ∙ ap Some (code_word number word less);
    values = λ number word less small.
        let place : 129 + (pages_before load slot + page_count program.code + number)
        ≡ 129 + (pages_before load slot + (page_count program.code + number)) = omega arith in
        ap (λ (f : ℕ). new f word) place ∙ word_there (page_count program.code + number) word (omega (arith, less)) small
        ∙ ap Some (value_word number word less);
    stack = λ number word less small.
        let place : 129 + (pages_before load slot + low_pages program + number) ≡ 129 + (pages_before load slot + (low_pages program + number)) = omega arith in
        ap (λ (f : ℕ). new f word) place ∙ word_there (low_pages program + number) word (omega (arith, less)) small
        ∙ ap Some (stack_word number word);
  }
