-- Tables and owners that are set word by word.
use Rattle.std.proofs.Common.{◌≡◌, ℕ, ◌+◌, ◌-◌, ◌*◌, ◌%◌, ◌<◌, true, false, ◌&&◌, refl, ◌∙◌, ap, arith, inl, inr}
use Rattle.std.proofs.lemmas.Bool.Decides.{nat_tests}
use Rattle.std.proofs.lemmas.Bool.{cases_Bool}
use Rattle.record_layouts.specs.declared.memory_map.MemoryMap.{MemoryMap}
use Rattle.ow_base.specs.Words.{updated}
use Rattle.record_layouts.specs.Overlay.{Area, lies_in}
use Rattle.kernel_builder.specs.Plan.{Plan, entry_word, owner_word}
use Rattle.kernel_builder.specs.Sets.{slot_of, table_of, with_owners, with_slot, with_table, with_tables}

module _ (map : MemoryMap) (plan : Plan) (area : Area) where
  -- no word of a table is set yet, and one word more
  pub table_none : (slot table : ℕ) → area ≡ with_table map plan area slot table 0
  unfolding with_table
  table_none slot table = λ i number. (let e : area number ≡ with_table map plan area slot table 0 number = grind (arith, nat_tests) in e) i

  pub table_more : (now : Area) (slot table word value : ℕ) → now ≡ with_table map plan area slot table word → value ≡ entry_word map plan slot table word
      → updated now (1024 * (16 + 3 * slot + table) + word) value ≡ with_table map plan area slot table (word + 1)
  unfolding with_table
  table_more now slot table word value is entry =
      ap (λ (a : Area). updated a (1024 * (16 + 3 * slot + table) + word) value) is
      ∙ (λ i number. (let e : updated (with_table map plan area slot table word) (1024 * (16 + 3 * slot + table) + word) value number
      ≡ with_table map plan area slot table (word + 1) number = grind (arith, nat_tests) in e) i)

  -- the same of owners
  pub owners_none : area ≡ with_owners map plan area 0
  unfolding with_owners
  owners_none = λ i number. (let e : area number ≡ with_owners map plan area 0 number = grind (arith, nat_tests) in e) i

  pub owners_more : (now : Area) (count value : ℕ) → now ≡ with_owners map plan area count → value ≡ owner_word map plan count
      → updated now (10240 + count) value ≡ with_owners map plan area (count + 1)
  unfolding with_owners
  owners_more now count value is owner =
      ap (λ (a : Area). updated a (10240 + count) value) is
      ∙ (λ i number. (let e : updated (with_owners map plan area count) (10240 + count) value number
      ≡ with_owners map plan area (count + 1) number = grind (arith, nat_tests) in e) i)

  -- the tables of no slot are set yet; those of a slot that is not live stay
  pub tables_none : area ≡ with_tables map plan area 0
  unfolding with_tables
  tables_none = λ i number. (let e : area number ≡ with_tables map plan area 0 number = grind (arith, nat_tests) in e) i

  tables_same : (slot number : ℕ)
      → lies_in 16384 (1024 * (16 + 3 * slot)) number && plan.is_live (slot_of number)
      ≡ lies_in 16384 (1024 * (16 + 3 * (slot + 1))) number && plan.is_live (slot_of number)
      → with_tables map plan area slot number ≡ with_tables map plan area (slot + 1) number
  unfolding with_tables
  tables_same slot number same = rw same refl

  pub tables_free : (now : Area) (slot : ℕ) → now ≡ with_tables map plan area slot → plan.is_live slot ≡ false
      → now ≡ with_tables map plan area (slot + 1)
  tables_free now slot is free = is ∙ (λ i number. tables_same slot number
      (elim (cases_Bool (lies_in (1024 * (16 + 3 * slot)) (1024 * (16 + 3 * (slot + 1))) number)) [
        | inl here ↦
            let of : slot_of number ≡ slot = grind (arith, nat_tests) in
            rw (of, free) (grind (arith, nat_tests))
        | inr there ↦ grind (arith, nat_tests)
      ]) i)

  -- where a table is set, and where not
  table_here : (now : Area) (slot table number : ℕ) → lies_in (1024 * (16 + 3 * slot + table)) (1024 * (16 + 3 * slot + table) + 1024) number ≡ true
      → with_table map plan now slot table 1024 number ≡ entry_word map plan slot table (number - 1024 * (16 + 3 * slot + table))
  unfolding with_table
  table_here now slot table number here = rw here refl

  table_beside : (now : Area) (slot table number : ℕ) → lies_in (1024 * (16 + 3 * slot + table)) (1024 * (16 + 3 * slot + table) + 1024) number ≡ false
      → with_table map plan now slot table 1024 number ≡ now number
  unfolding with_table
  table_beside now slot table number there = rw there refl

  tables_here : (slot table number : ℕ) → table < 3 → plan.is_live slot ≡ true
      → lies_in (1024 * (16 + 3 * slot + table)) (1024 * (16 + 3 * slot + table) + 1024) number ≡ true
      → entry_word map plan slot table (number - 1024 * (16 + 3 * slot + table)) ≡ with_tables map plan area (slot + 1) number
  unfolding with_tables
  tables_here slot table number low live here =
      let of : slot_of number ≡ slot = grind (arith, nat_tests) in
      let kind : table_of number ≡ table = grind (arith, nat_tests) in
      let word : number % 1024 ≡ number - 1024 * (16 + 3 * slot + table) = grind (arith, nat_tests) in
      let within : lies_in 16384 (1024 * (16 + 3 * (slot + 1))) number ≡ true = grind (arith, nat_tests) in
      rw (within, of, live, kind, word) refl

  tables_each : (now : Area) (slot number : ℕ) → now ≡ with_tables map plan area slot → plan.is_live slot ≡ true
      → with_slot map plan now slot number ≡ with_tables map plan area (slot + 1) number
  tables_each now slot number is live =
      let first : Area = with_table map plan now slot 0 1024 in
      let second : Area = with_table map plan first slot 1 1024 in
      elim (cases_Bool (lies_in (1024 * (16 + 3 * slot + 2)) (1024 * (16 + 3 * slot + 2) + 1024) number)) [
        | inl high ↦ table_here second slot 2 number high ∙ tables_here slot 2 number (omega arith) live high
        | inr not_high ↦ table_beside second slot 2 number not_high
            ∙ elim (cases_Bool (lies_in (1024 * (16 + 3 * slot + 1)) (1024 * (16 + 3 * slot + 1) + 1024) number)) [
              | inl low ↦ table_here first slot 1 number low ∙ tables_here slot 1 number (omega arith) live low
              | inr not_low ↦ table_beside first slot 1 number not_low
                  ∙ elim (cases_Bool (lies_in (1024 * (16 + 3 * slot + 0)) (1024 * (16 + 3 * slot + 0) + 1024) number)) [
                    | inl root ↦ table_here now slot 0 number root ∙ tables_here slot 0 number (omega arith) live root
                    | inr not_root ↦ table_beside now slot 0 number not_root ∙ ap (λ (a : Area). a number) is ∙ tables_same slot number (grind (arith, nat_tests))
                  ]
            ]
      ]

  -- and those of a live slot are set
  pub tables_live : (now : Area) (slot : ℕ) → now ≡ with_tables map plan area slot → plan.is_live slot ≡ true
      → with_slot map plan now slot ≡ with_tables map plan area (slot + 1)
  tables_live now slot is live = λ i number. tables_each now slot number is live i
