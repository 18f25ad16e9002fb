-- A process decodes exactly where no part of it is the first that cannot be read.
use Rattle.std.proofs.Common.{◌≡◌, ◌↔◌, ℕ, zero, suc, ◌+◌, ◌<◌, ◌≤◌, ◌==◌, ◌&&◌, Bool, true, false, Option, Some, None, is_some, refl, sym, ◌∙◌, inl, inr, arith}
use Rattle.std.proofs.lemmas.Bool.{and_parts, cases_Bool, cases_eq, cases_lt}
use Rattle.record_layouts.specs.declared.places.RecordId.{RecordId}
use Rattle.record_layouts.specs.declared.places.RecordId.TheVariants as id
use Rattle.record_layouts.specs.declared.proc.ProcRec.{ProcRec}
use Rattle.record_layouts.specs.Decode.{decodes}
use Rattle.record_layouts.specs.Held.{Records}
use Rattle.record_layouts.specs.Left.{AreRead, IsFirstUnreadable, has_tables, is_record_of, lacks_frame}
use Rattle.record_layouts.specs.Pages.{is_live, is_mapped, region_of}
use Rattle.frame_table.proofs.Counting.{region_none, values_end}
use Rattle.frame_table.proofs.Tables.{HasFrame, HasNone, page_case}
use Rattle.dead_reader.proofs.Framed.{all_have}

clash : (test : Bool) → test ≡ true → test ≡ false → ⊥
clash test holds fails = cc

and_false : (test : Bool) → (test && false) ≡ false
and_false true = refl
and_false false = refl

-- a mapped process lacks no frame, and its tables are found
none_lacks : (r : Records) (slot page : ℕ) (process : ProcRec) → is_mapped r slot process ≡ true → lacks_frame r slot page (Some process) ≡ false
none_lacks r slot page process mapped = elim (page_case r slot process page mapped) [
  | HasFrame frame found ↦ rw found (and_false (is_some (region_of process page)))
  | HasNone none ↦ rw none refl
]

tables_mapped : (r : Records) (slot : ℕ) (process : ProcRec) → is_mapped r slot process ≡ true → has_tables r slot ≡ true
unfolding is_mapped
tables_mapped r slot process mapped = grind (arith, mapped)

-- the least number below an end that passes, or none below it
data Searched (test : ℕ → Bool) (end : ℕ) : Type 0 where
  Least : (n : ℕ) → test n ≡ true → ((lower : ℕ) → lower < n → test lower ≡ false) → Searched test end
  Nothing : ((n : ℕ) → n < end → test n ≡ false) → Searched test end

search_below : (test : ℕ → Bool) (end : ℕ) → Searched test end
search_below test zero = Nothing (λ n below. absurd (omega arith))
search_below test (suc end) = elim (search_below test end) [
  | Least n passes below ↦ Least n passes below
  | Nothing none ↦ elim (cases_Bool (test end)) [
    | inl passes ↦ Least end passes none
    | inr fails ↦ Nothing (λ n below. elim (cases_eq n end) [
      | inl same ↦ rw same fails
      | inr other ↦ none n (omega arith)
    ])
  ]
]

-- two numbers that both are the least
least_one : (test : ℕ → Bool) (n k : ℕ) → test n ≡ true → ((lower : ℕ) → lower < n → test lower ≡ false)
    → test k ≡ true → ((lower : ℕ) → lower < k → test lower ≡ false) → n ≡ k
least_one test n k passes below also under = elim (cases_lt n k) [
  | inl less ↦ absurd (clash _ passes (under n less))
  | inr more ↦ elim (cases_lt k n) [
    | inl less ↦ absurd (clash _ also (below k less))
    | inr same ↦ omega (arith, more, same)
  ]
]

module _ (r : Records) (slot pid : ℕ) where
  abbrev pub IsNone : Type 0
  IsNone = (one : RecordId) (index : ℕ) → IsFirstUnreadable r slot pid one index → ⊥

  pub no_first : (process : ProcRec) → r.procs slot ≡ Some process → decodes r slot pid process ≡ true → (one : RecordId) (index : ℕ)
      → IsFirstUnreadable r slot pid one index → ⊥
  no_first process there is one index first =
      let mapped = and_parts _ _ is in
      let named = and_parts _ _ mapped.0 in
      let goes_on = and_parts _ _ named.0 in
      let of : is_record_of pid (r.procs slot) ≡ true = rw there (rw (goes_on.1, named.1) refl) in
      let tables = tables_mapped r slot process mapped.1 in
      let framed : lacks_frame r slot index (r.procs slot) ≡ false = rw there (none_lacks r slot index process mapped.1) in
      elim first [
        | inl head ↦ clash _ goes_on.0 head.2
        | inr behind ↦ elim behind [
          | inl kept ↦ clash _ of kept.3
          | inr deeper ↦ elim deeper [
            | inl root ↦ clash _ tables root.4
            | inr pages ↦ clash _ pages.2 framed
          ]
        ]
      ]

  -- a record of this pid is there
  record ThereAs (held : Option ProcRec) : Type 0 where
    process : ProcRec
    there : held ≡ Some process
    live : is_live process ≡ true
    pid_is : (process.pid == pid) ≡ true

  there_as : (held : Option ProcRec) → is_record_of pid held ≡ true → ThereAs held
  there_as (Some process) of = let parts = and_parts _ _ of in record { process = process; there = refl; live = parts.0; pid_is = parts.1 }
  there_as None of = absurd (cc of)

  -- behind the stack no page is of the regions
  lacks_far : (process : ProcRec) (page : ℕ) → values_end process + 0x80000 ≤ page → lacks_frame r slot page (Some process) ≡ false
  lacks_far process page far =
      let none : region_of process page ≡ None = region_none process page (inr (omega (arith, far))) (inr (omega (arith, far))) in
      rw none refl

  no_page : (process : ProcRec) → r.procs slot ≡ Some process → AreRead r slot pid → IsNone → (page : ℕ) → lacks_frame r slot page (Some process) ≡ false
  no_page process there read none page =
      elim (search_below (λ n. lacks_frame r slot n (Some process)) (values_end process + 0x80000)) [
        | Least n passes below ↦ absurd (none (id.Proc slot) n
            (inr (inr (inr (refl, read, rw there passes, λ lower less. rw there (below lower less))))))
        | Nothing within ↦ elim (cases_lt page (values_end process + 0x80000)) [
          | inl near ↦ within page near
          | inr far ↦ lacks_far process page far
        ]
      ]

  none_decodes : IsNone → (process : ProcRec) × (r.procs slot ≡ Some process) × (decodes r slot pid process ≡ true)
  none_decodes none = elim (cases_Bool (is_some r.head)) [
    | inr headless ↦ absurd (none id.Head 0 (inl (refl, refl, headless)))
    | inl head ↦ elim (cases_Bool (is_record_of pid (r.procs slot))) [
      | inr other ↦ absurd (none (id.Proc slot) 0 (inr (inl (refl, refl, head, other))))
      | inl of ↦ elim (cases_Bool (has_tables r slot)) [
        | inr bare ↦ absurd (none (id.Proc slot) 1 (inr (inr (inl (refl, refl, head, of, bare)))))
        | inl tables ↦
            let is = there_as (r.procs slot) of in
            let read : AreRead r slot pid = record { head = head; process = of; tables = tables } in
            let mapped = all_have r slot is.process is.live tables (no_page is.process is.there read none) in
            (is.process, is.there, rw (head, is.live, is.pid_is, mapped) refl)
      ]
    ]
  ]

  pub decodes_where_none : IsNone ↔ ((process : ProcRec) × (r.procs slot ≡ Some process) × (decodes r slot pid process ≡ true))
  decodes_where_none = (none_decodes, λ is one index first. no_first is.0 is.1 is.2 one index first)

  -- two parts are the first
  pub one_first : (one other : RecordId) (index another : ℕ) → IsFirstUnreadable r slot pid one index → IsFirstUnreadable r slot pid other another
      → (one ≡ other) × (index ≡ another)
  one_first one other index another (inl a) (inl b) = (a.0 ∙ sym b.0, a.1 ∙ sym b.1)
  one_first one other index another (inl a) (inr (inl b)) = absurd (clash _ b.2 a.2)
  one_first one other index another (inl a) (inr (inr (inl b))) = absurd (clash _ b.2 a.2)
  one_first one other index another (inl a) (inr (inr (inr b))) = absurd (clash _ b.1.head a.2)
  one_first one other index another (inr (inl a)) (inl b) = absurd (clash _ a.2 b.2)
  one_first one other index another (inr (inl a)) (inr (inl b)) = (a.0 ∙ sym b.0, a.1 ∙ sym b.1)
  one_first one other index another (inr (inl a)) (inr (inr (inl b))) = absurd (clash _ b.3 a.3)
  one_first one other index another (inr (inl a)) (inr (inr (inr b))) = absurd (clash _ b.1.process a.3)
  one_first one other index another (inr (inr (inl a))) (inl b) = absurd (clash _ a.2 b.2)
  one_first one other index another (inr (inr (inl a))) (inr (inl b)) = absurd (clash _ a.3 b.3)
  one_first one other index another (inr (inr (inl a))) (inr (inr (inl b))) = (a.0 ∙ sym b.0, a.1 ∙ sym b.1)
  one_first one other index another (inr (inr (inl a))) (inr (inr (inr b))) = absurd (clash _ b.1.tables a.4)
  one_first one other index another (inr (inr (inr a))) (inl b) = absurd (clash _ a.1.head b.2)
  one_first one other index another (inr (inr (inr a))) (inr (inl b)) = absurd (clash _ a.1.process b.3)
  one_first one other index another (inr (inr (inr a))) (inr (inr (inl b))) = absurd (clash _ a.1.tables b.4)
  one_first one other index another (inr (inr (inr a))) (inr (inr (inr b))) = (a.0 ∙ sym b.0, least_one (λ page. lacks_frame r slot page (r.procs slot)) index another a.2 a.3 b.2 b.3)
