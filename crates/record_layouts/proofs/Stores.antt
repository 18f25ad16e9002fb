-- What stores of single words of an area make of its records: those of the frames of owners and of tables set words of
-- these, and those of the intent block and of spare frames set none.
use Rattle.std.proofs.Common.{◌≡◌, ℕ, ◌+◌, ◌*◌, ◌/◌, ◌%◌, ◌<◌, ◌≤◌, ◌⊎◌, Bool, true, false, if◌then◌else◌, nat_lt, ◌==◌, ◌&&◌, List, [], Some, None, refl, sym, ◌∙◌, ap, arith, inl, inr}
use Rattle.std.proofs.lemmas.Grind.{common_steps}
use Rattle.std.proofs.lemmas.Bool.{cases_Bool, cases_lt, eq-eqb, le-ltb, lt-ltb, ltb-true, ne_eqb}
use Rattle.std.proofs.lemmas.Bool.Decides.{nat_tests}
use Rattle.ow_base.specs.Sv32.{WordMap}
use Rattle.record_layouts.specs.declared.memory_map.MemoryMap.{MemoryMap}
use Rattle.record_layouts.specs.declared.places.RecordId.{RecordId}
use Rattle.record_layouts.specs.Places.{IsRecordId, first_word, length_of}
use Rattle.record_layouts.specs.Overlay.{Area, area_at, gate_of, may_change, gate_word, laid, or_none, open_ranges, overlay, WordRange}
use Rattle.record_layouts.specs.Held.{with_area_words, with_owner_words, with_table_words}
use Rattle.record_layouts.specs.At.{at}
use Rattle.record_layouts.proofs.At.{at_owner_words, at_table_words, same_each, same_records, same_where}
use Rattle.record_layouts.specs.Reading.{is_readable_gate, records_in, records_of, words_of}
use Rattle.record_layouts.specs.Seam.{with_frame_words}
use Rattle.record_layouts.proofs.Intents.{open_ranges-same, overlay-beside, words_from-same}
use Rattle.record_layouts.proofs.Seam.{stays}

-- an intent may change each word of a record
may_change_each : (one : RecordId) → IsRecordId one → (number : ℕ) → first_word one ≤ number
    → number < first_word one + length_of one → may_change number (number + 1) ≡ true
may_change_each one there number from to = grind (arith, common_steps, nat_tests)

-- records that are read from areas which have the same words where an intent may change them
module _ (some other : Area) (same : (number : ℕ) → may_change number (number + 1) ≡ true → some number
    ≡ other number) where
  same_words : (one : RecordId) → IsRecordId one → words_of some one ≡ words_of other one
  same_words one there = words_from-same some other (first_word one) (length_of one)
      (λ number from to. same number (may_change_each one there number from to))

  same_all : (map : MemoryMap) (is_readable : Bool) (one : RecordId)
      → at (records_in map is_readable some) one ≡ at (records_in map is_readable other) one
  same_all map is_readable = same_each map is_readable some other same_words

-- words of which none is of a record, an owner or a table do not count
pub block_stays : (map : MemoryMap) (is_readable : Bool) (some other : Area)
    → ((number : ℕ) → number < 16 → some number ≡ other number)
    → ((number : ℕ) → 1024 ≤ number → some number ≡ other number)
    → records_in map is_readable some ≡ records_in map is_readable other
unfolding records_in
block_stays map is_readable some other head rest =
    let same : (number : ℕ) → may_change number (number + 1) ≡ true → some number ≡ other number =
    λ number changes. elim (cases_lt number 16) [
      | inl low ↦ head number low
      | inr high ↦ rest number
          (grind (arith, nat_tests))
    ] in
    same_records _ _ refl (same_all some other same map is_readable)
    (λ i. ap (λ w. if nat_lt i map.user_frames then w else 0) (rest (10240 + i) (omega arith)))
    (λ i. ap (λ w. if nat_lt i 64 then w else 0) (rest (11200 + i) (omega arith)))
    (λ s t w. ap (λ n. if nat_lt s 16 && nat_lt t 3 && nat_lt w 1024 then n else 0)
    (rest (1024 * (16 + 3 * s + t) + w) (omega arith)))

-- two ways to ask the same of a slot, a table, a word, their frame and the word's test
asked_first : (slot table word frame hit : Bool) (some other : ℕ) → (table && word && frame && hit ≡ true → slot ≡ true)
    → (if slot && table && word then (if frame && hit then some else other) else 0)
    ≡ (if table && word && frame && hit then some else if slot && table && word then other else 0)
asked_first true true true true true some other told = refl
asked_first true true true true false some other told = refl
asked_first true true true false hit some other told = refl
asked_first true true false frame hit some other told = refl
asked_first true false word frame hit some other told = refl
asked_first false true true true true some other told = (let never = told refl in cc)
asked_first false true true true false some other told = refl
asked_first false true true false hit some other told = refl
asked_first false true false frame hit some other told = refl
asked_first false false word frame hit some other told = refl

module _ (area : Area) (frame : ℕ) (hit : ℕ → Bool) (value : ℕ → ℕ) where
  -- a word of another frame stays, and of this frame those that are hit are set
  other_frame : (number : ℕ) → (number / 1024 ≡ frame → ⊥) → with_frame_words area frame hit value number ≡ area number
  other_frame number other = rw (ne_eqb (number / 1024) frame other) refl

  this_frame : (number word : ℕ) → number / 1024 ≡ frame → number % 1024 ≡ word
      → with_frame_words area frame hit value number ≡ (if hit word then value word else area number)
  this_frame number word is place = rw (eq-eqb (number / 1024) frame is, place) refl

  beside_intents : ((frame ≡ 10) ⊎ (12 ≤ frame)) → (number : ℕ) → may_change number (number + 1) ≡ true
      → with_frame_words area frame hit value number ≡ area number
  beside_intents (inl owners) number changes = other_frame number (λ is. grind (arith, nat_tests))
  beside_intents (inr tables) number changes = other_frame number (λ is. grind (arith, nat_tests))

  -- the words that name owners, in the frame of these and in others
  owner_set : (test : Bool) (number word : ℕ) → (test ≡ true → number / 1024 ≡ frame)
      → (test ≡ true → number % 1024 ≡ word)
      → (if test then with_frame_words area frame hit value number else 0)
      ≡ (if test && hit word then value word else if test then area number else 0)
  owner_set true number word is place = this_frame number word (is refl) (place refl)
  owner_set false number word is place = refl

  owner_stays : (test : Bool) (number : ℕ) → 12 ≤ frame → (test ≡ true → number < 11264)
      → (if test then with_frame_words area frame hit value number else 0) ≡ (if test then area number else 0)
  owner_stays test number past small = same_where 0 test _ _
      (λ holds. other_frame number (λ is. omega (arith, small holds)))

  -- and the words of tables
  tables_set : (s t w : ℕ) → frame < 64
      → (if nat_lt s 16 && nat_lt t 3 && nat_lt w 1024 then with_frame_words area frame hit value
      (1024 * (16 + 3 * s + t) + w) else 0)
      ≡ (if nat_lt t 3 && nat_lt w 1024 && 16 + 3 * s + t == frame && hit w then value w
      else if nat_lt s 16 && nat_lt t 3 && nat_lt w 1024 then area (1024 * (16 + 3 * s + t) + w) else 0)
  tables_set s t w less =
      let number = 1024 * (16 + 3 * s + t) + w in
      same_where 0 (nat_lt s 16 && nat_lt t 3 && nat_lt w 1024) _ _
      (λ holds. let small : w < 1024 = grind (arith, nat_tests) in
      let quotient : number / 1024 ≡ 16 + 3 * s + t = omega arith in
      let rest : number % 1024 ≡ w = omega arith in
      rw (quotient, rest) refl)
      ∙ asked_first (nat_lt s 16) (nat_lt t 3) (nat_lt w 1024) (16 + 3 * s + t == frame) (hit w) (value w)
      (area number) (λ told. grind (arith, nat_tests))

  table_stays : (s t w : ℕ) → frame < 16
      → (if nat_lt s 16 && nat_lt t 3 && nat_lt w 1024 then with_frame_words area frame hit value
      (1024 * (16 + 3 * s + t) + w) else 0)
      ≡ (if nat_lt s 16 && nat_lt t 3 && nat_lt w 1024 then area (1024 * (16 + 3 * s + t) + w) else 0)
  table_stays s t w less =
      same_where 0 (nat_lt s 16 && nat_lt t 3 && nat_lt w 1024) _ _ (λ holds. other_frame (1024 * (16 + 3 * s + t) + w)
      (λ is. omega arith))

module _ (map : MemoryMap) (room : map.user_frames ≤ 384) (is_readable : Bool) (area : Area) (frame : ℕ)
    (hit : ℕ → Bool) (value : ℕ → ℕ) where
  records_stay : (frame ≡ 10) ⊎ (12 ≤ frame) → (one : RecordId)
      → at (records_in map is_readable (with_frame_words area frame hit value)) one ≡ at (records_in map is_readable area) one
  records_stay where_it_is = same_all _ area (beside_intents area frame hit value where_it_is) map is_readable

  owners_stay : 12 ≤ frame → (i : ℕ)
      → (records_in map is_readable (with_frame_words area frame hit value)).owners i ≡ (records_in map is_readable area).owners i
  unfolding records_in
  owners_stay past i = owner_stays area frame hit value (nat_lt i map.user_frames) (10240 + i) past
      (λ holds. let less = ltb-true i map.user_frames holds in omega arith)

  cache_owners_stay : 12 ≤ frame → (i : ℕ)
      → (records_in map is_readable (with_frame_words area frame hit value)).cache_owners i
      ≡ (records_in map is_readable area).cache_owners i
  unfolding records_in
  cache_owners_stay past i = owner_stays area frame hit value (nat_lt i 64) (11200 + i) past
      (λ holds. let less = ltb-true i 64 holds in omega arith)

  -- the frame of owners
  owner_words_set : frame ≡ 10 → records_in map is_readable (with_frame_words area frame hit value) ≡ with_owner_words
      (records_in map is_readable area) hit value
  unfolding records_in
  owner_words_set is = same_records _ (with_owner_words (records_in map is_readable area) hit value) refl
      (λ one. records_stay (inl is) one ∙ sym (at_owner_words (records_in map is_readable area) hit value one))
      (λ i. owner_set area frame hit value (nat_lt i map.user_frames) (10240 + i) i
      (λ holds. let less = ltb-true i map.user_frames holds in omega arith)
      (λ holds. let less = ltb-true i map.user_frames holds in omega arith))
      (λ i. owner_set area frame hit value (nat_lt i 64) (11200 + i) (960 + i)
      (λ holds. let less = ltb-true i 64 holds in omega arith)
      (λ holds. let less = ltb-true i 64 holds in omega arith))
      (λ s t w. table_stays area frame hit value s t w (omega arith))

  -- the frames of no records
  spare_words_stay : 12 ≤ frame → frame < 16 → records_in map is_readable (with_frame_words area frame hit value)
      ≡ records_in map is_readable area
  unfolding records_in
  spare_words_stay past less_frame = same_records _ _ refl (records_stay (inr past)) (owners_stay past) (cache_owners_stay past)
      (λ s t w. table_stays area frame hit value s t w less_frame)

  -- the frames of tables
  table_words_set : 16 ≤ frame → frame < 64 → records_in map is_readable (with_frame_words area frame hit value)
      ≡ with_table_words (records_in map is_readable area) frame hit value
  unfolding records_in
  table_words_set past less_frame = same_records _ (with_table_words (records_in map is_readable area) frame hit value) refl
      (λ one. records_stay (inr (omega arith)) one ∙ sym (at_table_words (records_in map is_readable area) frame hit value one))
      (owners_stay (omega arith)) (cache_owners_stay (omega arith))
      (λ s t w. tables_set area frame hit value s t w less_frame)

  -- so words of a frame that are set by themselves set those words of the records that they are
  pub area_words_set : (frame ≡ 10) ⊎ (12 ≤ frame) → frame < 64
      → records_in map is_readable (with_frame_words area frame hit value) ≡ with_area_words
      (records_in map is_readable area) frame hit value
  area_words_set (inl is) less_frame = owner_words_set is ∙ rw (eq-eqb frame 10 is) refl
  area_words_set (inr past) less_frame =
      elim (cases_lt frame 16) [
        | inl spare ↦ spare_words_stay past spare ∙ rw (ne_eqb frame 10 (λ is. omega arith), lt-ltb frame 16 spare) refl
        | inr table ↦ table_words_set table less_frame
            ∙ rw (ne_eqb frame 10 (λ is. omega arith), le-ltb frame 16 table) refl
      ]

-- what is read of an area whose gate is closed, and of one in which a valid intent is open
module _ (area : Area) where
  closed_ranges : area gate_word ≡ 0 → open_ranges area ≡ None
  unfolding open_ranges
  closed_ranges closed = grind (arith, nat_tests)

  overlay_is : (ranges : List WordRange) → or_none (open_ranges area) ≡ ranges → overlay area
      ≡ (λ number. laid ranges number (area number))
  unfolding overlay
  overlay_is ranges is = λ j. λ number. laid (is j) number (area number)

  closed_readable : area gate_word ≡ 0 → is_readable_gate (gate_of area) ≡ true
  closed_readable closed = rw closed refl

  open_readable : (ranges : List WordRange) → open_ranges area ≡ Some ranges → is_readable_gate (gate_of area) ≡ true
  open_readable ranges is = elim (cases_Bool (area gate_word == 0)) [
    | inl holds ↦ rw holds refl
    | inr fails ↦ rw (fails, is) refl
  ]

module _ (map : MemoryMap) (words : WordMap) where
  pub records_closed : area_at words map.area_base gate_word ≡ 0 → records_of map words ≡ records_in map true
      (area_at words map.area_base)
  unfolding records_of laid
  records_closed closed =
      let area = area_at words map.area_base in
      let shown = overlay_is area [] (ap or_none (closed_ranges area closed)) in
      λ j. records_in map (closed_readable area closed j) (shown j)

  pub records_open : (ranges : List WordRange) → open_ranges (area_at words map.area_base) ≡ Some ranges
      → records_of map words ≡ records_in map true (λ number. laid ranges number (area_at words map.area_base number))
  unfolding records_of
  records_open ranges is =
      let area = area_at words map.area_base in
      let shown = overlay_is area ranges (ap or_none is) in
      λ j. records_in map (open_readable area ranges is j) (shown j)

-- what is read of an area of which words beside the records are set by themselves: the same words, set there too
module _ (area other : Area) (frame : ℕ) (hit : ℕ → Bool) (value : ℕ → ℕ) (where_it_is : (frame ≡ 10) ⊎ (12 ≤ frame))
    (set_there : (number : ℕ) → other number ≡ with_frame_words area frame hit value number) where
  far : 10 ≤ frame
  far = elim where_it_is [ inl owners ↦ omega arith | inr tables ↦ omega arith ]

  same_low : (number : ℕ) → number < 1024 → other number ≡ area number
  same_low number low = set_there number ∙ other_frame area frame hit value number (λ is. let past = far in omega arith)

  same_block : open_ranges other ≡ open_ranges area
  same_block = open_ranges-same other area (λ number low high. same_low number high)

  same_gate : gate_of other ≡ gate_of area
  same_gate = let gates : other gate_word ≡ area gate_word = same_low gate_word (omega arith) in rw
      (gates, same_block) refl

  stays_there : (number : ℕ) → number / 1024 ≡ frame → may_change number (number + 1) ≡ false
  stays_there number is = elim where_it_is [
    | inl owners ↦ stays number
        (inl (omega arith, omega arith))
    | inr tables ↦ stays number (inr (omega arith))
  ]

  set_in_overlay : (number : ℕ) → overlay other number ≡ with_frame_words (overlay area) frame hit value number
  unfolding overlay
  set_in_overlay number =
      elim (cases_Bool (number / 1024 == frame && hit (number % 1024))) [
        | inl holds ↦
            let is : number / 1024 ≡ frame = grind (arith, nat_tests) in
            rw holds (overlay-beside other number (stays_there number is) ∙ set_there number ∙ rw holds refl)
        | inr fails ↦ rw (same_block, set_there number, fails) refl
      ]

-- so words of a frame of the area that are set by themselves set those words of the records that they are
pub stored_words_set : (map : MemoryMap) → map.user_frames ≤ 384 → (some other : WordMap) (frame : ℕ) (hit : ℕ → Bool)
    (value : ℕ → ℕ) → (frame ≡ 10) ⊎ (12 ≤ frame) → frame < 64
    → ((number : ℕ) → area_at other map.area_base number ≡ with_frame_words
    (area_at some map.area_base) frame hit value number)
    → records_of map other ≡ with_area_words (records_of map some) frame hit value
unfolding records_of
stored_words_set map room some other frame hit value where_it_is less_frame set_there =
    let area = area_at some map.area_base in
    let after = area_at other map.area_base in
    let gate = same_gate area after frame hit value where_it_is set_there in
    let shown = set_in_overlay area after frame hit value where_it_is set_there in
    (λ j. records_in map (is_readable_gate (gate j)) (λ number. shown number j))
    ∙ area_words_set map room (is_readable_gate (gate_of area)) (overlay area) frame hit value where_it_is less_frame
