-- The bytes that are read from pages.
use Rattle.std.proofs.Common.{◌≡◌, ℕ, suc, ◌+◌, ◌-◌, ◌/◌, ◌%◌, ◌^◌, ◌<◌, ◌≤◌, true, false, List, [], ◌∷◌, length, get_or, Option, Some, None, IfSome, is_some, refl, sym, ap, ◌∙◌, inl, inr, arith, add-zero}
use Rattle.std.proofs.lemmas.Bool.{cases_lt}
use Rattle.std.proofs.lemmas.Grind.{common_steps}
use borrow.Rule.Slice.PartMut.{put_mid}
use Rattle.ow_base.specs.Pages.{Pages, bytes_at, is_readable, rights_at}
use Rattle.ow_base.specs.Sv32.{WordMap}
use Rattle.sv32_tables.specs.Spaces.{rights_in, byte_in}
use Rattle.record_layouts.specs.declared.proc.ProcRec.{ProcRec}
use Rattle.record_layouts.specs.Held.{Records}
use Rattle.record_layouts.specs.Proc.{FitsProc}
use Rattle.record_layouts.specs.Pages.{byte_on, frame_if}
use Rattle.frame_table.specs.Maps.{framed_pages, map_if, map_in}
use Rattle.frame_table.proofs.Framed.{rights_of_frame, byte_of_frame, none_without_frame, none_behind}
use Rattle.address_space.specs.Writable.{allows, are_values, is_open_to, is_writable}
use Rattle.address_space.specs.declared.access.Access.{Access}
use Rattle.address_space.specs.declared.access.Access.TheVariants.{Read, Write}
use Rattle.address_space.proofs.Tested.{whole_true, whole_false}

-- the first of these bytes, so many, are those of the pages from an address on
pub record AreRead (pages : Pages) (address : ℕ) (bytes : List ℕ) (count : ℕ) : Type 0 where
  pub within : count ≤ length bytes
  pub there : (k : ℕ) → k < count → is_some (rights_at pages (address + k)) ≡ true
  pub read : (k : ℕ) → k < count → get_or bytes k 0 ≡ pages.bytes (address + k)

-- a list of which each item is the byte at its address is these bytes
pub bytes_all : (pages : Pages) (bytes : List ℕ) (address : ℕ) → ((k : ℕ) → k < length bytes → get_or bytes k 0 ≡ pages.bytes (address + k)) → bytes ≡ bytes_at pages address (length bytes)
unfolding bytes_at
bytes_all pages [] address each = refl
bytes_all pages (b ∷ bs) address each =
    let here : b ≡ pages.bytes address = rw add-zero at (each 0 (omega arith)) in
    let behind : bs ≡ bytes_at pages (address + 1) (length bs) = bytes_all pages bs (address + 1) (λ k below.
    let place : address + suc k ≡ (address + 1) + k = omega arith in rw place at (each (suc k) (omega arith))) in
    rw here (ap (λ rest. pages.bytes address ∷ rest) behind)

module _ (pages : Pages) where
  readable_all : (address count : ℕ) → ((k : ℕ) → k < count → is_some (rights_at pages (address + k)) ≡ true) → is_readable pages address count ≡ true
  unfolding is_readable
  readable_all = whole_true (λ a. is_some (rights_at pages a)) (is_readable pages) (λ a. refl) (λ a n. refl)

  unreadable_at : (address count k : ℕ) → k < count → is_some (rights_at pages (address + k)) ≡ false → is_readable pages address count ≡ false
  unfolding is_readable
  unreadable_at = whole_false (λ a. is_some (rights_at pages a)) (is_readable pages) (λ a. refl) (λ a n. refl)

  writable_all : (address count : ℕ) → ((k : ℕ) → k < count → are_values (rights_at pages (address + k)) ≡ true) → is_writable pages address count ≡ true
  unfolding is_writable
  writable_all = whole_true (λ a. are_values (rights_at pages a)) (is_writable pages) (λ a. refl) (λ a n. refl)

  unwritable_at : (address count k : ℕ) → k < count → are_values (rights_at pages (address + k)) ≡ false → is_writable pages address count ≡ false
  unfolding is_writable
  unwritable_at = whole_false (λ a. are_values (rights_at pages a)) (is_writable pages) (λ a. refl) (λ a n. refl)

  pub open_all : (access : Access) (address count : ℕ) → ((k : ℕ) → k < count → allows access (rights_at pages (address + k)) ≡ true) → is_open_to access pages address count ≡ true
  open_all Read = readable_all
  open_all Write = writable_all

  pub shut_at : (access : Access) (address count k : ℕ) → k < count → allows access (rights_at pages (address + k)) ≡ false → is_open_to access pages address count ≡ false
  shut_at Read = unreadable_at
  shut_at Write = unwritable_at

  -- what is read when all is read
  pub all_read : (address : ℕ) (bytes : List ℕ) (count : ℕ) → AreRead pages address bytes count → length bytes ≤ count
      → (is_readable pages address (length bytes) ≡ true) × (bytes ≡ bytes_at pages address (length bytes))
  all_read address bytes count are all = (readable_all address (length bytes) (λ k below. are.there k (omega arith)), bytes_all pages bytes address (λ k below. are.read k (omega arith)))

-- where there is no page nothing is allowed
none_allowed : (access : Access) → allows access None ≡ false
none_allowed Read = refl
none_allowed Write = refl

-- an item of a list of which a part is written
put_before : (a n : ℕ) (xs ys : List ℕ) (k : ℕ) → k < a → a ≤ length xs → get_or (put_mid a n xs ys) k 0 ≡ get_or xs k 0
put_before a n xs ys k before fits = grind (arith, common_steps)

put_within : (a n : ℕ) (xs ys : List ℕ) (k : ℕ) → a ≤ k → k - a < length ys → a ≤ length xs → get_or (put_mid a n xs ys) k 0 ≡ get_or ys (k - a) 0
put_within a n xs ys k behind within fits = grind (arith, common_steps)

module _ (r : Records) (words : WordMap) (slot : ℕ) (process : Option ProcRec) (there : r.procs slot ≡ process) (address : ℕ) where
  -- the mapping at an address of the page
  mapping_there : (page a : ℕ) → a / 4096 ≡ page → map_in r slot (a / 4096) ≡ map_if r slot page process
  unfolding map_in
  mapping_there page a same = rw (same, there) refl

  pub unread_without_frame : (done count : ℕ) → done < count → frame_if r slot ((address + done) / 4096) process ≡ None → false ≡ is_readable (framed_pages r words slot) address count
  unread_without_frame done count below none =
      let page : ℕ = (address + done) / 4096 in
      sym (shut_at (framed_pages r words slot) Read address count done below
      (ap (λ m. is_some (rights_in m)) (mapping_there page (address + done) refl ∙ none_without_frame r slot page process none)))

  pub shut_behind : (access : Access) (done count : ℕ) → IfSome process FitsProc → done < count → 2 ^ 32 ≤ address + done → false ≡ is_open_to access (framed_pages r words slot) address count
  shut_behind access done count fits below high =
      let page : ℕ = (address + done) / 4096 in
      sym (shut_at (framed_pages r words slot) access address count done below
      (ap (λ m. allows access (rights_in m)) (mapping_there page (address + done) refl ∙ none_behind r slot page process fits (omega arith)) ∙ none_allowed access))

  pub shut_there : (access : Access) (done count : ℕ) → done < count → allows access (rights_in (map_if r slot ((address + done) / 4096) process)) ≡ false → false ≡ is_open_to access (framed_pages r words slot) address count
  shut_there access done count below none =
      let page : ℕ = (address + done) / 4096 in
      sym (shut_at (framed_pages r words slot) access address count done below (ap (λ m. allows access (rights_in m)) (mapping_there page (address + done) refl) ∙ none))

  -- the bytes of one page more are read
  pub read_more : (old part : List ℕ) (done end frame : ℕ) → AreRead (framed_pages r words slot) address old done → frame_if r slot ((address + done) / 4096) process ≡ Some frame
      → done ≤ end → end ≤ length old → end ≤ done + (4096 - (address + done) % 4096) → length part ≡ end - done
      → ((k : ℕ) → k < length part → get_or part k 0 ≡ byte_on words ((address + done) % 4096 + k) (Some frame))
      → AreRead (framed_pages r words slot) address (put_mid done (end - done) old part) end
  read_more old part done end frame are found from within near long bytes =
      let page : ℕ = (address + done) / 4096 in
      let new : List ℕ = put_mid done (end - done) old part in
      let whole : length new ≡ length old = grind (arith, common_steps) in
      record {
        within = omega arith;
        there = λ k below. elim (cases_lt k done) [
          | inl before ↦ are.there k before
          | inr behind ↦
              let same : (address + k) / 4096 ≡ page = omega arith in
              ap (λ m. is_some (rights_in m)) (mapping_there page (address + k) same) ∙ rights_of_frame r slot page process frame found
        ];
        read = λ k below. elim (cases_lt k done) [
          | inl before ↦ put_before done (end - done) old part k before (omega arith) ∙ are.read k before
          | inr behind ↦
              let same : (address + k) / 4096 ≡ page = omega arith in
              let offset : (address + k) % 4096 ≡ (address + done) % 4096 + (k - done) = omega arith in
              put_within done (end - done) old part k behind (omega arith) (omega arith)
              ∙ bytes (k - done) (omega arith)
              ∙ rw (← offset) (sym (byte_of_frame r slot page words ((address + k) % 4096) process frame found))
              ∙ ap (byte_in words ((address + k) % 4096)) (sym (mapping_there page (address + k) same))
        ];
      }

  pub open_more : (access : Access) (done end : ℕ) → ((k : ℕ) → k < done → allows access (rights_at (framed_pages r words slot) (address + k)) ≡ true)
      → allows access (rights_in (map_if r slot ((address + done) / 4096) process)) ≡ true → end ≤ done + (4096 - (address + done) % 4096)
      → (k : ℕ) → k < end → allows access (rights_at (framed_pages r words slot) (address + k)) ≡ true
  open_more access done end before found near k below = elim (cases_lt k done) [
    | inl earlier ↦ before k earlier
    | inr behind ↦ ap (λ m. allows access (rights_in m)) (mapping_there ((address + done) / 4096) (address + k) (omega arith)) ∙ found
  ]
