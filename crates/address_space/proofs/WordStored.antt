-- A word of a process that is stored whole: its page has a frame, and the bytes that are stored are the word's own.
use Rattle.std.proofs.Common.{◌≡◌, ℕ, ◌+◌, ◌-◌, ◌/◌, ◌%◌, ◌<◌, true, false, if◌then◌else◌, get_or, Some, is_some, w32, refl, sym, ◌∙◌, inl, inr, arith}
use Rattle.std.specs.Int.{to_le_bytes}
use Rattle.std.proofs.lemmas.Bool.{cases_Bool}
use Rattle.std.proofs.lemmas.Bool.Decides.{nat_tests}
use Rattle.ow_base.specs.Pages.{Pages}
use Rattle.ow_base.specs.Sv32.{WordMap, byte_of, word_or_zero}
use Rattle.sv32_tables.proofs.Spaces.{pages_ext}
use Rattle.record_layouts.specs.Held.{Held, Records, is_of_area, stored}
use Rattle.record_layouts.specs.Pages.{page_frame_of}
use Rattle.record_layouts.specs.Unix.Spaces.{takes_word, with_bytes, with_word}
use Rattle.record_layouts.specs.Unix.State.{is_within}
use Rattle.frame_table.specs.Maps.{framed_pages}
use Rattle.address_space.specs.Spaces.{IsPut, IsWordPut}
use Rattle.address_space.specs.Writable.{is_writable}
use Rattle.address_space.proofs.Bytes.{byte_listed}
use Rattle.address_space.proofs.Stored.{frame_where_writable, word_put}

-- where a word can be stored, its address is a multiple of four, and a byte can be written there
module _ (pages : Pages) (address : ℕ) (takes : takes_word pages address ≡ true) where
  pub at_word : address % 4 ≡ 0
  at_word = grind (arith, nat_tests, takes)

  byte_writable : is_writable pages address 1 ≡ true
  unfolding is_writable
  byte_writable = grind (arith, nat_tests, takes)

-- so its page has a frame
pub frame_where_taken : (r : Records) (words : WordMap) (slot address : ℕ) → takes_word (framed_pages r words slot) address ≡ true
    → is_some (page_frame_of r slot (address / 4096)) ≡ true
frame_where_taken r words slot address takes =
    let place : address + 0 ≡ address = omega arith in
    let there = frame_where_writable r words slot address 1 (byte_writable (framed_pages r words slot) address takes) 0 (omega arith) in
    rw place at there.0

-- pages with the four bytes of a word written are those with the word
bytes_of_word : (bytes : ℕ → ℕ) (address value a : ℕ)
    → (if is_within address 4 a then get_or (to_le_bytes w32 value) (a - address) 0 else bytes a)
    ≡ (if is_within address 4 a then byte_of value (a - address) else bytes a)
bytes_of_word bytes address value a = elim (cases_Bool (is_within address 4 a)) [
  | inl within ↦
      let below : a - address < 4 = grind (arith, nat_tests, within) in
      rw within (byte_listed value (a - address) below)
  | inr out ↦ rw out refl
]

with_its_bytes : (pages : Pages) (address value : ℕ) → with_bytes pages address (to_le_bytes w32 value) ≡ with_word pages address value
unfolding with_bytes with_word
with_its_bytes pages address value = pages_ext _ _ (λ page. refl) (λ a. bytes_of_word pages.bytes address value a)

-- where the four bytes of a word are stored, the word is
module _ {Rest : Type 0} (h new : Held Rest) (slot address value : ℕ) where
  word_of_bytes : IsPut h new slot address (to_le_bytes w32 value) → IsWordPut h new slot address value
  word_of_bytes put = record {
    records = put.records;
    pages = put.pages ∙ with_its_bytes (framed_pages h.records h.contents slot) address value;
    contents = put.contents;
    disk = put.disk;
    rest = put.rest;
  }

  -- each byte of a word is one of the four
  byte_whole : (old k : ℕ) → address % 4 ≡ 0 → k < 4
      → byte_of value k ≡ (if is_within (address % 4) 4 k then get_or (to_le_bytes w32 value) (k - address % 4) 0 else byte_of old k)
  byte_whole old k first small =
      let within : is_within 0 4 k ≡ true = grind (arith, nat_tests, small) in
      let place : k - 0 ≡ k = omega arith in
      rw (first, within, place) (sym (byte_listed value k small))

  -- one store of the word in the frame of its page
  pub whole_put : (frame : ℕ) → address % 4 ≡ 0 → page_frame_of h.records slot (address / 4096) ≡ Some frame
      → is_of_area h.records.map.area_base frame ≡ false → new ≡ stored h frame (address % 4096 / 4) value → IsWordPut h new slot address value
  whole_put frame first found apart is =
      word_of_bytes (word_put h slot frame address value (to_le_bytes w32 value) found (omega (arith, first))
      (λ k small. byte_whole (word_or_zero (h.contents frame (address % 4096 / 4))) k first small) new apart is)
