-- One page that is prepared, and the tables of a slot before any is.
use Rattle.std.specs.Prelude.{◌≡◌, ◌≢◌, ℕ, ◌+◌, ◌*◌, ◌/◌, ◌%◌, ◌<◌, ◌≤◌, ◌⊎◌, true, false, nat_lt, ◌==◌, ◌&&◌, if◌then◌else◌, Option, Some, None}
use Rattle.ow_base.specs.Entries.{leaf_word, pointer_word}
use Rattle.ow_base.specs.Sv32.{WordMap, word_or_zero}
use Rattle.ow_base.specs.declared.machine.Rights.{Rights}
use Rattle.record_layouts.specs.Held.{Held, Records, with_words}
use Rattle.record_layouts.specs.Pages.{claim_of, table_frame}
use Rattle.frame_table.specs.Free.{is_free_frame, is_page_of}

-- the table of the last level that has the entry of a page: the low one or the high one
abbrev pub table_of : (page : ℕ) → ℕ
table_of page = if page / 1024 == 0 then 1 else 2

-- a page can be prepared in a user frame: the frame is free, one of the two tables has an entry for the page, and the page
-- does not count
pub record CanPrepare (r : Records) (slot page number : ℕ) : Type 0 where
  pub fits : slot < 16
  pub entry : (page / 1024 ≡ 0) ⊎ (page / 1024 ≡ 511)
  pub uncounted : is_page_of page (r.procs slot) ≡ false
  pub within : number < r.map.user_frames
  pub free : is_free_frame r number ≡ true

-- a frame from which words are taken, none for zeros
abbrev pub word_from : WordMap → (source : Option ℕ) → (word : ℕ) → ℕ
word_from contents (Some frame) word = word_or_zero (contents frame word)
word_from contents None word = 0

-- so many first words of a user frame become those of a frame, or zeros
abbrev pub filled : {Rest : Type 0} → Held Rest → (number : ℕ) → (source : Option ℕ) → (count : ℕ) → Held Rest
filled h number source count = with_words h (h.records.map.pool_base + number) (λ w. nat_lt w count) (word_from h.contents source)

-- a frame of memory is a user frame
abbrev pub IsUserFrame : Records → (frame : ℕ) → Type 0
IsUserFrame r frame = (r.map.pool_base ≤ frame) × (frame < r.map.pool_base + r.map.user_frames)

-- A page of a slot is prepared in a user frame: the frame has the words of another one, or zeros, its owner is the page,
-- and the entry of the page is the leaf of these rights. Nothing else has changed.
pub record IsPagePrepared {Rest : Type 0} (h new : Held Rest) (slot page number : ℕ) (rights : Rights) (source : Option ℕ) : Type 0 where
  pub records : new.records ≡ record h.records { owners = new.records.owners; table_words = new.records.table_words }
  pub owner : new.records.owners number ≡ claim_of slot page
  pub owners : (i : ℕ) → i ≢ number → new.records.owners i ≡ h.records.owners i
  pub entry : new.records.table_words slot (table_of page) (page % 1024) ≡ leaf_word (h.records.map.pool_base + number) rights
  pub entries : (other table word : ℕ) → (other == slot && table == table_of page && word == page % 1024) ≡ false
      → new.records.table_words other table word ≡ h.records.table_words other table word
  pub frame : (word : ℕ) → word < 1024 → new.contents (h.records.map.pool_base + number) word ≡ Some (word_from h.contents source word)
  pub contents : (frame word : ℕ) → frame ≢ h.records.map.pool_base + number → new.contents frame word ≡ h.contents frame word
  pub disk : new.disk ≡ h.disk
  pub rest : new.rest ≡ h.rest

-- it is not prepared yet: words of its frame and the owner of this may be others, and nothing else has changed
pub record IsPageBegun {Rest : Type 0} (h new : Held Rest) (number : ℕ) : Type 0 where
  pub records : new.records ≡ record h.records { owners = new.records.owners }
  pub owners : (i : ℕ) → i ≢ number → new.records.owners i ≡ h.records.owners i
  pub contents : (frame word : ℕ) → frame ≢ h.records.map.pool_base + number → new.contents frame word ≡ h.contents frame word
  pub disk : new.disk ≡ h.disk
  pub rest : new.rest ≡ h.rest

-- the words of the tables of a slot that has no page: the root leads to the two other tables, and all else is 0
abbrev pub bare_word : (area_base slot table word : ℕ) → ℕ
bare_word area_base slot table word =
    if table == 0 && word == 0 then pointer_word (area_base + table_frame slot 1) else
    if table == 0 && word == 511 then pointer_word (area_base + table_frame slot 2) else 0

-- The words of a slot's three tables are counted from the first of the root. So many from one on are those, and nothing
-- else has changed.
pub record AreWordsBare {Rest : Type 0} (h new : Held Rest) (slot first count : ℕ) : Type 0 where
  pub records : new.records ≡ record h.records { table_words = new.records.table_words }
  pub bare : (table word : ℕ) → table < 3 → word < 1024 → first ≤ 1024 * table + word → 1024 * table + word < first + count
      → new.records.table_words slot table word ≡ bare_word h.records.map.area_base slot table word
  pub kept : (table word : ℕ) → table < 3 → word < 1024 → (1024 * table + word < first) ⊎ (first + count ≤ 1024 * table + word)
      → new.records.table_words slot table word ≡ h.records.table_words slot table word
  pub others : (other table word : ℕ) → other ≢ slot → new.records.table_words other table word ≡ h.records.table_words other table word
  pub contents : new.contents ≡ h.contents
  pub disk : new.disk ≡ h.disk
  pub rest : new.rest ≡ h.rest

-- some from one on are those
abbrev pub AreFirstBare : {Rest : Type 0} → (h new : Held Rest) → (slot first : ℕ) → Type 0
AreFirstBare h new slot first = (count : ℕ) × AreWordsBare h new slot first count

-- all words of the tables of a slot are those, and nothing else has changed
pub record AreTablesBare {Rest : Type 0} (h new : Held Rest) (slot : ℕ) : Type 0 where
  pub records : new.records ≡ record h.records { table_words = new.records.table_words }
  pub bare : (table word : ℕ) → table < 3 → word < 1024 → new.records.table_words slot table word ≡ bare_word h.records.map.area_base slot table word
  pub others : (other table word : ℕ) → other ≢ slot → new.records.table_words other table word ≡ h.records.table_words other table word
  pub contents : new.contents ≡ h.contents
  pub disk : new.disk ≡ h.disk
  pub rest : new.rest ≡ h.rest

-- some words are so already, and the others are what they were
pub record AreTablesPartlyBare {Rest : Type 0} (h new : Held Rest) (slot : ℕ) : Type 0 where
  pub records : new.records ≡ record h.records { table_words = new.records.table_words }
  pub words : (table word : ℕ) → table < 3 → word < 1024
      → (new.records.table_words slot table word ≡ bare_word h.records.map.area_base slot table word)
      ⊎ (new.records.table_words slot table word ≡ h.records.table_words slot table word)
  pub others : (other table word : ℕ) → other ≢ slot → new.records.table_words other table word ≡ h.records.table_words other table word
  pub contents : new.contents ≡ h.contents
  pub disk : new.disk ≡ h.disk
  pub rest : new.rest ≡ h.rest
