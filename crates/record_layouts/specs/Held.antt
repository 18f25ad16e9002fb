-- What is held: the records of an area that decode, the words of memory that are no records, and the disk. It is the
-- meaning of a view of records, and of what can change them.
use Rattle.std.specs.Prelude.{◌≡◌, ℕ, ◌+◌, ◌-◌, ◌*◌, ◌<◌, Bool, true, false, nat_lt, not, ◌==◌, ◌&&◌, ◌||◌, if◌then◌else◌, List, [], ◌∷◌, take, All, Some, None, is_some, IfSome}
use Rattle.ow_base.specs.Sv32.{WordMap, word_or_zero}
use Rattle.ow_base.specs.Words.{updated}
use Rattle.record_layouts.specs.declared.places.RecordId.{RecordId}
use Rattle.record_layouts.specs.declared.places.RecordId.TheVariants as id
use Rattle.record_layouts.specs.declared.patch.AnyRec.{AnyRec}
use Rattle.record_layouts.specs.declared.patch.AnyRec.TheVariants as any
use Rattle.record_layouts.specs.declared.patch.PatchItem.{PatchItem}
use Rattle.record_layouts.specs.Patch.{IsPatch}
use Rattle.record_layouts.specs.Places.{IsRecordId}
pub use Rattle.record_layouts.specs.Records.{Records}
use Rattle.record_layouts.specs.At.{Fits, at}

-- each record is one that can be spelled
abbrev pub AreValues : Records → Type 0
AreValues r = (one : RecordId) → IfSome (at r one) (Fits one)

-- every record decodes
abbrev pub AreComplete : Records → Type 0
AreComplete r = (one : RecordId) → IsRecordId one → is_some (at r one) ≡ true

-- what is held, and the rest of what it is held in
pub record Held (Rest : Type 0) : Type 0 where
  pub records : Records
  -- the words of the frames that are not of the area
  pub contents : WordMap
  -- the sectors of the disk
  pub disk : List (List ℕ)
  pub rest : Rest

-- the frame is one of the 64 of the area
abbrev pub is_of_area : (area_base frame : ℕ) → Bool
is_of_area area_base frame = not (nat_lt frame area_base) && nat_lt frame (area_base + 64)

-- the words beside the area
unfoldable pub beside : (area_base : ℕ) → WordMap → WordMap
beside area_base words frame word = if is_of_area area_base frame then None else words frame word

-- what is held where a view has these records and words, on a disk
abbrev pub held_by : {Self Rest : Type 0} → (Self → Records) → (Self → WordMap) → (Self → List (List ℕ)) → (Self → Rest) → Self → Held Rest
held_by records words disk rest s = record { records = records s; contents = beside (records s).map.area_base (words s); disk = disk s; rest = rest s }

-- one record is set
abbrev pub with_record : Records → RecordId → AnyRec → Records
with_record r id.Head (any.Head head) = record r { head = Some head }
with_record r (id.Proc slot) (any.Proc process) = record r { procs = updated r.procs slot (Some process) }
with_record r (id.Sig slot) (any.Sig signals) = record r { sigs = updated r.sigs slot (Some signals) }
with_record r (id.Desc index) (any.Desc description) = record r { descs = updated r.descs index (Some description) }
with_record r (id.File index) (any.File file) = record r { files = updated r.files index (Some file) }
with_record r (id.Cache index) (any.Cache entry) = record r { caches = updated r.caches index (Some entry) }
with_record r (id.Term tty) (any.Term terminal) = record r { terms = updated r.terms tty (Some terminal) }
with_record r (id.Row index) (any.Row row) = record r { rows = updated r.rows index (Some row) }
with_record r (id.Exit pid) (any.Exit exit) = record r { exits = updated r.exits pid (Some exit) }
with_record r other rec = r

-- the records of a patch are set
abbrev pub with_items : Records → List PatchItem → Records
with_items r [] = r
with_items r (item ∷ items) = with_items (with_record r item.id item.rec) items

-- what is held once a patch is committed
abbrev pub patched : {Rest : Type 0} → List PatchItem → Held Rest → Held Rest
patched items h = record h { records = with_items h.records items }

-- The words of a frame that pass a test are set, each to what is said for it. The frame is counted from the first of
-- the area: frame 10 names owners, of user frames in its first words and of cache entries from word 960 on; frames 16
-- to 63 are three tables for each slot; the words of the others are no records.
abbrev pub with_owner_words : Records → (hit : ℕ → Bool) → (value : ℕ → ℕ) → Records
with_owner_words r hit value = record r {
  owners = λ i. if nat_lt i r.map.user_frames && hit i then value i else r.owners i;
  cache_owners = λ i. if nat_lt i 64 && hit (960 + i) then value (960 + i) else r.cache_owners i;
}

abbrev pub with_table_words : Records → (frame : ℕ) → (hit : ℕ → Bool) → (value : ℕ → ℕ) → Records
with_table_words r frame hit value = record r {
  table_words = λ slot table word. if nat_lt table 3 && nat_lt word 1024 && 16 + 3 * slot + table == frame && hit word then value word else r.table_words slot table word;
}

abbrev pub with_area_words : Records → (frame : ℕ) → (hit : ℕ → Bool) → (value : ℕ → ℕ) → Records
with_area_words r frame hit value =
    if frame == 10 then with_owner_words r hit value else if nat_lt frame 16 then r else with_table_words r frame hit value

-- the same for any frame of memory
unfoldable pub with_words : {Rest : Type 0} → Held Rest → (frame : ℕ) → (hit : ℕ → Bool) → (value : ℕ → ℕ) → Held Rest
with_words h frame hit value =
    if is_of_area h.records.map.area_base frame
    then record h { records = with_area_words h.records (frame - h.records.map.area_base) hit value }
    else record h { contents = λ f w. if f == frame && nat_lt w 1024 && hit w then Some (value w) else h.contents f w }

-- one word is stored
abbrev pub stored : {Rest : Type 0} → Held Rest → (frame word value : ℕ) → Held Rest
stored h frame word value = with_words h frame (λ w. w == word) (λ w. value)

-- the first words of a frame, so many, become 0, or what they are in another frame
abbrev pub zeroed : {Rest : Type 0} → Held Rest → (frame count : ℕ) → Held Rest
zeroed h frame count = with_words h frame (λ w. nat_lt w count) (λ w. 0)

abbrev pub copied : {Rest : Type 0} → Held Rest → (from to count : ℕ) → Held Rest
copied h from to count = with_words h to (λ w. nat_lt w count) (λ w. word_or_zero (h.contents from w))

-- a word that may be stored by itself: it is there, and it is neither of a record nor of the intent block
abbrev pub is_direct : (area_base frame : ℕ) → Bool
is_direct area_base frame = not (is_of_area area_base frame && (nat_lt frame (area_base + 10) || frame == area_base + 11))

pub record IsDirect (r : Records) (words : WordMap) (frame word : ℕ) : Type 0 where
  pub within : word < 1024
  pub there : is_some (words frame word) ≡ true
  pub direct : is_direct r.map.area_base frame ≡ true

-- a whole frame of such words
pub record IsDirectFrame (r : Records) (words : WordMap) (frame : ℕ) : Type 0 where
  pub there : (word : ℕ) → word < 1024 → is_some (words frame word) ≡ true
  pub direct : is_direct r.map.area_base frame ≡ true

-- a frame beside the area
pub record IsBeside (r : Records) (words : WordMap) (frame : ℕ) : Type 0 where
  pub there : (word : ℕ) → word < 1024 → is_some (words frame word) ≡ true
  pub beside : is_of_area r.map.area_base frame ≡ false

-- the data sectors of the files in a patch are there
abbrev pub SectorsAre : (sectors : ℕ) → AnyRec → Type 0
SectorsAre sectors (any.File file) = All (λ sector. sector < sectors) (take file.kept file.sectors)
SectorsAre sectors other = Unit {0}

-- a patch that can be committed
pub record IsCommittable (r : Records) (items : List PatchItem) : Type 0 where
  pub patch : IsPatch items
  pub sectors : All (λ (item : PatchItem). SectorsAre r.map.sectors item.rec) items

-- where no store is made at the end none was made before, and all that is held is as it was
abbrev pub StaysUnstored : {Rest : Type 0} → (made_before made : ℕ) → (old new : Held Rest) → Type 0
StaysUnstored made_before made old new = made ≡ 0 → (made_before ≡ 0) × (new ≡ old)

-- so many words were set before a refusal
abbrev pub IsPartly : {Rest : Type 0} → (done : (count : ℕ) → Held Rest) → Held Rest → Type 0
IsPartly done new = (count : ℕ) × (count < 1024) × (new ≡ done count)
