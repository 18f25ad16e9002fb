-- Records by their ids: what one set leaves of the others, and what it keeps of all.
use Rattle.std.proofs.Common.{◌≡◌, ℕ, Bool, true, false, if◌then◌else◌, List, [], ◌∷◌, All, Option, Some, None, is_some, IfSome, refl, sym, ap, ◌∙◌, subst, arith, inl, inr}
use Rattle.std.proofs.lemmas.Grind.{common_steps}
use Rattle.std.proofs.lemmas.Bool.{cases_Bool}
use Rattle.std.proofs.lemmas.Bool.Decides.{nat_tests}
use Rattle.std.proofs.lemmas.List.Elements.{All-head, All-tail}
use Rattle.std.specs.Bool.{Decides}
use Rattle.record_layouts.specs.declared.places.RecordId.{RecordId}
use Rattle.record_layouts.specs.declared.places.RecordId.TheVariants as id
use Rattle.record_layouts.specs.declared.patch.AnyRec.{AnyRec}
use Rattle.record_layouts.specs.declared.patch.AnyRec.TheVariants as any
use Rattle.record_layouts.specs.declared.patch.PatchItem.{PatchItem}
use Rattle.record_layouts.specs.Places.{IsRecordId, is_id}
use Rattle.record_layouts.specs.Patch.{FitsAny, IsOfKind, IsPatchItem}
use Rattle.record_layouts.specs.Held.{AreComplete, AreValues, Records, with_items, with_owner_words, with_record, with_table_words}
use Rattle.record_layouts.specs.At.{Fits, RecOf, as_any, at, fitted, is_same, read_as}
use Rattle.record_layouts.specs.declared.memory_map.MemoryMap.{MemoryMap}
use Rattle.record_layouts.specs.Overlay.{Area}
use Rattle.record_layouts.specs.Reading.{is_read, records_in, words_of}
use Rattle.record_layouts.specs.Values.{at_read}

pub same_where : {A : Type 0} (nothing : A) (test : Bool) (some other : A) → (test ≡ true → some ≡ other)
    → (if test then some else nothing) ≡ (if test then other else nothing)
same_where nothing true some other same = same refl
same_where nothing false some other same = refl

pub is_id-decides : (one : RecordId) → Decides (is_id one) (IsRecordId one)
is_id-decides one = grind (arith, common_steps, nat_tests)

is_there : (is_readable : Bool) (one : RecordId) → is_read is_readable one ≡ true → IsRecordId one
is_there is_readable one holds = grind (arith, common_steps, nat_tests)

pub is_same-decides : (one other : RecordId) → Decides (is_same one other) (one ≡ other)
is_same-decides one other = grind (arith, common_steps, nat_tests)

pub at_with : (r : Records) (one : RecordId) (rec : AnyRec) (other : RecordId) → IsOfKind one rec
    → at (with_record r one rec) other ≡ (if is_same other one then fitted other rec else at r other)
at_with r id.Head (any.Head head) id.Head kind = refl
at_with r id.Head (any.Head head) other kind = refl
at_with r (id.Proc slot) (any.Proc process) (id.Proc other) kind = refl
at_with r (id.Proc slot) (any.Proc process) other kind = refl
at_with r (id.Sig slot) (any.Sig signals) (id.Sig other) kind = refl
at_with r (id.Sig slot) (any.Sig signals) other kind = refl
at_with r (id.Desc index) (any.Desc description) (id.Desc other) kind = refl
at_with r (id.Desc index) (any.Desc description) other kind = refl
at_with r (id.File index) (any.File file) (id.File other) kind = refl
at_with r (id.File index) (any.File file) other kind = refl
at_with r (id.Cache index) (any.Cache entry) (id.Cache other) kind = refl
at_with r (id.Cache index) (any.Cache entry) other kind = refl
at_with r (id.Term tty) (any.Term terminal) (id.Term other) kind = refl
at_with r (id.Term tty) (any.Term terminal) other kind = refl
at_with r (id.Row index) (any.Row row) (id.Row other) kind = refl
at_with r (id.Row index) (any.Row row) other kind = refl
at_with r (id.Exit pid) (any.Exit exit) (id.Exit other) kind = refl
at_with r (id.Exit pid) (any.Exit exit) other kind = refl
at_with r one rec other kind = absurd kind

-- two are the same where each record of them is, and what is no record
pub same_records : (r s : Records) → r.map ≡ s.map → ((one : RecordId) → at r one ≡ at s one)
    → ((i : ℕ) → r.owners i ≡ s.owners i) → ((i : ℕ) → r.cache_owners i ≡ s.cache_owners i)
    → ((slot table word : ℕ) → r.table_words slot table word ≡ s.table_words slot table word) → r ≡ s
same_records r s map each owners cache_owners table_words = λ j. record {
  map = map j;
  head = each id.Head j;
  procs = λ slot. each (id.Proc slot) j;
  sigs = λ slot. each (id.Sig slot) j;
  descs = λ index. each (id.Desc index) j;
  files = λ index. each (id.File index) j;
  caches = λ index. each (id.Cache index) j;
  terms = λ tty. each (id.Term tty) j;
  rows = λ index. each (id.Row index) j;
  exits = λ pid. each (id.Exit pid) j;
  owners = λ i. owners i j;
  cache_owners = λ i. cache_owners i j;
  table_words = λ slot table word. table_words slot table word j;
}

-- the records of two areas that have the same words there
pub same_each : (map : MemoryMap) (is_readable : Bool) (some other : Area)
    → ((one : RecordId) → IsRecordId one → words_of some one ≡ words_of other one)
    → (one : RecordId) → at (records_in map is_readable some) one ≡ at (records_in map is_readable other) one
same_each map is_readable some other same one =
    at_read map is_readable some one
    ∙ same_where None (is_read is_readable one) _ _ (λ holds. ap (read_as map.sectors one) (same one (is_there is_readable one holds)))
    ∙ sym (at_read map is_readable other one)

-- words that are no record's are set
pub at_owner_words : (r : Records) (hit : ℕ → Bool) (value : ℕ → ℕ) (one : RecordId) → at (with_owner_words r hit value) one ≡ at r one
at_owner_words r hit value one = grind (arith, common_steps)

pub at_table_words : (r : Records) (frame : ℕ) (hit : ℕ → Bool) (value : ℕ → ℕ) (one : RecordId)
    → at (with_table_words r frame hit value) one ≡ at r one
at_table_words r frame hit value one = grind (arith, common_steps)

-- a set leaves what is no record
pub map_with : (r : Records) (one : RecordId) (rec : AnyRec) → (with_record r one rec).map ≡ r.map
map_with r one rec = grind (arith, common_steps)

pub owners_with : (r : Records) (one : RecordId) (rec : AnyRec) (i : ℕ) → (with_record r one rec).owners i ≡ r.owners i
owners_with r one rec i = grind (arith, common_steps)

pub cache_owners_with : (r : Records) (one : RecordId) (rec : AnyRec) (i : ℕ)
    → (with_record r one rec).cache_owners i ≡ r.cache_owners i
cache_owners_with r one rec i = grind (arith, common_steps)

pub table_words_with : (r : Records) (one : RecordId) (rec : AnyRec) (slot table word : ℕ)
    → (with_record r one rec).table_words slot table word ≡ r.table_words slot table word
table_words_with r one rec slot table word = grind (arith, common_steps)

-- What holds of each record of some and of the one that is set, holds of each record then.
pub set_keeps : (Fact : (one : RecordId) → Option (RecOf one) → Type 0) (r : Records) (one : RecordId) (rec : AnyRec)
    → IsOfKind one rec → Fact one (fitted one rec) → ((other : RecordId) → Fact other (at r other))
    → (other : RecordId) → Fact other (at (with_record r one rec) other)
set_keeps Fact r one rec kind here each other = rw (at_with r one rec other kind) (elim (cases_Bool (is_same other one)) [
  | inl same ↦ rw same (subst (λ (q : RecordId). Fact q (fitted q rec)) (sym ((is_same-decides other one).0 same)) here)
  | inr differs ↦ rw differs (each other)
])

-- a record of the right kind is one
fitted_is : (one : RecordId) (rec : AnyRec) → IsOfKind one rec
    → (value : RecOf one) × (fitted one rec ≡ Some value) × (rec ≡ as_any one value)
fitted_is id.Head (any.Head head) kind = (head, refl, refl)
fitted_is (id.Proc slot) (any.Proc process) kind = (process, refl, refl)
fitted_is (id.Sig slot) (any.Sig signals) kind = (signals, refl, refl)
fitted_is (id.Desc index) (any.Desc description) kind = (description, refl, refl)
fitted_is (id.File index) (any.File file) kind = (file, refl, refl)
fitted_is (id.Cache index) (any.Cache entry) kind = (entry, refl, refl)
fitted_is (id.Term tty) (any.Term terminal) kind = (terminal, refl, refl)
fitted_is (id.Row index) (any.Row row) kind = (row, refl, refl)
fitted_is (id.Exit pid) (any.Exit exit) kind = (exit, refl, refl)
fitted_is one rec kind = absurd kind

pub values_with : (r : Records) (one : RecordId) (rec : AnyRec) → AreValues r → IsOfKind one rec → FitsAny rec
    → AreValues (with_record r one rec)
values_with r one rec values kind fits =
    let is = fitted_is one rec kind in
    set_keeps (λ one held. IfSome held (Fits one)) r one rec kind (rw is.1 (subst FitsAny is.2 fits)) values

pub complete_with : (r : Records) (one : RecordId) (rec : AnyRec) → AreComplete r → IsOfKind one rec
    → AreComplete (with_record r one rec)
complete_with r one rec complete kind =
    let is = fitted_is one rec kind in
    set_keeps (λ one held. IsRecordId one → is_some held ≡ true) r one rec kind (λ there. rw is.1 refl) complete

pub values_items : (r : Records) (items : List PatchItem) → AreValues r → All IsPatchItem items
    → AreValues (with_items r items)
values_items r [] values each = values
values_items r (item ∷ items) values each =
    let is = All-head IsPatchItem item items each in
    values_items (with_record r item.id item.rec) items (values_with r item.id item.rec values is.kind is.fits)
    (All-tail IsPatchItem item items each)

pub complete_items : (r : Records) (items : List PatchItem) → AreComplete r → All IsPatchItem items
    → AreComplete (with_items r items)
complete_items r [] complete each = complete
complete_items r (item ∷ items) complete each =
    let is = All-head IsPatchItem item items each in
    complete_items (with_record r item.id item.rec) items (complete_with r item.id item.rec complete is.kind)
    (All-tail IsPatchItem item items each)
