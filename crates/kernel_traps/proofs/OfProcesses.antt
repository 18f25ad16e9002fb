-- A patch of processes changes no description, no terminal and no row, and does not read them.
use Rattle.std.proofs.Common.{◌≡◌, ℕ, suc, true, List, [], ◌∷◌, Option, refl, ap, ◌∙◌, arith}
use Rattle.record_layouts.specs.declared.term.TermRec.{TermRec}
use Rattle.record_layouts.specs.declared.row.RowRec.{RowRec}
use Rattle.record_layouts.specs.declared.places.RecordId.{RecordId}
use Rattle.record_layouts.specs.declared.places.RecordId.TheVariants as id
use Rattle.record_layouts.specs.declared.patch.AnyRec.{AnyRec}
use Rattle.record_layouts.specs.declared.patch.AnyRec.TheVariants as any
use Rattle.record_layouts.specs.declared.patch.PatchItem.{PatchItem}
use Rattle.record_layouts.specs.Held.{Records, with_items, with_record}
use Rattle.kernel_traps.specs.Carrying.{AreOfProcesses, is_of_process}

-- records with other terminals and rows
abbrev pub shown_by : Records → (terms : ℕ → Option TermRec) → (rows : ℕ → Option RowRec) → Records
shown_by r terms rows = record r { terms = terms; rows = rows }

-- the record is set beside terminals and rows
record_beside : (r : Records) (terms : ℕ → Option TermRec) (rows : ℕ → Option RowRec) (which : RecordId) (rec : AnyRec) → is_of_process rec ≡ true
    → with_record (shown_by r terms rows) which rec ≡ shown_by (with_record r which rec) terms rows
record_beside r terms rows id.Head (any.Head rec) of = refl
record_beside r terms rows (id.Proc place) (any.Proc rec) of = refl
record_beside r terms rows (id.Sig place) (any.Sig rec) of = refl
record_beside r terms rows (id.Exit place) (any.Exit rec) of = refl
record_beside r terms rows (id.Desc place) (any.Desc rec) of = absurd (cc of)
record_beside r terms rows (id.File place) (any.File rec) of = absurd (cc of)
record_beside r terms rows (id.Cache place) (any.Cache rec) of = absurd (cc of)
record_beside r terms rows (id.Term place) (any.Term rec) of = absurd (cc of)
record_beside r terms rows (id.Row place) (any.Row rec) of = absurd (cc of)
record_beside r terms rows which rec of = refl

descs_stay : (r : Records) (which : RecordId) (rec : AnyRec) → is_of_process rec ≡ true → (with_record r which rec).descs ≡ r.descs
descs_stay r id.Head (any.Head rec) of = refl
descs_stay r (id.Proc place) (any.Proc rec) of = refl
descs_stay r (id.Sig place) (any.Sig rec) of = refl
descs_stay r (id.Exit place) (any.Exit rec) of = refl
descs_stay r (id.Desc place) (any.Desc rec) of = absurd (cc of)
descs_stay r (id.File place) (any.File rec) of = refl
descs_stay r (id.Cache place) (any.Cache rec) of = refl
descs_stay r (id.Term place) (any.Term rec) of = refl
descs_stay r (id.Row place) (any.Row rec) of = refl
descs_stay r which rec of = refl

-- so are the records of a patch
pub items_beside : (r : Records) (terms : ℕ → Option TermRec) (rows : ℕ → Option RowRec) (items : List PatchItem) → AreOfProcesses items
    → with_items (shown_by r terms rows) items ≡ shown_by (with_items r items) terms rows
items_beside r terms rows [] of = refl
items_beside r terms rows (item ∷ items) of =
    ap (λ (q : Records). with_items q items) (record_beside r terms rows item.id item.rec (of 0 item (omega arith)))
    ∙ items_beside (with_record r item.id item.rec) terms rows items (λ k d small. of (suc k) d (omega arith))

pub same_descs : (r : Records) (items : List PatchItem) → AreOfProcesses items → (with_items r items).descs ≡ r.descs
same_descs r [] of = refl
same_descs r (item ∷ items) of =
    same_descs (with_record r item.id item.rec) items (λ k d small. of (suc k) d (omega arith)) ∙ descs_stay r item.id item.rec (of 0 item (omega arith))

pub same_terms : (r : Records) (items : List PatchItem) → AreOfProcesses items → (with_items r items).terms ≡ r.terms
same_terms r items of = ap (λ (q : Records). q.terms) (items_beside r r.terms r.rows items of)

pub same_rows : (r : Records) (items : List PatchItem) → AreOfProcesses items → (with_items r items).rows ≡ r.rows
same_rows r items of = ap (λ (q : Records). q.rows) (items_beside r r.terms r.rows items of)
