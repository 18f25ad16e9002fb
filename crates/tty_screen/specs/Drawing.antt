-- What a patch does that draws a byte on a terminal.
use Rattle.std.specs.Prelude.{◌≡◌, ◌≢◌, ℕ, ◌+◌, ◌-◌, ◌*◌, ◌^◌, ◌<◌, ◌≤◌, min, nat_le, Bool, ◌&&◌, List, [], ◌∷◌, Option, Some}
use Rattle.ow_base.specs.Screen.{Screen, drawn}
use Rattle.record_layouts.specs.declared.term.TermRec.{TermRec}
use Rattle.record_layouts.specs.declared.places.RecordId.{RecordId}
use Rattle.record_layouts.specs.declared.places.RecordId.TheVariants as id
use Rattle.record_layouts.specs.declared.patch.AnyRec.{AnyRec}
use Rattle.record_layouts.specs.declared.patch.AnyRec.TheVariants as any
use Rattle.record_layouts.specs.declared.patch.PatchItem.{PatchItem}
use Rattle.record_layouts.specs.Held.{Records, with_items}
use Rattle.tty_screen.specs.Shown.{ShowsScreen}

-- a byte more is drawn on whatever screen the records show
abbrev pub DrawsByte : Records → (tty byte : ℕ) → List PatchItem → Type 0
DrawsByte records tty byte items = (screen : Screen)
    → ShowsScreen records tty screen → ShowsScreen (with_items records items) tty (drawn screen byte)

-- patches that are set one after the other
abbrev pub with_patches : Records → List (List PatchItem) → Records
with_patches records [] = records
with_patches records (items ∷ patches) = with_patches (with_items records items) patches

-- each patch draws its byte, on the records that those before it leave
abbrev pub DrawsAll : Records → (tty : ℕ) → (bytes : List ℕ) → List (List PatchItem) → Type 0
DrawsAll records tty [] [] = Unit {0}
DrawsAll records tty (byte ∷ bytes) (items ∷ patches) =
    DrawsByte records tty byte items × DrawsAll (with_items records items) tty bytes patches
DrawsAll records tty bytes patches = ⊥

-- the byte is seen on the display
abbrev pub is_seen : (byte : ℕ) → Bool
is_seen byte = nat_le 32 byte && nat_le byte 126

-- the terminal's record knows of a byte more, the last one; the count stands still at its last value
pub record CountsByte (before after : TermRec) (byte : ℕ) : Type 0 where
  pub written : after.written ≡ min (before.written + 1) (2 ^ 32 - 1)
  pub last : after.last ≡ byte
  pub consumed : after.consumed ≡ before.consumed
  pub base : after.base ≡ before.base
  pub tty : after.tty ≡ before.tty

-- the same of records that decode
abbrev pub IsCounted : (before after : Option TermRec) → (byte : ℕ) → Type 0
IsCounted (Some before) (Some after) byte = CountsByte before after byte
IsCounted before after byte = ⊥

-- the row record is one of the terminal's
abbrev pub IsRowOf : (tty index : ℕ) → Type 0
IsRowOf tty index = (24 * tty ≤ index) × (index < 24 * tty + 24)

-- the record is the terminal's own or one of its rows
abbrev pub IsOfTerminal : (tty : ℕ) → RecordId → Type 0
IsOfTerminal tty (id.Term number) = number ≡ tty
IsOfTerminal tty (id.Row index) = IsRowOf tty index
IsOfTerminal tty other = ⊥

-- a row record has its own number
abbrev pub HasItsPlace : RecordId → AnyRec → Type 0
HasItsPlace (id.Row index) (any.Row row) = row.place ≡ index
HasItsPlace other rec = Unit {0}

-- no record changes but the terminal's own and its rows
pub record StaysBeside (tty : ℕ) (old new : Records) : Type 0 where
  pub rest : new ≡ record old { terms = new.terms; rows = new.rows }
  pub terms : (other : ℕ) → other ≢ tty → new.terms other ≡ old.terms other
  pub rows : (index : ℕ) → (IsRowOf tty index → ⊥) → new.rows index ≡ old.rows index
