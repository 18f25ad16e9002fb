-- Bytes that are put, one behind the other.
use Rattle.std.proofs.Common.{◌≡◌, ◌∙◌, ◌⊎◌, ◌==◌, ◌+◌, ◌<◌, ℕ, true, List, [], ◌∷◌, ◌++◌, length, take, get_or, Option, Some, None, is_some, inl, inr, refl, sym, ap, subst, append_assoc}
use Rattle.std.proofs.lemmas.Bool.{cases_Bool}
use Rattle.std.proofs.lemmas.List.{take_more}
use Rattle.ow_base.specs.Screen.{Screen, drawn, drawn_all}
use Rattle.record_layouts.specs.declared.term.TermRec.{TermRec}
use Rattle.record_layouts.specs.declared.patch.PatchItem.{PatchItem}
use Rattle.record_layouts.specs.Held.{Held, Records, patched, with_items}
use Rattle.tty_screen.specs.Drawing.{DrawsByte, IsCounted, StaysBeside}
use Rattle.tty_screen.specs.Shown.{ShowsScreen, TerminalDecodes}
use Rattle.ow_plant.specs.State.{PlantState, risen, store_refused, with_put, Device}
use Rattle.intent_store.specs.Live.{held_of, rest_of}
use Rattle.kernel_traps.specs.Putting.{AreCounted, AreDrawn, CountsBytes, IsPut, IsPutPartly, counted_after, last_of, puts_on, with_puts}

-- folds over bytes, in two parts
pub drawn_all-then : (screen : Screen) (xs ys : List ℕ) → drawn_all screen (xs ++ ys) ≡ drawn_all (drawn_all screen xs) ys
drawn_all-then screen [] ys = refl
drawn_all-then screen (x ∷ xs) ys = drawn_all-then (drawn screen x) xs ys

pub last_of-then : (last : ℕ) (xs ys : List ℕ) → last_of last (xs ++ ys) ≡ last_of (last_of last xs) ys
last_of-then last [] ys = refl
last_of-then last (x ∷ xs) ys = last_of-then x xs ys

counted_after-then : (written : ℕ) (xs ys : List ℕ) → counted_after written (xs ++ ys) ≡ counted_after (counted_after written xs) ys
counted_after-then written [] ys = refl
counted_after-then written (x ∷ xs) ys = counted_after-then (risen written) xs ys

append-none : (xs : List ℕ) → xs ++ [] ≡ xs
append-none [] = refl
append-none (x ∷ xs) = ap (λ (ys : List ℕ). x ∷ ys) (append-none xs)

-- what a record counts, in two parts
counts_then : (xs ys : List ℕ) (a b c : TermRec) → CountsBytes xs a b → CountsBytes ys b c → CountsBytes (xs ++ ys) a c
counts_then xs ys a b c first then = record {
  written = then.written ∙ ap (λ n. counted_after n ys) first.written ∙ sym (counted_after-then a.written xs ys);
  last = then.last ∙ ap (λ n. last_of n ys) first.last ∙ sym (last_of-then a.last xs ys);
  consumed = then.consumed ∙ first.consumed;
  base = then.base ∙ first.base;
  tty = then.tty ∙ first.tty;
}

counted_then : (xs ys : List ℕ) (a b c : Option TermRec) → AreCounted xs a b → AreCounted ys b c → AreCounted (xs ++ ys) a c
counted_then xs ys (Some a) (Some b) (Some c) first then = counts_then xs ys a b c first then
counted_then xs ys (Some a) (Some b) None first then = absurd then
counted_then xs ys (Some a) None c first then = absurd first
counted_then xs ys None b c first then = absurd first

counted_none : (held : Option TermRec) → is_some held ≡ true → AreCounted [] held held
counted_none (Some terminal) there = record { written = refl; last = refl; consumed = refl; base = refl; tty = refl }
counted_none None there = cc

counted_one : (a b : Option TermRec) (byte : ℕ) → IsCounted a b byte → AreCounted (byte ∷ []) a b
counted_one (Some a) (Some b) byte is = record { written = is.written; last = is.last; consumed = is.consumed; base = is.base; tty = is.tty }
counted_one (Some a) None byte is = absurd is
counted_one None b byte is = absurd is

-- records beside the terminal's stay through two changes
beside_then : (tty : ℕ) (a b c : Records) → StaysBeside tty a b → StaysBeside tty b c → StaysBeside tty a c
beside_then tty a b c first then = record {
  rest = then.rest ∙ ap (λ (r : Records). record r { terms = c.terms; rows = c.rows }) first.rest;
  terms = λ other apart. then.terms other apart ∙ first.terms other apart;
  rows = λ index outside. then.rows index outside ∙ first.rows index outside;
}

pub drawn_then : (tty : ℕ) (xs ys : List ℕ) (a b c : Records) → AreDrawn tty xs a b → AreDrawn tty ys b c → AreDrawn tty (xs ++ ys) a c
drawn_then tty xs ys a b c first then = record {
  beside = beside_then tty a b c first.beside then.beside;
  counted = counted_then xs ys (a.terms tty) (b.terms tty) (c.terms tty) first.counted then.counted;
  shows = λ screen shown. subst (λ (s : Screen). ShowsScreen c tty s) (sym (drawn_all-then screen xs ys)) (then.shows (drawn_all screen xs) (first.shows screen shown));
  decodes = then.decodes;
}

pub drawn_none : (tty : ℕ) (r : Records) → TerminalDecodes r tty → AreDrawn tty [] r r
drawn_none tty r there = record {
  beside = record { rest = refl; terms = λ other apart. refl; rows = λ index outside. refl };
  counted = counted_none (r.terms tty) there.terminal;
  shows = λ screen shown. shown;
  decodes = there;
}

-- the device, in two parts
puts_then : (t : Device) (xs ys : List ℕ) → puts_on (puts_on t xs) ys ≡ puts_on t (xs ++ ys)
puts_then t xs ys = λ i. record t { tape = append_assoc t.tape xs ys i; display = sym (drawn_all-then t.display xs ys) i }

puts_none : (t : Device) → puts_on t [] ≡ t
puts_none t = λ i. record t { tape = append-none t.tape i }

with_puts-then : (s : PlantState) (tty : ℕ) (xs ys : List ℕ) → with_puts (with_puts s tty xs) tty ys ≡ with_puts s tty (xs ++ ys)
with_puts-then s tty xs ys = elim (cases_Bool (tty == 0)) [
  | inl first ↦ rw first (λ i. record s { tty0 = puts_then s.tty0 xs ys i })
  | inr second ↦ rw second (λ i. record s { tty1 = puts_then s.tty1 xs ys i })
]

with_puts-none : (s : PlantState) (tty : ℕ) → with_puts s tty [] ≡ s
with_puts-none s tty = elim (cases_Bool (tty == 0)) [
  | inl first ↦ rw first (λ i. record s { tty0 = puts_none s.tty0 i })
  | inr second ↦ rw second (λ i. record s { tty1 = puts_none s.tty1 i })
]

-- bytes that are put change no more of a plant than its terminals
pub puts_beside : (s : PlantState) (tty : ℕ) (bytes : List ℕ)
    → with_puts s tty bytes ≡ record s { tty0 = (with_puts s tty bytes).tty0; tty1 = (with_puts s tty bytes).tty1 }
puts_beside s tty bytes = elim (cases_Bool (tty == 0)) [ inl first ↦ rw first refl | inr second ↦ rw second refl ]

-- what is held of a plant with a byte put, and of one that refuses
pub held_put : (s : PlantState) (tty byte : ℕ) → held_of (with_put s tty byte) ≡ record (held_of s) { rest = with_puts (rest_of s) tty (byte ∷ []) }
held_put s tty byte = elim (cases_Bool (tty == 0)) [ inl first ↦ rw first refl | inr second ↦ rw second refl ]

pub held_refused : (s : PlantState) → held_of (store_refused s) ≡ held_of s
held_refused s = refl

-- nothing is put
pub put_none : (h : Held PlantState) (tty : ℕ) → TerminalDecodes h.records tty → IsPut h tty [] [] h
put_none h tty there = record {
  drawn = drawn_none tty h.records there;
  rest = ap (λ (s : PlantState). record h { rest = s }) (sym (with_puts-none h.rest tty));
}

-- a patch that draws a byte counts it
pub put_counted : (h : Held PlantState) (tty byte : ℕ) (items : List PatchItem)
    → DrawsByte h.records tty byte items → IsCounted (h.records.terms tty) ((with_items h.records items).terms tty) byte
    → StaysBeside tty h.records (with_items h.records items) → TerminalDecodes (with_items h.records items) tty
    → IsPut h tty (byte ∷ []) [] (patched items h)
put_counted h tty byte items draws counts beside there = record {
  drawn = record { beside = beside; counted = counted_one _ _ byte counts; shows = draws; decodes = there };
  rest = ap (λ (s : PlantState). record (patched items h) { rest = s }) (sym (with_puts-none h.rest tty));
}

-- bytes behind bytes
pub put_then : (h m n : Held PlantState) (tty : ℕ) (xs ys zs ws : List ℕ) → IsPut h tty xs ys m → IsPut m tty zs ws n → IsPut h tty (xs ++ zs) (ys ++ ws) n
put_then h m n tty xs ys zs ws first then = record {
  drawn = drawn_then tty xs zs h.records m.records n.records first.drawn then.drawn;
  rest = then.rest
      ∙ ap (λ (k : Held PlantState). record k { records = n.records; rest = with_puts k.rest tty ws }) first.rest
      ∙ ap (λ (s : PlantState). record h { records = n.records; rest = s }) (with_puts-then h.rest tty ys ws);
}

-- a byte goes out that the record counts already
pub put_out : (h m n : Held PlantState) (tty byte : ℕ) → IsPut h tty (byte ∷ []) [] m → n ≡ record m { rest = with_puts m.rest tty (byte ∷ []) }
    → IsPut h tty (byte ∷ []) (byte ∷ []) n
put_out h m n tty byte counted is = subst (λ (k : Held PlantState). IsPut h tty (byte ∷ []) (byte ∷ []) k) (sym is) (record {
  drawn = counted.drawn;
  rest = ap (λ (k : Held PlantState). record k { rest = with_puts k.rest tty (byte ∷ []) }) counted.rest
      ∙ ap (λ (s : PlantState). record h { records = m.records; rest = s }) (with_puts-then h.rest tty [] (byte ∷ []));
})

-- a refusal at one of the bytes
pub put_partly : (h m n : Held PlantState) (tty : ℕ) (bytes : List ℕ) (i : ℕ) → i < length bytes → IsPut h tty (take i bytes) (take i bytes) m
    → (n ≡ m) ⊎ IsPut m tty (get_or bytes i 0 ∷ []) [] n → IsPutPartly h tty bytes n
put_partly h m n tty bytes i within put (inl same) = (i, within, inl (subst (λ (k : Held PlantState). IsPut h tty (take i bytes) (take i bytes) k) (sym same) put))
put_partly h m n tty bytes i within put (inr counted) =
    let both = put_then h m n tty (take i bytes) (take i bytes) (get_or bytes i 0 ∷ []) [] put counted in
    let more = subst (λ (ys : List ℕ). IsPut h tty ys (take i bytes ++ []) n) (sym (take_more bytes i 0 within)) both in
    (i, within, inr (subst (λ (ys : List ℕ). IsPut h tty (take (i + 1) bytes) ys n) (append-none (take i bytes)) more))
