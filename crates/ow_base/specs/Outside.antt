-- The world outside: bytes that come in, bytes that go out, and faults.
use Rattle.std.specs.Prelude.{◌≡◌, ℕ, ◌-◌, ◌^◌, ◌<◌, ◌≤◌, ◌+◌, ◌⊎◌, List, [], ◌++◌, length, take, drop, Option, Some, None, Result, Ok, Err}

-- a count of faults rose; at its last value it counts as having risen
abbrev pub Rose : (old new : ℕ) → Type 0
Rose old new = (old < new) ⊎ (new ≡ 2 ^ 64 - 1)

-- what was written, where that is told, and then this
abbrev pub appended : Option (List ℕ) → List ℕ → Option (List ℕ)
appended (Some bytes) more = Some (bytes ++ more)
appended None more = None

-- a front of the text was written, and no more
abbrev pub IsFront : (text : List ℕ) → (old new : Option (List ℕ)) → Type 0
IsFront text old new = (k : ℕ) × (k ≤ length text) × (new ≡ appended old (take k text))

-- a call that writes a text: at Ok it is written, and else a front of it
abbrev pub Writes : {T E : Type 0} → Result T E → (text : List ℕ) → (old new : Option (List ℕ)) → Type 0
Writes (Ok x) text old new = new ≡ appended old text
Writes (Err e) text old new = IsFront text old new

-- where the bytes that are left are told, these are the next ones, and the others are left
abbrev pub Takes : (old new : Option (List ℕ)) → (bytes : List ℕ) → Type 0
Takes (Some old) new bytes = (rest : List ℕ) × (old ≡ bytes ++ rest) × (new ≡ Some rest)
Takes None new bytes = Unit {0}

-- a fact about the bytes that are left, where they are told
abbrev pub OnTold : Option (List ℕ) → (List ℕ → Type 0) → Type 0
OnTold (Some bytes) P = P bytes
OnTold None P = Unit {0}

-- where the bytes that are left are told, these are all of them, and none is left
abbrev pub TakesAll : (old new : Option (List ℕ)) → (bytes : List ℕ) → Type 0
TakesAll old new bytes = OnTold old (λ left. (bytes ≡ left) × (new ≡ Some []))

-- where the bytes that are left are told, they are more than the limit, and one more than the limit is taken
abbrev pub TakesOver : (limit : ℕ) → (old new : Option (List ℕ)) → Type 0
TakesOver limit old new = OnTold old (λ left. (limit < length left) × (new ≡ Some (drop (limit + 1) left)))
