-- Memory whose words are stored one by one.
use Rattle.std.specs.Prelude.{◌≡◌, ℕ, ◌<◌, Bool, nat_lt, ◌==◌, ◌&&◌, if◌then◌else◌, Some}
use Rattle.ow_base.specs.Sv32.{WordMap}

-- one word of a frame is set
unfoldable pub with_word_at : WordMap → (frame word value : ℕ) → WordMap
with_word_at words frame word value f w = if f == frame && w == word then Some value else words f w

-- the words of a frame that pass a test are set, each to what is said for it
unfoldable pub with_frame : WordMap → (frame : ℕ) → (hit : ℕ → Bool) → (value : ℕ → ℕ) → WordMap
with_frame words frame hit value f w = if f == frame && nat_lt w 1024 && hit w then Some (value w) else words f w

-- the first words of a frame, so many, are set
abbrev pub with_first : WordMap → (frame count : ℕ) → (value : ℕ → ℕ) → WordMap
with_first words frame count value = with_frame words frame (λ w. nat_lt w count) value

-- so many words of a frame were set before a refusal
abbrev pub IsBegun : WordMap → (frame : ℕ) → (value : ℕ → ℕ) → WordMap → Type 0
IsBegun old frame value new = (count : ℕ) × (count < 1024) × (new ≡ with_first old frame count value)

-- where no store is made at the end none was made before, and the words are as they were
abbrev pub KeepsUnstored : (made_before made : ℕ) → (old new : WordMap) → Type 0
KeepsUnstored made_before made old new = made ≡ 0 → (made_before ≡ 0) × (new ≡ old)
