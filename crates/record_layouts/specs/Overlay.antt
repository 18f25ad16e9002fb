-- The intent block of an area, and the area with a valid open intent laid over it.
--
-- The words of an area are numbered through its frames: word w of frame f has the number 1024 * f + w.
use Rattle.std.specs.Prelude.{◌≡◌, ℕ, zero, suc, ◌+◌, ◌-◌, ◌*◌, ◌/◌, ◌%◌, ◌^◌, ◌<◌, ◌≤◌, Bool, true, nat_lt, not, ◌==◌, ◌&&◌, ◌||◌, if◌then◌else◌, List, [], ◌∷◌, ◌++◌, length, take, drop, slice_index, Option, Some, None, is_some, All}
use Rattle.ow_base.specs.Sv32.{WordMap}
use Rattle.ow_base.specs.Seals.{seal_from}
use Rattle.record_layouts.specs.declared.intent.Change.{Change}
use Rattle.record_layouts.specs.declared.intent.Gate.{Gate}
use Rattle.record_layouts.specs.declared.intent.Gate.TheVariants.{Closed, Open, Broken}

-- memory has the 64 frames of an area, the first of which has this number
pub record HasArea (words : WordMap) (base : ℕ) : Type 0 where
  pub numbered : base + 64 ≤ 2 ^ 32
  pub there : (frame word : ℕ) → frame < 64 → word < 1024 → is_some (words (base + frame) word) ≡ true

-- the words of an area, by number
abbrev pub Area : Type 0
Area = ℕ → ℕ

abbrev pub or_zero : Option ℕ → ℕ
or_zero (Some word) = word
or_zero None = 0

-- the area that begins at this frame
abbrev pub area_at : WordMap → (base : ℕ) → Area
area_at words base number = or_zero (words (base + number / 1024) (number % 1024))

-- so many words from a number on
unfoldable pub words_from : Area → (first count : ℕ) → List ℕ
words_from area first zero = []
words_from area first (suc count) = area first ∷ words_from area (first + 1) count

-- what an intent makes of words that lie one behind the other, the first of them by its frame and its place in it
pub record WordRange : Type 0 where
  pub frame : ℕ
  pub first : ℕ
  pub words : List ℕ

abbrev pub begin_of : WordRange → ℕ
begin_of range = 1024 * range.frame + range.first

abbrev pub end_of : WordRange → ℕ
end_of range = begin_of range + length range.words

-- the number is one from `low` on up to `high`
abbrev pub lies_in : (low high number : ℕ) → Bool
lies_in low high number = not (nat_lt number low) && nat_lt number high

abbrev pub is_within : (low high begin end : ℕ) → Bool
is_within low high begin end = lies_in low high begin && not (nat_lt high end)

-- the words from `begin` up to `end` may change by an intent: they are of the head, of frames 1 to 9 or of frame 11
abbrev pub may_change : (begin end : ℕ) → Bool
may_change begin end = is_within 0 16 begin end || is_within 1024 10240 begin end || is_within 11264 12288 begin end

-- a range of an intent: it begins at a word of its frame, and all its words may change
pub record IsAllowed (range : WordRange) : Type 0 where
  pub placed : range.first < 1024
  pub changes : may_change (begin_of range) (end_of range) ≡ true

-- the payload that spells ranges: of each its frame, its first word, how many words there are, and these
unfoldable pub payload_of : List WordRange → List ℕ
payload_of [] = []
payload_of (range ∷ ranges) = range.frame ∷ range.first ∷ length range.words ∷ (range.words ++ payload_of ranges)

-- the first three words of a range and what is left behind them go together
abbrev pub is_range : (frame first count left : ℕ) → Bool
is_range frame first count left =
    nat_lt first 1024 && not (nat_lt left count) && may_change (1024 * frame + first) (1024 * frame + first + count)

abbrev pub before : WordRange → Option (List WordRange) → Option (List WordRange)
before range (Some ranges) = Some (range ∷ ranges)
before range None = None

-- the ranges that a payload spells, of at most so many
unfoldable pub ranges_of : (most : ℕ) → (payload : List ℕ) → Option (List WordRange)
ranges_of most [] = Some []
ranges_of zero (word ∷ words) = None
ranges_of (suc most) (frame ∷ []) = None
ranges_of (suc most) (frame ∷ first ∷ []) = None
ranges_of (suc most) (frame ∷ first ∷ count ∷ words) =
    if is_range frame first count (length words)
    then before (record { frame = frame; first = first; words = take count words }) (ranges_of most (drop count words))
    else None

-- the ranges that a payload spells, where it is a list of ranges
unfoldable pub ranges_in : (payload : List ℕ) → Option (List WordRange)
ranges_in payload = ranges_of (length payload) payload

-- the words of the block: the gate tells how many words of the payload behind it count, and the last one is the seal
abbrev pub gate_word : ℕ
gate_word = 16

abbrev pub payload_word : ℕ
payload_word = 17

abbrev pub most_payload : ℕ
most_payload = 1006

abbrev pub seal_word : ℕ
seal_word = 1023

-- the word with which the seal of an intent begins
abbrev pub intent_kind : ℕ
intent_kind = 0x494e5445

-- the seal that belongs to the words from the gate up to this one
unfoldable pub intent_seal : Area → (end : ℕ) → ℕ
intent_seal area end = seal_from intent_kind (words_from area gate_word (end - gate_word))

abbrev pub is_sealed_intent : Area → Bool
is_sealed_intent area =
    nat_lt 0 (area gate_word) && not (nat_lt most_payload (area gate_word)) && area seal_word == intent_seal area (payload_word + area gate_word)

-- the ranges of the open intent, where it is valid
unfoldable pub open_ranges : Area → Option (List WordRange)
open_ranges area = if is_sealed_intent area then ranges_in (words_from area payload_word (area gate_word)) else None

-- a word of an area, and what the ranges make of it, one after the other
unfoldable pub laid : List WordRange → (number word : ℕ) → ℕ
laid [] number word = word
laid (range ∷ ranges) number word =
    laid ranges number (if lies_in (begin_of range) (end_of range) number then slice_index range.words (number - begin_of range) else word)

abbrev pub or_none : Option (List WordRange) → List WordRange
or_none (Some ranges) = ranges
or_none None = []

-- the area with the ranges of a valid open intent laid over it, the last on top, and the area itself where there is none
unfoldable pub overlay : Area → Area
overlay area number = laid (or_none (open_ranges area)) number (area number)

abbrev pub open_or_broken : Option (List WordRange) → Gate
open_or_broken (Some ranges) = Open
open_or_broken None = Broken

abbrev pub gate_of : Area → Gate
gate_of area = if area gate_word == 0 then Closed else open_or_broken (open_ranges area)

-- an intent with these ranges is open in the area, and it is valid
pub record IsOpenIntent (area : Area) (ranges : List WordRange) : Type 0 where
  pub opened : 0 < area gate_word
  pub fits : area gate_word ≤ most_payload
  pub sealed : area seal_word ≡ intent_seal area (payload_word + area gate_word)
  pub spelled : words_from area payload_word (area gate_word) ≡ payload_of ranges
  pub allowed : All IsAllowed ranges

-- the range that begins at a place of the area, with so many words
abbrev pub range_at : Area → (place count : ℕ) → WordRange
range_at area place count = record { frame = area place; first = area (place + 1); words = words_from area (place + 3) count }

abbrev pub values_end : Change → ℕ
values_end change = change.values + (change.span.end - change.span.begin)

-- the change is that of the range with which the payload from `place` up to `end` begins
pub record StandsFirst (area : Area) (place end : ℕ) (change : Change) : Type 0 where
  pub values : change.values ≡ place + 3
  pub inside : values_end change ≤ end
  pub begin : change.span.begin ≡ begin_of (range_at area place (change.span.end - change.span.begin))
  pub order : change.span.begin ≤ change.span.end
  pub ranges : ranges_in (words_from area place (end - place))
      ≡ before (range_at area place (change.span.end - change.span.begin)) (ranges_in (words_from area (values_end change) (end - values_end change)))

-- the payload of the open intent ends here, and spells its ranges
pub record EndsOpen (area : Area) (end : ℕ) : Type 0 where
  pub begun : payload_word ≤ end
  pub inside : end ≤ seal_word
  pub ranges : open_ranges area ≡ ranges_in (words_from area payload_word (end - payload_word))
  pub valid : is_some (open_ranges area) ≡ true
