-- Which world texts are refused, at which line and why. A text's lines are its pieces between line feeds, and the
-- piece behind the last line feed is no line.
use Rattle.std.specs.Prelude.{◌≡◌, ℕ, ◌+◌, ◌<◌, ◌≤◌, List, [], ◌∷◌, ◌++◌, length, reverse, All, codes, Some, None}
use Rattle.ow_base.specs.declared.worlds.PanicLine.{PanicLine}
use Rattle.ow_base.specs.declared.worlds.World.{World}
use Rattle.world_file.specs.declared.why.Why.{Why}
use Rattle.world_file.specs.declared.why.Why.TheVariants.{End, TooLarge}
use Rattle.world_file.specs.declared.reader.WorldFault.{WorldFault}
use Rattle.world_file.specs.declared.reader.WorldFault.TheVariants.{Bad, Memory}
use Rattle.world_file.specs.WorldLines.{Line, pieces}
use Rattle.world_file.specs.WorldReasons.{reason_at}

-- worlds of the forms that can be read: programs, up to 16 starts of them, and up to 32 panics in which nothing is
-- damaged and no store is refused again
pub record IsBuilt (world : World) : Type 0 where
  pub no_files : world.load.files ≡ []
  pub no_typed0 : world.typed0 ≡ []
  pub no_typed1 : world.typed1 ≡ []
  pub no_damages : All (λ (panic : PanicLine). panic.damages ≡ []) world.panics
  pub no_agains : All (λ (panic : PanicLine). panic.agains ≡ []) world.panics

-- none of these lines, nearest first, is refused or the last
unfoldable pub AreRead : (behind : List Line) → Type 0
AreRead [] = Unit {0}
AreRead (line ∷ behind) = (reason_at behind line ≡ None) × (line ≡ codes "end" → ⊥) × AreRead behind

-- a place between two pieces of the text, up to which no line is refused or the last
pub record IsReadTo (text : List ℕ) (behind ahead : List Line) : Type 0 where
  pub split : pieces 10 text ≡ reverse behind ++ ahead
  pub size : length text ≤ 1048576
  pub read : AreRead behind

-- a line, with its line feed, for which there is a reason
pub record IsRefusedLine (text : List ℕ) (line : ℕ) (why : Why) : Type 0 where
  pub behind : List Line
  pub refused : Line
  pub ahead : List Line
  pub place : IsReadTo text behind (refused ∷ ahead)
  pub whole : 1 ≤ length ahead
  pub reason : reason_at behind refused ≡ Some why
  pub number : line ≡ length behind + 1

-- no line is refused or the last
pub record StopsEarly (text : List ℕ) (line : ℕ) (why : Why) : Type 0 where
  pub behind : List Line
  pub rest : Line
  pub place : IsReadTo text behind (rest ∷ [])
  pub reason : why ≡ End
  pub number : line ≡ length behind + 1

-- something stands behind the line `end`
pub record GoesOn (text : List ℕ) (line : ℕ) (why : Why) : Type 0 where
  pub behind : List Line
  pub ahead : List Line
  pub place : IsReadTo text behind (codes "end" ∷ ahead)
  pub whole : 1 ≤ length ahead
  pub may_stand : reason_at behind (codes "end") ≡ None
  pub more : ahead ≡ [] ∷ [] → ⊥
  pub reason : why ≡ End
  pub number : line ≡ length behind + 2

pub record IsTooLong (text : List ℕ) (line : ℕ) (why : Why) : Type 0 where
  pub longer : 1048576 < length text
  pub reason : why ≡ TooLarge
  pub number : line ≡ 0

-- a text is refused at this line, counted from 1, for this reason
pub data IsRefused (text : List ℕ) (line : ℕ) (why : Why) : Type 0 where
  Refused : IsRefusedLine text line why → IsRefused text line why
  Early : StopsEarly text line why → IsRefused text line why
  Behind : GoesOn text line why → IsRefused text line why
  Long : IsTooLong text line why → IsRefused text line why

-- a fault says so, or that memory ran out
abbrev pub IsRefusedFault : List ℕ → WorldFault → Type 0
IsRefusedFault text (Bad line why) = IsRefused text line why
IsRefusedFault text (Memory e) = Unit {0}
