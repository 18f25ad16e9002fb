-- World: the value of a world text. One definition for each form of line.
use Rattle.std.specs.Prelude.{◌≡◌, ℕ, ◌+◌, ◌/◌, ◌^◌, ◌<◌, ◌≤◌, ◌==◌, if◌then◌else◌, Bool, true, false, List, [], ◌∷◌, ◌++◌, length, map, flat_map, sum_by, slice_get, All, AllPairs, Option, Some, None, codes, decimal}
use Rattle.std.specs.List.{concat}
use Rattle.ow_base.specs.Lines.{line, spaced, number_line, hex8, escaped}
use Rattle.ow_base.specs.declared.machine.Shape.{Shape}
use Rattle.ow_base.specs.declared.worlds.World.{World}
use Rattle.ow_base.specs.declared.worlds.FileText.{FileText}
use Rattle.ow_base.specs.declared.worlds.Program.{Program}
use Rattle.ow_base.specs.declared.worlds.Start.{Start as Started}
use Rattle.ow_base.specs.declared.worlds.KeyByte.{KeyByte}
use Rattle.ow_base.specs.declared.worlds.PanicLine.{PanicLine}
use Rattle.ow_base.specs.declared.worlds.Damage.{Damage}
use Rattle.ow_base.specs.declared.worlds.DamageKind.{DamageKind}
use Rattle.ow_base.specs.declared.worlds.DamageKind.TheVariants.{Head, Proc, Sig, Open, File, Cache, Term, Row, Owner, Table, Cached, Page}

-- a name: 1 to 24 bytes of 33 to 126
pub record IsName (name : List ℕ) : Type 0 where
  pub shortest : 1 ≤ length name
  pub longest : length name ≤ 24
  pub lowest : All (λ b. 33 ≤ b) name
  pub highest : All (λ b. b ≤ 126) name

-- a text is the texts of these items, one behind the other
unfoldable pub AreTexts : {A : Type 0} → (Is : List ℕ → A → Type 0) → (text : List ℕ) → List A → Type 0
AreTexts Is text [] = text ≡ []
AreTexts Is text (item ∷ items) = (front rest : List ℕ) × (text ≡ front ++ rest) × Is front item × AreTexts Is rest items

-- the five lines that every world begins with
abbrev pub head_lines : Shape → List ℕ
head_lines shape = line (codes "world 1") ++ (number_line (codes "frames") shape.user_frames
    ++ (number_line (codes "sectors") shape.sectors ++ (number_line (codes "quantum") shape.quantum
    ++ number_line (codes "budget") shape.budget)))

pub record IsShape (shape : Shape) : Type 0 where
  pub fewest_frames : 16 ≤ shape.user_frames
  pub most_frames : shape.user_frames ≤ 384
  pub fewest_sectors : 1 ≤ shape.sectors
  pub most_sectors : shape.sectors ≤ 2048
  pub shortest_slice : 1 ≤ shape.quantum
  pub longest_slice : shape.quantum ≤ 10000
  pub most_steps : shape.budget ≤ 2000000

-- bytes that a line may give in escape text
pub record AreBytes (bytes : List ℕ) : Type 0 where
  pub some : 1 ≤ length bytes
  pub each : All (λ b. b < 256) bytes

abbrev pub put_line : (bytes : List ℕ) → List ℕ
put_line bytes = line (spaced (codes "put") (escaped bytes))

-- a file: its name, and the lines that put its bytes
pub record IsFile (text : List ℕ) (file : FileText) : Type 0 where
  pub puts : List (List ℕ)
  pub spelled : text ≡ line (spaced (codes "file") file.name) ++ flat_map put_line puts
  pub named : IsName file.name
  pub each : All AreBytes puts
  pub joined : file.bytes ≡ concat puts
  pub longest : length file.bytes ≤ 262144

-- the pages that a file needs
abbrev pub file_page_count : FileText → ℕ
file_page_count file = (length file.bytes + 4095) / 4096

-- a line of a key word and words in hexadecimal
abbrev pub word_line : (key : List ℕ) → List ℕ → List ℕ
word_line key words = line (key ++ flat_map (λ w. 32 ∷ hex8 w) words)

-- what one line holds: 1 to 16 words of 32 bits
pub record IsLineful (words : List ℕ) : Type 0 where
  pub some : 1 ≤ length words
  pub most : length words ≤ 16
  pub each : All (λ w. w < 2 ^ 32) words

-- the text is lines of this key word, and these are their words, one line's behind the other's
pub record AreWordLines (key text words : List ℕ) : Type 0 where
  pub lines : List (List ℕ)
  pub spelled : text ≡ flat_map (word_line key) lines
  pub joined : words ≡ concat lines
  pub sizes : All IsLineful lines
  pub longest : length words ≤ 65536

-- a program block: its name, its code, of which there is some, and its data
pub record IsProgram (text : List ℕ) (program : Program) : Type 0 where
  pub code_text : List ℕ
  pub values_text : List ℕ
  pub spelled : text ≡ line (spaced (codes "program") program.name) ++ (code_text ++ values_text)
  pub named : IsName program.name
  pub code : AreWordLines (codes "code") code_text program.code
  pub some_code : 1 ≤ length program.code
  pub values : AreWordLines (codes "data") values_text program.values

-- a start line: the program's name and the terminal
abbrev pub start_line : Program → Started → List ℕ
start_line program start = line (spaced (spaced (codes "start") program.name) (decimal start.tty))

-- a start of the program at its place
pub record IsStart (programs : List Program) (text : List ℕ) (start : Started) : Type 0 where
  pub program : Program
  pub found : slice_get programs start.program ≡ Some program
  pub spelled : text ≡ start_line program start
  pub tty : start.tty < 2

-- the pages that so many words need
abbrev pub page_count : List ℕ → ℕ
page_count words = (length words + 1023) / 1024

-- the pages of a process that starts: code, data and four of stack
abbrev pub started_page_count : Program → ℕ
started_page_count program = page_count program.code + page_count program.values + 4

abbrev pub pages_of_found : Option Program → ℕ
pages_of_found (Some program) = started_page_count program
pages_of_found None = 0

-- the pages of all starts
abbrev pub start_pages : List Program → List Started → ℕ
start_pages programs starts = sum_by (λ (start : Started). pages_of_found (slice_get programs start.program)) starts

-- a line of bytes that are typed on a terminal, and arrive at a trap
pub record Typed : Type 0 where
  pub tty : ℕ
  pub trap : ℕ
  pub bytes : List ℕ

abbrev pub type_line : Typed → List ℕ
type_line t = line (spaced (spaced (spaced (codes "type") (decimal t.tty)) (decimal t.trap)) (escaped t.bytes))

pub record IsTyped (t : Typed) : Type 0 where
  pub tty : t.tty < 2
  pub first_trap : 1 ≤ t.trap
  pub last_trap : t.trap < 2 ^ 32
  pub bytes : AreBytes t.bytes

-- the bytes that these lines type on a terminal
abbrev pub typed_on : (tty : ℕ) → List Typed → List KeyByte
typed_on tty lines = flat_map (λ (t : Typed). if t.tty == tty then map (λ b. record { trap = t.trap; byte = b }) t.bytes else []) lines

-- what is typed on one terminal: the trap numbers do not fall
pub record AreKeys (keys : List KeyByte) : Type 0 where
  pub in_order : AllPairs (λ (a b : KeyByte). a.trap ≤ b.trap) keys
  pub most : length keys ≤ 65536

-- what a damage line calls the kind
abbrev pub kind_name : DamageKind → List ℕ
kind_name Head = codes "head"
kind_name Proc = codes "proc"
kind_name Sig = codes "sig"
kind_name Open = codes "open"
kind_name File = codes "file"
kind_name Cache = codes "cache"
kind_name Term = codes "term"
kind_name Row = codes "row"
kind_name Owner = codes "owner"
kind_name Table = codes "table"
kind_name Cached = codes "cached"
kind_name Page = codes "page"

-- how many there are of a kind, on a machine of so many frames
abbrev pub index_count : (frames : ℕ) → DamageKind → ℕ
index_count frames Head = 1
index_count frames Proc = 16
index_count frames Sig = 16
index_count frames Open = 32
index_count frames File = 32
index_count frames Cache = 64
index_count frames Term = 2
index_count frames Row = 48
index_count frames Owner = frames
index_count frames Table = 48
index_count frames Cached = 64
index_count frames Page = 16

-- the words of one of a kind
abbrev pub word_count : DamageKind → ℕ
word_count Head = 16
word_count Proc = 128
word_count Sig = 32
word_count Open = 16
word_count File = 96
word_count Cache = 8
word_count Term = 16
word_count Row = 24
word_count Owner = 1
word_count Table = 1024
word_count Cached = 1024
word_count Page = 1024

-- a page is named by its number below 2 ^ 20 besides; for the other kinds the number is 0
abbrev pub page_number_count : DamageKind → ℕ
page_number_count Page = 2 ^ 20
page_number_count kind = 1

-- the word that a damage line names
abbrev pub damage_place : DamageKind → Damage → List ℕ
damage_place Page d = spaced (spaced (spaced (kind_name Page) (decimal d.index)) (decimal d.page)) (decimal d.word)
damage_place kind d = spaced (spaced (kind_name kind) (decimal d.index)) (decimal d.word)

abbrev pub damage_line : Damage → List ℕ
damage_line d = line (spaced (spaced (codes "damage") (damage_place d.kind d)) (hex8 d.mask))

pub record IsDamage (frames : ℕ) (d : Damage) : Type 0 where
  pub index : d.index < index_count frames d.kind
  pub page : d.page < page_number_count d.kind
  pub word : d.word < word_count d.kind
  pub some_bits : 1 ≤ d.mask
  pub mask : d.mask < 2 ^ 32

-- the kinds of which one line may damage a record
abbrev pub is_record : DamageKind → Bool
is_record Owner = false
is_record Table = false
is_record Cached = false
is_record Page = false
is_record kind = true

-- the kinds of which one line in all may damage one
abbrev pub is_shared : DamageKind → Bool
is_shared Owner = true
is_shared Table = true
is_shared kind = false

-- two damages of one panic name two records, not an owner or a table each, and two words
pub record AreApart (a b : Damage) : Type 0 where
  pub records : is_record a.kind ≡ true → a.kind ≡ b.kind → a.index ≡ b.index → ⊥
  pub shared : is_shared a.kind ≡ true → is_shared b.kind ≡ true → ⊥
  pub words : a.kind ≡ b.kind → a.index ≡ b.index → a.page ≡ b.page → a.word ≡ b.word → ⊥

abbrev pub again_line : (store : ℕ) → List ℕ
again_line store = number_line (codes "again") store

-- a panic: its trap and store, the words that it damages, and the stores of the resurrection that are refused
pub record IsPanic (frames : ℕ) (text : List ℕ) (panic : PanicLine) : Type 0 where
  pub spelled : text ≡ line (spaced (spaced (codes "panic") (decimal panic.trap)) (decimal panic.store))
      ++ (flat_map damage_line panic.damages ++ flat_map again_line panic.agains)
  pub first_trap : 1 ≤ panic.trap
  pub last_trap : panic.trap < 2 ^ 32
  pub store : panic.store < 2 ^ 32
  pub damages : All (IsDamage frames) panic.damages
  pub apart : AllPairs AreApart panic.damages
  pub most_damages : length panic.damages ≤ 16
  pub agains : All (λ store. store < 2 ^ 32) panic.agains
  pub most_agains : length panic.agains ≤ 4

-- a world, its text by its lines
pub record IsWorld (text : List ℕ) (world : World) : Type 0 where
  pub files_text : List ℕ
  pub programs_text : List ℕ
  pub starts_text : List ℕ
  pub typed : List Typed
  pub panics_text : List ℕ
  pub spelled : text ≡ head_lines world.load.shape ++ (files_text ++ (programs_text ++ (starts_text
      ++ (flat_map type_line typed ++ (panics_text ++ line (codes "end"))))))
  pub longest : length text ≤ 1048576
  pub shape : IsShape world.load.shape
  pub files : AreTexts IsFile files_text world.load.files
  pub most_files : length world.load.files ≤ 32
  pub file_names : AllPairs (λ (a b : FileText). a.name ≡ b.name → ⊥) world.load.files
  pub sectors : sum_by file_page_count world.load.files ≤ world.load.shape.sectors
  pub programs : AreTexts IsProgram programs_text world.load.programs
  pub some_program : 1 ≤ length world.load.programs
  pub most_programs : length world.load.programs ≤ 16
  pub program_names : AllPairs (λ (a b : Program). a.name ≡ b.name → ⊥) world.load.programs
  pub starts : AreTexts (IsStart world.load.programs) starts_text world.load.starts
  pub some_start : 1 ≤ length world.load.starts
  pub most_starts : length world.load.starts ≤ 16
  pub frames : start_pages world.load.programs world.load.starts ≤ world.load.shape.user_frames
  pub each_typed : All IsTyped typed
  pub typed0_is : world.typed0 ≡ typed_on 0 typed
  pub typed1_is : world.typed1 ≡ typed_on 1 typed
  pub typed0 : AreKeys world.typed0
  pub typed1 : AreKeys world.typed1
  pub panics : AreTexts (IsPanic world.load.shape.user_frames) panics_text world.panics
  pub most_panics : length world.panics ≤ 32
  pub traps : AllPairs (λ (a b : PanicLine). a.trap < b.trap) world.panics
