-- What the program answers, and what it writes.
use Rattle.std.specs.Prelude.{◌≡◌, ℕ, ◌+◌, ◌≤◌, Bool, true, false, List, [], ◌∷◌, ◌++◌, length, drop, codes, decimal, Option, Some, String, string_bytes, bytes_eq, ◌⊎◌}
use Rattle.ow_base.specs.Lines.{line}
use Rattle.ow_base.specs.Outside.{appended, IsFront, OnTold, Rose}
use Rattle.ow_base.specs.World.{IsWorld}
use Rattle.record_layouts.specs.Unix.State.{Unix}
use Rattle.record_layouts.specs.Unix.Panics.{RunWith}
use Rattle.record_layouts.specs.Unix.PanicReport.{report_with}
use Rattle.record_layouts.specs.declared.fates.Fate.{Fate}
use Rattle.ow_base.specs.declared.worlds.World.{World}
use Rattle.ow_base.specs.declared.worlds.Ending.{Ending}
use Rattle.ow_base.specs.declared.worlds.Ending.TheVariants as ending
use Rattle.ow_plant.specs.State.{PlantState}
use Rattle.kernel_traps.specs.Plants.{context_of}
use Rattle.schedule_runner.specs.Histories.{images_of, lines_of}
use Rattle.ow_report.specs.Agrees.{PlantAgrees}
use Rattle.world_file.specs.declared.why.Why.{Why}
use Rattle.world_file.specs.declared.reader.WorldFault.{WorldFault}
use Rattle.world_file.specs.declared.reader.WorldFault.TheVariants.{Bad}
use Rattle.world_file.specs.declared.reader.WorldFault.TheVariants as fault
use Rattle.world_file.specs.WorldReasons.{reason_text}
use Rattle.world_file.specs.WorldRefusals.{IsBuilt, IsRefused}
use Rattle.otherworld.specs.declared.top.Status.{Status}
use Rattle.otherworld.specs.declared.top.Status.TheVariants.{Done, Usage, BadWorld, ReadFault, WriteFault, Memory, Budget, Restarted}

-- the one command that is built: the words are `run` alone
abbrev pub is_run : {A : Type 0} → List (String A) → Bool
is_run [] = false
is_run (word ∷ []) = bytes_eq (string_bytes word) (codes "run")
is_run (word ∷ other ∷ words) = false

-- the most bytes that a world may have
abbrev pub most_bytes : ℕ
most_bytes = 1048576

unfoldable pub usage_text : List ℕ
usage_text = line (codes "usage: otherworld run | run --evidence | asm | gen N")

unfoldable pub bad_world_text : (number : ℕ) → Why → List ℕ
bad_world_text number why = codes "bad world line " ++ (decimal number ++ (codes ": " ++ line (reason_text why)))

unfoldable pub read_fault_text : List ℕ
read_fault_text = line (codes "read fault")

unfoldable pub memory_text : List ℕ
memory_text = line (codes "out of memory")

-- the text that goes with a status that is no report
abbrev pub refusal_text : Status → List ℕ
refusal_text Usage = usage_text
refusal_text (BadWorld number why) = bad_world_text number why
refusal_text ReadFault = read_fault_text
refusal_text Memory = memory_text
refusal_text Done = []
refusal_text Budget = []
refusal_text Restarted = []
refusal_text WriteFault = []

-- the number that the process ends with
abbrev pub code_of : Status → ℕ
code_of Done = 0
code_of Usage = 1
code_of (BadWorld number why) = 2
code_of ReadFault = 3
code_of WriteFault = 4
code_of Memory = 5
code_of Budget = 6
code_of Restarted = 7

-- the status of a run that ended so
abbrev pub status_of : Ending → Status
status_of ending.Done = Done
status_of ending.Budget = Budget
status_of ending.Restarted = Restarted

-- the status of a world that was not read
abbrev pub unread_status : WorldFault → Status
unread_status (Bad number why) = BadWorld number why
unread_status (fault.Memory e) = Memory

-- a world of the forms that can be read was read from all that was left
pub record IsRead (left after : Option (List ℕ)) (world : World) : Type 0 where
  pub input : List ℕ
  pub told : OnTold left (λ bytes. (input ≡ bytes) × (after ≡ Some []))
  pub small : length input ≤ most_bytes
  pub value : IsWorld input world
  pub built : IsBuilt world

-- A run of the world, with the panics in the plant's history and the fates that these told, ended so (RunHolds), it left
-- this plant (PlantAgrees), and the text is its report (OutputExact). The points of the plant are the panics that the world
-- lists, and what the plant stands for is read with what its processor has of a process.
pub record IsReported (world : World) (plant : PlantState) (ending : Ending) (text : List ℕ) : Type 0 where
  pub w : Unix
  pub told : List (List (ℕ × Fate))
  pub run : RunWith world (images_of plant) plant.history told ending w
  pub points : lines_of plant.points ≡ world.panics
  pub armed : plant.armed ≡ true
  pub agrees : PlantAgrees plant w
  pub context : agrees.decodes.0 ≡ context_of plant
  pub reported : text ≡ report_with world.panics plant.history told ending w

-- a world was read, and its run reported
abbrev pub IsRun : (left after : Option (List ℕ)) → (plant : PlantState) → Ending → (text : List ℕ) → Type 0
IsRun left after plant ending text = (world : World) × IsRead left after world × IsReported world plant ending text

-- the input is refused at this line for this reason, and of a longer one no more was taken than tells that
abbrev pub IsNoWorld : (left after : Option (List ℕ)) → (number : ℕ) → Why → Type 0
IsNoWorld left after number why = OnTold left (λ bytes. IsRefused bytes number why × (after ≡ Some (drop (most_bytes + 1) bytes)))

-- NamedCauses: why a status is answered, and the text that goes with it: the source has `left` before the call and
-- `after` behind it, read_rose says that its faults rose, and the plant is `old` before the call and `new`
-- behind it
abbrev pub Intends : (is_run : Bool) → (left after : Option (List ℕ)) → (read_rose : Type 0) → (old new : PlantState) → Status → (text : List ℕ) → Type 0
Intends is_run left after read_rose old new Usage text = (is_run ≡ false) × (after ≡ left) × (new ≡ old) × (text ≡ usage_text)
Intends is_run left after read_rose old new (BadWorld number why) text = (is_run ≡ true) × IsNoWorld left after number why × (new ≡ old) × (text ≡ bad_world_text number why)
Intends is_run left after read_rose old new ReadFault text = (is_run ≡ true) × read_rose × (new ≡ old) × (text ≡ read_fault_text)
Intends is_run left after read_rose old new Memory text = (is_run ≡ true) × (new ≡ old) × (text ≡ memory_text)
Intends is_run left after read_rose old new Done text = (is_run ≡ true) × IsRun left after new ending.Done text
Intends is_run left after read_rose old new Budget text = (is_run ≡ true) × IsRun left after new ending.Budget text
Intends is_run left after read_rose old new Restarted text = (is_run ≡ true) × IsRun left after new ending.Restarted text
Intends is_run left after read_rose old new WriteFault text = ⊥

-- a text was written and its status is the answer; or the sink failed, and a front of the text was written
abbrev pub IsSaid : (text : List ℕ) → (status : Status) → (write_rose : Type 0) → (written after : Option (List ℕ)) → (answer : Status) → Type 0
IsSaid text status write_rose written after answer =
    ((answer ≡ status) × (after ≡ appended written text)) ⊎ ((answer ≡ WriteFault) × write_rose × IsFront text written after)

-- the answer is that of a status with its cause and its text
abbrev pub Answers : (intends : Status → List ℕ → Type 0) → (write_rose : Type 0) → (written after : Option (List ℕ)) → (answer : Status) → Type 0
Answers intends write_rose written after answer =
    (status : Status) × (text : List ℕ) × intends status text × IsSaid text status write_rose written after answer

-- what `otherworld` may answer, by its clause `answers`, to the word `run` alone where its source tells this input
pub record MayAnswer (input : List ℕ) (answer : Status) : Type 0 where
  pub left : Option (List ℕ)
  pub written : Option (List ℕ)
  pub all : Option (List ℕ)
  pub old : PlantState
  pub new : PlantState
  pub reads : ℕ
  pub more_reads : ℕ
  pub writes : ℕ
  pub more_writes : ℕ
  pub answers : Answers (Intends true (Some input) left (Rose reads more_reads) old new) (Rose writes more_writes) written all answer

-- neither its source nor its sink failed
abbrev pub IsCalm : {input : List ℕ} {answer : Status} → MayAnswer input answer → Type 0
IsCalm may = (Rose may.reads may.more_reads → ⊥) × (Rose may.writes may.more_writes → ⊥)
