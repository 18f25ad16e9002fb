-- What contracts see of the plant.
use Rattle.std.specs.Prelude.{◌≡◌, ℕ, ◌+◌, ◌-◌, ◌*◌, ◌^◌, ◌<◌, ◌≤◌, min, Bool, true, false, MatchBool, nat_lt, ◌==◌, ◌||◌, if◌then◌else◌, List, [], ◌∷◌, ◌++◌, map, length, nat_le, slice_set, Option, Some, None, is_some}
use Rattle.std.specs.List.{list_any}
use Rattle.ow_base.specs.Screen.{Screen, blank_screen, drawn}
use Rattle.ow_base.specs.Sv32.{sv32_space}
use Rattle.ow_base.specs.UserStep.{Spaces, Stepped, Next, Call, Faulted, user_step}
use Rattle.sv32_tables.specs.Spaces.{satp_of}
use Rattle.phys_memory.specs.Memory.{MemoryParts, IsSized, frame_count, whole, words_of, with_first, with_word, zeroed}
use Rattle.ow_base.specs.declared.machine.AreaId.{AreaId}
use Rattle.ow_base.specs.declared.machine.AreaId.TheVariants as area
use Rattle.ow_base.specs.declared.machine.Bank.{Bank}
use Rattle.ow_base.specs.declared.machine.Now.{Now}
use Rattle.ow_base.specs.declared.machine.Shape.{Shape}
use Rattle.ow_base.specs.declared.machine.Came.{Came}
use Rattle.ow_base.specs.declared.machine.Came.TheVariants as came
use Rattle.ow_base.specs.declared.worlds.PanicRecord.{PanicRecord}
use Rattle.panic_handover.specs.HandOver.{IsHandOver, may_tell_registers, zero_bank}
use Rattle.panic_handover.specs.declared.hand_over.HandOver.{HandOver}
use Rattle.ow_plant.specs.Past.{IsRecordOf, PastPanics}
use Rattle.ow_plant.specs.Points.{coming, entered_by, has_come, is_ahead, is_at, is_behind, is_in, is_missed, is_past, listed_for}
use Rattle.ow_plant.specs.declared.past.Told.{Told}
use Rattle.ow_plant.specs.declared.points.PanicPoint.{PanicPoint}
use Rattle.ow_plant.specs.declared.UserEnd.{UserEnd}
use Rattle.ow_plant.specs.declared.UserEnd.TheVariants as end
use Rattle.ow_plant.specs.declared.refusal.Refusal.{Refusal}
use Rattle.ow_plant.specs.declared.refusal.Refusal.TheVariants as refusal

-- a terminal: the bytes written, how many there is room for, and what its display shows
pub record Device : Type 0 where
  pub tape : List ℕ
  pub room : ℕ
  pub display : Screen

-- memory, and the register that names the page tables through which a program sees it
pub record Seen : Type 0 where
  pub memory : MemoryParts
  pub satp : ℕ

-- memory as a program sees it: Sv32 on its words
unfoldable pub seen_space : Spaces Seen
seen_space = sv32_space (λ (m : Seen). words_of m.memory) (λ (m : Seen). m.satp) (λ (m : Seen) frame place value. record m { memory = with_word m.memory frame place value })

-- what contracts see of a plant
pub record PlantState : Type 0 where
  pub armed : Bool
  pub shape : Shape
  pub memory : MemoryParts
  -- the root of the page tables in use
  pub satp : ℕ
  pub bank : Bank
  pub in_user : Bool
  pub user_pid : ℕ
  -- instructions since the return to user mode
  pub slice : ℕ
  pub tty0 : Device
  pub tty1 : Device
  pub steps : ℕ
  pub traps : ℕ
  -- where panics come, and which of them were entered; no call tells a program
  pub points : List PanicPoint
  -- a panic was entered, and the live area was not set since
  pub reviving : Bool
  -- stores made in the trap that was begun last, or at boot, or since the panic of it was entered; and in all
  pub stores : ℕ
  pub all_stores : ℕ
  -- what was refused since the last panic entry: nothing, a store, or the end of a trap. Where it is not nothing no store
  -- is made
  pub refusal : Option Refusal
  -- a trap was begun and has not been left
  pub in_trap : Bool
  -- how the trap that was begun last came, and the process that it is of, 0 for none; before the first trap Kernel and 0
  pub came : Came
  pub trap_pid : ℕ
  -- the area of the kernel that runs
  pub live : AreaId
  pub history : List PanicRecord

-- a count of 32 bits rises, and stands still at its last value
abbrev pub risen : ℕ → ℕ
risen n = min (n + 1) (2 ^ 32 - 1)

-- and one of 64 bits
abbrev pub risen_far : ℕ → ℕ
risen_far n = min (n + 1) (2 ^ 64 - 1)

-- a terminal on which nothing was written
abbrev pub silent_device : (room : ℕ) → Device
silent_device room = record { tape = []; room = room; display = blank_screen }

-- a plant that is armed with a shape, and nothing was done with it yet
pub record IsReady (shape : Shape) (s : PlantState) : Type 0 where
  pub armed : s.armed ≡ true
  pub of_shape : s.shape ≡ shape
  pub zeroed : s.memory ≡ zeroed shape.user_frames
  pub in_kernel : s.in_user ≡ false
  pub tty0 : s.tty0 ≡ silent_device (16 * shape.budget)
  pub tty1 : s.tty1 ≡ silent_device (16 * shape.budget)
  pub no_steps : s.steps ≡ 0
  pub no_traps : s.traps ≡ 0
  pub no_stores : s.stores ≡ 0
  pub none_in_all : s.all_stores ≡ 0
  pub no_refusal : s.refusal ≡ None
  pub no_trap_runs : s.in_trap ≡ false
  pub of_kernel : s.came ≡ came.Kernel
  pub of_no_process : s.trap_pid ≡ 0
  pub of_area : s.live ≡ area.A
  pub not_reviving : s.reviving ≡ false
  pub no_history : s.history ≡ []

-- a plant that is armed: its memory has the size of its shape
pub record IsArmed (s : PlantState) : Type 0 where
  pub armed : s.armed ≡ true
  pub sized : IsSized s.shape.user_frames s.memory
  pub few_frames : s.shape.user_frames ≤ 384

-- what holds of every plant: it has no frame before it is armed, and never more than 384 for pages in a half
pub record FitsShape (armed : Bool) (user_frames : ℕ) (memory : MemoryParts) : Type 0 where
  pub none_before : armed ≡ false → frame_count memory ≡ 0
  pub few_frames : user_frames ≤ 384

-- what holds of every plant beside: there is room for the words of memory at each panic that is to come; and while no
-- other kernel takes over, a refusal stands only in a trap that has come to a point
pub record HasRoom (armed : Bool) (user_frames : ℕ) (points : List PanicPoint) (reviving : Bool) (refused : Option Refusal) (traps : ℕ) (past : PastPanics) : Type 0 where
  pub words : armed ≡ true → past.words ≡ 1024 * (257 + 2 * user_frames)
  pub one_each : coming points ≤ past.room
  pub due : reviving ≡ false → is_some refused ≡ true → list_any (has_come traps) points ≡ true

-- What holds of every plant beside, while no other kernel takes over: in the trap that was begun last no more stores are
-- made than a point of it says; and what was refused, was refused exactly at a point of this trap: a store behind exactly
-- the point's number of stores, the end of the trap behind at most so many. Where a trap is begun while a refusal stands,
-- the point is one of an earlier trap and is missed. The count of traps must not have come to its last value, at which one
-- number is that of many traps
pub record IsExact (points : List PanicPoint) (reviving : Bool) (stores : ℕ) (refused : Option Refusal) (traps : ℕ) : Type 0 where
  pub none_behind : reviving ≡ false → list_any (is_behind traps stores) points ≡ false
  pub store : reviving ≡ false → traps < 2 ^ 32 - 1 → list_any (is_missed traps) points ≡ false → refused ≡ Some refusal.Store
      → list_any (is_at traps stores) points ≡ true
  pub leave : reviving ≡ false → traps < 2 ^ 32 - 1 → list_any (is_missed traps) points ≡ false → refused ≡ Some refusal.Leave
      → list_any (is_ahead traps stores) points ≡ true

-- what holds of every plant
pub record IsPlant (armed : Bool) (user_frames : ℕ) (memory : MemoryParts) (points : List PanicPoint) (reviving : Bool) (stores : ℕ) (refused : Option Refusal) (traps : ℕ) (past : PastPanics) : Type 0 where
  pub fits : FitsShape armed user_frames memory
  pub room : HasRoom armed user_frames points reviving refused traps past
  pub exact : IsExact points reviving stores refused traps

-- a refusal stands
abbrev pub is_refused : PlantState → Bool
is_refused s = is_some s.refusal

-- a store is refused where a refusal stands, or a point of this trap has come
abbrev pub refuses : PlantState → Bool
refuses s = is_refused s || list_any (is_past s.traps s.stores) s.points

-- the end of a trap is refused where a refusal stands, or a point of this trap has not come before
abbrev pub refuses_leave : PlantState → Bool
refuses_leave s = is_refused s || list_any (is_in s.traps) s.points

-- the refusal that stands, and else this one
abbrev pub first_refusal : Option Refusal → Refusal → Option Refusal
first_refusal (Some stands) one = Some stands
first_refusal None one = Some one

-- a store is refused: that a refusal stands is all that changes
abbrev pub store_refused : PlantState → PlantState
store_refused s = record s { refusal = first_refusal s.refusal refusal.Store }

-- the end of a trap is refused
abbrev pub leave_refused : PlantState → PlantState
leave_refused s = record s { refusal = first_refusal s.refusal refusal.Leave }

-- a store is counted
abbrev pub counted : PlantState → PlantState
counted s = record s { stores = risen s.stores; all_stores = risen_far s.all_stores }

-- what a kernel knows of the machine: nothing is typed yet
abbrev pub now_of : PlantState → Now
now_of s = record {
  trap = if s.in_trap then s.traps else risen s.traps;
  user_frames = s.shape.user_frames;
  sectors = s.shape.sectors;
  arrived = 0 ∷ 0 ∷ [];
  typed = 0 ∷ 0 ∷ [];
}

-- the terminal with a number below 2
abbrev pub tty_of : PlantState → (tty : ℕ) → Device
tty_of s tty = if tty == 0 then s.tty0 else s.tty1

-- a byte goes to the end of the tape and is drawn
abbrev pub put_on : Device → (byte : ℕ) → Device
put_on t byte = record t { tape = t.tape ++ byte ∷ []; display = drawn t.display byte }

-- the plant with a byte put on a terminal, which is a store
abbrev pub with_put : PlantState → (tty byte : ℕ) → PlantState
with_put s tty byte = if tty == 0 then record (counted s) { tty0 = put_on s.tty0 byte } else record (counted s) { tty1 = put_on s.tty1 byte }

-- a row of what is seen is set, or the cursor
abbrev pub painted : Device → (row : ℕ) → (text : List ℕ) → Device
painted t row text = record t { display = record { rows = slice_set t.display.rows row text; row = t.display.row; col = t.display.col } }

abbrev pub with_cursor : Device → (row col : ℕ) → Device
with_cursor t row col = record t { display = record { rows = t.display.rows; row = row; col = col } }

-- the plant with a row of a terminal painted, or its cursor set, which is a store
abbrev pub with_painted : PlantState → (tty row : ℕ) → (text : List ℕ) → PlantState
with_painted s tty row text = if tty == 0 then record (counted s) { tty0 = painted s.tty0 row text } else record (counted s) { tty1 = painted s.tty1 row text }

abbrev pub with_cursor_at : PlantState → (tty row col : ℕ) → PlantState
with_cursor_at s tty row col = if tty == 0 then record (counted s) { tty0 = with_cursor s.tty0 row col } else record (counted s) { tty1 = with_cursor s.tty1 row col }

-- the steps after a trap came: it is one, unless it is the closing one
abbrev pub stepped_in : Came → (steps : ℕ) → ℕ
stepped_in came.Closing steps = steps
stepped_in came.Kernel steps = risen steps
stepped_in came.User steps = risen steps
stepped_in came.Call steps = risen steps

-- a trap of a process, 0 for none, begins, with no store made in it: it is counted
abbrev pub entered : PlantState → Came → (pid : ℕ) → PlantState
entered s how pid = record s { in_user = false; in_trap = true; came = how; trap_pid = pid; traps = risen s.traps; stores = 0; steps = stepped_in how s.steps }

-- the kernel's work for a trap ends
abbrev pub left_trap : PlantState → PlantState
left_trap s = record s { in_trap = false }

-- control goes to a process: its bank is loaded, its page tables are in use, and a slice begins
abbrev pub returned_to : PlantState → (pid : ℕ) → Bank → (root : ℕ) → PlantState
returned_to s pid bank root = record s { bank = bank; in_user = true; user_pid = pid; satp = satp_of root; slice = 0 }

-- a word of memory is set, which is a store
abbrev pub with_stored : PlantState → (frame word value : ℕ) → PlantState
with_stored s frame word value = record (counted s) { memory = with_word s.memory frame word value }

-- the process that the trap is of, as a hand-over can tell it: there is none above 256
abbrev pub handed_pid : PlantState → ℕ
handed_pid s = if nat_le s.trap_pid 256 then s.trap_pid else 0

-- what is handed over at a panic: the pc and the registers that the processor came with from a program, and else zeros
abbrev pub handed_over : PlantState → HandOver
handed_over s = record {
  trap = s.traps;
  pid = handed_pid s;
  came = s.came;
  bank = if may_tell_registers s.came (handed_pid s) then s.bank else zero_bank;
}

-- the end of a trap was refused
abbrev pub is_leave : Option Refusal → Bool
is_leave (Some refusal.Leave) = true
is_leave (Some refusal.Store) = false
is_leave None = false

-- what the record of a panic tells
abbrev pub told_of : PlantState → Told
told_of s = record {
  trap = s.traps;
  store = s.stores;
  listed = listed_for s.traps s.points;
  at_leave = is_leave s.refusal;
  pid = handed_pid s;
  area = s.live;
  tapes = length s.tty0.tape ∷ length s.tty1.tape ∷ [];
}

-- nothing is seen of a terminal
abbrev pub blanked : Device → Device
blanked t = record t { display = blank_screen }

-- a panic is entered: the hand-over stands in the first words of memory, both displays are blank, and the history has a
-- record of the panic with the words that memory then has. The refusal is over, the trap runs no more, and the stores of
-- a resurrection are counted from 0
pub record EntersPanic (old new : PlantState) : Type 0 where
  pub words : List ℕ
  pub entry : PanicRecord
  pub spelled : IsHandOver words (handed_over old)
  pub recorded : IsRecordOf (told_of old) (whole (with_first old.memory words)) entry
  pub after : new ≡ record old {
    memory = with_first old.memory words;
    in_user = false;
    tty0 = blanked old.tty0;
    tty1 = blanked old.tty1;
    points = map (entered_by old.traps) old.points;
    reviving = true;
    stores = 0;
    refusal = None;
    in_trap = false;
    history = old.history ++ entry ∷ [];
  }

-- another area is live, which is a store, and ends what a panic began
abbrev pub with_live : PlantState → AreaId → PlantState
with_live s area = record (counted s) { live = area; reviving = false }

-- an instruction of the process in user mode, which UserStep says came to this
abbrev pub StepsAs : PlantState → PlantState → UserEnd → Stepped Seen → Type 0
StepsAs old new result (Next regs pc seen) = (result ≡ end.Next)
    × (new ≡ record old { memory = seen.memory; satp = seen.satp; bank = record { pc = pc; regs = regs }; slice = old.slice + 1; steps = risen old.steps })
StepsAs old new result Call = (result ≡ end.Call) × (new ≡ old)
StepsAs old new result (Faulted fault) = (result ≡ end.Fault fault) × (new ≡ old)

-- what the program in user mode sees
abbrev pub seen_by : PlantState → Seen
seen_by s = record { memory = s.memory; satp = s.satp }

-- a turn in user mode: the slice is over after quantum instructions, else one is made
abbrev pub TakesUserTurn : PlantState → PlantState → UserEnd → Type 0
TakesUserTurn old new result = MatchBool (nat_lt old.slice old.shape.quantum)
    (StepsAs old new result (user_step seen_space old.bank.regs old.bank.pc (seen_by old)))
    ((result ≡ end.Slice) × (new ≡ old))
