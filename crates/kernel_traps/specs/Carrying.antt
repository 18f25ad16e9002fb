-- What a service makes of what is held, and what a refusal may leave of it.
use Rattle.std.specs.Prelude.{◌≡◌, ℕ, ◌+◌, ◌<◌, ◌≤◌, ◌⊎◌, Bool, true, false, List, All, length, IfSome}
use Rattle.ow_base.specs.Pages.{bytes_at}
use Rattle.phys_memory.specs.Memory.{words_of}
use Rattle.record_layouts.specs.declared.patch.PatchItem.{PatchItem}
use Rattle.record_layouts.specs.declared.patch.AnyRec.{AnyRec}
use Rattle.record_layouts.specs.declared.patch.AnyRec.TheVariants as any
use Rattle.record_layouts.specs.Held.{Held, patched}
use Rattle.address_space.specs.Spaces.{IsCopied, IsGrown, IsWordPut, OnlyPrepares}
use Rattle.syscalls.specs.Planned.{Planned, PlanFork, PlanGrow, PlanOnce, PlanPut, PlanWrite, pages_in}
use Rattle.ow_plant.specs.State.{PlantState, tty_of}
use Rattle.intent_store.specs.Live.{held_of, records_held}
use Rattle.kernel_traps.specs.Putting.{IsPut, IsPutPartly}

-- the bytes of the process in a slot
abbrev pub bytes_of : PlantState → (slot from len : ℕ) → List ℕ
bytes_of s slot from len = bytes_at (pages_in (records_held s) (words_of s.memory) slot) from len

-- bytes are counted and out, and then the records of a patch are set
abbrev pub IsWritten : Held PlantState → (tty : ℕ) → (bytes : List ℕ) → List PatchItem → Held PlantState → Type 0
IsWritten h tty bytes items new = (put : Held PlantState) × IsPut h tty bytes bytes put × (new ≡ patched items put)

-- pages are prepared behind the heap of the process in a slot, and then the records of a patch are set, which count them
abbrev pub IsGrownBy : PlantState → (slot count : ℕ) → List PatchItem → Held PlantState → Type 0
IsGrownBy s slot count items new = (prepared : Held PlantState) × OnlyPrepares slot (held_of s) prepared
    × IfSome ((records_held s).procs slot) (IsGrown (held_of s) prepared slot count) × (new ≡ patched items prepared)

-- the pages of the process in a slot are copied for the slot of a child, and then the records of a patch are set, which
-- make the child
abbrev pub IsForkedBy : PlantState → (slot child : ℕ) → List PatchItem → Held PlantState → Type 0
IsForkedBy s slot child items new = (prepared : Held PlantState) × OnlyPrepares child (held_of s) prepared
    × IfSome ((records_held s).procs slot) (IsCopied (held_of s) prepared slot child) × (new ≡ patched items prepared)

-- a word of the process in a slot is stored, and then the records of a patch are set
abbrev pub IsStatusPutBy : PlantState → (slot address status : ℕ) → List PatchItem → Held PlantState → Type 0
IsStatusPutBy s slot address status items new = (put : Held PlantState) × IsWordPut (held_of s) put slot address status × (new ≡ patched items put)

-- what is held once a service is carried out
abbrev pub IsCarriedOut : PlantState → (slot : ℕ) → Planned → Held PlantState → Type 0
IsCarriedOut s slot (PlanOnce items) new = new ≡ patched items (held_of s)
IsCarriedOut s slot (PlanWrite tty from len items) new = IsWritten (held_of s) tty (bytes_of s slot from len) items new
IsCarriedOut s slot (PlanGrow count items) new = IsGrownBy s slot count items new
IsCarriedOut s slot (PlanFork child items) new = IsForkedBy s slot child items new
IsCarriedOut s slot (PlanPut address status items) new = IsStatusPutBy s slot address status items new

-- What a refusal may leave of a write: some of the bytes, all of them without the patch, or all was done.
abbrev pub MayBeLeftOfWrite : Held PlantState → (tty : ℕ) → (bytes : List ℕ) → List PatchItem → Held PlantState → Type 0
MayBeLeftOfWrite h tty bytes items new = IsPutPartly h tty bytes new ⊎ (IsPut h tty bytes bytes new ⊎ IsWritten h tty bytes items new)

-- of a word that is stored: nothing, the word alone, or all
abbrev pub MayBeLeftOfPut : PlantState → (slot address status : ℕ) → List PatchItem → Held PlantState → Type 0
MayBeLeftOfPut s slot address status items new =
    (new ≡ held_of s) ⊎ (IsWordPut (held_of s) new slot address status ⊎ IsStatusPutBy s slot address status items new)

-- and of any service: where it writes nothing all is as it was, or the patch is set; and where it prepares pages only pages
-- are prepared, or all was done
abbrev pub MayBeLeft : PlantState → (slot : ℕ) → Planned → Held PlantState → Type 0
MayBeLeft s slot (PlanOnce items) new = (new ≡ held_of s) ⊎ (new ≡ patched items (held_of s))
MayBeLeft s slot (PlanWrite tty from len items) new = MayBeLeftOfWrite (held_of s) tty (bytes_of s slot from len) items new
MayBeLeft s slot (PlanGrow count items) new = OnlyPrepares slot (held_of s) new ⊎ IsGrownBy s slot count items new
MayBeLeft s slot (PlanFork child items) new = OnlyPrepares child (held_of s) new ⊎ IsForkedBy s slot child items new
MayBeLeft s slot (PlanPut address status items) new = MayBeLeftOfPut s slot address status items new

-- a record of the head, of a process, of its signals or of its exit
abbrev pub is_of_process : AnyRec → Bool
is_of_process (any.Head head) = true
is_of_process (any.Proc process) = true
is_of_process (any.Sig signals) = true
is_of_process (any.Exit exit) = true
is_of_process other = false

-- the records of a patch are such: no description, file, cache entry, terminal or row is in it
abbrev pub AreOfProcesses : List PatchItem → Type 0
AreOfProcesses items = All (λ (item : PatchItem). is_of_process item.rec ≡ true) items

-- each terminal has room for the bytes of a piece
pub record HasRoom (s : PlantState) : Type 0 where
  pub each : (tty : ℕ) → tty < 2 → length (tty_of s tty).tape + 16 ≤ (tty_of s tty).room

-- what a plan writes has room
abbrev pub HasRoomFor : PlantState → Planned → Type 0
HasRoomFor s (PlanOnce items) = Unit {0}
HasRoomFor s (PlanWrite tty from len items) = HasRoom s
HasRoomFor s (PlanGrow count items) = Unit {0}
HasRoomFor s (PlanFork child items) = Unit {0}
HasRoomFor s (PlanPut address status items) = Unit {0}
