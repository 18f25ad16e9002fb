-- The state of the Unix that never panics, and the state that a world begins with.
use Rattle.std.specs.Prelude.{ℕ, zero, suc, ◌+◌, ◌-◌, ◌*◌, Bool, true, false, nat_lt, nat_le, ◌&&◌, ◌||◌, ◌==◌, if◌then◌else◌, List, [], ◌∷◌, length, replicate, slice_get, Option, Some, None, option_and_then}
use Rattle.ow_base.specs.Words.{byte_of_words}
use Rattle.ow_base.specs.Pages.{Pages}
use Rattle.ow_base.specs.World.{page_count}
use Rattle.ow_base.specs.declared.machine.Bank.{Bank}
use Rattle.ow_base.specs.declared.machine.Rights.{Rights}
use Rattle.ow_base.specs.declared.machine.Rights.TheVariants.{Code, Values}
use Rattle.ow_base.specs.declared.worlds.Load.{Load}
use Rattle.ow_base.specs.declared.worlds.Program.{Program}
use Rattle.ow_base.specs.declared.worlds.Start.{Start as Started}

-- pids are 1 to 256
abbrev pub most_pids : ℕ
most_pids = 256

-- the least number that passes, of so many from the first one on
unfoldable pub least_from : (test : ℕ → Bool) → (first count : ℕ) → Option ℕ
least_from test first zero = None
least_from test first (suc n) = if test first then Some first else least_from test (first + 1) n

-- the sum over so many numbers from the first one on
unfoldable pub sum_from : (value : ℕ → ℕ) → (first count : ℕ) → ℕ
sum_from value first zero = 0
sum_from value first (suc n) = value first + sum_from value (first + 1) n

-- how many of so many numbers from the first one on pass
unfoldable pub count_from : (test : ℕ → Bool) → (first count : ℕ) → ℕ
count_from test first count = sum_from (λ n. if test n then 1 else 0) first count

-- a process is outside a call, or in one of this number, of which so many bytes are done
pub data CallState : Type 0 where
  Out : CallState
  In : (number done : ℕ) → CallState

-- a live process
pub record Process : Type 0 where
  pub call : CallState
  pub bank : Bank
  pub pages : Pages
  -- bytes above the heap's start
  pub brk : ℕ
  -- eight descriptors, each the number of a description
  pub descriptors : List (Option ℕ)
  -- the handlers of signals 1 to 15
  pub handlers : List ℕ
  pub pending : ℕ → Bool
  -- the context saved for a handler that runs
  pub handler_save : Option Bank
  -- the address of the crash procedure, 0 for none; its saved context and mask where it runs
  pub procedure : ℕ
  pub procedure_save : Option (Bank × ℕ)
  pub parent : ℕ

-- an ended process that its live parent has not waited for
pub record EndedChild : Type 0 where
  pub parent : ℕ
  pub status : ℕ

-- what a description is open on
pub data Object : Type 0 where
  OnFile : (file : ℕ) → Object
  OnTty : (tty : ℕ) → Object

pub record Description : Type 0 where
  pub object : Object
  pub reads : Bool
  pub writes : Bool
  pub offset : ℕ

pub record File : Type 0 where
  pub name : List ℕ
  pub bytes : List ℕ
  pub kept_pages : ℕ

-- the bytes written, how many of them there were at the last reset, and how many typed bytes are consumed
pub record Terminal : Type 0 where
  pub tape : List ℕ
  pub base : ℕ
  pub consumed : ℕ

-- where the machine is: in the kernel, in a process so many instructions since the return to it, or in a
-- panic that broke a call of the caller (0 for none)
pub data Position : Type 0 where
  AtKernel : Position
  AtUser : (pid count : ℕ) → Position
  AtPanic : (caller : ℕ) → Position

pub record Unix : Type 0 where
  pub processes : ℕ → Option Process
  pub ended : ℕ → Option EndedChild
  pub descriptions : ℕ → Option Description
  pub files : ℕ → Option File
  -- how many pages the machine has room for
  pub room : ℕ
  pub terminals : ℕ → Terminal
  -- status words by pid
  pub exits : ℕ → Option ℕ
  pub next_pid : ℕ
  pub last_pid : ℕ
  pub steps : ℕ
  pub traps : ℕ
  pub position : Position

-- one of these descriptors names the description
abbrev pub is_this : Option ℕ → (number : ℕ) → Bool
is_this (Some n) number = n == number
is_this None number = false

unfoldable pub is_among : (number : ℕ) → List (Option ℕ) → Bool
is_among number [] = false
is_among number (d ∷ ds) = is_this d number || is_among number ds

abbrev pub is_named_by : (number : ℕ) → Option Process → Bool
is_named_by number (Some process) = is_among number process.descriptors
is_named_by number None = false

-- one of so many processes from the first pid on has a descriptor that names the description
unfoldable pub is_named : (processes : ℕ → Option Process) → (number first count : ℕ) → Bool
is_named processes number first zero = false
is_named processes number first (suc count) = is_named_by number (processes first) || is_named processes number (first + 1) count

-- of these descriptions those that are in use: a live process has a descriptor that names them
unfoldable pub in_use : (processes : ℕ → Option Process) → (ℕ → Option Description) → ℕ → Option Description
in_use processes descriptions number = if is_named processes number 1 most_pids then descriptions number else None

-- the address of the code, and the page numbers of code and stack
abbrev pub code_start : ℕ
code_start = 0x10000

abbrev pub is_within : (first count page : ℕ) → Bool
is_within first count page = nat_le first page && nat_lt page (first + count)

-- the pages of a program that starts: its code from 0x10000 on, its data on the page behind, and four pages
-- of stack that end at 0x80000000
unfoldable pub started_rights : (code_pages data_pages page : ℕ) → Option Rights
started_rights code_pages data_pages page =
    if is_within 16 code_pages page then Some Code else
    if is_within (16 + code_pages) data_pages page then Some Values else
    if is_within 0x7fffc 4 page then Some Values else None

unfoldable pub started_byte : (code values : List ℕ) → (address : ℕ) → ℕ
started_byte code values a =
    let values_start = code_start + 4096 * page_count code in
    if nat_lt a code_start then 0 else
    if nat_lt a values_start then byte_of_words code (a - code_start) else byte_of_words values (a - values_start)

unfoldable pub started_pages : Program → Pages
started_pages program = record {
  rights = started_rights (page_count program.code) (page_count program.values);
  bytes = started_byte program.code program.values;
}

-- sp is 0x7ffffff0, all other registers are 0, and pc is where the code begins
abbrev pub started_bank : Bank
started_bank = record { pc = 0x10000; regs = 0 ∷ 0x7ffffff0 ∷ replicate 29 0 }

-- descriptors 0, 1 and 2 are one description
abbrev pub started_descriptors : (description : ℕ) → List (Option ℕ)
started_descriptors d = Some d ∷ Some d ∷ Some d ∷ None ∷ None ∷ None ∷ None ∷ None ∷ []

unfoldable pub started_process : (description : ℕ) → Program → Process
started_process description program = record {
  call = Out;
  bank = started_bank;
  pages = started_pages program;
  brk = 0;
  descriptors = started_descriptors description;
  handlers = replicate 15 0;
  pending = λ _. false;
  handler_save = None;
  procedure = 0;
  procedure_save = None;
  parent = 0;
}

-- the p-th start, counted from 1, is process p with description p - 1 on its terminal
unfoldable pub started_as : Load → (pid : ℕ) → Option Process
started_as load pid = if pid == 0 then None else
    option_and_then (λ (s : Started). option_and_then (λ (program : Program). Some (started_process (pid - 1) program)) (slice_get load.programs s.program))
    (slice_get load.starts (pid - 1))

unfoldable pub started_description : Load → (number : ℕ) → Option Description
started_description load number =
    option_and_then (λ (s : Started). Some (record { object = OnTty s.tty; reads = true; writes = true; offset = 0 }))
    (slice_get load.starts number)

abbrev pub silent_terminal : Terminal
silent_terminal = record { tape = []; base = 0; consumed = 0 }

-- Start: the state that a load begins with
unfoldable pub start_of : Load → Unix
start_of load = record {
  processes = started_as load;
  ended = λ _. None;
  descriptions = started_description load;
  files = λ _. None;
  room = load.shape.user_frames;
  terminals = λ _. silent_terminal;
  exits = λ _. None;
  next_pid = length load.starts + 1;
  last_pid = 0;
  steps = 0;
  traps = 0;
  position = AtKernel;
}
