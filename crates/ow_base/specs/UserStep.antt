-- One user instruction of RV32I 2.1 (The RISC-V Instruction Set Manual, Volume I, chapter 2): what a
-- word tells the processor to do, and what that does to registers, pc and a space of addresses.
use Rattle.std.specs.Prelude.{ℕ, ◌+◌, ◌-◌, ◌*◌, ◌/◌, ◌%◌, ◌^◌, Bool, true, false, nat_lt, ◌==◌, not, if◌then◌else◌, List, slice_index, slice_set, bit_and, bit_or, bit_xor, Result, Ok, Err}
use Rattle.ow_base.specs.Words.{wrapped, bits, sign_extended}
use Rattle.ow_base.specs.declared.machine.Width.{Width}
use Rattle.ow_base.specs.declared.machine.Width.TheVariants.{Byte, Half, Word}
use Rattle.ow_base.specs.declared.machine.Fault.{Fault}

-- a register: x0 is always 0, and x1 to x31 are kept
abbrev pub register : List ℕ → ℕ → ℕ
register regs r = if r == 0 then 0 else slice_index regs (r - 1)

-- the registers after a write: what is written to x0 is lost
abbrev pub with_register : List ℕ → ℕ → ℕ → List ℕ
with_register regs r value = if r == 0 then regs else slice_set regs (r - 1) value

-- what an instruction tells the processor to do, its operands read
pub data Act : Type 0 where
  -- the register takes the value
  Sets : (rd value : ℕ) → Act
  -- the register takes the address behind the instruction, and control goes to the target
  Jumps : (rd target : ℕ) → Act
  -- control goes to the target where the branch is taken
  Branches : (taken : Bool) → (target : ℕ) → Act
  -- the register takes what is loaded, its sign extended where that is asked
  Loads : (width : Width) → (signed : Bool) → (rd address : ℕ) → Act
  Stores : (width : Width) → (address value : ℕ) → Act
  Nothing : Act
  Calls : Act
  Breaks : Act
  Illegal : Act

-- the five immediates of a word (manual, section 2.3), sign extended
abbrev pub i_immediate : ℕ → ℕ
i_immediate w = sign_extended 12 (bits w 20 12)

abbrev pub s_immediate : ℕ → ℕ
s_immediate w = sign_extended 12 (32 * bits w 25 7 + bits w 7 5)

abbrev pub b_immediate : ℕ → ℕ
b_immediate w = sign_extended 13 (4096 * bits w 31 1 + 2048 * bits w 7 1 + 32 * bits w 25 6 + 2 * bits w 8 4)

abbrev pub u_immediate : ℕ → ℕ
u_immediate w = 4096 * bits w 12 20

abbrev pub j_immediate : ℕ → ℕ
j_immediate w = sign_extended 21 (1048576 * bits w 31 1 + 4096 * bits w 12 8 + 2048 * bits w 20 1 + 2 * bits w 21 10)

-- a below b as signed numbers
abbrev pub signed_lt : ℕ → ℕ → Bool
signed_lt a b = nat_lt (wrapped (a + 2 ^ 31)) (wrapped (b + 2 ^ 31))

abbrev pub one_if : Bool → ℕ
one_if test = if test then 1 else 0

-- shifts, by less than 32
abbrev pub shifted_left : ℕ → ℕ → ℕ
shifted_left a by = wrapped (a * 2 ^ by)

abbrev pub shifted_right : ℕ → ℕ → ℕ
shifted_right a by = a / 2 ^ by

-- with copies of the sign bit coming in from the left
abbrev pub shifted_right_signed : ℕ → ℕ → ℕ
shifted_right_signed a by = if nat_lt a (2 ^ 31) then a / 2 ^ by else (2 ^ 32 - 1) - ((2 ^ 32 - 1) - a) / 2 ^ by

-- section 2.4: register and immediate (opcode 0x13), by funct3; a shift also by funct7
unfoldable pub immediate_act : (funct3 funct7 rd a imm amount : ℕ) → Act
immediate_act funct3 funct7 rd a imm amount =
    if funct3 == 0 then Sets rd (wrapped (a + imm)) else
    if funct3 == 2 then Sets rd (one_if (signed_lt a imm)) else
    if funct3 == 3 then Sets rd (one_if (nat_lt a imm)) else
    if funct3 == 4 then Sets rd (bit_xor a imm) else
    if funct3 == 6 then Sets rd (bit_or a imm) else
    if funct3 == 7 then Sets rd (bit_and a imm) else
    if funct3 == 1 then (if funct7 == 0 then Sets rd (shifted_left a amount) else Illegal) else
    if funct7 == 0 then Sets rd (shifted_right a amount) else
    if funct7 == 32 then Sets rd (shifted_right_signed a amount) else Illegal

-- section 2.4: register and register (opcode 0x33), by funct3 and funct7
unfoldable pub register_act : (funct3 funct7 rd a b : ℕ) → Act
register_act funct3 funct7 rd a b =
    if funct7 == 0 then
    (if funct3 == 0 then Sets rd (wrapped (a + b)) else
    if funct3 == 1 then Sets rd (shifted_left a (b % 32)) else
    if funct3 == 2 then Sets rd (one_if (signed_lt a b)) else
    if funct3 == 3 then Sets rd (one_if (nat_lt a b)) else
    if funct3 == 4 then Sets rd (bit_xor a b) else
    if funct3 == 5 then Sets rd (shifted_right a (b % 32)) else
    if funct3 == 6 then Sets rd (bit_or a b) else Sets rd (bit_and a b)) else
    if funct7 == 32 then
    (if funct3 == 0 then Sets rd (wrapped (a + (2 ^ 32 - b))) else
    if funct3 == 5 then Sets rd (shifted_right_signed a (b % 32)) else Illegal) else
    Illegal

-- section 2.5: conditional branches (opcode 0x63), by funct3
unfoldable pub branch_act : (funct3 a b target : ℕ) → Act
branch_act funct3 a b target =
    if funct3 == 0 then Branches (a == b) target else
    if funct3 == 1 then Branches (not (a == b)) target else
    if funct3 == 4 then Branches (signed_lt a b) target else
    if funct3 == 5 then Branches (not (signed_lt a b)) target else
    if funct3 == 6 then Branches (nat_lt a b) target else
    if funct3 == 7 then Branches (not (nat_lt a b)) target else Illegal

-- section 2.6: loads (opcode 0x03) and stores (opcode 0x23), by funct3
unfoldable pub load_act : (funct3 rd address : ℕ) → Act
load_act funct3 rd address =
    if funct3 == 0 then Loads Byte true rd address else
    if funct3 == 1 then Loads Half true rd address else
    if funct3 == 2 then Loads Word false rd address else
    if funct3 == 4 then Loads Byte false rd address else
    if funct3 == 5 then Loads Half false rd address else Illegal

unfoldable pub store_act : (funct3 address value : ℕ) → Act
store_act funct3 address value =
    if funct3 == 0 then Stores Byte address value else
    if funct3 == 1 then Stores Half address value else
    if funct3 == 2 then Stores Word address value else Illegal

-- section 2.8: the two SYSTEM words that a program may run
unfoldable pub system_act : (word : ℕ) → Act
system_act word = if word == 0x73 then Calls else if word == 0x100073 then Breaks else Illegal

-- the instruction that a word is, at this pc and with these registers: a row of the table, by its opcode
unfoldable pub act_of : (word : ℕ) → (regs : List ℕ) → (pc : ℕ) → Act
act_of w regs pc =
    let opcode = bits w 0 7 in
    let rd = bits w 7 5 in
    let funct3 = bits w 12 3 in
    let a = register regs (bits w 15 5) in
    let b = register regs (bits w 20 5) in
    let funct7 = bits w 25 7 in
    if opcode == 0x37 then Sets rd (u_immediate w) else
    if opcode == 0x17 then Sets rd (wrapped (pc + u_immediate w)) else
    if opcode == 0x6f then Jumps rd (wrapped (pc + j_immediate w)) else
    if opcode == 0x67 then (if funct3 == 0 then Jumps rd (wrapped (a + i_immediate w) / 2 * 2) else Illegal) else
    if opcode == 0x63 then branch_act funct3 a b (wrapped (pc + b_immediate w)) else
    if opcode == 0x03 then load_act funct3 rd (wrapped (a + i_immediate w)) else
    if opcode == 0x23 then store_act funct3 (wrapped (a + s_immediate w)) b else
    if opcode == 0x13 then immediate_act funct3 funct7 rd a (i_immediate w) (bits w 20 5) else
    if opcode == 0x33 then register_act funct3 funct7 rd a b else
    if opcode == 0x0f then (if funct3 == 0 then Nothing else Illegal) else
    if opcode == 0x73 then system_act w else Illegal

-- what a step comes to: the next registers, pc and space, or a call, or a fault
pub data Stepped (Image : Type 0) : Type 0 where
  Next : (regs : List ℕ) → (pc : ℕ) → (image : Image) → Stepped Image
  Call : Stepped Image
  Faulted : (fault : Fault) → Stepped Image

-- how a space answers: a fetch, a load (zero-extended), and a store with the space after it
pub record Spaces (Image : Type 0) : Type 0 where
  pub fetched : Image → (address : ℕ) → Result ℕ Fault
  pub loaded : Image → (address : ℕ) → Width → Result ℕ Fault
  pub stored : Image → (address : ℕ) → Width → (value : ℕ) → Result Image Fault

-- the bytes of a width
abbrev pub size_of : Width → ℕ
size_of Byte = 1
size_of Half = 2
size_of Word = 4

abbrev pub is_aligned : ℕ → ℕ → Bool
is_aligned address size = address % size == 0

abbrev pub fault_at : (cause value : ℕ) → Fault
fault_at cause value = record { cause = cause; value = value }

-- what a register takes of a loaded value
abbrev pub extended : Width → Bool → ℕ → ℕ
extended width false v = v
extended Byte true v = sign_extended 8 v
extended Half true v = sign_extended 16 v
extended Word true v = v

module _ {Image : Type 0} where
  -- control goes on at the target, or a target that is no multiple of four faults at the jump
  unfoldable pub gone_to : (regs : List ℕ) → (target : ℕ) → Image → Stepped Image
  gone_to regs target image = if is_aligned target 4 then Next regs target image else Faulted (fault_at 0 target)

  unfoldable pub after_load : (regs : List ℕ) → (pc rd : ℕ) → Width → Bool → Image → Result ℕ Fault → Stepped Image
  after_load regs pc rd width signed image (Ok v) = Next (with_register regs rd (extended width signed v)) (wrapped (pc + 4)) image
  after_load regs pc rd width signed image (Err f) = Faulted f

  unfoldable pub after_store : (regs : List ℕ) → (pc : ℕ) → Result Image Fault → Stepped Image
  after_store regs pc (Ok image) = Next regs (wrapped (pc + 4)) image
  after_store regs pc (Err f) = Faulted f

  -- what an instruction does; a misaligned address faults before its page is looked at
  unfoldable pub acted : Spaces Image → (word : ℕ) → (regs : List ℕ) → (pc : ℕ) → Image → Act → Stepped Image
  acted space word regs pc image (Sets rd value) = Next (with_register regs rd value) (wrapped (pc + 4)) image
  acted space word regs pc image (Jumps rd target) = gone_to (with_register regs rd (wrapped (pc + 4))) target image
  acted space word regs pc image (Branches taken target) =
      if taken then gone_to regs target image else Next regs (wrapped (pc + 4)) image
  acted space word regs pc image (Loads width signed rd address) =
      if is_aligned address (size_of width) then after_load regs pc rd width signed image (space.loaded image address width)
      else Faulted (fault_at 4 address)
  acted space word regs pc image (Stores width address value) =
      if is_aligned address (size_of width) then after_store regs pc (space.stored image address width value)
      else Faulted (fault_at 6 address)
  acted space word regs pc image Nothing = Next regs (wrapped (pc + 4)) image
  acted space word regs pc image Calls = Call
  acted space word regs pc image Breaks = Faulted (fault_at 3 pc)
  acted space word regs pc image Illegal = Faulted (fault_at 2 word)

  unfoldable pub after_fetch : Spaces Image → (regs : List ℕ) → (pc : ℕ) → Image → Result ℕ Fault → Stepped Image
  after_fetch space regs pc image (Ok word) = acted space word regs pc image (act_of word regs pc)
  after_fetch space regs pc image (Err f) = Faulted f

  -- UserStep: one instruction
  unfoldable pub user_step : Spaces Image → (regs : List ℕ) → (pc : ℕ) → Image → Stepped Image
  user_step space regs pc image =
      if is_aligned pc 4 then after_fetch space regs pc image (space.fetched image pc)
      else Faulted (fault_at 0 pc)
