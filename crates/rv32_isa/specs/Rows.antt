-- The row of the table that a word is, read from its fields.
use Rattle.std.specs.Prelude.{ℕ, ◌==◌, if◌then◌else◌, Option, Some, None}
use Rattle.ow_base.specs.Words.{bits}
use Rattle.ow_base.specs.UserStep.{i_immediate, s_immediate, b_immediate, j_immediate}
use Rattle.rv32_isa.specs.declared.instr.Instr.{Instr}
use Rattle.rv32_isa.specs.declared.instr.Instr.TheVariants.{Lui, Auipc, Jal, Jalr, Beq, Bne, Blt, Bge, Bltu, Bgeu, Lb, Lh, Lw, Lbu, Lhu, Sb, Sh, Sw, Addi, Slti, Sltiu, Xori, Ori, Andi, Slli, Srli, Srai, Add, Sub, Sll, Slt, Sltu, Xor, Srl, Sra, Or, And, Fence, Ecall, Ebreak}

-- conditional branches (opcode 0x63), by funct3
unfoldable pub branch_row : (funct3 rs1 rs2 offset : ℕ) → Option Instr
branch_row funct3 rs1 rs2 offset =
    if funct3 == 0 then Some (Beq rs1 rs2 offset) else
    if funct3 == 1 then Some (Bne rs1 rs2 offset) else
    if funct3 == 4 then Some (Blt rs1 rs2 offset) else
    if funct3 == 5 then Some (Bge rs1 rs2 offset) else
    if funct3 == 6 then Some (Bltu rs1 rs2 offset) else
    if funct3 == 7 then Some (Bgeu rs1 rs2 offset) else None

-- loads (opcode 0x03), by funct3
unfoldable pub load_row : (funct3 rd rs1 offset : ℕ) → Option Instr
load_row funct3 rd rs1 offset =
    if funct3 == 0 then Some (Lb rd rs1 offset) else
    if funct3 == 1 then Some (Lh rd rs1 offset) else
    if funct3 == 2 then Some (Lw rd rs1 offset) else
    if funct3 == 4 then Some (Lbu rd rs1 offset) else
    if funct3 == 5 then Some (Lhu rd rs1 offset) else None

-- stores (opcode 0x23), by funct3
unfoldable pub store_row : (funct3 rs1 rs2 offset : ℕ) → Option Instr
store_row funct3 rs1 rs2 offset =
    if funct3 == 0 then Some (Sb rs1 rs2 offset) else
    if funct3 == 1 then Some (Sh rs1 rs2 offset) else
    if funct3 == 2 then Some (Sw rs1 rs2 offset) else None

-- shifts by an immediate (opcode 0x13), by funct3 and funct7
unfoldable pub shift_row : (funct3 funct7 rd rs1 amount : ℕ) → Option Instr
shift_row funct3 funct7 rd rs1 amount =
    if funct3 == 1 then (if funct7 == 0 then Some (Slli rd rs1 amount) else None) else
    if funct7 == 0 then Some (Srli rd rs1 amount) else
    if funct7 == 32 then Some (Srai rd rs1 amount) else None

-- register and immediate (opcode 0x13), by funct3
unfoldable pub immediate_row : (funct3 funct7 rd rs1 imm amount : ℕ) → Option Instr
immediate_row funct3 funct7 rd rs1 imm amount =
    if funct3 == 0 then Some (Addi rd rs1 imm) else
    if funct3 == 2 then Some (Slti rd rs1 imm) else
    if funct3 == 3 then Some (Sltiu rd rs1 imm) else
    if funct3 == 4 then Some (Xori rd rs1 imm) else
    if funct3 == 6 then Some (Ori rd rs1 imm) else
    if funct3 == 7 then Some (Andi rd rs1 imm) else shift_row funct3 funct7 rd rs1 amount

-- register and register (opcode 0x33), by funct3 and funct7
unfoldable pub register_row : (funct3 funct7 rd rs1 rs2 : ℕ) → Option Instr
register_row funct3 funct7 rd rs1 rs2 =
    if funct7 == 0 then
    (if funct3 == 0 then Some (Add rd rs1 rs2) else
    if funct3 == 1 then Some (Sll rd rs1 rs2) else
    if funct3 == 2 then Some (Slt rd rs1 rs2) else
    if funct3 == 3 then Some (Sltu rd rs1 rs2) else
    if funct3 == 4 then Some (Xor rd rs1 rs2) else
    if funct3 == 5 then Some (Srl rd rs1 rs2) else
    if funct3 == 6 then Some (Or rd rs1 rs2) else Some (And rd rs1 rs2)) else
    if funct7 == 32 then
    (if funct3 == 0 then Some (Sub rd rs1 rs2) else
    if funct3 == 5 then Some (Sra rd rs1 rs2) else None) else
    None

-- the two words of opcode 0x73
unfoldable pub system_row : (word : ℕ) → Option Instr
system_row word = if word == 0x73 then Some Ecall else if word == 0x100073 then Some Ebreak else None

-- the row by the fields of a word
unfoldable pub row_by : (word opcode rd funct3 rs1 rs2 funct7 : ℕ) → Option Instr
row_by w opcode rd funct3 rs1 rs2 funct7 =
    if opcode == 0x37 then Some (Lui rd (bits w 12 20)) else
    if opcode == 0x17 then Some (Auipc rd (bits w 12 20)) else
    if opcode == 0x6f then Some (Jal rd (j_immediate w)) else
    if opcode == 0x67 then (if funct3 == 0 then Some (Jalr rd rs1 (i_immediate w)) else None) else
    if opcode == 0x63 then branch_row funct3 rs1 rs2 (b_immediate w) else
    if opcode == 0x03 then load_row funct3 rd rs1 (i_immediate w) else
    if opcode == 0x23 then store_row funct3 rs1 rs2 (s_immediate w) else
    if opcode == 0x13 then immediate_row funct3 funct7 rd rs1 (i_immediate w) (bits w 20 5) else
    if opcode == 0x33 then register_row funct3 funct7 rd rs1 rs2 else
    if opcode == 0x0f then (if funct3 == 0 then Some (Fence rd rs1 (i_immediate w)) else None) else
    if opcode == 0x73 then system_row w else None

-- the row that a word is
unfoldable pub row_of : (word : ℕ) → Option Instr
row_of w = row_by w (bits w 0 7) (bits w 7 5) (bits w 12 3) (bits w 15 5) (bits w 20 5) (bits w 25 7)
