-- The table of RV32I 2.1 (The RISC-V Instruction Set Manual, Volume I, chapter 2 and its listing of
-- opcodes): the word of each instruction.
use Rattle.std.specs.Prelude.{ℕ, ◌+◌, ◌*◌, ◌/◌, ◌%◌, ◌^◌, ◌<◌, Bool, true, false}
use Rattle.rv32_isa.specs.Fields.{IsSigned, IsEvenSigned}
use Rattle.rv32_isa.specs.declared.instr.Instr.{Instr}
use Rattle.rv32_isa.specs.declared.instr.Instr.TheVariants.{Lui, Auipc, Jal, Jalr, Beq, Bne, Blt, Bge, Bltu, Bgeu, Lb, Lh, Lw, Lbu, Lhu, Sb, Sh, Sw, Addi, Slti, Sltiu, Xori, Ori, Andi, Slli, Srli, Srai, Add, Sub, Sll, Slt, Sltu, Xor, Srl, Sra, Or, And, Fence, Ecall, Ebreak}

-- the formats of a word (manual, sections 2.2 and 2.3), as sums of their fields
abbrev pub r_word : (opcode funct3 funct7 rd rs1 rs2 : ℕ) → ℕ
r_word opcode funct3 funct7 rd rs1 rs2 =
    opcode + 2 ^ 7 * rd + 2 ^ 12 * funct3 + 2 ^ 15 * rs1 + 2 ^ 20 * rs2 + 2 ^ 25 * funct7

abbrev pub i_word : (opcode funct3 rd rs1 imm : ℕ) → ℕ
i_word opcode funct3 rd rs1 imm = opcode + 2 ^ 7 * rd + 2 ^ 12 * funct3 + 2 ^ 15 * rs1 + 2 ^ 20 * (imm % 2 ^ 12)

abbrev pub s_word : (opcode funct3 rs1 rs2 imm : ℕ) → ℕ
s_word opcode funct3 rs1 rs2 imm =
    opcode + 2 ^ 7 * (imm % 2 ^ 5) + 2 ^ 12 * funct3 + 2 ^ 15 * rs1 + 2 ^ 20 * rs2 + 2 ^ 25 * (imm / 2 ^ 5 % 2 ^ 7)

abbrev pub b_word : (opcode funct3 rs1 rs2 imm : ℕ) → ℕ
b_word opcode funct3 rs1 rs2 imm =
    opcode + 2 ^ 7 * (imm / 2 ^ 11 % 2) + 2 ^ 8 * (imm / 2 % 2 ^ 4) + 2 ^ 12 * funct3 + 2 ^ 15 * rs1 + 2 ^ 20 * rs2
    + 2 ^ 25 * (imm / 2 ^ 5 % 2 ^ 6) + 2 ^ 31 * (imm / 2 ^ 12 % 2)

abbrev pub u_word : (opcode rd imm : ℕ) → ℕ
u_word opcode rd imm = opcode + 2 ^ 7 * rd + 2 ^ 12 * imm

abbrev pub j_word : (opcode rd imm : ℕ) → ℕ
j_word opcode rd imm =
    opcode + 2 ^ 7 * rd + 2 ^ 12 * (imm / 2 ^ 12 % 2 ^ 8) + 2 ^ 20 * (imm / 2 ^ 11 % 2) + 2 ^ 21 * (imm / 2 % 2 ^ 10)
    + 2 ^ 31 * (imm / 2 ^ 20 % 2)

-- the word of an instruction: a row of the table for each
abbrev pub word_of : Instr → ℕ
word_of (Lui rd imm) = u_word 0x37 rd imm
word_of (Auipc rd imm) = u_word 0x17 rd imm
word_of (Jal rd offset) = j_word 0x6f rd offset
word_of (Jalr rd rs1 offset) = i_word 0x67 0 rd rs1 offset
word_of (Beq rs1 rs2 offset) = b_word 0x63 0 rs1 rs2 offset
word_of (Bne rs1 rs2 offset) = b_word 0x63 1 rs1 rs2 offset
word_of (Blt rs1 rs2 offset) = b_word 0x63 4 rs1 rs2 offset
word_of (Bge rs1 rs2 offset) = b_word 0x63 5 rs1 rs2 offset
word_of (Bltu rs1 rs2 offset) = b_word 0x63 6 rs1 rs2 offset
word_of (Bgeu rs1 rs2 offset) = b_word 0x63 7 rs1 rs2 offset
word_of (Lb rd rs1 offset) = i_word 0x03 0 rd rs1 offset
word_of (Lh rd rs1 offset) = i_word 0x03 1 rd rs1 offset
word_of (Lw rd rs1 offset) = i_word 0x03 2 rd rs1 offset
word_of (Lbu rd rs1 offset) = i_word 0x03 4 rd rs1 offset
word_of (Lhu rd rs1 offset) = i_word 0x03 5 rd rs1 offset
word_of (Sb rs1 rs2 offset) = s_word 0x23 0 rs1 rs2 offset
word_of (Sh rs1 rs2 offset) = s_word 0x23 1 rs1 rs2 offset
word_of (Sw rs1 rs2 offset) = s_word 0x23 2 rs1 rs2 offset
word_of (Addi rd rs1 imm) = i_word 0x13 0 rd rs1 imm
word_of (Slti rd rs1 imm) = i_word 0x13 2 rd rs1 imm
word_of (Sltiu rd rs1 imm) = i_word 0x13 3 rd rs1 imm
word_of (Xori rd rs1 imm) = i_word 0x13 4 rd rs1 imm
word_of (Ori rd rs1 imm) = i_word 0x13 6 rd rs1 imm
word_of (Andi rd rs1 imm) = i_word 0x13 7 rd rs1 imm
word_of (Slli rd rs1 amount) = r_word 0x13 1 0 rd rs1 amount
word_of (Srli rd rs1 amount) = r_word 0x13 5 0 rd rs1 amount
word_of (Srai rd rs1 amount) = r_word 0x13 5 32 rd rs1 amount
word_of (Add rd rs1 rs2) = r_word 0x33 0 0 rd rs1 rs2
word_of (Sub rd rs1 rs2) = r_word 0x33 0 32 rd rs1 rs2
word_of (Sll rd rs1 rs2) = r_word 0x33 1 0 rd rs1 rs2
word_of (Slt rd rs1 rs2) = r_word 0x33 2 0 rd rs1 rs2
word_of (Sltu rd rs1 rs2) = r_word 0x33 3 0 rd rs1 rs2
word_of (Xor rd rs1 rs2) = r_word 0x33 4 0 rd rs1 rs2
word_of (Srl rd rs1 rs2) = r_word 0x33 5 0 rd rs1 rs2
word_of (Sra rd rs1 rs2) = r_word 0x33 5 32 rd rs1 rs2
word_of (Or rd rs1 rs2) = r_word 0x33 6 0 rd rs1 rs2
word_of (And rd rs1 rs2) = r_word 0x33 7 0 rd rs1 rs2
word_of (Fence rd rs1 imm) = i_word 0x0f 0 rd rs1 imm
word_of Ecall = 0x73
word_of Ebreak = 0x100073

-- the fields of an instruction are in their ranges
abbrev pub Fits : Instr → Type 0
Fits (Lui rd imm) = (rd < 32) × (imm < 2 ^ 20)
Fits (Auipc rd imm) = (rd < 32) × (imm < 2 ^ 20)
Fits (Jal rd offset) = (rd < 32) × IsEvenSigned 21 offset
Fits (Jalr rd rs1 offset) = (rd < 32) × (rs1 < 32) × IsSigned 12 offset
Fits (Beq rs1 rs2 offset) = (rs1 < 32) × (rs2 < 32) × IsEvenSigned 13 offset
Fits (Bne rs1 rs2 offset) = (rs1 < 32) × (rs2 < 32) × IsEvenSigned 13 offset
Fits (Blt rs1 rs2 offset) = (rs1 < 32) × (rs2 < 32) × IsEvenSigned 13 offset
Fits (Bge rs1 rs2 offset) = (rs1 < 32) × (rs2 < 32) × IsEvenSigned 13 offset
Fits (Bltu rs1 rs2 offset) = (rs1 < 32) × (rs2 < 32) × IsEvenSigned 13 offset
Fits (Bgeu rs1 rs2 offset) = (rs1 < 32) × (rs2 < 32) × IsEvenSigned 13 offset
Fits (Lb rd rs1 offset) = (rd < 32) × (rs1 < 32) × IsSigned 12 offset
Fits (Lh rd rs1 offset) = (rd < 32) × (rs1 < 32) × IsSigned 12 offset
Fits (Lw rd rs1 offset) = (rd < 32) × (rs1 < 32) × IsSigned 12 offset
Fits (Lbu rd rs1 offset) = (rd < 32) × (rs1 < 32) × IsSigned 12 offset
Fits (Lhu rd rs1 offset) = (rd < 32) × (rs1 < 32) × IsSigned 12 offset
Fits (Sb rs1 rs2 offset) = (rs1 < 32) × (rs2 < 32) × IsSigned 12 offset
Fits (Sh rs1 rs2 offset) = (rs1 < 32) × (rs2 < 32) × IsSigned 12 offset
Fits (Sw rs1 rs2 offset) = (rs1 < 32) × (rs2 < 32) × IsSigned 12 offset
Fits (Addi rd rs1 imm) = (rd < 32) × (rs1 < 32) × IsSigned 12 imm
Fits (Slti rd rs1 imm) = (rd < 32) × (rs1 < 32) × IsSigned 12 imm
Fits (Sltiu rd rs1 imm) = (rd < 32) × (rs1 < 32) × IsSigned 12 imm
Fits (Xori rd rs1 imm) = (rd < 32) × (rs1 < 32) × IsSigned 12 imm
Fits (Ori rd rs1 imm) = (rd < 32) × (rs1 < 32) × IsSigned 12 imm
Fits (Andi rd rs1 imm) = (rd < 32) × (rs1 < 32) × IsSigned 12 imm
Fits (Slli rd rs1 amount) = (rd < 32) × (rs1 < 32) × (amount < 32)
Fits (Srli rd rs1 amount) = (rd < 32) × (rs1 < 32) × (amount < 32)
Fits (Srai rd rs1 amount) = (rd < 32) × (rs1 < 32) × (amount < 32)
Fits (Add rd rs1 rs2) = (rd < 32) × (rs1 < 32) × (rs2 < 32)
Fits (Sub rd rs1 rs2) = (rd < 32) × (rs1 < 32) × (rs2 < 32)
Fits (Sll rd rs1 rs2) = (rd < 32) × (rs1 < 32) × (rs2 < 32)
Fits (Slt rd rs1 rs2) = (rd < 32) × (rs1 < 32) × (rs2 < 32)
Fits (Sltu rd rs1 rs2) = (rd < 32) × (rs1 < 32) × (rs2 < 32)
Fits (Xor rd rs1 rs2) = (rd < 32) × (rs1 < 32) × (rs2 < 32)
Fits (Srl rd rs1 rs2) = (rd < 32) × (rs1 < 32) × (rs2 < 32)
Fits (Sra rd rs1 rs2) = (rd < 32) × (rs1 < 32) × (rs2 < 32)
Fits (Or rd rs1 rs2) = (rd < 32) × (rs1 < 32) × (rs2 < 32)
Fits (And rd rs1 rs2) = (rd < 32) × (rs1 < 32) × (rs2 < 32)
Fits (Fence rd rs1 imm) = (rd < 32) × (rs1 < 32) × IsSigned 12 imm
Fits Ecall = Unit {0}
Fits Ebreak = Unit {0}

-- the instruction computes a register's next value, and does nothing else
abbrev pub is_computation : Instr → Bool
is_computation (Lui rd imm) = true
is_computation (Auipc rd imm) = true
is_computation (Addi rd rs1 imm) = true
is_computation (Slti rd rs1 imm) = true
is_computation (Sltiu rd rs1 imm) = true
is_computation (Xori rd rs1 imm) = true
is_computation (Ori rd rs1 imm) = true
is_computation (Andi rd rs1 imm) = true
is_computation (Slli rd rs1 amount) = true
is_computation (Srli rd rs1 amount) = true
is_computation (Srai rd rs1 amount) = true
is_computation (Add rd rs1 rs2) = true
is_computation (Sub rd rs1 rs2) = true
is_computation (Sll rd rs1 rs2) = true
is_computation (Slt rd rs1 rs2) = true
is_computation (Sltu rd rs1 rs2) = true
is_computation (Xor rd rs1 rs2) = true
is_computation (Srl rd rs1 rs2) = true
is_computation (Sra rd rs1 rs2) = true
is_computation (Or rd rs1 rs2) = true
is_computation (And rd rs1 rs2) = true
is_computation _ = false
