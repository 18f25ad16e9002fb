-- What each instruction tells the processor to do, its operands read (manual, sections 2.4 to 2.8).
use Rattle.std.specs.Prelude.{ℕ, ◌+◌, ◌-◌, ◌*◌, ◌/◌, ◌%◌, ◌^◌, true, false, nat_lt, ◌==◌, not, List, bit_and, bit_or, bit_xor, Option, Some, None}
use Rattle.ow_base.specs.declared.machine.Width.TheVariants.{Byte, Half, Word}
use Rattle.ow_base.specs.Words.{wrapped}
use Rattle.ow_base.specs.UserStep.{Act, Sets, Jumps, Branches, Loads, Stores, Nothing, Calls, Breaks, Illegal, register, signed_lt, one_if, shifted_left, shifted_right, shifted_right_signed}
use Rattle.rv32_isa.specs.declared.instr.Instr.{Instr}
use Rattle.rv32_isa.specs.declared.instr.Instr.TheVariants.{Lui, Auipc, Jal, Jalr, Beq, Bne, Blt, Bge, Bltu, Bgeu, Lb, Lh, Lw, Lbu, Lhu, Sb, Sh, Sw, Addi, Slti, Sltiu, Xori, Ori, Andi, Slli, Srli, Srai, Add, Sub, Sll, Slt, Sltu, Xor, Srl, Sra, Or, And, Fence, Ecall, Ebreak}

-- what an instruction does at this pc and with these registers
abbrev pub act : Instr → (regs : List ℕ) → (pc : ℕ) → Act
act (Lui rd imm) regs pc = Sets rd (4096 * imm)
act (Auipc rd imm) regs pc = Sets rd (wrapped (pc + 4096 * imm))
act (Jal rd offset) regs pc = Jumps rd (wrapped (pc + offset))
act (Jalr rd rs1 offset) regs pc = Jumps rd (wrapped (register regs rs1 + offset) / 2 * 2)
act (Beq rs1 rs2 offset) regs pc = Branches (register regs rs1 == register regs rs2) (wrapped (pc + offset))
act (Bne rs1 rs2 offset) regs pc = Branches (not (register regs rs1 == register regs rs2)) (wrapped (pc + offset))
act (Blt rs1 rs2 offset) regs pc = Branches (signed_lt (register regs rs1) (register regs rs2)) (wrapped (pc + offset))
act (Bge rs1 rs2 offset) regs pc = Branches (not (signed_lt (register regs rs1) (register regs rs2))) (wrapped (pc + offset))
act (Bltu rs1 rs2 offset) regs pc = Branches (nat_lt (register regs rs1) (register regs rs2)) (wrapped (pc + offset))
act (Bgeu rs1 rs2 offset) regs pc = Branches (not (nat_lt (register regs rs1) (register regs rs2))) (wrapped (pc + offset))
act (Lb rd rs1 offset) regs pc = Loads Byte true rd (wrapped (register regs rs1 + offset))
act (Lh rd rs1 offset) regs pc = Loads Half true rd (wrapped (register regs rs1 + offset))
act (Lw rd rs1 offset) regs pc = Loads Word false rd (wrapped (register regs rs1 + offset))
act (Lbu rd rs1 offset) regs pc = Loads Byte false rd (wrapped (register regs rs1 + offset))
act (Lhu rd rs1 offset) regs pc = Loads Half false rd (wrapped (register regs rs1 + offset))
act (Sb rs1 rs2 offset) regs pc = Stores Byte (wrapped (register regs rs1 + offset)) (register regs rs2)
act (Sh rs1 rs2 offset) regs pc = Stores Half (wrapped (register regs rs1 + offset)) (register regs rs2)
act (Sw rs1 rs2 offset) regs pc = Stores Word (wrapped (register regs rs1 + offset)) (register regs rs2)
act (Addi rd rs1 imm) regs pc = Sets rd (wrapped (register regs rs1 + imm))
act (Slti rd rs1 imm) regs pc = Sets rd (one_if (signed_lt (register regs rs1) imm))
act (Sltiu rd rs1 imm) regs pc = Sets rd (one_if (nat_lt (register regs rs1) imm))
act (Xori rd rs1 imm) regs pc = Sets rd (bit_xor (register regs rs1) imm)
act (Ori rd rs1 imm) regs pc = Sets rd (bit_or (register regs rs1) imm)
act (Andi rd rs1 imm) regs pc = Sets rd (bit_and (register regs rs1) imm)
act (Slli rd rs1 amount) regs pc = Sets rd (shifted_left (register regs rs1) amount)
act (Srli rd rs1 amount) regs pc = Sets rd (shifted_right (register regs rs1) amount)
act (Srai rd rs1 amount) regs pc = Sets rd (shifted_right_signed (register regs rs1) amount)
act (Add rd rs1 rs2) regs pc = Sets rd (wrapped (register regs rs1 + register regs rs2))
act (Sub rd rs1 rs2) regs pc = Sets rd (wrapped (register regs rs1 + (2 ^ 32 - register regs rs2)))
act (Sll rd rs1 rs2) regs pc = Sets rd (shifted_left (register regs rs1) (register regs rs2 % 32))
act (Slt rd rs1 rs2) regs pc = Sets rd (one_if (signed_lt (register regs rs1) (register regs rs2)))
act (Sltu rd rs1 rs2) regs pc = Sets rd (one_if (nat_lt (register regs rs1) (register regs rs2)))
act (Xor rd rs1 rs2) regs pc = Sets rd (bit_xor (register regs rs1) (register regs rs2))
act (Srl rd rs1 rs2) regs pc = Sets rd (shifted_right (register regs rs1) (register regs rs2 % 32))
act (Sra rd rs1 rs2) regs pc = Sets rd (shifted_right_signed (register regs rs1) (register regs rs2 % 32))
act (Or rd rs1 rs2) regs pc = Sets rd (bit_or (register regs rs1) (register regs rs2))
act (And rd rs1 rs2) regs pc = Sets rd (bit_and (register regs rs1) (register regs rs2))
act (Fence rd rs1 imm) regs pc = Nothing
act Ecall regs pc = Calls
act Ebreak regs pc = Breaks

-- a word that is no row is illegal
abbrev pub act_or_illegal : Option Instr → (regs : List ℕ) → (pc : ℕ) → Act
act_or_illegal (Some instr) regs pc = act instr regs pc
act_or_illegal None regs pc = Illegal
