-- The row of a word, its word, and what it does.
use Rattle.std.proofs.Common.{◌≡◌, ℕ, ◌+◌, ◌^◌, ◌<◌, ◌∙◌, ap, sym, refl, arith, Bool, true, false, ◌==◌, if◌then◌else◌, Option, Some, None, List, IfSome, IfNone}
use Rattle.std.proofs.lemmas.Bool.{eqb-false, eqb-true}
use Rattle.ow_base.specs.Words.{bits, wrapped}
use Rattle.ow_base.specs.UserStep.{i_immediate, s_immediate, b_immediate, j_immediate, register, Act, Illegal, act_of, immediate_act, register_act, branch_act, load_act, store_act, system_act}
use Rattle.rv32_isa.specs.declared.instr.Instr.{Instr}
use Rattle.rv32_isa.specs.declared.instr.Instr.TheVariants.{Lui, Auipc, Jal, Jalr, Beq, Bne, Blt, Bge, Bltu, Bgeu, Lb, Lh, Lw, Lbu, Lhu, Sb, Sh, Sw, Addi, Slti, Sltiu, Xori, Ori, Andi, Slli, Srli, Srai, Add, Sub, Sll, Slt, Sltu, Xor, Srl, Sra, Or, And, Fence, Ecall, Ebreak}
use Rattle.rv32_isa.specs.Fields.{IsSigned, IsEvenSigned}
use Rattle.rv32_isa.specs.Table.{r_word, i_word, s_word, b_word, u_word, j_word, word_of, Fits}
use Rattle.rv32_isa.specs.Rows.{branch_row, load_row, store_row, shift_row, immediate_row, register_row, system_row, row_by, row_of}
use Rattle.rv32_isa.specs.Meaning.{act, act_or_illegal}
use Rattle.rv32_isa.proofs.Formats.{r_again, i_again, s_again, b_again, u_again, j_again, RFields, IFields, SFields, BFields, UFields, JFields, r_fields, i_fields, s_fields, b_fields, u_fields, j_fields, i_fits, s_fits, b_fits, j_fits, u_imm, i_imm, s_imm, b_imm, j_imm}

-- the row of a word is that of its fields
pub by_fields : (w opcode rd funct3 rs1 rs2 funct7 : ℕ) → bits w 0 7 ≡ opcode → bits w 7 5 ≡ rd → bits w 12 3 ≡ funct3
    → bits w 15 5 ≡ rs1 → bits w 20 5 ≡ rs2 → bits w 25 7 ≡ funct7
    → row_of w ≡ row_by w opcode rd funct3 rs1 rs2 funct7
unfolding row_of
by_fields w opcode rd funct3 rs1 rs2 funct7 a b c d e f = cc

-- the row of a word in each format
r_row : (w opcode funct3 funct7 rd rs1 rs2 : ℕ) → RFields w opcode funct3 funct7 rd rs1 rs2 → row_of w ≡ row_by w opcode rd funct3 rs1 rs2 funct7
r_row w opcode funct3 funct7 rd rs1 rs2 h = by_fields w opcode rd funct3 rs1 rs2 funct7 h.at_opcode h.at_rd h.at_funct3 h.at_rs1 h.at_rs2 h.at_funct7

i_row : (w opcode funct3 rd rs1 : ℕ) → IFields w opcode funct3 rd rs1 → row_of w ≡ row_by w opcode rd funct3 rs1 (bits w 20 5) (bits w 25 7)
i_row w opcode funct3 rd rs1 h = by_fields w opcode rd funct3 rs1 (bits w 20 5) (bits w 25 7) h.at_opcode h.at_rd h.at_funct3 h.at_rs1 refl refl

s_row : (w opcode funct3 rs1 rs2 : ℕ) → SFields w opcode funct3 rs1 rs2 → row_of w ≡ row_by w opcode (bits w 7 5) funct3 rs1 rs2 (bits w 25 7)
s_row w opcode funct3 rs1 rs2 h = by_fields w opcode (bits w 7 5) funct3 rs1 rs2 (bits w 25 7) h.at_opcode refl h.at_funct3 h.at_rs1 h.at_rs2 refl

b_row : (w opcode funct3 rs1 rs2 : ℕ) → BFields w opcode funct3 rs1 rs2 → row_of w ≡ row_by w opcode (bits w 7 5) funct3 rs1 rs2 (bits w 25 7)
b_row w opcode funct3 rs1 rs2 h = by_fields w opcode (bits w 7 5) funct3 rs1 rs2 (bits w 25 7) h.at_opcode refl h.at_funct3 h.at_rs1 h.at_rs2 refl

u_row : (w opcode rd : ℕ) → UFields w opcode rd → row_of w ≡ row_by w opcode rd (bits w 12 3) (bits w 15 5) (bits w 20 5) (bits w 25 7)
u_row w opcode rd h = by_fields w opcode rd (bits w 12 3) (bits w 15 5) (bits w 20 5) (bits w 25 7) h.at_opcode h.at_rd refl refl refl refl

j_row : (w opcode rd : ℕ) → JFields w opcode rd → row_of w ≡ row_by w opcode rd (bits w 12 3) (bits w 15 5) (bits w 20 5) (bits w 25 7)
j_row w opcode rd h = by_fields w opcode rd (bits w 12 3) (bits w 15 5) (bits w 20 5) (bits w 25 7) h.at_opcode h.at_rd refl refl refl refl

-- the row of the word of an instruction is that instruction
pub back : (instr : Instr) → Fits instr → row_of (word_of instr) ≡ Some instr
unfolding row_by branch_row load_row store_row shift_row immediate_row register_row system_row row_of
back (Lui rd imm) h = u_row (u_word 0x37 rd imm) 0x37 rd (u_fields 0x37 rd imm (omega arith) h.0 h.1) ∙ ap (λ n. Some (Lui rd n)) (u_imm 0x37 rd imm (omega arith) h.0 h.1)
back (Auipc rd imm) h = u_row (u_word 0x17 rd imm) 0x17 rd (u_fields 0x17 rd imm (omega arith) h.0 h.1) ∙ ap (λ n. Some (Auipc rd n)) (u_imm 0x17 rd imm (omega arith) h.0 h.1)
back (Jal rd offset) h = j_row (j_word 0x6f rd offset) 0x6f rd (j_fields 0x6f rd offset (omega arith) h.0) ∙ ap (λ n. Some (Jal rd n)) (j_imm 0x6f rd offset (omega arith) h.0 h.1)
back (Jalr rd rs1 offset) h = i_row (i_word 0x67 0 rd rs1 offset) 0x67 0 rd rs1 (i_fields 0x67 0 rd rs1 offset (omega arith) (omega arith) h.0 h.1) ∙ ap (λ n. Some (Jalr rd rs1 n)) (i_imm 0x67 0 rd rs1 offset (omega arith) (omega arith) h.0 h.1 h.2)
back (Beq rs1 rs2 offset) h = b_row (b_word 0x63 0 rs1 rs2 offset) 0x63 0 rs1 rs2 (b_fields 0x63 0 rs1 rs2 offset (omega arith) (omega arith) h.0 h.1) ∙ ap (λ n. Some (Beq rs1 rs2 n)) (b_imm 0x63 0 rs1 rs2 offset (omega arith) (omega arith) h.0 h.1 h.2)
back (Bne rs1 rs2 offset) h = b_row (b_word 0x63 1 rs1 rs2 offset) 0x63 1 rs1 rs2 (b_fields 0x63 1 rs1 rs2 offset (omega arith) (omega arith) h.0 h.1) ∙ ap (λ n. Some (Bne rs1 rs2 n)) (b_imm 0x63 1 rs1 rs2 offset (omega arith) (omega arith) h.0 h.1 h.2)
back (Blt rs1 rs2 offset) h = b_row (b_word 0x63 4 rs1 rs2 offset) 0x63 4 rs1 rs2 (b_fields 0x63 4 rs1 rs2 offset (omega arith) (omega arith) h.0 h.1) ∙ ap (λ n. Some (Blt rs1 rs2 n)) (b_imm 0x63 4 rs1 rs2 offset (omega arith) (omega arith) h.0 h.1 h.2)
back (Bge rs1 rs2 offset) h = b_row (b_word 0x63 5 rs1 rs2 offset) 0x63 5 rs1 rs2 (b_fields 0x63 5 rs1 rs2 offset (omega arith) (omega arith) h.0 h.1) ∙ ap (λ n. Some (Bge rs1 rs2 n)) (b_imm 0x63 5 rs1 rs2 offset (omega arith) (omega arith) h.0 h.1 h.2)
back (Bltu rs1 rs2 offset) h = b_row (b_word 0x63 6 rs1 rs2 offset) 0x63 6 rs1 rs2 (b_fields 0x63 6 rs1 rs2 offset (omega arith) (omega arith) h.0 h.1) ∙ ap (λ n. Some (Bltu rs1 rs2 n)) (b_imm 0x63 6 rs1 rs2 offset (omega arith) (omega arith) h.0 h.1 h.2)
back (Bgeu rs1 rs2 offset) h = b_row (b_word 0x63 7 rs1 rs2 offset) 0x63 7 rs1 rs2 (b_fields 0x63 7 rs1 rs2 offset (omega arith) (omega arith) h.0 h.1) ∙ ap (λ n. Some (Bgeu rs1 rs2 n)) (b_imm 0x63 7 rs1 rs2 offset (omega arith) (omega arith) h.0 h.1 h.2)
back (Lb rd rs1 offset) h = i_row (i_word 0x03 0 rd rs1 offset) 0x03 0 rd rs1 (i_fields 0x03 0 rd rs1 offset (omega arith) (omega arith) h.0 h.1) ∙ ap (λ n. Some (Lb rd rs1 n)) (i_imm 0x03 0 rd rs1 offset (omega arith) (omega arith) h.0 h.1 h.2)
back (Lh rd rs1 offset) h = i_row (i_word 0x03 1 rd rs1 offset) 0x03 1 rd rs1 (i_fields 0x03 1 rd rs1 offset (omega arith) (omega arith) h.0 h.1) ∙ ap (λ n. Some (Lh rd rs1 n)) (i_imm 0x03 1 rd rs1 offset (omega arith) (omega arith) h.0 h.1 h.2)
back (Lw rd rs1 offset) h = i_row (i_word 0x03 2 rd rs1 offset) 0x03 2 rd rs1 (i_fields 0x03 2 rd rs1 offset (omega arith) (omega arith) h.0 h.1) ∙ ap (λ n. Some (Lw rd rs1 n)) (i_imm 0x03 2 rd rs1 offset (omega arith) (omega arith) h.0 h.1 h.2)
back (Lbu rd rs1 offset) h = i_row (i_word 0x03 4 rd rs1 offset) 0x03 4 rd rs1 (i_fields 0x03 4 rd rs1 offset (omega arith) (omega arith) h.0 h.1) ∙ ap (λ n. Some (Lbu rd rs1 n)) (i_imm 0x03 4 rd rs1 offset (omega arith) (omega arith) h.0 h.1 h.2)
back (Lhu rd rs1 offset) h = i_row (i_word 0x03 5 rd rs1 offset) 0x03 5 rd rs1 (i_fields 0x03 5 rd rs1 offset (omega arith) (omega arith) h.0 h.1) ∙ ap (λ n. Some (Lhu rd rs1 n)) (i_imm 0x03 5 rd rs1 offset (omega arith) (omega arith) h.0 h.1 h.2)
back (Sb rs1 rs2 offset) h = s_row (s_word 0x23 0 rs1 rs2 offset) 0x23 0 rs1 rs2 (s_fields 0x23 0 rs1 rs2 offset (omega arith) (omega arith) h.0 h.1) ∙ ap (λ n. Some (Sb rs1 rs2 n)) (s_imm 0x23 0 rs1 rs2 offset (omega arith) (omega arith) h.0 h.1 h.2)
back (Sh rs1 rs2 offset) h = s_row (s_word 0x23 1 rs1 rs2 offset) 0x23 1 rs1 rs2 (s_fields 0x23 1 rs1 rs2 offset (omega arith) (omega arith) h.0 h.1) ∙ ap (λ n. Some (Sh rs1 rs2 n)) (s_imm 0x23 1 rs1 rs2 offset (omega arith) (omega arith) h.0 h.1 h.2)
back (Sw rs1 rs2 offset) h = s_row (s_word 0x23 2 rs1 rs2 offset) 0x23 2 rs1 rs2 (s_fields 0x23 2 rs1 rs2 offset (omega arith) (omega arith) h.0 h.1) ∙ ap (λ n. Some (Sw rs1 rs2 n)) (s_imm 0x23 2 rs1 rs2 offset (omega arith) (omega arith) h.0 h.1 h.2)
back (Addi rd rs1 imm) h = i_row (i_word 0x13 0 rd rs1 imm) 0x13 0 rd rs1 (i_fields 0x13 0 rd rs1 imm (omega arith) (omega arith) h.0 h.1) ∙ ap (λ n. Some (Addi rd rs1 n)) (i_imm 0x13 0 rd rs1 imm (omega arith) (omega arith) h.0 h.1 h.2)
back (Slti rd rs1 imm) h = i_row (i_word 0x13 2 rd rs1 imm) 0x13 2 rd rs1 (i_fields 0x13 2 rd rs1 imm (omega arith) (omega arith) h.0 h.1) ∙ ap (λ n. Some (Slti rd rs1 n)) (i_imm 0x13 2 rd rs1 imm (omega arith) (omega arith) h.0 h.1 h.2)
back (Sltiu rd rs1 imm) h = i_row (i_word 0x13 3 rd rs1 imm) 0x13 3 rd rs1 (i_fields 0x13 3 rd rs1 imm (omega arith) (omega arith) h.0 h.1) ∙ ap (λ n. Some (Sltiu rd rs1 n)) (i_imm 0x13 3 rd rs1 imm (omega arith) (omega arith) h.0 h.1 h.2)
back (Xori rd rs1 imm) h = i_row (i_word 0x13 4 rd rs1 imm) 0x13 4 rd rs1 (i_fields 0x13 4 rd rs1 imm (omega arith) (omega arith) h.0 h.1) ∙ ap (λ n. Some (Xori rd rs1 n)) (i_imm 0x13 4 rd rs1 imm (omega arith) (omega arith) h.0 h.1 h.2)
back (Ori rd rs1 imm) h = i_row (i_word 0x13 6 rd rs1 imm) 0x13 6 rd rs1 (i_fields 0x13 6 rd rs1 imm (omega arith) (omega arith) h.0 h.1) ∙ ap (λ n. Some (Ori rd rs1 n)) (i_imm 0x13 6 rd rs1 imm (omega arith) (omega arith) h.0 h.1 h.2)
back (Andi rd rs1 imm) h = i_row (i_word 0x13 7 rd rs1 imm) 0x13 7 rd rs1 (i_fields 0x13 7 rd rs1 imm (omega arith) (omega arith) h.0 h.1) ∙ ap (λ n. Some (Andi rd rs1 n)) (i_imm 0x13 7 rd rs1 imm (omega arith) (omega arith) h.0 h.1 h.2)
back (Slli rd rs1 amount) h = r_row (r_word 0x13 1 0 rd rs1 amount) 0x13 1 0 rd rs1 amount (r_fields 0x13 1 0 rd rs1 amount (omega arith) (omega arith) (omega arith) h.0 h.1 h.2) ∙ ap (λ n. Some (Slli rd rs1 n)) (r_fields 0x13 1 0 rd rs1 amount (omega arith) (omega arith) (omega arith) h.0 h.1 h.2).at_rs2
back (Srli rd rs1 amount) h = r_row (r_word 0x13 5 0 rd rs1 amount) 0x13 5 0 rd rs1 amount (r_fields 0x13 5 0 rd rs1 amount (omega arith) (omega arith) (omega arith) h.0 h.1 h.2) ∙ ap (λ n. Some (Srli rd rs1 n)) (r_fields 0x13 5 0 rd rs1 amount (omega arith) (omega arith) (omega arith) h.0 h.1 h.2).at_rs2
back (Srai rd rs1 amount) h = r_row (r_word 0x13 5 32 rd rs1 amount) 0x13 5 32 rd rs1 amount (r_fields 0x13 5 32 rd rs1 amount (omega arith) (omega arith) (omega arith) h.0 h.1 h.2) ∙ ap (λ n. Some (Srai rd rs1 n)) (r_fields 0x13 5 32 rd rs1 amount (omega arith) (omega arith) (omega arith) h.0 h.1 h.2).at_rs2
back (Add rd rs1 rs2) h = r_row (r_word 0x33 0 0 rd rs1 rs2) 0x33 0 0 rd rs1 rs2 (r_fields 0x33 0 0 rd rs1 rs2 (omega arith) (omega arith) (omega arith) h.0 h.1 h.2)
back (Sub rd rs1 rs2) h = r_row (r_word 0x33 0 32 rd rs1 rs2) 0x33 0 32 rd rs1 rs2 (r_fields 0x33 0 32 rd rs1 rs2 (omega arith) (omega arith) (omega arith) h.0 h.1 h.2)
back (Sll rd rs1 rs2) h = r_row (r_word 0x33 1 0 rd rs1 rs2) 0x33 1 0 rd rs1 rs2 (r_fields 0x33 1 0 rd rs1 rs2 (omega arith) (omega arith) (omega arith) h.0 h.1 h.2)
back (Slt rd rs1 rs2) h = r_row (r_word 0x33 2 0 rd rs1 rs2) 0x33 2 0 rd rs1 rs2 (r_fields 0x33 2 0 rd rs1 rs2 (omega arith) (omega arith) (omega arith) h.0 h.1 h.2)
back (Sltu rd rs1 rs2) h = r_row (r_word 0x33 3 0 rd rs1 rs2) 0x33 3 0 rd rs1 rs2 (r_fields 0x33 3 0 rd rs1 rs2 (omega arith) (omega arith) (omega arith) h.0 h.1 h.2)
back (Xor rd rs1 rs2) h = r_row (r_word 0x33 4 0 rd rs1 rs2) 0x33 4 0 rd rs1 rs2 (r_fields 0x33 4 0 rd rs1 rs2 (omega arith) (omega arith) (omega arith) h.0 h.1 h.2)
back (Srl rd rs1 rs2) h = r_row (r_word 0x33 5 0 rd rs1 rs2) 0x33 5 0 rd rs1 rs2 (r_fields 0x33 5 0 rd rs1 rs2 (omega arith) (omega arith) (omega arith) h.0 h.1 h.2)
back (Sra rd rs1 rs2) h = r_row (r_word 0x33 5 32 rd rs1 rs2) 0x33 5 32 rd rs1 rs2 (r_fields 0x33 5 32 rd rs1 rs2 (omega arith) (omega arith) (omega arith) h.0 h.1 h.2)
back (Or rd rs1 rs2) h = r_row (r_word 0x33 6 0 rd rs1 rs2) 0x33 6 0 rd rs1 rs2 (r_fields 0x33 6 0 rd rs1 rs2 (omega arith) (omega arith) (omega arith) h.0 h.1 h.2)
back (And rd rs1 rs2) h = r_row (r_word 0x33 7 0 rd rs1 rs2) 0x33 7 0 rd rs1 rs2 (r_fields 0x33 7 0 rd rs1 rs2 (omega arith) (omega arith) (omega arith) h.0 h.1 h.2)
back (Fence rd rs1 imm) h = i_row (i_word 0x0f 0 rd rs1 imm) 0x0f 0 rd rs1 (i_fields 0x0f 0 rd rs1 imm (omega arith) (omega arith) h.0 h.1) ∙ ap (λ n. Some (Fence rd rs1 n)) (i_imm 0x0f 0 rd rs1 imm (omega arith) (omega arith) h.0 h.1 h.2)
back Ecall h = refl
back Ebreak h = refl

-- what a row does, by tests that both sides make
either : (test : Bool) (x y : Option Instr) (a b : Act) (regs : List ℕ) (pc : ℕ)
    → act_or_illegal x regs pc ≡ a → act_or_illegal y regs pc ≡ b
    → act_or_illegal (if test then x else y) regs pc ≡ (if test then a else b)
either true x y a b regs pc p q = p
either false x y a b regs pc p q = q

branch_acts : (funct3 rs1 rs2 offset : ℕ) (regs : List ℕ) (pc : ℕ)
    → act_or_illegal (branch_row funct3 rs1 rs2 offset) regs pc ≡ branch_act funct3 (register regs rs1) (register regs rs2) (wrapped (pc + offset))
unfolding branch_row branch_act
branch_acts funct3 rs1 rs2 offset regs pc =
    either (funct3 == 0) _ _ _ _ regs pc refl (
    either (funct3 == 1) _ _ _ _ regs pc refl (
    either (funct3 == 4) _ _ _ _ regs pc refl (
    either (funct3 == 5) _ _ _ _ regs pc refl (
    either (funct3 == 6) _ _ _ _ regs pc refl (
    either (funct3 == 7) _ _ _ _ regs pc refl (
    refl))))))

load_acts : (funct3 rd rs1 offset : ℕ) (regs : List ℕ) (pc : ℕ)
    → act_or_illegal (load_row funct3 rd rs1 offset) regs pc ≡ load_act funct3 rd (wrapped ((register regs rs1) + offset))
unfolding load_row load_act
load_acts funct3 rd rs1 offset regs pc =
    either (funct3 == 0) _ _ _ _ regs pc refl (
    either (funct3 == 1) _ _ _ _ regs pc refl (
    either (funct3 == 2) _ _ _ _ regs pc refl (
    either (funct3 == 4) _ _ _ _ regs pc refl (
    either (funct3 == 5) _ _ _ _ regs pc refl (
    refl)))))

store_acts : (funct3 rs1 rs2 offset : ℕ) (regs : List ℕ) (pc : ℕ)
    → act_or_illegal (store_row funct3 rs1 rs2 offset) regs pc ≡ store_act funct3 (wrapped ((register regs rs1) + offset)) (register regs rs2)
unfolding store_row store_act
store_acts funct3 rs1 rs2 offset regs pc =
    either (funct3 == 0) _ _ _ _ regs pc refl (
    either (funct3 == 1) _ _ _ _ regs pc refl (
    either (funct3 == 2) _ _ _ _ regs pc refl (
    refl)))

immediate_acts : (funct3 funct7 rd rs1 imm amount : ℕ) (regs : List ℕ) (pc : ℕ)
    → act_or_illegal (immediate_row funct3 funct7 rd rs1 imm amount) regs pc ≡ immediate_act funct3 funct7 rd (register regs rs1) imm amount
unfolding immediate_row shift_row immediate_act
immediate_acts funct3 funct7 rd rs1 imm amount regs pc =
    either (funct3 == 0) _ _ _ _ regs pc refl (
    either (funct3 == 2) _ _ _ _ regs pc refl (
    either (funct3 == 3) _ _ _ _ regs pc refl (
    either (funct3 == 4) _ _ _ _ regs pc refl (
    either (funct3 == 6) _ _ _ _ regs pc refl (
    either (funct3 == 7) _ _ _ _ regs pc refl (
    either (funct3 == 1) _ _ _ _ regs pc (either (funct7 == 0) _ _ _ _ regs pc refl refl) (
    either (funct7 == 0) _ _ _ _ regs pc refl (
    either (funct7 == 32) _ _ _ _ regs pc refl (
    refl)))))))))

register_acts : (funct3 funct7 rd rs1 rs2 : ℕ) (regs : List ℕ) (pc : ℕ)
    → act_or_illegal (register_row funct3 funct7 rd rs1 rs2) regs pc ≡ register_act funct3 funct7 rd (register regs rs1) (register regs rs2)
unfolding register_row register_act
register_acts funct3 funct7 rd rs1 rs2 regs pc =
    either (funct7 == 0) _ _ _ _ regs pc (either (funct3 == 0) _ _ _ _ regs pc refl (either (funct3 == 1) _ _ _ _ regs pc refl (either (funct3 == 2) _ _ _ _ regs pc refl (either (funct3 == 3) _ _ _ _ regs pc refl (either (funct3 == 4) _ _ _ _ regs pc refl (either (funct3 == 5) _ _ _ _ regs pc refl (either (funct3 == 6) _ _ _ _ regs pc refl (refl)))))))) (
    either (funct7 == 32) _ _ _ _ regs pc (either (funct3 == 0) _ _ _ _ regs pc refl (either (funct3 == 5) _ _ _ _ regs pc refl (refl))) (
    refl))

system_acts : (word : ℕ) (regs : List ℕ) (pc : ℕ) → act_or_illegal (system_row word) regs pc ≡ system_act word
unfolding system_row system_act
system_acts word regs pc =
    either (word == 0x73) _ _ _ _ regs pc refl (
    either (word == 0x100073) _ _ _ _ regs pc refl refl)

-- what a word tells the processor to do is what its row does
pub row_acts : (w : ℕ) (regs : List ℕ) (pc : ℕ) → act_or_illegal (row_of w) regs pc ≡ act_of w regs pc
unfolding row_of row_by act_of
row_acts w regs pc =
    let rd = bits w 7 5 in
    let funct3 = bits w 12 3 in
    let rs1 = bits w 15 5 in
    let rs2 = bits w 20 5 in
    let funct7 = bits w 25 7 in
    either (bits w 0 7 == 0x37) _ _ _ _ regs pc refl (
    either (bits w 0 7 == 0x17) _ _ _ _ regs pc refl (
    either (bits w 0 7 == 0x6f) _ _ _ _ regs pc refl (
    either (bits w 0 7 == 0x67) _ _ _ _ regs pc (either (bits w 12 3 == 0) _ _ _ _ regs pc refl refl) (
    either (bits w 0 7 == 0x63) _ _ _ _ regs pc (branch_acts funct3 rs1 rs2 (b_immediate w) regs pc) (
    either (bits w 0 7 == 0x03) _ _ _ _ regs pc (load_acts funct3 rd rs1 (i_immediate w) regs pc) (
    either (bits w 0 7 == 0x23) _ _ _ _ regs pc (store_acts funct3 rs1 rs2 (s_immediate w) regs pc) (
    either (bits w 0 7 == 0x13) _ _ _ _ regs pc (immediate_acts funct3 funct7 rd rs1 (i_immediate w) (bits w 20 5) regs pc) (
    either (bits w 0 7 == 0x33) _ _ _ _ regs pc (register_acts funct3 funct7 rd rs1 rs2 regs pc) (
    either (bits w 0 7 == 0x0f) _ _ _ _ regs pc (either (bits w 12 3 == 0) _ _ _ _ regs pc refl refl) (
    either (bits w 0 7 == 0x73) _ _ _ _ regs pc (system_acts w regs pc) (
    refl)))))))))))

-- a word of some field, at what the field is
at1 : (f : ℕ → ℕ) (w m n : ℕ) → m ≡ n → f m ≡ w → f n ≡ w
at1 f w m n e h = cc

at2 : (f : ℕ → ℕ → ℕ) (w m n k l : ℕ) → m ≡ n → k ≡ l → f m k ≡ w → f n l ≡ w
at2 f w m n k l d e h = cc

-- the row has this word
abbrev Spells : (w : ℕ) → Option Instr → Type 0
Spells w row = IfSome row (λ instr. word_of instr ≡ w)

choose : (w m n : ℕ) (x y : Option Instr) → (m ≡ n → Spells w x) → ((m ≡ n → ⊥) → Spells w y)
    → Spells w (if m == n then x else y)
choose w m n x y f g =
    elim (m == n) as (λ b. (b ≡ true → m ≡ n) → (b ≡ false → m ≡ n → ⊥) → Spells w (if b then x else y))
    [ true ↦ λ p q. f (p refl) | false ↦ λ p q. g (q refl) ] (eqb-true m n) (eqb-false m n)

branch_spells : (w funct3 rs1 rs2 offset : ℕ) → b_word 0x63 funct3 rs1 rs2 offset ≡ w → Spells w (branch_row funct3 rs1 rs2 offset)
unfolding branch_row
branch_spells w funct3 rs1 rs2 offset h =
    choose w funct3 0 _ _ (λ e. at1 (λ k. b_word 0x63 k rs1 rs2 offset) w funct3 _ e h) (λ n0.
    choose w funct3 1 _ _ (λ e. at1 (λ k. b_word 0x63 k rs1 rs2 offset) w funct3 _ e h) (λ n1.
    choose w funct3 4 _ _ (λ e. at1 (λ k. b_word 0x63 k rs1 rs2 offset) w funct3 _ e h) (λ n2.
    choose w funct3 5 _ _ (λ e. at1 (λ k. b_word 0x63 k rs1 rs2 offset) w funct3 _ e h) (λ n3.
    choose w funct3 6 _ _ (λ e. at1 (λ k. b_word 0x63 k rs1 rs2 offset) w funct3 _ e h) (λ n4.
    choose w funct3 7 _ _ (λ e. at1 (λ k. b_word 0x63 k rs1 rs2 offset) w funct3 _ e h) (λ n5.
    tt))))))

load_spells : (w funct3 rd rs1 offset : ℕ) → i_word 0x03 funct3 rd rs1 offset ≡ w → Spells w (load_row funct3 rd rs1 offset)
unfolding load_row
load_spells w funct3 rd rs1 offset h =
    choose w funct3 0 _ _ (λ e. at1 (λ k. i_word 0x03 k rd rs1 offset) w funct3 _ e h) (λ n0.
    choose w funct3 1 _ _ (λ e. at1 (λ k. i_word 0x03 k rd rs1 offset) w funct3 _ e h) (λ n1.
    choose w funct3 2 _ _ (λ e. at1 (λ k. i_word 0x03 k rd rs1 offset) w funct3 _ e h) (λ n2.
    choose w funct3 4 _ _ (λ e. at1 (λ k. i_word 0x03 k rd rs1 offset) w funct3 _ e h) (λ n3.
    choose w funct3 5 _ _ (λ e. at1 (λ k. i_word 0x03 k rd rs1 offset) w funct3 _ e h) (λ n4.
    tt)))))

store_spells : (w funct3 rs1 rs2 offset : ℕ) → s_word 0x23 funct3 rs1 rs2 offset ≡ w → Spells w (store_row funct3 rs1 rs2 offset)
unfolding store_row
store_spells w funct3 rs1 rs2 offset h =
    choose w funct3 0 _ _ (λ e. at1 (λ k. s_word 0x23 k rs1 rs2 offset) w funct3 _ e h) (λ n0.
    choose w funct3 1 _ _ (λ e. at1 (λ k. s_word 0x23 k rs1 rs2 offset) w funct3 _ e h) (λ n1.
    choose w funct3 2 _ _ (λ e. at1 (λ k. s_word 0x23 k rs1 rs2 offset) w funct3 _ e h) (λ n2.
    tt)))

immediate_spells : (w funct3 funct7 rd rs1 imm amount : ℕ) → funct3 < 8 → i_word 0x13 funct3 rd rs1 imm ≡ w
    → r_word 0x13 funct3 funct7 rd rs1 amount ≡ w → Spells w (immediate_row funct3 funct7 rd rs1 imm amount)
unfolding immediate_row shift_row
immediate_spells w funct3 funct7 rd rs1 imm amount b h k =
    choose w funct3 0 _ _ (λ e. at1 (λ k. i_word 0x13 k rd rs1 imm) w funct3 _ e h) (λ n0.
    choose w funct3 2 _ _ (λ e. at1 (λ k. i_word 0x13 k rd rs1 imm) w funct3 _ e h) (λ n1.
    choose w funct3 3 _ _ (λ e. at1 (λ k. i_word 0x13 k rd rs1 imm) w funct3 _ e h) (λ n2.
    choose w funct3 4 _ _ (λ e. at1 (λ k. i_word 0x13 k rd rs1 imm) w funct3 _ e h) (λ n3.
    choose w funct3 6 _ _ (λ e. at1 (λ k. i_word 0x13 k rd rs1 imm) w funct3 _ e h) (λ n4.
    choose w funct3 7 _ _ (λ e. at1 (λ k. i_word 0x13 k rd rs1 imm) w funct3 _ e h) (λ n5.
    choose w funct3 1 _ _ (λ e. choose w funct7 0 _ _ (λ d. at2 (λ p q. r_word 0x13 p q rd rs1 amount) w funct3 _ funct7 _ e d k) (λ _. tt)) (λ n6.
    choose w funct7 0 _ _ (λ e. at2 (λ p q. r_word 0x13 p q rd rs1 amount) w funct3 5 funct7 _ (omega arith) e k) (λ n7.
    choose w funct7 32 _ _ (λ e. at2 (λ p q. r_word 0x13 p q rd rs1 amount) w funct3 5 funct7 _ (omega arith) e k) (λ n8.
    tt)))))))))

register_spells : (w funct3 funct7 rd rs1 rs2 : ℕ) → funct3 < 8 → r_word 0x33 funct3 funct7 rd rs1 rs2 ≡ w
    → Spells w (register_row funct3 funct7 rd rs1 rs2)
unfolding register_row
register_spells w funct3 funct7 rd rs1 rs2 b h =
    let at : (a c : ℕ) → funct3 ≡ a → funct7 ≡ c → r_word 0x33 a c rd rs1 rs2 ≡ w
    = λ a c d e. at2 (λ p q. r_word 0x33 p q rd rs1 rs2) w funct3 a funct7 c d e h in
    choose w funct7 0 _ _ (λ z.
    choose w funct3 0 _ _ (λ e. at 0 0 e z) (λ n0.
    choose w funct3 1 _ _ (λ e. at 1 0 e z) (λ n1.
    choose w funct3 2 _ _ (λ e. at 2 0 e z) (λ n2.
    choose w funct3 3 _ _ (λ e. at 3 0 e z) (λ n3.
    choose w funct3 4 _ _ (λ e. at 4 0 e z) (λ n4.
    choose w funct3 5 _ _ (λ e. at 5 0 e z) (λ n5.
    choose w funct3 6 _ _ (λ e. at 6 0 e z) (λ n6.
    at 7 0 (omega arith) z)))))))) (λ m0.
    choose w funct7 32 _ _ (λ z.
    choose w funct3 0 _ _ (λ e. at 0 32 e z) (λ n0.
    choose w funct3 5 _ _ (λ e. at 5 32 e z) (λ n1.
    tt))) (λ m1. tt))

system_spells : (w : ℕ) → Spells w (system_row w)
unfolding system_row
system_spells w =
    choose w w 0x73 _ _ (λ e. sym e) (λ n0.
    choose w w 0x100073 _ _ (λ e. sym e) (λ n1. tt))

-- the row that a word is has this word
pub row_spells : (w : ℕ) → w < 2 ^ 32 → Spells w (row_of w)
unfolding row_of row_by
row_spells w h =
    let op = bits w 0 7 in
    let rd = bits w 7 5 in
    let funct3 = bits w 12 3 in
    let rs1 = bits w 15 5 in
    let rs2 = bits w 20 5 in
    let funct7 = bits w 25 7 in
    let small : bits w 12 3 < 8 = omega arith in
    let i : (a c : ℕ) → op ≡ a → funct3 ≡ c → i_word a c rd rs1 (i_immediate w) ≡ w
    = λ a c d e. at2 (λ p q. i_word p q rd rs1 (i_immediate w)) w op a funct3 c d e (i_again w h) in
    let i' : (a : ℕ) → op ≡ a → i_word a funct3 rd rs1 (i_immediate w) ≡ w = λ a d. i a funct3 d refl in
    let r : (a : ℕ) → op ≡ a → r_word a funct3 funct7 rd rs1 rs2 ≡ w
    = λ a d. at1 (λ p. r_word p funct3 funct7 rd rs1 rs2) w op a d (r_again w h) in
    choose w op 0x37 _ _ (λ e. at1 (λ p. u_word p rd (bits w 12 20)) w op _ e (u_again w h)) (λ n0.
    choose w op 0x17 _ _ (λ e. at1 (λ p. u_word p rd (bits w 12 20)) w op _ e (u_again w h)) (λ n1.
    choose w op 0x6f _ _ (λ e. at1 (λ p. j_word p rd (j_immediate w)) w op _ e (j_again w h)) (λ n2.
    choose w op 0x67 _ _ (λ e. choose w funct3 0 _ _ (λ d. i 0x67 0 e d) (λ _. tt)) (λ n3.
    choose w op 0x63 _ _ (λ e. branch_spells w funct3 rs1 rs2 (b_immediate w) (at1 (λ p. b_word p funct3 rs1 rs2 (b_immediate w)) w op _ e (b_again w h))) (λ n4.
    choose w op 0x03 _ _ (λ e. load_spells w funct3 rd rs1 (i_immediate w) (i' 0x03 e)) (λ n5.
    choose w op 0x23 _ _ (λ e. store_spells w funct3 rs1 rs2 (s_immediate w) (at1 (λ p. s_word p funct3 rs1 rs2 (s_immediate w)) w op _ e (s_again w h))) (λ n6.
    choose w op 0x13 _ _ (λ e. immediate_spells w funct3 funct7 rd rs1 (i_immediate w) rs2 small (i' 0x13 e) (r 0x13 e)) (λ n7.
    choose w op 0x33 _ _ (λ e. register_spells w funct3 funct7 rd rs1 rs2 small (r 0x33 e)) (λ n8.
    choose w op 0x0f _ _ (λ e. choose w funct3 0 _ _ (λ d. i 0x0f 0 e d) (λ _. tt)) (λ n9.
    choose w op 0x73 _ _ (λ e. system_spells w) (λ n10.
    tt)))))))))))

-- the fields of a row are in their ranges
abbrev RowFits : Option Instr → Type 0
RowFits row = IfSome row Fits

pick : (m n : ℕ) (x y : Option Instr) → RowFits x → RowFits y → RowFits (if m == n then x else y)
pick m n x y p q = elim (m == n) as (λ b. RowFits (if b then x else y)) [ true ↦ p | false ↦ q ]

branch_fits : (funct3 rs1 rs2 offset : ℕ) → rs1 < 32 → rs2 < 32 → IsEvenSigned 13 offset → RowFits (branch_row funct3 rs1 rs2 offset)
unfolding branch_row
branch_fits funct3 rs1 rs2 offset a b h =
    pick funct3 0 _ _ ((a, b, h)) (
    pick funct3 1 _ _ ((a, b, h)) (
    pick funct3 4 _ _ ((a, b, h)) (
    pick funct3 5 _ _ ((a, b, h)) (
    pick funct3 6 _ _ ((a, b, h)) (
    pick funct3 7 _ _ ((a, b, h)) (
    tt))))))

load_fits : (funct3 rd rs1 offset : ℕ) → rd < 32 → rs1 < 32 → IsSigned 12 offset → RowFits (load_row funct3 rd rs1 offset)
unfolding load_row
load_fits funct3 rd rs1 offset a b h =
    pick funct3 0 _ _ ((a, b, h)) (
    pick funct3 1 _ _ ((a, b, h)) (
    pick funct3 2 _ _ ((a, b, h)) (
    pick funct3 4 _ _ ((a, b, h)) (
    pick funct3 5 _ _ ((a, b, h)) (
    tt)))))

store_fits : (funct3 rs1 rs2 offset : ℕ) → rs1 < 32 → rs2 < 32 → IsSigned 12 offset → RowFits (store_row funct3 rs1 rs2 offset)
unfolding store_row
store_fits funct3 rs1 rs2 offset a b h =
    pick funct3 0 _ _ ((a, b, h)) (
    pick funct3 1 _ _ ((a, b, h)) (
    pick funct3 2 _ _ ((a, b, h)) (
    tt)))

immediate_fits : (funct3 funct7 rd rs1 imm amount : ℕ) → rd < 32 → rs1 < 32 → IsSigned 12 imm → amount < 32 → RowFits (immediate_row funct3 funct7 rd rs1 imm amount)
unfolding immediate_row shift_row
immediate_fits funct3 funct7 rd rs1 imm amount a b h s =
    pick funct3 0 _ _ ((a, b, h)) (
    pick funct3 2 _ _ ((a, b, h)) (
    pick funct3 3 _ _ ((a, b, h)) (
    pick funct3 4 _ _ ((a, b, h)) (
    pick funct3 6 _ _ ((a, b, h)) (
    pick funct3 7 _ _ ((a, b, h)) (
    pick funct3 1 _ _ (pick funct7 0 _ _ (a, b, s) tt) (
    pick funct7 0 _ _ ((a, b, s)) (
    pick funct7 32 _ _ ((a, b, s)) (
    tt)))))))))

register_fits : (funct3 funct7 rd rs1 rs2 : ℕ) → rd < 32 → rs1 < 32 → rs2 < 32
    → RowFits (register_row funct3 funct7 rd rs1 rs2)
unfolding register_row
register_fits funct3 funct7 rd rs1 rs2 a b h =
    pick funct7 0 _ _ (
    pick funct3 0 _ _ ((a, b, h)) (
    pick funct3 1 _ _ ((a, b, h)) (
    pick funct3 2 _ _ ((a, b, h)) (
    pick funct3 3 _ _ ((a, b, h)) (
    pick funct3 4 _ _ ((a, b, h)) (
    pick funct3 5 _ _ ((a, b, h)) (
    pick funct3 6 _ _ ((a, b, h)) (
    (a, b, h))))))))) (
    pick funct7 32 _ _ (
    pick funct3 0 _ _ ((a, b, h)) (
    pick funct3 5 _ _ ((a, b, h)) (
    tt))) tt)

-- the fields of the row that a word is are in their ranges
row_fits : (w : ℕ) → RowFits (row_of w)
unfolding row_of row_by system_row
row_fits w =
    let rd : bits w 7 5 < 32 = omega arith in
    let rs1 : bits w 15 5 < 32 = omega arith in
    let rs2 : bits w 20 5 < 32 = omega arith in
    pick (bits w 0 7) 0x37 _ _ ((rd, omega arith)) (
    pick (bits w 0 7) 0x17 _ _ ((rd, omega arith)) (
    pick (bits w 0 7) 0x6f _ _ ((rd, j_fits w)) (
    pick (bits w 0 7) 0x67 _ _ (pick (bits w 12 3) 0 _ _ (rd, rs1, i_fits w) tt) (
    pick (bits w 0 7) 0x63 _ _ (branch_fits (bits w 12 3) _ _ _ rs1 rs2 (b_fits w)) (
    pick (bits w 0 7) 0x03 _ _ (load_fits (bits w 12 3) _ _ _ rd rs1 (i_fits w)) (
    pick (bits w 0 7) 0x23 _ _ (store_fits (bits w 12 3) _ _ _ rs1 rs2 (s_fits w)) (
    pick (bits w 0 7) 0x13 _ _ (immediate_fits (bits w 12 3) (bits w 25 7) _ _ _ _ rd rs1 (i_fits w) rs2) (
    pick (bits w 0 7) 0x33 _ _ (register_fits (bits w 12 3) (bits w 25 7) _ _ _ rd rs1 rs2) (
    pick (bits w 0 7) 0x0f _ _ (pick (bits w 12 3) 0 _ _ (rd, rs1, i_fits w) tt) (
    pick (bits w 0 7) 0x73 _ _ (pick w 0x73 _ _ tt (pick w 0x100073 _ _ tt tt)) (
    tt)))))))))))

-- where there is no row, no instruction has the word
pub no_row : (w : ℕ) (row : Option Instr) → row ≡ row_of w
    → IfNone row ((instr : Instr) → Fits instr → word_of instr ≡ w → ⊥)
no_row w (Some instr) e = tt
no_row w None e = λ instr f q. let there = back instr f in cc (e, there, q)

-- where no instruction has the word, it is illegal
illegal_by : (w : ℕ) (row : Option Instr) → Spells w row → RowFits row
    → ((instr : Instr) → Fits instr → word_of instr ≡ w → ⊥) → (regs : List ℕ) (pc : ℕ)
    → act_or_illegal row regs pc ≡ Illegal
illegal_by w (Some instr) e f none regs pc = absurd (none instr f e)
illegal_by w None e f none regs pc = refl

pub illegal : (w : ℕ) → w < 2 ^ 32 → ((instr : Instr) → Fits instr → word_of instr ≡ w → ⊥)
    → (regs : List ℕ) (pc : ℕ) → act_of w regs pc ≡ Illegal
illegal w h none regs pc =
    sym (row_acts w regs pc) ∙ illegal_by w (row_of w) (row_spells w h) (row_fits w) none regs pc

-- the word of an instruction tells the processor to do what the instruction does
pub agrees : (instr : Instr) → Fits instr → (regs : List ℕ) (pc : ℕ)
    → act_of (word_of instr) regs pc ≡ act instr regs pc
agrees instr h regs pc =
    sym (row_acts (word_of instr) regs pc) ∙ ap (λ row. act_or_illegal row regs pc) (back instr h)
