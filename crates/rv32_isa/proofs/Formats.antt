-- The fields of a word in each format, and the word of its fields.
use Rattle.std.proofs.Common.{◌≡◌, ℕ, ◌+◌, ◌*◌, ◌%◌, ◌^◌, ◌<◌, ◌∙◌, ap, arith}
use Rattle.ow_base.specs.Words.{bits, sign_extended}
use Rattle.ow_base.specs.UserStep.{i_immediate, s_immediate, b_immediate, j_immediate}
use Rattle.rv32_isa.specs.Fields.{IsSigned, IsEvenSigned}
use Rattle.rv32_isa.specs.Table.{r_word, i_word, s_word, b_word, u_word, j_word}

-- the low bits of a number whose sign is extended, and a signed number from its low bits
low12 : (n : ℕ) → n < 2 ^ 12 → sign_extended 12 n % 2 ^ 12 ≡ n
low12 n h = grind arith

signed12 : (n : ℕ) → IsSigned 12 n → sign_extended 12 (n % 2 ^ 12) ≡ n
signed12 n h = grind arith

low13 : (n : ℕ) → n < 2 ^ 13 → sign_extended 13 n % 2 ^ 13 ≡ n
low13 n h = grind arith

signed13 : (n : ℕ) → IsSigned 13 n → sign_extended 13 (n % 2 ^ 13) ≡ n
signed13 n h = grind arith

low21 : (n : ℕ) → n < 2 ^ 21 → sign_extended 21 n % 2 ^ 21 ≡ n
low21 n h = grind arith

signed21 : (n : ℕ) → IsSigned 21 n → sign_extended 21 (n % 2 ^ 21) ≡ n
signed21 n h = grind arith

-- a word is the word of its fields
pub r_again : (w : ℕ) → w < 2 ^ 32 →
    r_word (bits w 0 7) (bits w 12 3) (bits w 25 7) (bits w 7 5) (bits w 15 5) (bits w 20 5) ≡ w
r_again w h = omega arith

pub u_again : (w : ℕ) → w < 2 ^ 32 → u_word (bits w 0 7) (bits w 7 5) (bits w 12 20) ≡ w
u_again w h = omega arith

i_parts : (w imm : ℕ) → w < 2 ^ 32 → imm % 2 ^ 12 ≡ bits w 20 12 →
    i_word (bits w 0 7) (bits w 12 3) (bits w 7 5) (bits w 15 5) imm ≡ w
i_parts w imm h e = omega arith

pub i_again : (w : ℕ) → w < 2 ^ 32 → i_word (bits w 0 7) (bits w 12 3) (bits w 7 5) (bits w 15 5) (i_immediate w) ≡ w
i_again w h = i_parts w (i_immediate w) h (low12 (bits w 20 12) (omega arith))

s_parts : (w imm : ℕ) → w < 2 ^ 32 → imm % 2 ^ 12 ≡ 32 * bits w 25 7 + bits w 7 5 →
    s_word (bits w 0 7) (bits w 12 3) (bits w 15 5) (bits w 20 5) imm ≡ w
s_parts w imm h e = omega arith

pub s_again : (w : ℕ) → w < 2 ^ 32 → s_word (bits w 0 7) (bits w 12 3) (bits w 15 5) (bits w 20 5) (s_immediate w) ≡ w
s_again w h = s_parts w (s_immediate w) h (low12 (32 * bits w 25 7 + bits w 7 5) (omega arith))

b_parts : (w imm : ℕ) → w < 2 ^ 32 → imm % 2 ^ 13 ≡ 4096 * bits w 31 1 + 2048 * bits w 7 1 + 32 * bits w 25 6 + 2 * bits w 8 4 →
    b_word (bits w 0 7) (bits w 12 3) (bits w 15 5) (bits w 20 5) imm ≡ w
b_parts w imm h e = omega arith

pub b_again : (w : ℕ) → w < 2 ^ 32 → b_word (bits w 0 7) (bits w 12 3) (bits w 15 5) (bits w 20 5) (b_immediate w) ≡ w
b_again w h = b_parts w (b_immediate w) h (low13 (4096 * bits w 31 1 + 2048 * bits w 7 1 + 32 * bits w 25 6 + 2 * bits w 8 4) (omega arith))

j_parts : (w imm : ℕ) → w < 2 ^ 32 → imm % 2 ^ 21 ≡ 1048576 * bits w 31 1 + 4096 * bits w 12 8 + 2048 * bits w 20 1 + 2 * bits w 21 10 →
    j_word (bits w 0 7) (bits w 7 5) imm ≡ w
j_parts w imm h e = omega arith

pub j_again : (w : ℕ) → w < 2 ^ 32 → j_word (bits w 0 7) (bits w 7 5) (j_immediate w) ≡ w
j_again w h = j_parts w (j_immediate w) h (low21 (1048576 * bits w 31 1 + 4096 * bits w 12 8 + 2048 * bits w 20 1 + 2 * bits w 21 10) (omega arith))

-- the immediates of a word are in their ranges
fits12 : (n : ℕ) → n < 2 ^ 12 → IsSigned 12 (sign_extended 12 n)
fits12 n h = grind arith

fits13 : (n : ℕ) → n < 2 ^ 13 → n % 2 ≡ 0 → IsEvenSigned 13 (sign_extended 13 n)
fits13 n h e = grind arith

fits21 : (n : ℕ) → n < 2 ^ 21 → n % 2 ≡ 0 → IsEvenSigned 21 (sign_extended 21 n)
fits21 n h e = grind arith

pub i_fits : (w : ℕ) → IsSigned 12 (i_immediate w)
i_fits w = fits12 (bits w 20 12) (omega arith)

pub s_fits : (w : ℕ) → IsSigned 12 (s_immediate w)
s_fits w = fits12 (32 * bits w 25 7 + bits w 7 5) (omega arith)

pub b_fits : (w : ℕ) → IsEvenSigned 13 (b_immediate w)
b_fits w = fits13 (4096 * bits w 31 1 + 2048 * bits w 7 1 + 32 * bits w 25 6 + 2 * bits w 8 4) (omega arith) (omega arith)

pub j_fits : (w : ℕ) → IsEvenSigned 21 (j_immediate w)
j_fits w = fits21 (1048576 * bits w 31 1 + 4096 * bits w 12 8 + 2048 * bits w 20 1 + 2 * bits w 21 10) (omega arith) (omega arith)

-- the fields of the word of each format
pub record RFields (w opcode funct3 funct7 rd rs1 rs2 : ℕ) : Type 0 where
  pub at_opcode : bits w 0 7 ≡ opcode
  pub at_funct3 : bits w 12 3 ≡ funct3
  pub at_funct7 : bits w 25 7 ≡ funct7
  pub at_rd : bits w 7 5 ≡ rd
  pub at_rs1 : bits w 15 5 ≡ rs1
  pub at_rs2 : bits w 20 5 ≡ rs2

pub r_fields : (opcode funct3 funct7 rd rs1 rs2 : ℕ) → opcode < 2 ^ 7 → funct3 < 2 ^ 3 → funct7 < 2 ^ 7 → rd < 32 → rs1 < 32 → rs2 < 32 →
    RFields (r_word opcode funct3 funct7 rd rs1 rs2) opcode funct3 funct7 rd rs1 rs2
r_fields opcode funct3 funct7 rd rs1 rs2 h0 h1 h2 h3 h4 h5 = record { at_opcode = omega arith; at_funct3 = omega arith; at_funct7 = omega arith; at_rd = omega arith; at_rs1 = omega arith; at_rs2 = omega arith }

pub record IFields (w opcode funct3 rd rs1 : ℕ) : Type 0 where
  pub at_opcode : bits w 0 7 ≡ opcode
  pub at_funct3 : bits w 12 3 ≡ funct3
  pub at_rd : bits w 7 5 ≡ rd
  pub at_rs1 : bits w 15 5 ≡ rs1

pub i_fields : (opcode funct3 rd rs1 imm : ℕ) → opcode < 2 ^ 7 → funct3 < 2 ^ 3 → rd < 32 → rs1 < 32 →
    IFields (i_word opcode funct3 rd rs1 imm) opcode funct3 rd rs1
i_fields opcode funct3 rd rs1 imm h0 h1 h2 h3 = record { at_opcode = omega arith; at_funct3 = omega arith; at_rd = omega arith; at_rs1 = omega arith }

pub record SFields (w opcode funct3 rs1 rs2 : ℕ) : Type 0 where
  pub at_opcode : bits w 0 7 ≡ opcode
  pub at_funct3 : bits w 12 3 ≡ funct3
  pub at_rs1 : bits w 15 5 ≡ rs1
  pub at_rs2 : bits w 20 5 ≡ rs2

pub s_fields : (opcode funct3 rs1 rs2 imm : ℕ) → opcode < 2 ^ 7 → funct3 < 2 ^ 3 → rs1 < 32 → rs2 < 32 →
    SFields (s_word opcode funct3 rs1 rs2 imm) opcode funct3 rs1 rs2
s_fields opcode funct3 rs1 rs2 imm h0 h1 h2 h3 = record { at_opcode = omega arith; at_funct3 = omega arith; at_rs1 = omega arith; at_rs2 = omega arith }

pub record BFields (w opcode funct3 rs1 rs2 : ℕ) : Type 0 where
  pub at_opcode : bits w 0 7 ≡ opcode
  pub at_funct3 : bits w 12 3 ≡ funct3
  pub at_rs1 : bits w 15 5 ≡ rs1
  pub at_rs2 : bits w 20 5 ≡ rs2

pub b_fields : (opcode funct3 rs1 rs2 imm : ℕ) → opcode < 2 ^ 7 → funct3 < 2 ^ 3 → rs1 < 32 → rs2 < 32 →
    BFields (b_word opcode funct3 rs1 rs2 imm) opcode funct3 rs1 rs2
b_fields opcode funct3 rs1 rs2 imm h0 h1 h2 h3 = record { at_opcode = omega arith; at_funct3 = omega arith; at_rs1 = omega arith; at_rs2 = omega arith }

pub record UFields (w opcode rd : ℕ) : Type 0 where
  pub at_opcode : bits w 0 7 ≡ opcode
  pub at_rd : bits w 7 5 ≡ rd

pub u_fields : (opcode rd imm : ℕ) → opcode < 2 ^ 7 → rd < 32 → imm < 2 ^ 20 →
    UFields (u_word opcode rd imm) opcode rd
u_fields opcode rd imm h0 h1 h2 = record { at_opcode = omega arith; at_rd = omega arith }

pub record JFields (w opcode rd : ℕ) : Type 0 where
  pub at_opcode : bits w 0 7 ≡ opcode
  pub at_rd : bits w 7 5 ≡ rd

pub j_fields : (opcode rd imm : ℕ) → opcode < 2 ^ 7 → rd < 32 →
    JFields (j_word opcode rd imm) opcode rd
j_fields opcode rd imm h0 h1 = record { at_opcode = omega arith; at_rd = omega arith }

pub u_imm : (opcode rd imm : ℕ) → opcode < 2 ^ 7 → rd < 32 → imm < 2 ^ 20 → bits (u_word opcode rd imm) 12 20 ≡ imm
u_imm opcode rd imm h0 h1 h2 = omega arith

i_low : (opcode funct3 rd rs1 imm : ℕ) → opcode < 2 ^ 7 → funct3 < 2 ^ 3 → rd < 32 → rs1 < 32 → IsSigned 12 imm →
    let w = i_word opcode funct3 rd rs1 imm in bits w 20 12 ≡ imm % 2 ^ 12
i_low opcode funct3 rd rs1 imm h0 h1 h2 h3 h = omega arith

pub i_imm : (opcode funct3 rd rs1 imm : ℕ) → opcode < 2 ^ 7 → funct3 < 2 ^ 3 → rd < 32 → rs1 < 32 → IsSigned 12 imm → i_immediate (i_word opcode funct3 rd rs1 imm) ≡ imm
i_imm opcode funct3 rd rs1 imm h0 h1 h2 h3 h = ap (sign_extended 12) (i_low opcode funct3 rd rs1 imm h0 h1 h2 h3 h) ∙ signed12 imm h

s_low : (opcode funct3 rs1 rs2 imm : ℕ) → opcode < 2 ^ 7 → funct3 < 2 ^ 3 → rs1 < 32 → rs2 < 32 → IsSigned 12 imm →
    let w = s_word opcode funct3 rs1 rs2 imm in 32 * bits w 25 7 + bits w 7 5 ≡ imm % 2 ^ 12
s_low opcode funct3 rs1 rs2 imm h0 h1 h2 h3 h = omega arith

pub s_imm : (opcode funct3 rs1 rs2 imm : ℕ) → opcode < 2 ^ 7 → funct3 < 2 ^ 3 → rs1 < 32 → rs2 < 32 → IsSigned 12 imm → s_immediate (s_word opcode funct3 rs1 rs2 imm) ≡ imm
s_imm opcode funct3 rs1 rs2 imm h0 h1 h2 h3 h = ap (sign_extended 12) (s_low opcode funct3 rs1 rs2 imm h0 h1 h2 h3 h) ∙ signed12 imm h

b_low : (opcode funct3 rs1 rs2 imm : ℕ) → opcode < 2 ^ 7 → funct3 < 2 ^ 3 → rs1 < 32 → rs2 < 32 → IsEvenSigned 13 imm →
    let w = b_word opcode funct3 rs1 rs2 imm in 4096 * bits w 31 1 + 2048 * bits w 7 1 + 32 * bits w 25 6 + 2 * bits w 8 4 ≡ imm % 2 ^ 13
b_low opcode funct3 rs1 rs2 imm h0 h1 h2 h3 h = omega arith

pub b_imm : (opcode funct3 rs1 rs2 imm : ℕ) → opcode < 2 ^ 7 → funct3 < 2 ^ 3 → rs1 < 32 → rs2 < 32 → IsEvenSigned 13 imm → b_immediate (b_word opcode funct3 rs1 rs2 imm) ≡ imm
b_imm opcode funct3 rs1 rs2 imm h0 h1 h2 h3 h = ap (sign_extended 13) (b_low opcode funct3 rs1 rs2 imm h0 h1 h2 h3 h) ∙ signed13 imm h.0

j_low : (opcode rd imm : ℕ) → opcode < 2 ^ 7 → rd < 32 → IsEvenSigned 21 imm →
    let w = j_word opcode rd imm in 1048576 * bits w 31 1 + 4096 * bits w 12 8 + 2048 * bits w 20 1 + 2 * bits w 21 10 ≡ imm % 2 ^ 21
j_low opcode rd imm h0 h1 h = omega arith

pub j_imm : (opcode rd imm : ℕ) → opcode < 2 ^ 7 → rd < 32 → IsEvenSigned 21 imm → j_immediate (j_word opcode rd imm) ≡ imm
j_imm opcode rd imm h0 h1 h = ap (sign_extended 21) (j_low opcode rd imm h0 h1 h) ∙ signed21 imm h.0
