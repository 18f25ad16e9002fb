-- The record of a process: its numbers, and the banks of registers behind them.
use Rattle.std.proofs.Common.{◌≡◌, ℕ, ◌+◌, ◌<◌, ◌≤◌, ◌∙◌, sym, ap, arith, List, take, get_or}
use Rattle.std.proofs.lemmas.List.{get_or-take}
use Rattle.ow_base.specs.declared.machine.Bank.{Bank}
use Rattle.record_layouts.specs.declared.proc.ProcRec.{ProcRec}
use Rattle.record_layouts.specs.Proc.{IsBankAt, IsFront}
use Rattle.record_layouts.proofs.Parts.{word_before, part_before}
use Rattle.record_layouts.proofs.Records.{Agree, nothing, word, block}

-- a bank stays where only words behind it are written
pub bank_before : (a b : List ℕ) (m at : ℕ) (bank : Bank) → take m a ≡ take m b → at + 32 ≤ m → IsBankAt b at bank → IsBankAt a at bank
bank_before a b m at bank same within is = record {
  regs = part_before a b m at 31 same (omega arith) ∙ is.regs;
  pc = word_before a b m (at + 31) same (omega arith) ∙ is.pc;
}

-- the numbers of a process, from the words that begin its record
pub numbers : (words front : List ℕ) (r : ProcRec) → take 13 words ≡ front → IsFront front r → IsFront words r
numbers words front r same is =
    let at = λ (k : ℕ) (within : k < 13). sym (get_or-take 13 words k 0 within) ∙ ap (λ ws. get_or ws k 0) same in
    record {
      kind = at 0 (omega arith) ∙ is.kind;
      state = at 1 (omega arith) ∙ is.state;
      pid = at 2 (omega arith) ∙ is.pid;
      parent = at 3 (omega arith) ∙ is.parent;
      call = at 4 (omega arith) ∙ is.call;
      done = at 5 (omega arith) ∙ is.done;
      code_pages = at 6 (omega arith) ∙ is.code_pages;
      data_pages = at 7 (omega arith) ∙ is.data_pages;
      brk = at 8 (omega arith) ∙ is.brk;
      procedure = at 9 (omega arith) ∙ is.procedure;
      mask = at 10 (omega arith) ∙ is.mask;
      flags = at 11 (omega arith) ∙ is.flags;
      status = at 12 (omega arith) ∙ is.status;
    }

-- two records of one process have the same numbers
pub numbers_agree : (some others : List ℕ) (r : ProcRec) → IsFront some r → IsFront others r → Agree some others 13
numbers_agree some others r is is_too =
    let kind = word 0 (nothing some others) is.kind is_too.kind in
    let state = word 1 kind is.state is_too.state in
    let pid = word 2 state is.pid is_too.pid in
    let parent = word 3 pid is.parent is_too.parent in
    let call = word 4 parent is.call is_too.call in
    let done = word 5 call is.done is_too.done in
    let code_pages = word 6 done is.code_pages is_too.code_pages in
    let data_pages = word 7 code_pages is.data_pages is_too.data_pages in
    let brk = word 8 data_pages is.brk is_too.brk in
    let procedure = word 9 brk is.procedure is_too.procedure in
    let mask = word 10 procedure is.mask is_too.mask in
    let flags = word 11 mask is.flags is_too.flags in
    word 12 flags is.status is_too.status

-- and so have their banks at one place
pub banks_agree : (some others : List ℕ) (at : ℕ) (bank : Bank) → Agree some others at → IsBankAt some at bank → IsBankAt others at bank
    → Agree some others (at + 32)
banks_agree some others at bank before is is_too =
    let place : at + 31 + 1 ≡ at + 32 = omega arith in
    rw place at (word (at + 31) (block 31 before is.regs is_too.regs) is.pc is_too.pc)
