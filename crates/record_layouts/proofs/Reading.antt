-- What words are read as is the value whose record they are.
use Rattle.std.proofs.Common.{◌≡◌, ℕ, Bool, ◌&&◌, ◌==◌, nat_lt, List, slice_index, take, drop, Some, refl, sym, arith}
use Rattle.std.proofs.lemmas.Bool.Decides.{Decides-and, Decides-eqb, Decides-like, Decides-ltb}
use Rattle.std.specs.Bool.{Decides}
use Rattle.record_layouts.specs.Spelling.{AreZero, are_zero, is_sealed_record}
use Rattle.record_layouts.specs.Tests.{IsSealedRecord, decides_sealed_record, decides_zero, one_read, reads_one}
use Rattle.record_layouts.specs.declared.head.HeadRec.{HeadRec}
use Rattle.record_layouts.specs.Head.{FitsHead, IsHead, fits_head, head_fields, head_in}
use Rattle.record_layouts.specs.declared.sig.SigRec.{SigRec}
use Rattle.record_layouts.specs.Sig.{FitsSig, IsSig, fits_sig, sig_fields, sig_in}
use Rattle.record_layouts.specs.declared.desc.DescRec.{DescRec}
use Rattle.record_layouts.specs.Desc.{FitsDesc, IsDesc, fits_desc, desc_fields, desc_in}
use Rattle.record_layouts.specs.declared.cache.CacheRec.{CacheRec}
use Rattle.record_layouts.specs.Cache.{FitsCache, IsCache, fits_cache, cache_fields, cache_in}
use Rattle.record_layouts.specs.declared.term.TermRec.{TermRec}
use Rattle.record_layouts.specs.Term.{FitsTerm, IsTerm, fits_term, term_fields, term_in}
use Rattle.record_layouts.specs.declared.exit.ExitRec.{ExitRec}
use Rattle.record_layouts.specs.Exit.{IsExit, fits_exit, exit_fields, exit_in}
use Rattle.record_layouts.specs.declared.row.RowRec.{RowRec}
use Rattle.record_layouts.specs.Row.{IsRow, row_fields, row_in}
use Rattle.record_layouts.specs.declared.file.FileRec.{FileRec}
use Rattle.record_layouts.specs.File.{FitsFile, IsFile, fits_file, file_fields, file_in}
use Rattle.ow_base.specs.declared.machine.Bank.{Bank}
use Rattle.record_layouts.specs.declared.proc.ProcRec.{ProcRec}
use Rattle.record_layouts.specs.Proc.{FitsProc, IsBankAt, IsProc, bank_in, fits_proc, proc_fields, proc_in}
use Rattle.record_layouts.proofs.PackedBytes.{are_unpacked, one_reading}
use Rattle.record_layouts.proofs.Files.{one_file}
use Rattle.record_layouts.specs.Fitting.{fits_exit-decides, fits_file-decides, fits_proc-decides, fits_head-decides, fits_sig-decides, fits_desc-decides, fits_cache-decides, fits_term-decides}

-- the three tests of most kinds of record
module _ (count kind first end : ℕ) (words : List ℕ) (Fits : Type 0) (fits : Bool) (decides : Decides fits Fits) where
  decides_record : Decides (is_sealed_record count kind words && are_zero words first end && fits)
      ((IsSealedRecord count kind words × AreZero words first end) × Fits)
  decides_record = Decides-and _ _ (Decides-and _ _ (decides_sealed_record count kind words)
      (decides_zero words first end)) decides

head_decides : (words : List ℕ) → Decides (is_sealed_record 16 0x48454144 words && are_zero words 6 15 && fits_head
    (head_fields words)) (IsHead words (head_fields words))
head_decides words =
    Decides-like _
    (λ is. record {
      long = is.0.0.long;
      all_words = is.0.0.all_words;
      kind = is.0.0.kind;
      layout = refl;
      served = refl;
      last = refl;
      next = refl;
      hand = refl;
      unused = is.0.1;
      fits = is.1;
      seal = is.0.0.seal;
    })
    (λ is. ((record { long = is.long; all_words = is.all_words; kind = is.kind; seal = is.seal }, is.unused), is.fits))
    (decides_record 16 0x48454144 6 15 words (FitsHead (head_fields words)) (fits_head (head_fields words))
    (fits_head-decides (head_fields words)))

head_one : (words : List ℕ) (head : HeadRec) → IsHead words head → head ≡ head_fields words
head_one words head is = grind (arith, is.layout, is.served, is.last, is.next, is.hand)

pub head_read : (words : List ℕ) (head : HeadRec) → IsHead words head → head_in words ≡ Some head
unfolding head_in
head_read words head is = reads_one (IsHead words) _ (head_fields words) (head_decides words) head
    (head_one words head is) is

pub head_is : (words : List ℕ) (head : HeadRec) → head_in words ≡ Some head → IsHead words head
unfolding head_in
head_is words head = one_read (IsHead words) _ (head_fields words) (head_decides words) head

sig_decides : (words : List ℕ) → Decides (is_sealed_record 32 0x53494753 words && are_zero words 18 31 && fits_sig
    (sig_fields words)) (IsSig words (sig_fields words))
sig_decides words =
    Decides-like _
    (λ is. record {
      long = is.0.0.long;
      all_words = is.0.0.all_words;
      kind = is.0.0.kind;
      pid = refl;
      pending = refl;
      handlers = refl;
      unused = is.0.1;
      fits = is.1;
      seal = is.0.0.seal;
    })
    (λ is. ((record { long = is.long; all_words = is.all_words; kind = is.kind; seal = is.seal }, is.unused), is.fits))
    (decides_record 32 0x53494753 18 31 words (FitsSig (sig_fields words)) (fits_sig (sig_fields words))
    (fits_sig-decides (sig_fields words)))

sig_one : (words : List ℕ) (signals : SigRec) → IsSig words signals → signals ≡ sig_fields words
sig_one words signals is = grind (arith, is.pid, is.pending, is.handlers)

pub sig_read : (words : List ℕ) (signals : SigRec) → IsSig words signals → sig_in words ≡ Some signals
unfolding sig_in
sig_read words signals is = reads_one (IsSig words) _ (sig_fields words) (sig_decides words) signals
    (sig_one words signals is) is

pub sig_is : (words : List ℕ) (signals : SigRec) → sig_in words ≡ Some signals → IsSig words signals
unfolding sig_in
sig_is words signals = one_read (IsSig words) _ (sig_fields words) (sig_decides words) signals

desc_decides : (words : List ℕ) → Decides (is_sealed_record 16 0x4f50454e words && are_zero words 5 15 && fits_desc
    (desc_fields words)) (IsDesc words (desc_fields words))
desc_decides words =
    Decides-like _
    (λ is. record {
      long = is.0.0.long;
      all_words = is.0.0.all_words;
      kind = is.0.0.kind;
      object = refl;
      index = refl;
      mode = refl;
      offset = refl;
      unused = is.0.1;
      fits = is.1;
      seal = is.0.0.seal;
    })
    (λ is. ((record { long = is.long; all_words = is.all_words; kind = is.kind; seal = is.seal }, is.unused), is.fits))
    (decides_record 16 0x4f50454e 5 15 words (FitsDesc (desc_fields words)) (fits_desc (desc_fields words))
    (fits_desc-decides (desc_fields words)))

desc_one : (words : List ℕ) (desc : DescRec) → IsDesc words desc → desc ≡ desc_fields words
desc_one words desc is = grind (arith, is.object, is.index, is.mode, is.offset)

pub desc_read : (words : List ℕ) (desc : DescRec) → IsDesc words desc → desc_in words ≡ Some desc
unfolding desc_in
desc_read words desc is = reads_one (IsDesc words) _ (desc_fields words) (desc_decides words) desc
    (desc_one words desc is) is

pub desc_is : (words : List ℕ) (desc : DescRec) → desc_in words ≡ Some desc → IsDesc words desc
unfolding desc_in
desc_is words desc = one_read (IsDesc words) _ (desc_fields words) (desc_decides words) desc

cache_decides : (words : List ℕ) → Decides (is_sealed_record 8 0x43414348 words && are_zero words 4 7 && fits_cache
    (cache_fields words)) (IsCache words (cache_fields words))
cache_decides words =
    Decides-like _
    (λ is. record {
      long = is.0.0.long;
      all_words = is.0.0.all_words;
      kind = is.0.0.kind;
      state = refl;
      file = refl;
      page = refl;
      unused = is.0.1;
      fits = is.1;
      seal = is.0.0.seal;
    })
    (λ is. ((record { long = is.long; all_words = is.all_words; kind = is.kind; seal = is.seal }, is.unused), is.fits))
    (decides_record 8 0x43414348 4 7 words (FitsCache (cache_fields words)) (fits_cache (cache_fields words))
    (fits_cache-decides (cache_fields words)))

cache_one : (words : List ℕ) (entry : CacheRec) → IsCache words entry → entry ≡ cache_fields words
cache_one words entry is = grind (arith, is.state, is.file, is.page)

pub cache_read : (words : List ℕ) (entry : CacheRec) → IsCache words entry → cache_in words ≡ Some entry
unfolding cache_in
cache_read words entry is = reads_one (IsCache words) _ (cache_fields words) (cache_decides words) entry
    (cache_one words entry is) is

pub cache_is : (words : List ℕ) (entry : CacheRec) → cache_in words ≡ Some entry → IsCache words entry
unfolding cache_in
cache_is words entry = one_read (IsCache words) _ (cache_fields words) (cache_decides words) entry

term_decides : (words : List ℕ) → Decides (is_sealed_record 16 0x5445524d words && are_zero words 9 15 && fits_term
    (term_fields words)) (IsTerm words (term_fields words))
term_decides words =
    Decides-like _
    (λ is. record {
      long = is.0.0.long;
      all_words = is.0.0.all_words;
      kind = is.0.0.kind;
      tty = refl;
      written = refl;
      last = refl;
      consumed = refl;
      top = refl;
      row = refl;
      col = refl;
      base = refl;
      unused = is.0.1;
      fits = is.1;
      seal = is.0.0.seal;
    })
    (λ is. ((record { long = is.long; all_words = is.all_words; kind = is.kind; seal = is.seal }, is.unused), is.fits))
    (decides_record 16 0x5445524d 9 15 words (FitsTerm (term_fields words)) (fits_term (term_fields words))
    (fits_term-decides (term_fields words)))

term_one : (words : List ℕ) (term : TermRec) → IsTerm words term → term ≡ term_fields words
term_one words term is = grind (arith, is.tty, is.written, is.last, is.consumed, is.top, is.row, is.col, is.base)

pub term_read : (words : List ℕ) (term : TermRec) → IsTerm words term → term_in words ≡ Some term
unfolding term_in
term_read words term is = reads_one (IsTerm words) _ (term_fields words) (term_decides words) term
    (term_one words term is) is

pub term_is : (words : List ℕ) (term : TermRec) → term_in words ≡ Some term → IsTerm words term
unfolding term_in
term_is words term = one_read (IsTerm words) _ (term_fields words) (term_decides words) term

exit_decides : (words : List ℕ) → Decides (is_sealed_record 4 0x45584954 words && fits_exit (exit_fields words))
    (IsExit words (exit_fields words))
exit_decides words =
    Decides-like _
    (λ is. record {
      long = is.0.long;
      all_words = is.0.all_words;
      kind = is.0.kind;
      state = refl;
      value = refl;
      fits = is.1;
      seal = is.0.seal;
    })
    (λ is. (record { long = is.long; all_words = is.all_words; kind = is.kind; seal = is.seal }, is.fits))
    (Decides-and _ _ (decides_sealed_record 4 0x45584954 words) (fits_exit-decides (exit_fields words)))

exit_one : (words : List ℕ) (exit : ExitRec) → IsExit words exit → exit ≡ exit_fields words
exit_one words exit is = grind (arith, is.state, is.value)

pub exit_read : (words : List ℕ) (exit : ExitRec) → IsExit words exit → exit_in words ≡ Some exit
unfolding exit_in
exit_read words exit is = reads_one (IsExit words) _ (exit_fields words) (exit_decides words) exit
    (exit_one words exit is) is

pub exit_is : (words : List ℕ) (exit : ExitRec) → exit_in words ≡ Some exit → IsExit words exit
unfolding exit_in
exit_is words exit = one_read (IsExit words) _ (exit_fields words) (exit_decides words) exit

row_decides : (words : List ℕ) → Decides (is_sealed_record 24 0x524f5753 words && slice_index words 22 == 0
    && nat_lt (slice_index words 1) 48) (IsRow words (row_fields words))
row_decides words =
    Decides-like _
    (λ is. record {
      long = is.0.0.long;
      all_words = is.0.0.all_words;
      kind = is.0.0.kind;
      place = refl;
      text = are_unpacked (take 20 (drop 2 words));
      unused = is.0.1;
      fits = record { place = is.1 };
      seal = is.0.0.seal;
    })
    (λ is. (
      (record { long = is.long; all_words = is.all_words; kind = is.kind; seal = is.seal }, is.unused),
      omega
          (arith, is.place, is.fits.place),
    ))
    (Decides-and _ _ (Decides-and _ _ (decides_sealed_record 24 0x524f5753 words)
    (Decides-eqb (slice_index words 22) 0)) (Decides-ltb (slice_index words 1) 48))

row_one : (words : List ℕ) (row : RowRec) → IsRow words row → row ≡ row_fields words
row_one words row is =
    let text = one_reading is.text (are_unpacked (take 20 (drop 2 words))) in
    grind (arith, is.place, text)

pub row_read : (words : List ℕ) (row : RowRec) → IsRow words row → row_in words ≡ Some row
unfolding row_in
row_read words row is = reads_one (IsRow words) _ (row_fields words) (row_decides words) row (row_one words row is) is

pub row_is : (words : List ℕ) (row : RowRec) → row_in words ≡ Some row → IsRow words row
unfolding row_in
row_is words row = one_read (IsRow words) _ (row_fields words) (row_decides words) row

file_decides : (words : List ℕ) → Decides (is_sealed_record 96 0x46494c45 words && are_zero words 75 95 && fits_file
    (file_fields words)) (IsFile words (file_fields words))
file_decides words =
    Decides-like _
    (λ is. record {
      long = is.0.0.long;
      all_words = is.0.0.all_words;
      kind = is.0.0.kind;
      state = refl;
      name_length = refl;
      name = are_unpacked (take 6 (drop 3 words));
      size = refl;
      kept = refl;
      sectors = refl;
      unused = is.0.1;
      fits = is.1;
      seal = is.0.0.seal;
    })
    (λ is. ((record { long = is.long; all_words = is.all_words; kind = is.kind; seal = is.seal }, is.unused), is.fits))
    (decides_record 96 0x46494c45 75 95 words (FitsFile (file_fields words)) (fits_file (file_fields words))
    (fits_file-decides (file_fields words)))

file_same : (words : List ℕ) (file : FileRec) → IsFile words file → file ≡ file_fields words
file_same words file is =
    let name = one_reading is.name (are_unpacked (take 6 (drop 3 words))) in
    one_file file (file_fields words) (sym is.state) (sym is.name_length) name (sym is.size) (sym is.kept)
    (sym is.sectors)

pub file_read : (words : List ℕ) (file : FileRec) → IsFile words file → file_in words ≡ Some file
unfolding file_in
file_read words file is = reads_one (IsFile words) _ (file_fields words) (file_decides words) file
    (file_same words file is) is

pub file_is : (words : List ℕ) (file : FileRec) → file_in words ≡ Some file → IsFile words file
unfolding file_in
file_is words file = one_read (IsFile words) _ (file_fields words) (file_decides words) file

proc_decides : (words : List ℕ) → Decides (is_sealed_record 128 0x50524f43 words && are_zero words 117 127 && fits_proc
    (proc_fields words)) (IsProc words (proc_fields words))
proc_decides words =
    Decides-like _
    (λ is. record {
      long = is.0.0.long;
      all_words = is.0.0.all_words;
      front = record {
        kind = is.0.0.kind;
        state = refl;
        pid = refl;
        parent = refl;
        call = refl;
        done = refl;
        code_pages = refl;
        data_pages = refl;
        brk = refl;
        procedure = refl;
        mask = refl;
        flags = refl;
        status = refl;
      };
      descs = refl;
      bank = record { regs = refl; pc = refl };
      handler_save = record { regs = refl; pc = refl };
      crash_save = record { regs = refl; pc = refl };
      unused = is.0.1;
      fits = is.1;
      seal = is.0.0.seal;
    })
    (λ is. (
      (record { long = is.long; all_words = is.all_words; kind = is.front.kind; seal = is.seal }, is.unused),
      is.fits,
    ))
    (decides_record 128 0x50524f43 117 127 words (FitsProc (proc_fields words)) (fits_proc (proc_fields words))
    (fits_proc-decides (proc_fields words)))

bank_one : (words : List ℕ) (at : ℕ) (bank : Bank) → IsBankAt words at bank → bank ≡ bank_in words at
bank_one words at bank is = grind (arith, is.regs, is.pc)

proc_one : (words : List ℕ) (process : ProcRec) → IsProc words process → process ≡ proc_fields words
proc_one words process is =
    let handler_save = bank_one words 53 process.handler_save is.handler_save in
    let crash_save = bank_one words 85 process.crash_save is.crash_save in
    grind (arith, is.front, is.descs, is.bank, handler_save, crash_save)

pub proc_read : (words : List ℕ) (process : ProcRec) → IsProc words process → proc_in words ≡ Some process
unfolding proc_in
proc_read words process is = reads_one (IsProc words) _ (proc_fields words) (proc_decides words) process
    (proc_one words process is) is

pub proc_is : (words : List ℕ) (process : ProcRec) → proc_in words ≡ Some process → IsProc words process
unfolding proc_in
proc_is words process = one_read (IsProc words) _ (proc_fields words) (proc_decides words) process
