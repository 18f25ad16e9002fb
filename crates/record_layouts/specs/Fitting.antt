-- Whether the fields of a record are in their ranges, as tests.
use Rattle.std.proofs.Common.{ℕ, ◌+◌, ◌<◌, ◌≤◌, nat_le, List, length, take, slice_index, All, EachIndex, refl, arith}
use Rattle.std.proofs.lemmas.Bool.Decides.{nat_tests, Decides-and, Decides-by_and, Decides-eqb, Decides-like}
use Rattle.std.proofs.lemmas.List.Elements.{All-from_get_or, All-get_or}
use Rattle.std.specs.Bool.{Decides}
use Rattle.std.specs.List.{list_all}
use Rattle.ow_base.specs.World.{IsName}
use Rattle.ow_base.specs.declared.machine.Bank.{Bank}
use Rattle.record_layouts.specs.Tests.{decides_below, decides_between, decides_status, decides_zero}
use Rattle.record_layouts.specs.Spelling.{are_below, lies_between}
use Rattle.record_layouts.specs.declared.head.HeadRec.{HeadRec}
use Rattle.record_layouts.specs.Head.{FitsHead, fits_head}
use Rattle.record_layouts.specs.declared.proc.ProcRec.{ProcRec}
use Rattle.record_layouts.specs.Proc.{FitsEnded, FitsFree, FitsLive, FitsProc, IsBlankBank, IsOver, fits_ended, fits_free, fits_live, fits_proc, heap_start, is_blank_bank, is_over}
use Rattle.record_layouts.specs.declared.sig.SigRec.{SigRec}
use Rattle.record_layouts.specs.Sig.{FitsSig, fits_sig}
use Rattle.record_layouts.specs.declared.desc.DescRec.{DescRec}
use Rattle.record_layouts.specs.Desc.{FitsDesc, fits_desc}
use Rattle.record_layouts.specs.declared.file.FileRec.{FileRec}
use Rattle.record_layouts.specs.File.{FitsFile, FitsState, fits_file, fits_state, is_name}
use Rattle.record_layouts.specs.declared.cache.CacheRec.{CacheRec}
use Rattle.record_layouts.specs.Cache.{FitsCache, fits_cache}
use Rattle.record_layouts.specs.declared.term.TermRec.{TermRec}
use Rattle.record_layouts.specs.Term.{FitsTerm, fits_term}
use Rattle.record_layouts.specs.declared.exit.ExitRec.{ExitRec}
use Rattle.record_layouts.specs.Exit.{FitsExit, fits_exit}

Decides-leb : (a b : ℕ) → Decides (nat_le a b) (a ≤ b)
Decides-leb a b = grind (arith, nat_tests)

pub fits_head-decides : (head : HeadRec) → Decides (fits_head head) (FitsHead head)
unfolding fits_head
fits_head-decides head = grind (arith, nat_tests)

pub fits_sig-decides : (signals : SigRec) → Decides (fits_sig signals) (FitsSig signals)
unfolding fits_sig
fits_sig-decides signals = grind (arith, nat_tests)

pub fits_desc-decides : (desc : DescRec) → Decides (fits_desc desc) (FitsDesc desc)
unfolding fits_desc
fits_desc-decides desc = grind (arith, nat_tests)

pub fits_cache-decides : (entry : CacheRec) → Decides (fits_cache entry) (FitsCache entry)
unfolding fits_cache
fits_cache-decides entry = grind (arith, nat_tests)

pub fits_term-decides : (term : TermRec) → Decides (fits_term term) (FitsTerm term)
unfolding fits_term
fits_term-decides term = grind (arith, nat_tests)

pub fits_exit-decides : (exit : ExitRec) → Decides (fits_exit exit) (FitsExit exit)
unfolding fits_exit
fits_exit-decides exit = grind (arith, nat_tests, decides_status)

is_name-decides : (name : List ℕ) → Decides (is_name name) (IsName name)
unfolding is_name
is_name-decides name =
    let each : Decides (list_all (λ byte. lies_between 33 126 byte) name)
    (All (λ byte. (33 ≤ byte) × (byte ≤ 126)) name) =
    Decides-by_and (λ byte. lies_between 33 126 byte) (λ byte. (33 ≤ byte) × (byte ≤ 126))
    (list_all (λ byte. lies_between 33 126 byte)) (λ byte. decides_between 33 126 byte) refl (λ _ _. refl) name in
    Decides-like (is_name name)
    (λ is. record {
      shortest = is.0.0;
      longest = is.0.1;
      lowest = λ k d within.
          (is.1 k d within).0;
      highest = λ k d within. (is.1 k d within).1;
    })
    (λ is. ((is.shortest, is.longest), λ k d within. (is.lowest k d within, is.highest k d within)))
    (Decides-and (lies_between 1 24 (length name)) (list_all (λ byte. lies_between 33 126 byte) name)
    (decides_between 1 24 (length name)) each)

fits_state-decides : (file : FileRec) → Decides (fits_state file) (FitsState file)
unfolding fits_state
fits_state-decides file = let name = is_name-decides (take file.name_len file.name) in grind
    (arith, nat_tests, name.0, name.1)

pub fits_file-decides : (file : FileRec) → Decides (fits_file file) (FitsFile file)
unfolding fits_file
fits_file-decides file =
    let state = fits_state-decides file in
    let name = decides_zero file.name file.name_len 24 in
    let sectors = decides_below 2048 (take file.kept file.sectors) in
    let behind = decides_zero file.sectors file.kept 64 in
    Decides-like (fits_file file)
    (λ is. record {
      state = is.0.0.0.0.0;
      name_length = is.0.0.0.0.1;
      past_name = is.0.0.0.1;
      kept = is.0.0.1;
      sectors = is.0.1;
      past_kept = is.1;
    })
    (λ is. (((((is.state, is.name_length), is.past_name), is.kept), is.sectors), is.past_kept))
    (Decides-and _ _ (Decides-and _ _
    (Decides-and _ _ (Decides-and _ _ (Decides-and _ _ state (Decides-leb file.name_len 24)) name)
    (Decides-leb file.kept 64)) sectors) behind)

is_blank_bank-decides : (bank : Bank) → Decides (is_blank_bank bank) (IsBlankBank bank)
unfolding is_blank_bank
is_blank_bank-decides bank = let regs = decides_zero bank.regs 0 31 in grind (arith, nat_tests, regs.0, regs.1)

are_descs-decides : (descs : List ℕ) → Decides (are_below 33 descs) (EachIndex descs (λ k. slice_index descs k ≤ 32))
are_descs-decides descs =
    Decides-like (are_below 33 descs) (λ all k within. omega (arith, All-get_or (λ n. n < 33) descs k 0 within all))
    (λ each. All-from_get_or (λ n. n < 33) descs 0 (λ k within. omega (arith, each k within))) (decides_below 33 descs)

fits_live-decides : (process : ProcRec) → Decides (fits_live process) (FitsLive process)
unfolding fits_live
fits_live-decides process =
    let room = Decides-leb (heap_start process.code_pages process.data_pages + process.brk) 0x400000 in
    let descs = are_descs-decides process.descs in
    Decides-like (fits_live process)
    (λ is. record {
      pid = is.0.0.0.0.0.0.0;
      parent = is.0.0.0.0.0.0.1;
      code_pages = is.0.0.0.0.0.1;
      data_pages = is.0.0.0.0.1;
      heap_end = is.0.0.0.1;
      flags = is.0.0.1;
      status = is.0.1;
      descs = is.1;
    })
    (λ is. (((((((is.pid, is.parent), is.code_pages), is.data_pages), is.heap_end), is.flags), is.status), is.descs))
    (Decides-and _ _ (Decides-and _ _
    (Decides-and _ _ (Decides-and _ _
    (Decides-and _ _ (Decides-and _ _ (Decides-and _ _ (decides_between 1 256 process.pid)
    (Decides-leb process.parent 256)) (decides_between 1 64 process.code_pages))
    (Decides-leb process.data_pages 64)) room) (Decides-leb process.flags 3)) (Decides-eqb process.status 0)) descs)

is_over-decides : (process : ProcRec) → Decides (is_over process) (IsOver process)
unfolding is_over
is_over-decides process =
    Decides-like (is_over process)
    (λ is. record {
      call = is.0.0.0.0.0.0.0.0.0.0.0.0;
      done = is.0.0.0.0.0.0.0.0.0.0.0.1;
      code_pages = is.0.0.0.0.0.0.0.0.0.0.1;
      data_pages = is.0.0.0.0.0.0.0.0.0.1;
      brk = is.0.0.0.0.0.0.0.0.1;
      procedure = is.0.0.0.0.0.0.0.1;
      mask = is.0.0.0.0.0.0.1;
      flags = is.0.0.0.0.0.1;
      descs = is.0.0.0.0.1;
      regs = is.0.0.0.1;
      pc = is.0.0.1;
      handler_save = is.0.1;
      crash_save = is.1;
    })
    (λ is. (
      (
        (
          (
            (
              (((((((is.call, is.done), is.code_pages), is.data_pages), is.brk), is.procedure), is.mask), is.flags),
              is.descs,
            ),
            is.regs,
          ),
          is.pc,
        ),
        is.handler_save,
      ),
      is.crash_save,
    ))
    (Decides-and _ _ (Decides-and _ _
    (Decides-and _ _ (Decides-and _ _
    (Decides-and _ _ (Decides-and _ _
    (Decides-and _ _ (Decides-and _ _
    (Decides-and _ _ (Decides-and _ _
    (Decides-and _ _ (Decides-and _ _ (Decides-eqb process.call 0) (Decides-eqb process.done 0))
    (Decides-eqb process.code_pages 0)) (Decides-eqb process.data_pages 0)) (Decides-eqb process.brk 0))
    (Decides-eqb process.procedure 0)) (Decides-eqb process.mask 0)) (Decides-eqb process.flags 0))
    (decides_zero process.descs 0 8)) (decides_zero process.regs 0 31)) (Decides-eqb process.pc 0))
    (is_blank_bank-decides process.handler_save)) (is_blank_bank-decides process.crash_save))

fits_free-decides : (process : ProcRec) → Decides (fits_free process) (FitsFree process)
unfolding fits_free
fits_free-decides process = let over = is_over-decides process in grind (arith, nat_tests, over.0, over.1)

fits_ended-decides : (process : ProcRec) → Decides (fits_ended process) (FitsEnded process)
unfolding fits_ended
fits_ended-decides process = let over = is_over-decides process in let status = decides_status process.status in grind
    (arith, nat_tests, over.0, over.1, status.0, status.1)

pub fits_proc-decides : (process : ProcRec) → Decides (fits_proc process) (FitsProc process)
unfolding fits_proc
fits_proc-decides process =
    let free = fits_free-decides process in
    let live = fits_live-decides process in
    let ended = fits_ended-decides process in
    grind (arith, nat_tests, free.0, free.1, live.0, live.1, ended.0, ended.1)
