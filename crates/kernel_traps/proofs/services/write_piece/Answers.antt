use Rattle.std.proofs.Common.{rules, ◌≡◌, Option, true, ap, subst}
use Rattle.ow_base.specs.Pages.{is_readable}
use Rattle.phys_memory.specs.Memory.{words_of}
use Rattle.record_layouts.specs.declared.proc.ProcRec.{ProcRec}
use Rattle.record_layouts.specs.Pages.{pages_of}
use Rattle.syscalls.specs.Planned.{pages_if, pages_in}
use Rattle.intent_store.specs.Live.{records_held}
use Rattle.intent_store.proofs.Unstored.{unstored_then}
use Rattle.kernel_traps.proofs.Decoding.{process_there, terminal_there}
use Rattle.kernel_traps.proofs.services.write_piece.Goals as goal

pub unreachable-requires : goal.unreachable-requires
unreachable-requires c =
    let r = records_held c.args.live.now.plant.now in
    let words = words_of c.args.live.now.plant.now.memory in
    let (process, there, mapped) = process_there r c.args.slot c.requires.can in
    let answer = c.in_default.ensures.process_answer process there mapped in
    let readable : is_readable (pages_of r words c.args.slot process) c.args.from c.args.len ≡ true =
    subst (λ (held : Option ProcRec). is_readable (pages_if r words c.args.slot held) c.args.from c.args.len ≡ true) there c.requires.writable.readable in
    search (rules, answer, readable)

pub put_bytes-requires-clause-decodes : goal.put_bytes-requires-clause-decodes
put_bytes-requires-clause-decodes c = terminal_there _ c.args.slot c.args.tty c.requires.can c.requires.writable.terminal

pub returns-in_err-put_bytes-clause-err : goal.returns-in_err-put_bytes-clause-err
returns-in_err-put_bytes-clause-err c =
    let r = records_held c.args.live.now.plant.now in
    let (process, there, mapped) = process_there r c.args.slot c.requires.can in
    let bytes = c.in-Ok.ensures.process_bytes process there mapped in
    let pages : pages_in r (words_of c.args.live.now.plant.now.memory) c.args.slot ≡ pages_of r (words_of c.args.live.now.plant.now.memory) c.args.slot process =
    ap (pages_if r (words_of c.args.live.now.plant.now.memory) c.args.slot) there in
    rw pages (search (rules, bytes))

pub returns-clause-ok : goal.returns-clause-ok
returns-clause-ok c =
    let r = records_held c.args.live.now.plant.now in
    let (process, there, mapped) = process_there r c.args.slot c.requires.can in
    let bytes = c.in-Ok.ensures.process_bytes process there mapped in
    let pages : pages_in r (words_of c.args.live.now.plant.now.memory) c.args.slot ≡ pages_of r (words_of c.args.live.now.plant.now.memory) c.args.slot process =
    ap (pages_if r (words_of c.args.live.now.plant.now.memory) c.args.slot) there in
    rw pages (search (rules, bytes))

pub returns-clause-err : goal.returns-clause-err
returns-clause-err c =
    let r = records_held c.args.live.now.plant.now in
    let (process, there, mapped) = process_there r c.args.slot c.requires.can in
    let bytes = c.in-Ok.ensures.process_bytes process there mapped in
    let pages : pages_in r (words_of c.args.live.now.plant.now.memory) c.args.slot ≡ pages_of r (words_of c.args.live.now.plant.now.memory) c.args.slot process =
    ap (pages_if r (words_of c.args.live.now.plant.now.memory) c.args.slot) there in
    rw pages (search (rules, bytes))

pub returns-clause-unstored : goal.returns-clause-unstored
returns-clause-unstored c =
    unstored_then c.args.live.now.plant.now c.put_bytes.new.live.plant.now c.commit.new.self.plant.now c.put_bytes.ensures.unstored c.commit.ensures.unstored
