use Rattle.std.proofs.Common.{sym}
use Rattle.record_layouts.proofs.Files.{not_on_disk, on_disk}
use Rattle.record_layouts.proofs.file.FileRec.on_disk.Goals as goal

pub returns-then-is_on_disk-clause-read : goal.returns-then-is_on_disk-clause-read
returns-then-is_on_disk-clause-read c =
    sym (on_disk c.args.sectors c.args.words.now c.in_ok-file.file (sym c.in_ok-file.ensures.read) (c.is_on_disk.ensures.0 c.if-is_on_disk.true))

pub returns-else-is_on_disk-clause-read : goal.returns-else-is_on_disk-clause-read
returns-else-is_on_disk-clause-read c =
    sym (not_on_disk c.args.sectors c.args.words.now c.in_ok-file.file (sym c.in_ok-file.ensures.read) (λ are. cc (c.if-is_on_disk.false, c.is_on_disk.ensures.1 are)))
