use Rattle.std.proofs.Common.{◌≡◌, length, arith}
use Rattle.std.proofs.lemmas.Bool.Decides.{nat_tests}
use Rattle.resurrector.specs.Survivors.{told_of}
use Rattle.resurrector.proofs.Telling.{told_full}
use Rattle.resurrector.proofs.resurrecting.tell.Goals as goal

pub returns-else-has_room : goal.returns-else-has_room
returns-else-has_room c =
    let full : length c.args.fates.now.items ≡ 16 = grind (arith, nat_tests, c.is_full-has_room.ensures.value, c.if-has_room.false) in
    told_full c.args.fates.now.items (told_of c.args.pid c.args.fate) full
