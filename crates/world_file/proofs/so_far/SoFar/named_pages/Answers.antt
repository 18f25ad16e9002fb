use Rattle.std.specs.Prelude.{option_to_list}
use Rattle.world_file.proofs.WorldPrograms.{pages_in_front, pages_behind}
use Rattle.world_file.proofs.so_far.SoFar.named_pages.Goals as goal

pub returns-in-Some : goal.returns-in-Some
returns-in-Some c =
    rw (← c.self.view_is) (pages_in_front c.args.name.now c.self.inside.finished.items (option_to_list c.self.inside.opened) c.in-Some.pages (rw c.deref.ensures.value at c.in-Some.ensures))

pub returns-in-None : goal.returns-in-None
returns-in-None c =
    rw (c.opened_pages.ensures, ← c.self.view_is) (pages_behind c.args.name.now c.self.inside.finished.items (option_to_list c.self.inside.opened) (rw c.deref.ensures.value at c.in-None.ensures))
