use Rattle.tty_screen.proofs.ShownScreens.{shows_outside}
use Rattle.tty_screen.proofs.laws.other_screens_stay.Goals as goal

pub returns-clause-patch : goal.returns-clause-patch
returns-clause-patch c records tty screen items outside shows = shows_outside records tty screen items outside shows
