use Rattle.tty_screen.proofs.ShownScreens.{one_screen}
use Rattle.tty_screen.proofs.laws.one_screen_is_shown.Goals as goal

pub returns : goal.returns
returns c records tty a b shows shows_too = one_screen shows shows_too
