use Rattle.tty_screen.proofs.ShownScreens.{blank_shows}
use Rattle.tty_screen.proofs.laws.blank_terminals_show_blank_screens.Goals as goal

pub returns : goal.returns
returns c records tty blank = blank_shows blank
