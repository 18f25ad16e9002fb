-- Worked worlds with panics, the states that their panics leave, and their reports.
use Rattle.std.specs.Prelude.{ℕ, zero, suc, ◌==◌, if◌then◌else◌, List, [], ◌∷◌, ◌++◌, replicate, codes, true, false, Some, None}
use Rattle.ow_base.specs.declared.machine.AreaId.TheVariants as area
use Rattle.ow_base.specs.declared.machine.Shape.{Shape}
use Rattle.ow_base.specs.declared.worlds.World.{World}
use Rattle.ow_base.specs.declared.worlds.Program.{Program}
use Rattle.ow_base.specs.declared.worlds.Start.{Start as Started}
use Rattle.ow_base.specs.declared.worlds.Damage.{Damage}
use Rattle.ow_base.specs.declared.worlds.DamageKind.{DamageKind}
use Rattle.ow_base.specs.declared.worlds.DamageKind.TheVariants as kind
use Rattle.ow_base.specs.declared.worlds.PanicLine.{PanicLine}
use Rattle.ow_base.specs.declared.worlds.PanicRecord.{PanicRecord}
use Rattle.record_layouts.specs.Unix.State.{Unix, start_of}
use Rattle.record_layouts.specs.Unix.Choice.{no_keys}
use Rattle.record_layouts.specs.Unix.Turn.{turn, closed}
use Rattle.record_layouts.specs.Unix.Broken.{begun_from, done_of, partly_put, undone_of}
use Rattle.record_layouts.specs.Unix.Wounds.{Wounds, bytes_by, no_wounds}
use Rattle.record_layouts.specs.Unix.Abort.{abort}
use Rattle.record_layouts.specs.declared.traps.Trap.{Trap}
use Rattle.record_layouts.specs.declared.traps.Trap.TheVariants as trap

-- a panic that damages nothing, one that damages a word, and one whose resurrections are refused too
abbrev pub panic_at : (trap store : ℕ) → PanicLine
panic_at trap store = record { trap = trap; store = store; damages = []; agains = [] }

abbrev pub damage_to : DamageKind → (index page word mask : ℕ) → Damage
damage_to kind index page word mask = record { kind = kind; index = index; page = page; word = word; mask = mask }

abbrev pub damaging_at : (trap store : ℕ) → Damage → PanicLine
damaging_at trap store damage = record { trap = trap; store = store; damages = damage ∷ []; agains = [] }

abbrev pub again_at : (trap store : ℕ) → (agains : List ℕ) → PanicLine
again_at trap store agains = record { trap = trap; store = store; damages = []; agains = agains }

-- a world of these programs, starts and panics
abbrev pub world_of : (quantum budget : ℕ) → List Program → List Started → List PanicLine → World
world_of quantum budget programs starts panics = record {
  load = record {
    shape = record { user_frames = 32; sectors = 4; quantum = quantum; budget = budget };
    files = [];
    programs = programs;
    starts = starts;
  };
  typed0 = [];
  typed1 = [];
  panics = panics;
}

abbrev pub program : (code values : List ℕ) → Program
program code values = record { name = codes "a"; code = code; values = values }

abbrev pub start_on : (program tty : ℕ) → Started
start_on program tty = record { program = program; tty = tty }

-- the entry of a panic with this damage listed, at a store or at the end of its trap, and with resurrections that were
-- broken; what stands in it of words and tapes is not looked at
abbrev pub entry_of : (trap store listed pid : ℕ) → PanicRecord
entry_of trap store listed pid = record {
  trap = trap;
  store = store;
  listed = listed;
  at_leave = false;
  pid = pid;
  area = area.A;
  image = [];
  disk = [];
  tapes = [];
  lines = record { items = [] };
  damage = record { items = [] };
  broken = record { items = [] };
}

abbrev pub at_store : (trap store pid : ℕ) → PanicRecord
at_store trap store pid = entry_of trap store store pid

abbrev pub at_leave : (trap store listed pid : ℕ) → PanicRecord
at_leave trap store listed pid = record (entry_of trap store listed pid) { at_leave = true }

abbrev pub damaged_at : (trap store pid : ℕ) → Damage → PanicRecord
damaged_at trap store pid damage = record (entry_of trap store store pid) { lines = record { items = damage ∷ [] } }

abbrev pub broken_at : (trap store pid : ℕ) → (broken : List ℕ) → PanicRecord
broken_at trap store pid broken = record (entry_of trap store store pid) { broken = record { items = broken } }

-- a state after so many turns
unfoldable pub turned_on : Shape → Unix → (count : ℕ) → Unix
turned_on shape u zero = u
turned_on shape u (suc n) = turned_on shape (turn shape u) n

abbrev pub after : World → (count : ℕ) → Unix
after world count = turned_on world.load.shape (start_of world.load) count

-- what a panic leaves where a trap is undone, is done, or has written the first bytes
abbrev pub left_undone : Trap → Unix → Unix
left_undone t u = undone_of t (begun_from no_keys u t)

abbrev pub left_done : Trap → Unix → Unix
left_done t u = done_of t (begun_from no_keys u t)

abbrev pub left_partly : Trap → (tty count : ℕ) → Unix → Unix
left_partly t tty count u = partly_put t (begun_from no_keys u t) tty count

-- the state after a panic that wounded nothing
abbrev pub revived : Unix → Unix
revived v = abort v (no_wounds v)

-- write(1, 0x11000, 3) of Hi and a line feed, and exit(0)
abbrev pub hi_program : Program
hi_program = program (0x00100513 ∷ 0x000115b7 ∷ 0x00300613 ∷ 0x00200893 ∷ 0x00000073 ∷ 0x00000513 ∷ 0x00100893 ∷ 0x00000073 ∷ []) (0x000a6948 ∷ [])

unfoldable pub hi_with : List PanicLine → World
hi_with panics = world_of 100 1000 (hi_program ∷ []) (start_on 0 0 ∷ []) panics

-- a panic at the first store of the write
unfoldable pub hi_first : World
hi_first = hi_with (panic_at 1 0 ∷ [])

unfoldable pub hi_first_left : Unix
hi_first_left = left_undone (trap.Entry 1) (after hi_first 4)

unfoldable pub hi_first_end : Unix
hi_first_end = closed (turned_on hi_first.load.shape (revived hi_first_left) 3)

unfoldable pub hi_first_report : List ℕ
hi_first_report = codes "otherworld 1\nending done\nsteps 8\ntraps 3\npanic 1 0 store pid 1\naborted 1\nexit 1 code 0\ntty 0 0\nscreen 0 0 0\ntty 1 0\nscreen 1 0 0\nend\n"

-- a panic at the end of the trap of the write
unfoldable pub hi_leave : World
hi_leave = hi_with (panic_at 1 999999 ∷ [])

unfoldable pub hi_leave_left : Unix
hi_leave_left = left_done (trap.Entry 1) (after hi_leave 4)

unfoldable pub hi_leave_end : Unix
hi_leave_end = closed (turned_on hi_leave.load.shape (revived hi_leave_left) 3)

unfoldable pub hi_leave_report : List ℕ
hi_leave_report = codes "otherworld 1\nending done\nsteps 8\ntraps 3\npanic 1 999999 leave pid 1\ngoes 1\nexit 1 code 0\ntty 0 3\nout Hi\\n\nscreen 0 1 0\nrow 0 Hi\ntty 1 0\nscreen 1 0 0\nend\n"

-- a panic in the middle of the write, when so many bytes are written
unfoldable pub hi_mid : World
hi_mid = hi_with (panic_at 1 200 ∷ [])

unfoldable pub hi_mid_left : (count : ℕ) → Unix
hi_mid_left count = left_partly (trap.Entry 1) 0 count (after hi_mid 4)

unfoldable pub hi_mid_end : (count : ℕ) → Unix
hi_mid_end count = closed (turned_on hi_mid.load.shape (revived (hi_mid_left count)) 3)

unfoldable pub hi_mid_report : List ℕ
hi_mid_report = codes "otherworld 1\nending done\nsteps 8\ntraps 3\npanic 1 200 store pid 1\naborted 1\nexit 1 code 0\ntty 0 2\nout Hi\nscreen 0 0 2\nrow 0 Hi\ntty 1 0\nscreen 1 0 0\nend\n"

-- exit(7)
unfoldable pub exit_with : List PanicLine → World
exit_with panics = world_of 100 1000 (program (0x00700513 ∷ 0x00100893 ∷ 0x00000073 ∷ []) [] ∷ []) (start_on 0 0 ∷ []) panics

-- a panic at the first store of the exit, and one at the end of its trap
unfoldable pub exit_first : World
exit_first = exit_with (panic_at 1 0 ∷ [])

unfoldable pub exit_first_left : Unix
exit_first_left = left_undone (trap.Entry 1) (after exit_first 2)

unfoldable pub exit_first_end : Unix
exit_first_end = closed (turned_on exit_first.load.shape (revived exit_first_left) 1)

unfoldable pub exit_first_report : List ℕ
exit_first_report = codes "otherworld 1\nending done\nsteps 4\ntraps 3\npanic 1 0 store pid 1\nstands 1\nexit 1 code 7\ntty 0 0\nscreen 0 0 0\ntty 1 0\nscreen 1 0 0\nend\n"

unfoldable pub exit_leave : World
exit_leave = exit_with (panic_at 1 999999 ∷ [])

unfoldable pub exit_leave_left : Unix
exit_leave_left = left_done (trap.Entry 1) (after exit_leave 2)

unfoldable pub exit_leave_end : Unix
exit_leave_end = closed (revived exit_leave_left)

unfoldable pub exit_leave_report : List ℕ
exit_leave_report = codes "otherworld 1\nending done\nsteps 3\ntraps 2\npanic 1 999999 leave pid 1\nexit 1 code 7\ntty 0 0\nscreen 0 0 0\ntty 1 0\nscreen 1 0 0\nend\n"

-- a panic at the closing trap, of no process
unfoldable pub exit_closing : World
exit_closing = exit_with (panic_at 2 0 ∷ [])

unfoldable pub exit_closing_left : Unix
exit_closing_left = left_undone (trap.Closing None) (after exit_closing 3)

unfoldable pub exit_closing_end : Unix
exit_closing_end = closed (revived exit_closing_left)

unfoldable pub exit_closing_report : List ℕ
exit_closing_report = codes "otherworld 1\nending done\nsteps 3\ntraps 3\npanic 2 0 store pid 0\nexit 1 code 7\ntty 0 0\nscreen 0 0 0\ntty 1 0\nscreen 1 0 0\nend\n"

-- one that is listed for a trap which does not come
unfoldable pub exit_unused : World
exit_unused = exit_with (panic_at 99 0 ∷ [])

unfoldable pub exit_unused_report : List ℕ
exit_unused_report = codes "otherworld 1\nending done\nsteps 3\ntraps 2\nunused 99 0\nexit 1 code 7\ntty 0 0\nscreen 0 0 0\ntty 1 0\nscreen 1 0 0\nend\n"

-- a loop, and panics at the closing trap: of the process in user mode, and, when this is revived, of none
unfoldable pub loop_with : List PanicLine → World
loop_with panics = world_of 100 10 (program (0x0000006f ∷ []) [] ∷ []) (start_on 0 0 ∷ []) panics

unfoldable pub loop_closing : World
loop_closing = loop_with (panic_at 1 0 ∷ [])

unfoldable pub loop_closing_left : Unix
loop_closing_left = left_undone (trap.Closing (Some 1)) (after loop_closing 10)

unfoldable pub loop_closing_end : Unix
loop_closing_end = closed (revived loop_closing_left)

unfoldable pub loop_closing_report : List ℕ
loop_closing_report = codes "otherworld 1\nending budget\nsteps 10\ntraps 2\npanic 1 0 store pid 1\ngoes 1\nlive 1\ntty 0 0\nscreen 0 0 0\ntty 1 0\nscreen 1 0 0\nend\n"

-- the same where the run ends before the loop is chosen: the closing trap is of none
unfoldable pub loop_at_once : World
loop_at_once = world_of 100 0 (program (0x0000006f ∷ []) [] ∷ []) (start_on 0 0 ∷ []) (panic_at 1 0 ∷ [])

unfoldable pub loop_at_once_left : Unix
loop_at_once_left = left_undone (trap.Closing None) (start_of loop_at_once.load)

unfoldable pub loop_at_once_end : Unix
loop_at_once_end = closed (revived loop_at_once_left)

unfoldable pub loop_at_once_report : List ℕ
loop_at_once_report = codes "otherworld 1\nending budget\nsteps 0\ntraps 2\npanic 1 0 store pid 0\ngoes 1\nlive 1\ntty 0 0\nscreen 0 0 0\ntty 1 0\nscreen 1 0 0\nend\n"

unfoldable pub loop_twice : World
loop_twice = loop_with (panic_at 1 0 ∷ (panic_at 2 0 ∷ []))

unfoldable pub loop_twice_left : Unix
loop_twice_left = left_undone (trap.Closing (Some 1)) (after loop_twice 10)

unfoldable pub loop_twice_left_again : Unix
loop_twice_left_again = left_undone (trap.Closing None) (revived loop_twice_left)

unfoldable pub loop_twice_end : Unix
loop_twice_end = closed (revived loop_twice_left_again)

unfoldable pub loop_twice_report : List ℕ
loop_twice_report = codes "otherworld 1\nending budget\nsteps 10\ntraps 3\npanic 1 0 store pid 1\ngoes 1\npanic 2 0 store pid 0\ngoes 1\nlive 1\ntty 0 0\nscreen 0 0 0\ntty 1 0\nscreen 1 0 0\nend\n"

-- two writers of 200 bytes on a terminal each, and a loop; a panic at the end of the second slice of the loop
unfoldable pub writers : World
writers = world_of 100 321
    (program (0x00100513 ∷ 0x000115b7 ∷ 0x0c800613 ∷ 0x00200893 ∷ 0x00000073 ∷ 0x00000513 ∷ 0x00100893 ∷ 0x00000073 ∷ []) (replicate 50 0x41414141)
    ∷ program (0x0000006f ∷ []) [] ∷ [])
    (start_on 0 0 ∷ start_on 0 1 ∷ start_on 1 0 ∷ []) (panic_at 6 0 ∷ [])

unfoldable pub writers_left : Unix
writers_left = left_undone (trap.Slice 3) (after writers 213)

unfoldable pub writers_end : Unix
writers_end = closed (turned_on writers.load.shape (revived writers_left) 107)

unfoldable pub writers_report : List ℕ
writers_report = codes "otherworld 1\nending budget\nsteps 321\ntraps 10\npanic 6 0 store pid 3\naborted 1\naborted 2\ngoes 3\nexit 1 code 0\nexit 2 code 0\nlive 3\ntty 0 32\nout AAAAAAAAAAAAAAAAAAAAAAAAAAAAAAAA\nscreen 0 0 32\nrow 0 AAAAAAAAAAAAAAAAAAAAAAAAAAAAAAAA\ntty 1 32\nout AAAAAAAAAAAAAAAAAAAAAAAAAAAAAAAA\nscreen 1 0 32\nrow 0 AAAAAAAAAAAAAAAAAAAAAAAAAAAAAAAA\nend\n"

-- 24 line feeds and an A by one write: a panic in its second piece, and one at the end of the trap of its first
abbrev pub scroll_program : Program
scroll_program = program (0x00100513 ∷ 0x000115b7 ∷ 0x01900613 ∷ 0x00200893 ∷ 0x00000073 ∷ 0x00000513 ∷ 0x00100893 ∷ 0x00000073 ∷ []) (replicate 6 0x0a0a0a0a ++ 0x00000041 ∷ [])

unfoldable pub scroll_with : List PanicLine → World
scroll_with panics = world_of 100 1000 (scroll_program ∷ []) (start_on 0 0 ∷ []) panics

unfoldable pub scroll : World
scroll = scroll_with (panic_at 2 300 ∷ [])

unfoldable pub scroll_left : (count : ℕ) → Unix
scroll_left count = left_partly (trap.Piece 1) 0 count (after scroll 5)

unfoldable pub scroll_end : (count : ℕ) → Unix
scroll_end count = closed (turned_on scroll.load.shape (revived (scroll_left count)) 3)

unfoldable pub scroll_leave : World
scroll_leave = scroll_with (panic_at 1 999999 ∷ [])

unfoldable pub scroll_leave_left : Unix
scroll_leave_left = left_done (trap.Entry 1) (after scroll_leave 4)

unfoldable pub scroll_leave_end : Unix
scroll_leave_end = closed (turned_on scroll_leave.load.shape (revived scroll_leave_left) 3)

unfoldable pub scroll_leave_report : List ℕ
scroll_leave_report = codes "otherworld 1\nending done\nsteps 8\ntraps 3\npanic 1 999999 leave pid 1\naborted 1\nexit 1 code 0\ntty 0 16\nout \\n\\n\\n\\n\\n\\n\\n\\n\\n\\n\\n\\n\\n\\n\\n\\n\nscreen 0 16 0\ntty 1 0\nscreen 1 0 0\nend\n"

-- three of hi; a panic in the write of the first one, by which the record of the second one is damaged
abbrev pub second_damage : Damage
second_damage = damage_to kind.Proc 1 0 5 1

unfoldable pub three_hi : World
three_hi = world_of 100 1000 (hi_program ∷ []) (start_on 0 0 ∷ start_on 0 1 ∷ start_on 0 0 ∷ []) (damaging_at 1 0 second_damage ∷ [])

unfoldable pub three_hi_left : Unix
three_hi_left = left_undone (trap.Entry 1) (after three_hi 4)

unfoldable pub second_lost : Wounds
second_lost = record (no_wounds three_hi_left) { core = λ pid. pid == 2 }

unfoldable pub three_hi_end : Unix
three_hi_end = closed (turned_on three_hi.load.shape (abort three_hi_left second_lost) 11)

unfoldable pub three_hi_report : List ℕ
three_hi_report = codes "otherworld 1\nending done\nsteps 16\ntraps 5\npanic 1 0 store pid 1\naborted 1\nlost 2 0\ngoes 3\nexit 1 code 0\nexit 2 lost 0\nexit 3 code 0\ntty 0 3\nout Hi\\n\nscreen 0 1 0\nrow 0 Hi\ntty 1 0\nscreen 1 0 0\nend\n"

-- hi, and a panic in its write by which the head is damaged
abbrev pub head_damage : Damage
head_damage = damage_to kind.Head 0 0 3 1

unfoldable pub hi_lost : World
hi_lost = hi_with (damaging_at 1 0 head_damage ∷ [])

unfoldable pub hi_lost_left : Unix
hi_lost_left = left_undone (trap.Entry 1) (after hi_lost 4)

unfoldable pub head_lost : Wounds
head_lost = record (no_wounds hi_lost_left) { core = λ pid. true; head = true }

unfoldable pub hi_lost_end : Unix
hi_lost_end = closed (abort hi_lost_left head_lost)

unfoldable pub hi_lost_report : List ℕ
hi_lost_report = codes "otherworld 1\nending done\nsteps 5\ntraps 2\npanic 1 0 store pid 1\nlost 1 0\nexit 1 lost 0\ntty 0 0\nscreen 0 0 0\ntty 1 0\nscreen 1 0 0\nend\n"

-- hi with slices of two instructions, and a panic at the end of the first one by which the H of its text becomes an h
abbrev pub byte_damage : Damage
byte_damage = damage_to kind.Page 0 17 0 0x20

unfoldable pub hi_hurt : World
hi_hurt = world_of 2 1000 (hi_program ∷ []) (start_on 0 0 ∷ []) (damaging_at 1 0 byte_damage ∷ [])

unfoldable pub hi_hurt_left : Unix
hi_hurt_left = left_undone (trap.Slice 1) (after hi_hurt 2)

abbrev pub hurt_byte : (address byte : ℕ) → ℕ
hurt_byte address byte = if address == 0x11000 then 0x68 else byte

unfoldable pub byte_hurt : Wounds
byte_hurt = record (no_wounds hi_hurt_left) { pages = λ pid address. hurt_byte address (bytes_by (hi_hurt_left.processes pid) address) }

unfoldable pub hi_hurt_end : Unix
hi_hurt_end = closed (turned_on hi_hurt.load.shape (abort hi_hurt_left byte_hurt) 8)

unfoldable pub hi_hurt_report : List ℕ
hi_hurt_report = codes "otherworld 1\nending done\nsteps 11\ntraps 6\npanic 1 0 store pid 1\ngoes 1\nexit 1 code 0\ntty 0 3\nout hi\\n\nscreen 0 1 0\nrow 0 hi\ntty 1 0\nscreen 1 0 0\nend\n"

-- the lines of three panics: of one a resurrection was broken once, of one none, and one did not come
abbrev pub retried : List PanicLine
retried = again_at 1 0 (2 ∷ 3 ∷ []) ∷ again_at 2 5 (4 ∷ []) ∷ again_at 7 0 (6 ∷ []) ∷ []

abbrev pub retried_history : List PanicRecord
retried_history = broken_at 1 0 1 (2 ∷ []) ∷ broken_at 2 5 0 [] ∷ []

unfoldable pub retried_panics : List ℕ
retried_panics = codes "panic 1 0 store pid 1\nbroken 2\naborted 1\nprocedure 2 18\nlost 3 5\npanic 2 5 store pid 0\n"

unfoldable pub retried_unused : List ℕ
retried_unused = codes "unused again 1 3\nunused again 2 4\nunused 7 0\nunused again 7 6\n"
