-- Three worked worlds, with their texts and reports, and three texts that are refused.
use Rattle.std.specs.Prelude.{ℕ, zero, suc, List, [], ◌∷◌, map, codes}
use Rattle.record_layouts.specs.Unix.State.{Unix, start_of}
use Rattle.record_layouts.specs.Unix.Turn.{turn}
use Rattle.ow_base.specs.declared.machine.Shape.{Shape}
use Rattle.ow_base.specs.declared.worlds.World.{World}

-- a world of program a, which is started on these terminals
unfoldable pub worked_world : (code values ttys : List ℕ) → World
worked_world code values ttys = record {
  load = record {
    shape = record { user_frames = 32; sectors = 4; quantum = 100; budget = 1000 };
    files = [];
    programs = record { name = codes "a"; code = code; values = values } ∷ [];
    starts = map (λ tty. record { program = 0; tty = tty }) ttys;
  };
  typed0 = [];
  typed1 = [];
  panics = [];
}

-- a program that makes the call exit(7)
unfoldable pub exit_seven : World
exit_seven = worked_world (0x00700513 ∷ 0x00100893 ∷ 0x00000073 ∷ []) [] (0 ∷ [])

unfoldable pub exit_seven_text : List ℕ
exit_seven_text = codes "world 1\nframes 32\nsectors 4\nquantum 100\nbudget 1000\nprogram a\ncode 00700513 00100893 00000073\nstart a 0\nend\n"

unfoldable pub exit_seven_report : List ℕ
exit_seven_report = codes "otherworld 1\nending done\nsteps 3\ntraps 2\nexit 1 code 7\ntty 0 0\nscreen 0 0 0\ntty 1 0\nscreen 1 0 0\nend\n"

-- a program that writes Hi and a line feed by the call write(1, 0x11000, 3), and makes the call exit(0), which is started
-- on these terminals
unfoldable pub hi_on : (ttys : List ℕ) → World
hi_on ttys =
    worked_world (0x00100513 ∷ 0x000115b7 ∷ 0x00300613 ∷ 0x00200893 ∷ 0x00000073 ∷ 0x00000513 ∷ 0x00100893 ∷ 0x00000073 ∷ [])
    (0x000a6948 ∷ []) ttys

unfoldable pub hi : World
hi = hi_on (0 ∷ [])

unfoldable pub hi_text : List ℕ
hi_text = codes "world 1\nframes 32\nsectors 4\nquantum 100\nbudget 1000\nprogram a\ncode 00100513 000115b7 00300613 00200893 00000073 00000513 00100893 00000073\ndata 000a6948\nstart a 0\nend\n"

unfoldable pub hi_report : List ℕ
hi_report = codes "otherworld 1\nending done\nsteps 8\ntraps 3\nexit 1 code 0\ntty 0 3\nout Hi\\n\nscreen 0 1 0\nrow 0 Hi\ntty 1 0\nscreen 1 0 0\nend\n"

-- three of them, the second one on terminal 1
unfoldable pub three_hi : World
three_hi = hi_on (0 ∷ 1 ∷ 0 ∷ [])

unfoldable pub three_hi_text : List ℕ
three_hi_text = codes "world 1\nframes 32\nsectors 4\nquantum 100\nbudget 1000\nprogram a\ncode 00100513 000115b7 00300613 00200893 00000073 00000513 00100893 00000073\ndata 000a6948\nstart a 0\nstart a 1\nstart a 0\nend\n"

unfoldable pub three_hi_report : List ℕ
three_hi_report = codes "otherworld 1\nending done\nsteps 24\ntraps 7\nexit 1 code 0\nexit 2 code 0\nexit 3 code 0\ntty 0 6\nout Hi\\nHi\\n\nscreen 0 2 0\nrow 0 Hi\nrow 1 Hi\ntty 1 3\nout Hi\\n\nscreen 1 1 0\nrow 0 Hi\nend\n"

-- a world has 16 frames at least
unfoldable pub few_frames_text : List ℕ
few_frames_text = codes "world 1\nframes 5\nsectors 4\nquantum 100\nbudget 1000\nprogram a\ncode 00100513 000115b7 00300613 00200893 00000073 00000513 00100893 00000073\ndata 000a6948\nstart a 0\nend\n"

unfoldable pub no_end_text : List ℕ
no_end_text = codes "world 1\nframes 32\nsectors 4\nquantum 100\nbudget 1000\nprogram a\ncode 00700513 00100893 00000073\nstart a 0\n"

-- the panics of a world come in traps of their own
unfoldable pub panic_twice_text : List ℕ
panic_twice_text = codes "world 1\nframes 32\nsectors 4\nquantum 100\nbudget 1000\nprogram a\ncode 00700513 00100893 00000073\nstart a 0\npanic 1 0\npanic 1 0\nend\n"

-- the state after so many turns from one
unfoldable pub turned : Shape → Unix → (count : ℕ) → Unix
turned shape u zero = u
turned shape u (suc n) = turn shape (turned shape u n)

-- the state of a world after so many turns
unfoldable pub after : World → (count : ℕ) → Unix
after world count = turned world.load.shape (start_of world.load) count
