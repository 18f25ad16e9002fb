-- Where the pages of a load lie.
use Rattle.std.proofs.Common.{◌≡◌, ℕ, ◌+◌, ◌-◌, ◌<◌, ◌≤◌, true, nat_lt, List, [], length, take, slice_get, get_or, Option, Some, None, option_and_then, refl, sym, ap, subst, ◌∙◌, inl, inr, arith}
use Rattle.std.proofs.lemmas.Bool.{cases_lt}
use Rattle.std.proofs.lemmas.Bool.Decides.{nat_tests}
use Rattle.std.proofs.lemmas.List.{take-take}
use Rattle.std.proofs.lemmas.List.Elements.{All-get_or}
use Rattle.std.proofs.lemmas.List.Sums.{sum_by-take-le, sum_by_more}
use Rattle.std.proofs.lemmas.Option.{slice_get-get_or, slice_get_past}
use Rattle.ow_base.specs.World.{pages_of_found, started_page_count}
use Rattle.ow_base.specs.declared.worlds.Load.{Load}
use Rattle.ow_base.specs.declared.worlds.Program.{Program}
use Rattle.ow_base.specs.declared.worlds.Start.{Start as Started}
use Rattle.record_layouts.specs.Least.{IsLeast, NonePasses}
use Rattle.record_layouts.proofs.Least.{least_found, least_none}
use Rattle.kernel_traps.specs.Boot.{IsBootable, IsLoadable, IsStartable, program_in}
use Rattle.kernel_traps.specs.BootLayout.{ends_behind, holder_of, page_in}
use Rattle.kernel_traps.specs.Boot.{pages_before}

-- the program of a start is there
program_found : (programs : List Program) (starts : List Started) (slot : ℕ) (start : Started) → slice_get starts slot ≡ Some start
    → option_and_then (λ (s : Started). slice_get programs s.program) (slice_get starts slot) ≡ slice_get programs start.program
program_found programs starts slot start e = rw e refl

pub start_there : (load : Load) (slot : ℕ) → IsBootable load → slot < length load.starts
    → (program : Program) × (program_in load slot ≡ Some program) × IsLoadable program
unfolding program_in
start_there load slot is low =
    let none : Started = record { program = 0; tty = 0 } in
    let no_program : Program = record { name = []; code = []; values = [] } in
    let start = get_or load.starts slot none in
    let found = All-get_or (IsStartable load.programs) load.starts slot none low is.starts in (
      get_or load.programs start.program no_program,
      program_found load.programs load.starts slot start (slice_get-get_or load.starts slot none low)
          ∙ slice_get-get_or load.programs start.program no_program found.program,
      All-get_or IsLoadable load.programs start.program no_program found.program is.programs,
    )

pub start_loadable : (load : Load) (slot : ℕ) (program : Program) → IsBootable load → slot < length load.starts → program_in load slot ≡ Some program
    → IsLoadable program
start_loadable load slot program is low e =
    let there = start_there load slot is low in
    let same : there.0 ≡ program = cc (there.1, e) in
    subst IsLoadable same there.2

-- and a program that is found is one of a start
pub start_low : (load : Load) (slot : ℕ) (program : Program) → program_in load slot ≡ Some program → slot < length load.starts
unfolding program_in
start_low load slot program found = elim (cases_lt slot (length load.starts)) [
  | inl low ↦ low
  | inr past ↦ absurd (cc (program_none load slot past, found))
]
  where
    program_none : (load : Load) (slot : ℕ) → length load.starts ≤ slot → program_in load slot ≡ None
    program_none load slot past = rw (slice_get_past load.starts slot past) refl

-- the pages of one start more
pub pages_more : (load : Load) (slot : ℕ) (program : Program) → slot < length load.starts → program_in load slot ≡ Some program
    → pages_before load (slot + 1) ≡ pages_before load slot + started_page_count program
unfolding program_in
pages_more load slot program low is =
    let none : Started = record { program = 0; tty = 0 } in
    let count = λ (start : Started). pages_of_found (slice_get load.programs start.program) in
    let start = get_or load.starts slot none in
    let found : slice_get load.programs start.program ≡ Some program =
    sym (program_found load.programs load.starts slot start (slice_get-get_or load.starts slot none low)) ∙ is in
    sum_by_more count load.starts slot none low ∙ ap (λ (o : Option Program). pages_before load slot + pages_of_found o) found

-- and all have frames
pub pages_fit : (load : Load) (slot : ℕ) → IsBootable load → pages_before load slot ≤ load.shape.user_frames
pages_fit load slot is =
    omega (arith, sum_by-take-le (λ (start : Started). pages_of_found (slice_get load.programs start.program)) load.starts slot, is.frames)

-- the pages before a start are among those before a later one
pub pages_rise : (load : Load) (earlier later : ℕ) → earlier ≤ later → pages_before load earlier ≤ pages_before load later
pages_rise load earlier later order =
    let count = λ (start : Started). pages_of_found (slice_get load.programs start.program) in
    rw (take-take earlier later load.starts order) at (sum_by-take-le count (take later load.starts) earlier)

-- no pages are before the first start
pub pages_none : (load : Load) → pages_before load 0 ≡ 0
pages_none load = refl

-- a page is held by the frame that is counted for it
pub holder_found : (load : Load) (slot frame number : ℕ) (program : Program) → slot < length load.starts → program_in load slot ≡ Some program
    → number < started_page_count program → frame ≡ pages_before load slot + number
    → holder_of load frame ≡ Some (record { slot = slot; page = page_in program number })
unfolding holder_of
holder_found load slot frame number program within found low is =
    let more = pages_more load slot program within found in
    let ends : nat_lt frame (pages_before load (slot + 1)) ≡ true = grind (arith, nat_tests, more) in
    let least : IsLeast (ends_behind load frame) 0 (length load.starts) slot = record {
      from = omega arith;
      to = within;
      passes = ends;
      below = record { none = λ k from to. let rise = pages_rise load (k + 1) slot (omega arith) in grind (arith, nat_tests, rise) };
    } in
    let place : frame - pages_before load slot ≡ number = omega arith in
    rw (least_found (ends_behind load frame) 0 (length load.starts) (length load.starts) slot (omega arith) least, place, found) refl

-- and frames behind the last page hold none
pub holder_missed : (load : Load) (frame : ℕ) → pages_before load (length load.starts) ≤ frame → holder_of load frame ≡ None
unfolding holder_of
holder_missed load frame past =
    let none : NonePasses (ends_behind load frame) 0 (length load.starts) = record {
      none = λ k from to. let rise = pages_rise load (k + 1) (length load.starts) (omega arith) in grind (arith, nat_tests, rise);
    } in
    rw (least_none (ends_behind load frame) 0 (length load.starts) (length load.starts) (omega arith) none) refl
