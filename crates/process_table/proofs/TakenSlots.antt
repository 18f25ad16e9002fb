-- As many slots are taken in the Unix as there are slots that are not free by records.
use Rattle.std.proofs.Common.{◌≡◌, ◌↔◌, ◌⊎◌, ◌==◌, ◌&&◌, ◌||◌, ℕ, ◌<◌, ◌≤◌, Bool, true, false, nat_le, not, if◌then◌else◌, List, Option, Some, None, IfSome, is_some, inl, inr, refl, sym, ap, subst, ◌∙◌, arith}
use Rattle.std.proofs.lemmas.Bool.{and_parts, and_right, both_ways, cases_Bool, false_from_ne_true, not-true, or_left, or_right}
use Rattle.std.proofs.lemmas.Bool.Decides.{nat_tests}
use Rattle.ow_base.specs.Sv32.{WordMap}
use Rattle.record_layouts.specs.declared.places.RecordId.TheVariants as id
use Rattle.record_layouts.specs.declared.exit.ExitRec.{ExitRec}
use Rattle.record_layouts.specs.declared.proc.ProcRec.{ProcRec}
use Rattle.record_layouts.specs.Unix.Calls.{slots_taken}
use Rattle.record_layouts.specs.Unix.Choice.{is_any, least_from}
use Rattle.record_layouts.specs.Unix.State.{Process, count_from, sum_from}
use Rattle.record_layouts.specs.Decode.{Context, ended_by, ended_in, ended_of, is_ended_as, processes_of, slot_by, unix_of}
use Rattle.record_layouts.specs.Exit.{tells_live}
use Rattle.record_layouts.specs.Held.{Records}
use Rattle.record_layouts.specs.Pages.{is_live}
use Rattle.record_layouts.specs.Proc.{FitsProc, IsWithin}
use Rattle.record_layouts.specs.Sound.{AreSound, IsIn}
use Rattle.record_layouts.proofs.Sums.{all_fail, rows_as_columns, sum_none, sum_one}
use Rattle.process_table.specs.Choosing.{pid_by}
use Rattle.process_table.specs.Slots.{IsFull, is_free, is_live_exit, is_live_pid}
use Rattle.process_table.proofs.Ended.{live_fits}
use Rattle.process_table.proofs.EndedSound.{ended_before}
use Rattle.process_table.proofs.EndedUnix.{ended_there}
use Rattle.process_table.proofs.Least.{any_found, any_none, least_passes, least_within}
use Rattle.process_table.proofs.PidSums.{lives_alike, none_of}
use Rattle.process_table.proofs.Running.{ended_place, the_record}
use Rattle.process_table.proofs.Seats.{found_in, living, pid_range}

-- whether a pid is live, by its exit record and in the Unix
not_live_exit : (held : Option ExitRec) → slot_by held ≡ None → is_live_exit held ≡ false
not_live_exit (Some exit) none = elim (cases_Bool (tells_live exit)) [
  | inl live ↦ absurd (cc (rw live at none))
  | inr dead ↦ dead
]
not_live_exit None none = refl

live_exit : (held : Option ExitRec) (slot : ℕ) → slot_by held ≡ Some slot → is_live_exit held ≡ true
live_exit (Some exit) slot some = elim (cases_Bool (tells_live exit)) [
  | inl live ↦ live
  | inr dead ↦ absurd (cc (rw dead at some))
]
live_exit None slot some = absurd (cc some)

pub live_pid_is : (r : Records) (words : WordMap) (context : Context) (pid : ℕ) → AreSound r → is_some (processes_of r words context pid) ≡ is_live_pid r pid
live_pid_is r words context pid sound = lives_alike r words context pid ∙ (elim (living r words pid sound) [
  | inl missing ↦
      ap is_some missing.decoded ∙ sym (and_right (not (pid == 0)) (is_live_exit (r.exits pid)) (not_live_exit (r.exits pid) missing.exit))
  | inr live ↦
      let range = pid_range r live.slot live.process sound.values live.is in
      let counted : (pid == 0) ≡ false = grind (arith, nat_tests, range.0, live.same) in
      ap is_some live.decoded ∙ sym (rw counted (live_exit (r.exits pid) live.slot live.exit))
])

-- why a slot is taken: its process is live, or has ended and its parent is live
abbrev IsTaken : (state : ℕ) → (has_parent : Bool) → Type 0
IsTaken state has_parent = ((state == 1 || state == 2) ≡ true) ⊎ ((state ≡ 3) × (has_parent ≡ true))

abbrev is_open : (state : ℕ) → (has_parent : Bool) → Bool
is_open state has_parent = state == 0 || (state == 3 && not has_parent)

taken_by : (state : ℕ) (has_parent : Bool) → state ≤ 3 → is_open state has_parent ≡ false → IsTaken state has_parent
taken_by state true few taken = elim (cases_Bool (state == 1 || state == 2)) [
  | inl live ↦ inl live
  | inr dead ↦ inr (grind (arith, nat_tests, taken, dead, few), refl)
]
taken_by state false few taken = inl (grind (arith, nat_tests, taken, few))

open_not : (state : ℕ) (has_parent : Bool) → IsTaken state has_parent → is_open state has_parent ≡ false
open_not state has_parent (inl live) = grind (arith, nat_tests, live)
open_not state true (inr ended) = grind (arith, nat_tests, ended.0)
open_not state false (inr ended) = absurd (cc ended.1)

-- the pid has a slot by records
record Seat (r : Records) (pid : ℕ) : Type 0 where
  slot : ℕ
  process : ProcRec
  within : slot < 16
  there : r.procs slot ≡ Some process
  same : process.pid ≡ pid
  taken : IsTaken process.state (is_live_pid r process.parent)

fits_at : (r : Records) (slot : ℕ) (process : ProcRec) → AreSound r → r.procs slot ≡ Some process → FitsProc process
fits_at r slot process sound there = subst (λ (held : Option ProcRec). IfSome held FitsProc) there (sound.values (id.Proc slot))

-- what is taken has a pid
seat_range : (r : Records) (pid : ℕ) → AreSound r → (seat : Seat r pid) → IsWithin 1 256 seat.process.pid
seat_range r pid sound seat =
    let fits = fits_at r seat.slot seat.process sound seat.there in
    elim seat.taken [
      | inl live ↦ (live_fits seat.process fits live).pid
      | inr ended ↦ (fits.ended ended.0).pid
    ]

-- a pid has one slot
live_and_ended : (r : Records) (pid : ℕ) → AreSound r → (one other : Seat r pid) → is_live one.process ≡ true → other.process.state ≡ 3 → ⊥
live_and_ended r pid sound one other live ended =
    ended_before r one.slot one.process other.slot other.process sound.numbered
    (record { within = one.within; there = one.there; live = live }) other.there ended (other.same ∙ sym one.same)

live_exit_of : (r : Records) (pid : ℕ) → AreSound r → (seat : Seat r pid) → is_live seat.process ≡ true → slot_by (r.exits pid) ≡ Some seat.slot
live_exit_of r pid sound seat live =
    subst (λ (p : ℕ). slot_by (r.exits p) ≡ Some seat.slot) seat.same
    (sound.numbered.exit seat.slot seat.process (record { within = seat.within; there = seat.there; live = live }))

one_seat : (r : Records) (pid : ℕ) → AreSound r → (one other : Seat r pid) → one.slot ≡ other.slot
one_seat r pid sound one other = elim one.taken [
  | inl live ↦ elim other.taken [
    | inl too ↦
        let both : Some one.slot ≡ Some other.slot = sym (live_exit_of r pid sound one live) ∙ live_exit_of r pid sound other too in
        cc both
    | inr ended ↦ absurd (live_and_ended r pid sound one other live ended.0)
  ]
  | inr ended ↦ elim other.taken [
    | inl live ↦ absurd (live_and_ended r pid sound other one live ended.0)
    | inr too ↦
        sound.numbered.one_ended one.slot other.slot one.process other.process one.there other.there ended.0 too.0 (one.same ∙ sym other.same)
  ]
]

module _ (r : Records) (words : WordMap) (context : Context) (sound : AreSound r) where
  abbrev live_in : (pid : ℕ) → Option Process
  live_in pid = processes_of r words context pid

  abbrev has_seat : (pid : ℕ) → Bool
  has_seat pid = is_some (live_in pid) || is_some (ended_of r live_in pid)

  -- an ended process whose parent is live is an ended child under its pid, and no live process has the pid
  pub ended_child_there : (slot : ℕ) (process : ProcRec) → slot < 16 → r.procs slot ≡ Some process → process.state ≡ 3 → is_live_pid r process.parent ≡ true
      → ended_of r live_in process.pid ≡ Some (record { parent = process.parent; status = process.status })
  unfolding ended_of
  ended_child_there slot process within there ended parent =
      let lives : is_some (live_in process.parent) ≡ true = live_pid_is r words context process.parent sound ∙ parent in
      ap (ended_in r live_in) (ended_place r slot process sound.numbered within there ended) ∙ (ap (ended_by live_in) there ∙ rw lives refl)

  pub ended_pid_apart : (slot : ℕ) (process : ProcRec) → r.procs slot ≡ Some process → process.state ≡ 3 → live_in process.pid ≡ None
  ended_pid_apart slot process there ended = elim (living r words process.pid sound) [
    | inl missing ↦ none_of r words context process.pid missing.decoded
    | inr live ↦ absurd (ended_before r live.slot live.process slot process sound.numbered live.is there ended (sym live.same))
  ]

  -- a seat is one in the Unix
  seat_counts : (pid : ℕ) → Seat r pid → has_seat pid ≡ true
  seat_counts pid seat = elim seat.taken [
    | inl live ↦
        let is : IsIn r seat.slot seat.process = record { within = seat.within; there = seat.there; live = live } in
        let found : is_some (live_in seat.process.pid) ≡ true =
        lives_alike r words context seat.process.pid ∙ ap is_some (found_in r words seat.slot seat.process sound is) in
        let here : is_some (live_in pid) ≡ true = subst (λ (p : ℕ). is_some (live_in p) ≡ true) seat.same found in
        or_left (is_some (live_in pid)) (is_some (ended_of r live_in pid)) here
    | inr ended ↦
        let found = ap is_some (ended_child_there seat.slot seat.process seat.within seat.there ended.0 ended.1) in
        or_right (is_some (live_in pid)) (is_some (ended_of r live_in pid))
        (subst (λ (p : ℕ). is_some (ended_of r live_in p) ≡ true) seat.same found)
  ]

  -- and one of the Unix is a seat
  live_seat : (pid : ℕ) → is_some (live_in pid) ≡ true → Seat r pid
  live_seat pid lives = elim (living r words pid sound) [
    | inl missing ↦ absurd (both_ways (is_some (live_in pid)) (lives_alike r words context pid ∙ ap is_some missing.decoded) lives)
    | inr live ↦ record { slot = live.slot; process = live.process; within = live.is.within; there = live.is.there; same = live.same; taken = inl live.is.live }
  ]

  child_parent : (held : Option ProcRec) (other : ProcRec) → held ≡ Some other → is_some (ended_by live_in held) ≡ true → is_live_pid r other.parent ≡ true
  child_parent held other there is = elim (cases_Bool (is_some (live_in other.parent))) [
    | inl lives ↦ sym (live_pid_is r words context other.parent sound) ∙ lives
    | inr dead ↦
        let none : is_some (ended_by live_in (Some other)) ≡ false = rw dead refl in
        absurd (both_ways (is_some (ended_by live_in held)) (ap (λ (h : Option ProcRec). is_some (ended_by live_in h)) there ∙ none) is)
  ]

  child_seat : (pid : ℕ) (found : Option ℕ) → least_from (λ k. is_ended_as pid (r.procs k)) 0 16 ≡ found
      → is_some (ended_in r live_in found) ≡ true → Seat r pid
  child_seat pid (Some place) there is =
      let other = ended_there (r.procs place) pid (least_passes (λ k. is_ended_as pid (r.procs k)) 0 16 place there) in
      let within = (least_within (λ k. is_ended_as pid (r.procs k)) 0 16 place there).1 in
      record {
        slot = place;
        process = other.0;
        within = within;
        there = other.1;
        same = other.3;
        taken = inr (other.2, child_parent (r.procs place) other.0 other.1 is);
      }
  child_seat pid None there is = absurd (cc is)

  ended_seat : (pid : ℕ) → is_some (ended_of r live_in pid) ≡ true → Seat r pid
  unfolding ended_of
  ended_seat pid is = child_seat pid (least_from (λ k. is_ended_as pid (r.procs k)) 0 16) refl is

  seat_of : (pid : ℕ) → has_seat pid ≡ true → Seat r pid
  seat_of pid has = elim (cases_Bool (is_some (live_in pid))) [
    | inl lives ↦ live_seat pid lives
    | inr dead ↦ ended_seat pid (rw dead at has)
  ]

  -- a pid counts in the slot that it has taken
  abbrev holds : (pid slot : ℕ) → Bool
  holds pid slot = not (is_free r (r.procs slot)) && pid_by (r.procs slot) == pid

  abbrev cell : (pid slot : ℕ) → ℕ
  cell pid slot = if holds pid slot then 1 else 0

  held_seat : (pid slot : ℕ) → slot < 16 → holds pid slot ≡ true → Seat r pid
  held_seat pid slot within holding =
      let found = the_record (r.procs slot) (sound.complete (id.Proc slot) within) in
      let held : (not (is_open found.0.state (is_live_pid r found.0.parent)) && found.0.pid == pid) ≡ true =
      subst (λ (h : Option ProcRec). (not (is_free r h) && pid_by h == pid) ≡ true) found.1 holding in
      let parts = and_parts (not (is_open found.0.state (is_live_pid r found.0.parent))) (found.0.pid == pid) held in
      record {
        slot = slot;
        process = found.0;
        within = within;
        there = found.1;
        same = grind (arith, nat_tests, parts.1);
        taken = taken_by found.0.state (is_live_pid r found.0.parent) (fits_at r slot found.0 sound found.1).state (not-true (is_open found.0.state (is_live_pid r found.0.parent)) parts.0);
      }

  seat_held : (pid : ℕ) → (seat : Seat r pid) → holds pid seat.slot ≡ true
  seat_held pid seat =
      let closed : is_free r (r.procs seat.slot) ≡ false = ap (is_free r) seat.there ∙ open_not seat.process.state (is_live_pid r seat.process.parent) seat.taken in
      let own : (pid_by (r.procs seat.slot) == pid) ≡ true = ap (λ (h : Option ProcRec). pid_by h == pid) seat.there ∙ grind (arith, nat_tests, seat.same) in
      rw closed own

  full_cell : (pid slot : ℕ) → holds pid slot ≡ true → cell pid slot ≡ 1
  full_cell pid slot holding = ap (λ (b : Bool). if b then 1 else 0) holding

  no_cell : (pid slot : ℕ) → (holds pid slot ≡ true → ⊥) → cell pid slot ≡ 0
  no_cell pid slot elsewhere = ap (λ (b : Bool). if b then 1 else 0) (false_from_ne_true (holds pid slot) elsewhere)

  row : (pid : ℕ) → sum_from (cell pid) 0 16 ≡ (if has_seat pid then 1 else 0)
  unfolding held_seat
  row pid = elim (cases_Bool (has_seat pid)) [
    | inl has ↦
        let seat = seat_of pid has in
        sum_one (cell pid) seat.slot 1 0 16 16 refl (omega arith) seat.within (full_cell pid seat.slot (seat_held pid seat))
        (λ slot from to apart. no_cell pid slot (λ holding. apart (one_seat r pid sound (held_seat pid slot to holding) seat)))
        ∙ sym (ap (λ (b : Bool). if b then 1 else 0) has)
    | inr has_none ↦
        sum_none (cell pid) 0 16 16 refl
        (λ slot from to. no_cell pid slot (λ holding. both_ways (has_seat pid) has_none (seat_counts pid (held_seat pid slot to holding))))
        ∙ sym (ap (λ (b : Bool). if b then 1 else 0) has_none)
  ]

  column : (slot : ℕ) → slot < 16 → sum_from (λ pid. cell pid slot) 1 256 ≡ (if is_free r (r.procs slot) then 0 else 1)
  column slot within = elim (cases_Bool (is_free r (r.procs slot))) [
    | inl free ↦
        sum_none (λ pid. cell pid slot) 1 256 257 refl (λ pid from to. rw free refl) ∙ sym (ap (λ (b : Bool). if b then 0 else 1) free)
    | inr taken ↦
        let own = pid_by (r.procs slot) in
        let same : (own == own) ≡ true = grind (arith, nat_tests) in
        let holding : holds own slot ≡ true = rw taken same in
        let seat = held_seat own slot within holding in
        let range = seat_range r own sound seat in
        sum_one (λ pid. cell pid slot) own 1 1 256 257 refl (omega (arith, range.0, seat.same)) (omega (arith, range.1, seat.same)) (full_cell own slot holding)
        (λ pid from to apart. no_cell pid slot (λ other.
        let equal : (own == pid) ≡ true = (and_parts (not (is_free r (r.procs slot))) (own == pid) other).1 in
        apart (grind (arith, nat_tests, equal))))
        ∙ sym (ap (λ (b : Bool). if b then 0 else 1) taken)
  ]

  pub all_taken : (tapes : ℕ → List ℕ) (steps traps : ℕ)
      → nat_le 16 (slots_taken (unix_of r words tapes context steps traps)) ≡ not (is_any (λ slot. is_free r (r.procs slot)) 0 16)
  unfolding slots_taken count_from unix_of
  all_taken tapes steps traps =
      ap (nat_le 16)
      (rows_as_columns cell (λ pid. if has_seat pid then 1 else 0) (λ slot. if is_free r (r.procs slot) then 0 else 1) 1 256 0 16
      (λ pid from to. row pid) (λ slot from to. column slot to))
      ∙ all_fail (λ slot. is_free r (r.procs slot)) 0 16

-- no slot is free
no_slot : (r : Records) → is_any (λ slot. is_free r (r.procs slot)) 0 16 ≡ false → IsFull r
no_slot r none slot within = false_from_ne_true (is_free r (r.procs slot))
    (λ free. both_ways (is_any (λ k. is_free r (r.procs k)) 0 16) none (any_found (λ k. is_free r (r.procs k)) 0 16 16 slot refl (omega arith) within free))

pub full_is : (r : Records) → is_any (λ slot. is_free r (r.procs slot)) 0 16 ≡ false ↔ IsFull r
full_is r = (no_slot r, λ full. any_none (λ slot. is_free r (r.procs slot)) 0 16 16 refl (record { none = λ slot from to. full slot to }))
