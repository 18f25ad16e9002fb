-- What a plant stands for at a panic where nothing of the plan of a trap is carried out, and where all of it is.
use Rattle.std.proofs.Common.{◌≡◌, ◌∙◌, ◌==◌, ◌+◌, ◌^◌, ◌<◌, ◌≤◌, ℕ, nat_le, nat_lt, true, false, if◌then◌else◌, List, length, Option, Some, None, IfSome, inl, inr, refl, sym, ap, subst, arith}
use Rattle.std.proofs.lemmas.Bool.{cases_Bool}
use Rattle.std.proofs.lemmas.Bool.Decides.{nat_tests}
use Rattle.dead_reader.specs.Left.{told_by}
use Rattle.address_space.specs.Spaces.{OnlyPrepares}
use Rattle.ow_base.specs.Sv32.{WordMap}
use Rattle.phys_memory.specs.Memory.{words_of}
use Rattle.record_layouts.specs.declared.head.HeadRec.{HeadRec}
use Rattle.record_layouts.specs.declared.proc.ProcRec.{ProcRec}
use Rattle.record_layouts.specs.declared.term.TermRec.{TermRec}
use Rattle.record_layouts.specs.declared.traps.Trap.{Trap}
use Rattle.record_layouts.specs.declared.traps.Trap.TheVariants as trap
use Rattle.record_layouts.specs.Decode.{InKernel, InUser, unix_of}
use Rattle.record_layouts.specs.Held.{Held, Records}
use Rattle.record_layouts.specs.Left.{HandedOver, is_undone}
use Rattle.record_layouts.specs.LeftImages.{unix_left, with_left}
use Rattle.record_layouts.specs.Reading.{records_in, records_of}
use Rattle.record_layouts.specs.Unix.Broken.{done_of, undone_of}
use Rattle.record_layouts.specs.Unix.State.{Unix}
use Rattle.record_layouts.specs.Unix.Traps.{after_trap, or_zero, pid_of, steps_in}
use Rattle.syscalls.specs.Done.{IsDone}
use Rattle.syscalls.specs.Planned.{Planned, PlanFork, PlanGrow, PlanOnce, PlanPut, PlanWrite, pages_in}
use Rattle.ow_plant.specs.Images.{tapes_of}
use Rattle.ow_plant.specs.State.{Device, PlantState, handed_over, tty_of}
use Rattle.intent_store.specs.Live.{held_of, records_held, rest_of}
use Rattle.kernel_traps.specs.Broken.{unix_left_at}
use Rattle.kernel_traps.specs.Carrying.{IsCarriedOut, bytes_of}
use Rattle.kernel_traps.specs.Plants.{IsInTrap, context_of, unix_at}
use Rattle.kernel_traps.specs.Putting.{AreCounted, IsPut}
use Rattle.kernel_traps.specs.Traps.{IsDue, IsInMode, IsPlanOf, begun_by, user_before}
use Rattle.kernel_traps.proofs.Carried.{IsKept, IsShort, kept}
use Rattle.kernel_traps.proofs.Decoding.{pid_had}
use Rattle.kernel_traps.proofs.Done.{done as write_done, fork_done, grow_done, put_done}
use Rattle.kernel_traps.proofs.Entering.{MayTrap, begins, steps_begun, traps_begun}
use Rattle.kernel_traps.proofs.LeftPlans.{plan_short}
use Rattle.kernel_traps.proofs.LeftRecords.{IsContextBy, IsHandedOf, left_by, left_done, left_undone}
use Rattle.kernel_traps.proofs.Preparing.{prepared_unix}
use Rattle.kernel_traps.proofs.Stays.{contents_of, unix_beside}
use Rattle.kernel_traps.proofs.TrapKinds.{HasBegun, law, there_in, trap_begun, trap_ends}
use Rattle.kernel_traps.proofs.TrapUnix.{IsCarrier, by_rest, carrier, length-bytes, same_device, told_by_device}

-- Where only words and terminals are others, the plant stands at a panic for what its records do with the words beside its
-- area, and the same is handed over.
pub left_at : (b new : PlantState) (tty0 tty1 : Device) → IsCarrier b new → rest_of new ≡ record (rest_of b) { tty0 = tty0; tty1 = tty1 }
    → unix_left_at new ≡ left_by (told_by (handed_over b)) (records_held new) (contents_of new) (tapes_of new) b.steps b.traps
unfolding unix_left
left_at b new tty0 tty1 is rest =
    let handed : handed_over new ≡ handed_over b = ap (λ (s : PlantState). handed_over s) rest in
    (λ i. left_by (told_by (handed i)) (records_held new) (words_of new.memory) (tapes_of new) (is.steps i) (is.traps i))
    ∙ ap (with_left (told_by (handed_over b)) (records_held new))
    (sym (unix_beside new (tapes_of new) InKernel b.steps b.traps))

-- what is handed over of a trap that comes on a plant
pid_handed : (held : Option ℕ) → IfSome held (λ pid. (1 ≤ pid) × (pid ≤ 256)) → (if nat_le (or_zero held) 256 then or_zero held else 0) ≡ or_zero held
pid_handed (Some pid) range = let low = range.1 in grind (arith, nat_tests, low)
pid_handed None range = refl

some_pid : (held : Option ℕ) → IfSome held (λ pid. (1 ≤ pid) × (pid ≤ 256)) → IfSome held (λ pid. 1 ≤ pid)
some_pid (Some pid) range = range.0
some_pid None range = tt

is_handed : (s : PlantState) (t : Trap) → IfSome (pid_of t) (λ pid. (1 ≤ pid) × (pid ≤ 256)) → IsHandedOf t (told_by (handed_over (begun_by s t)))
is_handed s t range = record { came = refl; pid = pid_handed (pid_of t) range; some = some_pid (pid_of t) range }

-- the processor had the bank of the process in user mode
in_user : (s : PlantState) (pid : ℕ) (h : HandedOver) → IsInMode s (Some pid) → h.bank ≡ s.bank → IsContextBy (Some pid) h (context_of s)
in_user s pid h (inside, own) bank = (s.slice, rw inside (λ i. InUser (own i) s.slice (sym bank i)))

in_kernel : (s : PlantState) (h : HandedOver) → IsInMode s None → IsContextBy None h (context_of s)
in_kernel s h outside = rw outside refl

closing_bank : (s : PlantState) (pid : ℕ) → (1 ≤ pid) × (pid ≤ 256) → (handed_over (begun_by s (trap.Closing (Some pid)))).bank ≡ s.bank
closing_bank s pid range =
    let own : (if nat_le pid 256 then pid else 0) ≡ pid = pid_handed (Some pid) range in
    let some : (pid == 0) ≡ false = grind (arith, nat_tests, range) in
    rw own (rw some refl)

had_by : (s : PlantState) (t : Trap) → IfSome (pid_of t) (λ pid. (1 ≤ pid) × (pid ≤ 256)) → IsInMode s (user_before t)
    → IsContextBy (user_before t) (told_by (handed_over (begun_by s t))) (context_of s)
had_by s (trap.Entry pid) range mode = in_user s pid (told_by (handed_over (begun_by s (trap.Entry pid)))) mode refl
had_by s (trap.Piece pid) range mode = in_kernel s (told_by (handed_over (begun_by s (trap.Piece pid)))) mode
had_by s (trap.Fault pid cause) range mode = in_user s pid (told_by (handed_over (begun_by s (trap.Fault pid cause)))) mode refl
had_by s (trap.Slice pid) range mode = in_user s pid (told_by (handed_over (begun_by s (trap.Slice pid)))) mode refl
had_by s (trap.Signal pid signal) range mode = in_kernel s (told_by (handed_over (begun_by s (trap.Signal pid signal)))) mode
had_by s trap.Idle range mode = in_kernel s (told_by (handed_over (begun_by s trap.Idle))) mode
had_by s (trap.Closing (Some pid)) range mode = in_user s pid (told_by (handed_over (begun_by s (trap.Closing (Some pid))))) mode (closing_bank s pid range)
had_by s (trap.Closing None) range mode = in_kernel s (told_by (handed_over (begun_by s (trap.Closing None)))) mode

-- bytes are counted only in the record of a terminal that there is
pub counted_there : (bytes : List ℕ) (before after : Option TermRec) → AreCounted bytes before after → (terminal : TermRec) × (before ≡ Some terminal)
counted_there bytes (Some before) (Some after) are = (before, refl)
counted_there bytes (Some before) None are = absurd are
counted_there bytes None after are = absurd are

low_there : (s : PlantState) (tty : ℕ) (terminal : TermRec) → (records_held s).terms tty ≡ Some terminal → tty < 2
unfolding records_of records_in
low_there s tty terminal there = elim (cases_Bool (nat_lt tty 2)) [
  | inl low ↦ grind (arith, nat_tests, low)
  | inr high ↦ absurd (let none : None ≡ Some terminal = rw high at there in cc)
]

pub low_put : (b : PlantState) (tty : ℕ) (counted out : List ℕ) (new : Held PlantState) → IsPut (held_of b) tty counted out new → tty < 2
low_put b tty counted out new put =
    let (terminal, there) = counted_there counted ((records_held b).terms tty) (new.records.terms tty) put.drawn.counted in
    low_there b tty terminal there

-- there is room in the counts for the bytes of a piece
pub small_by : (b : PlantState) (steps slot tty from len : ℕ) → IsInTrap b steps → b.shape.budget ≤ 2000000 → tty < 2 → len ≤ 16
    → length (tapes_of b tty) + length (bytes_of b slot from len) < 2 ^ 32
small_by b steps slot tty from len trap most low few =
    let tape : length (tapes_of b tty) ≡ length (tty_of b tty).tape = ap (λ (t : List ℕ). length t) (same_device b tty low) in
    let bytes : length (bytes_of b slot from len) ≡ len = length-bytes (pages_in (records_held b) (words_of b.memory) slot) from len in
    omega (arith, tape, bytes, few, trap.terminals.bytes tty low, trap.counted, trap.budget, most)

pub told_on : (b : PlantState) (steps tty : ℕ) → IsInTrap b steps → tty < 2 → IfSome ((records_held b).terms tty) (λ terminal. terminal.written ≡ length (tapes_of b tty))
told_on b steps tty trap low = told_by_device b tty ((records_held b).terms tty) low (trap.terminals.records tty low)

-- what is done of the records once a plan is carried out
plan_done : (b new : PlantState) (slot steps : ℕ) (process : ProcRec) (plan : Planned) → IsInTrap b steps → b.shape.budget ≤ 2000000 → (records_held b).procs slot ≡ Some process
    → IsShort plan → IsCarriedOut b slot plan (held_of new) → IsDone (records_held b) (contents_of b) (tapes_of b) slot process plan (records_held new) (contents_of new) (tapes_of new)
plan_done b new slot steps process (PlanOnce items) trap most there short is =
    (ap (λ (h : Held PlantState). h.records) is, ap (λ (h : Held PlantState). h.contents) is, ap (λ (h : Held PlantState). tapes_of h.rest) is)
plan_done b new slot steps process (PlanWrite tty from len items) trap most there short is =
    write_done b new slot tty from len items process there short.0 (told_on b steps tty trap short.0) (small_by b steps slot tty from len trap most short.0 short.1) is
plan_done b new slot steps process (PlanGrow count items) trap most there short is = grow_done b new slot count items process there is
plan_done b new slot steps process (PlanFork child items) trap most there short is = fork_done b new slot child items process there is
plan_done b new slot steps process (PlanPut address status items) trap most there short is = put_done b new slot address status items process is

-- a trap that has begun on a plant, with its plan
module _ (s : PlantState) (t : Trap) (may : MayTrap s t) (due : IsDue s t) (slot : ℕ) where
  abbrev b : PlantState
  b = begun_by s t

  abbrev before : Unix
  before = unix_at s

  abbrev h : HandedOver
  h = told_by (handed_over b)

  range_by : (held : Option ℕ) → pid_of t ≡ held → IfSome held (λ pid. (1 ≤ pid) × (pid ≤ 256))
  range_by (Some pid) is = pid_had (records_held s) t pid due.slot may.sound.held.records.values is due.had
  range_by None is = tt

  handed : IsHandedOf t h
  handed = is_handed s t (range_by (pid_of t) refl)

  had : IsContextBy (user_before t) h (context_of s)
  had = had_by s t (range_by (pid_of t) refl) due.mode

  pub plan_begun : (plan : Planned) → IsPlanOf b t slot plan → HasBegun s b t slot plan
  plan_begun plan is = record { same = refl; may = may; is = is }

  pub in_trap : IsInTrap b s.steps
  in_trap = begins s t may

  pub below : (head : HeadRec) → (records_held b).head ≡ Some head → head.served < b.traps
  below head is_head = subst (λ (held : Option HeadRec). IfSome held (λ one. one.served < b.traps)) is_head in_trap.served

  -- nothing is done, by records with this head
  pub undone_with : (r : Records) (words : WordMap) (tapes : ℕ → List ℕ) (head : HeadRec) → r.head ≡ Some head → (records_held b).head ≡ Some head
      → left_by h r words tapes b.steps b.traps ≡ undone_of t (unix_of r words tapes (context_of s) s.steps s.traps)
  undone_with r words tapes head is_head was =
      let under = below head was in
      let undone : is_undone h (Some head) ≡ true = grind (arith, nat_tests, under) in
      (λ i. left_by h r words tapes (steps_begun s t may i) (traps_begun s t may i))
      ∙ left_undone r words tapes t (context_of s) h head s.steps s.traps is_head undone handed had

  pub nothing_left : (new : PlantState) (head : HeadRec) → (records_held b).head ≡ Some head → held_of new ≡ held_of b → unix_left_at new ≡ undone_of t before
  unfolding unix_at
  nothing_left new head is_head same =
      let rest : rest_of new ≡ rest_of b = ap (λ (h : Held PlantState). h.rest) same in
      left_at b new b.tty0 b.tty1 (by_rest b new b.tty0 b.tty1 rest) rest
      ∙ ((λ i. left_by h (same i).records (same i).contents (tapes_of (same i).rest) b.steps b.traps)
      ∙ (undone_with (records_held b) (contents_of b) (tapes_of b) head is_head is_head
      ∙ ap (undone_of t) (unix_beside s (tapes_of s) (context_of s) s.steps s.traps)))

  -- pages of a slot are prepared, which nothing counts
  pub prepared_left : (place : ℕ) (new : PlantState) (head : HeadRec) → (records_held b).head ≡ Some head → OnlyPrepares place (held_of b) (held_of new) → unix_left_at new ≡ undone_of t before
  unfolding unix_at
  prepared_left place new head is_head only =
      let now_head : (records_held new).head ≡ Some head = ap (λ (r : Records). r.head) only.records ∙ is_head in
      let tapes : tapes_of new ≡ tapes_of s = ap (λ (p : PlantState). tapes_of p) only.rest in
      left_at b new b.tty0 b.tty1 (by_rest b new b.tty0 b.tty1 only.rest) only.rest
      ∙ (undone_with (records_held new) (contents_of new) (tapes_of new) head now_head is_head
      ∙ ap (undone_of t) (ap (λ (ts : ℕ → List ℕ). unix_of (records_held new) (contents_of new) ts (context_of s) s.steps s.traps) tapes
      ∙ (prepared_unix place (held_of b) (held_of new) only in_trap.held.records (tapes_of s) (context_of s) s.steps s.traps
      ∙ unix_beside s (tapes_of s) (context_of s) s.steps s.traps)))

  pub short : (plan : Planned) → IsPlanOf b t slot plan → IsShort plan
  short plan is = subst IsShort (sym is.planned) (plan_short b t slot is.head is.process in_trap.held.records.values)

  pub there : (plan : Planned) (is : IsPlanOf b t slot plan) → (records_held s).procs slot ≡ Some is.process
  there plan is = there_in (records_held s) (pid_of t) slot is.process is.has.seat

  pub keeps : (plan : Planned) (new : PlantState) → IsPlanOf b t slot plan → IsCarriedOut b slot plan (held_of new) → IsKept b new
  keeps plan new is carried =
      let (steps, trap, step) = trap_begun s b t slot plan (plan_begun plan is) in
      kept b new steps slot plan trap may.most step (trap_ends s b t slot plan (plan_begun plan is)) (short plan is) carried

  -- the state that the plan makes
  pub made_by : (plan : Planned) (is : IsPlanOf b t slot plan) (done : Records) (words : WordMap) (tapes : ℕ → List ℕ)
      → IsDone (records_held s) (contents_of s) (tapes_of s) slot is.process plan done words tapes
      → unix_of done words tapes InKernel (s.steps + steps_in t) (s.traps + 1) ≡ after_trap before t
  made_by plan is done words tapes made =
      law s may.sound slot is.head is.process is.is_head t done words tapes due.mode is.has
      (subst (λ (plan : Planned). IsDone (records_held s) (contents_of s) (tapes_of s) slot is.process plan done words tapes) is.planned made)

  pub all_left : (plan : Planned) (new : PlantState) → IsPlanOf b t slot plan → IsCarriedOut b slot plan (held_of new) → unix_left_at new ≡ done_of t before
  unfolding unix_at unix_of
  all_left plan new is carried =
      let k = keeps plan new is carried in
      let made = made_by plan is (records_held new) (contents_of new) (tapes_of new) (plan_done b new slot s.steps is.process plan in_trap may.most (there plan is) (short plan is) carried) in
      let done : is_undone h (Some k.head) ≡ false = let served = k.served in grind (arith, nat_tests, served) in
      left_at b new k.tty0 k.tty1 (carrier b new slot plan carried) k.rest
      ∙ ((λ i. left_by h (records_held new) (contents_of new) (tapes_of new) (steps_begun s t may i) (traps_begun s t may i))
      ∙ left_done (records_held new) (contents_of new) (tapes_of new) t h k.head before k.is_head done handed made)
