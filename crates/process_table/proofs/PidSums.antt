-- What is summed over the pids of live processes is what their slots sum to.
use Rattle.std.proofs.Common.{◌≡◌, ◌⊎◌, ◌==◌, ℕ, ◌<◌, false, if◌then◌else◌, Option, Some, None, is_some, inl, inr, refl, sym, ap, ◌∙◌, arith}
use Rattle.std.proofs.lemmas.Bool.{cases_Bool}
use Rattle.ow_base.specs.Sv32.{WordMap}
use Rattle.ow_base.specs.declared.machine.Bank.{Bank}
use Rattle.record_layouts.specs.declared.proc.ProcRec.{ProcRec}
use Rattle.record_layouts.specs.Unix.State.{Process, sum_from}
use Rattle.record_layouts.specs.Decode.{Context, InKernel, InUser, is_number, process_at, processes_of, slot_by, with_bank}
use Rattle.record_layouts.specs.Held.{Records}
use Rattle.record_layouts.specs.Pages.{is_live, live_one}
use Rattle.record_layouts.specs.Sound.{AreSound, IsIn}
use Rattle.record_layouts.proofs.Sums.{rows_as_columns, sum_none, sum_one}
use Rattle.process_table.proofs.Seats.{living, other_number, pid_range, this_number}

-- a process is live, in the kernel and in user mode alike
banked_lives : (bank : Bank) (held : Option Process) → is_some (with_bank bank held) ≡ is_some held
banked_lives bank (Some process) = refl
banked_lives bank None = refl

pub lives_alike : (r : Records) (words : WordMap) (context : Context) (pid : ℕ) → is_some (processes_of r words context pid) ≡ is_some (process_at r words pid)
unfolding processes_of
lives_alike r words InKernel pid = refl
lives_alike r words (InUser user count bank) pid = elim (cases_Bool (pid == user)) [
  | inl same ↦ rw same (banked_lives bank (process_at r words pid))
  | inr other ↦ rw other refl
]

none_lives : (held : Option Process) → is_some held ≡ false → held ≡ None
none_lives (Some process) none = cc none
none_lives None none = refl

pub none_of : (r : Records) (words : WordMap) (context : Context) (pid : ℕ) → process_at r words pid ≡ None → processes_of r words context pid ≡ None
none_of r words context pid none = none_lives (processes_of r words context pid) (lives_alike r words context pid ∙ ap is_some none)

-- a slot holds a live process or none
seat_by : (r : Records) (slot : ℕ) (held : Option ProcRec) → slot < 16 → r.procs slot ≡ held
    → (live_one (r.procs slot) ≡ None) ⊎ ((process : ProcRec) × (IsIn r slot process))
seat_by r slot (Some process) within there = elim (cases_Bool (is_live process)) [
  | inl live ↦ inr (process, record { within = within; there = there; live = live })
  | inr dead ↦ inl (ap live_one there ∙ rw dead refl)
]
seat_by r slot None within there = inl (ap live_one there)

live_seat : (r : Records) (slot : ℕ) (process : ProcRec) → IsIn r slot process → live_one (r.procs slot) ≡ Some process
live_seat r slot process is = let live = is.live in ap live_one is.there ∙ rw live refl

one_number : (a b : ℕ) → Some a ≡ Some b → a ≡ b
one_number a b both = cc both

module _ (r : Records) (words : WordMap) (context : Context) (weight : Option Process → ℕ) where
  -- a pid counts in the slot in which it is live
  abbrev weight_of : (pid : ℕ) → ℕ
  weight_of pid = weight (processes_of r words context pid)

  abbrev cell : (pid slot : ℕ) → ℕ
  cell pid slot = if is_number (slot_by (r.exits pid)) slot then weight_of pid else 0

  full_cell : (pid slot : ℕ) → slot_by (r.exits pid) ≡ Some slot → cell pid slot ≡ weight_of pid
  full_cell pid slot exit = rw exit (rw (this_number slot) refl)

  no_cell : (pid slot : ℕ) → (slot_by (r.exits pid) ≡ Some slot → ⊥) → cell pid slot ≡ 0
  no_cell pid slot elsewhere = rw (other_number (slot_by (r.exits pid)) slot elsewhere) refl

  module _ (sound : AreSound r) (nothing : weight None ≡ 0) where
    row : (pid : ℕ) → sum_from (cell pid) 0 16 ≡ weight_of pid
    row pid = elim (living r words pid sound) [
      | inl missing ↦
          sum_none (cell pid) 0 16 16 refl (λ slot from to. no_cell pid slot (λ exit. cc (sym missing.exit ∙ exit)))
          ∙ sym (ap weight (none_of r words context pid missing.decoded) ∙ nothing)
      | inr live ↦
          sum_one (cell pid) live.slot (weight_of pid) 0 16 16 refl (omega arith) live.is.within (full_cell pid live.slot live.exit)
          (λ slot from to apart. no_cell pid slot (λ exit. apart (one_number slot live.slot (sym exit ∙ live.exit))))
    ]

    module _ (value : (slot : ℕ) → ℕ) (lives : (slot : ℕ) (process : ProcRec) → IsIn r slot process → weight_of process.pid ≡ value slot)
        (none : (slot : ℕ) → slot < 16 → live_one (r.procs slot) ≡ None → value slot ≡ 0) where
      column : (slot : ℕ) → slot < 16 → sum_from (λ pid. cell pid slot) 1 256 ≡ value slot
      column slot within = elim (seat_by r slot (r.procs slot) within refl) [
        | inl empty ↦
            sum_none (λ pid. cell pid slot) 1 256 257 refl
            (λ pid from to. no_cell pid slot (λ exit.
            let found = sound.numbered.process pid slot exit in
            cc (sym empty ∙ live_seat r slot found.0 found.1)))
            ∙ sym (none slot within empty)
        | inr seated ↦
            let range = pid_range r slot seated.0 sound.values seated.1 in
            let exit = sound.numbered.exit slot seated.0 seated.1 in
            sum_one (λ pid. cell pid slot) seated.0.pid (value slot) 1 256 257 refl range.0 (omega (arith, range.1))
            (full_cell seated.0.pid slot exit ∙ lives slot seated.0 seated.1)
            (λ pid from to apart. no_cell pid slot (λ other. apart (sound.numbered.one_slot pid seated.0.pid slot other exit)))
      ]

      pub over_slots : sum_from weight_of 1 256 ≡ sum_from value 0 16
      over_slots = rows_as_columns cell weight_of value 1 256 0 16 (λ pid from to. row pid) (λ slot from to. column slot to)
