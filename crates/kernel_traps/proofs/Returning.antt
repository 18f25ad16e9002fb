-- Control goes to a process.
use Rattle.std.proofs.Common.{◌≡◌, ◌==◌, ℕ, ◌+◌, ◌*◌, ◌^◌, ◌≤◌, false, Option, Some, inl, inr, refl, ap, sym, subst, ◌∙◌, arith}
use Rattle.std.proofs.lemmas.Bool.{cases_Bool}
use Rattle.std.proofs.lemmas.Bool.Decides.{nat_tests}
use Rattle.ow_base.specs.Sv32.{WordMap}
use Rattle.record_layouts.specs.declared.proc.ProcRec.{ProcRec}
use Rattle.record_layouts.specs.Decode.{Context, InKernel, InUser, process_at, process_of, processes_of, unix_of, with_bank}
use Rattle.record_layouts.specs.Held.{Records}
use Rattle.record_layouts.specs.Pages.{table_frame}
use Rattle.record_layouts.specs.Sound.{AreSound, IsIn}
use Rattle.record_layouts.specs.Unix.State.{AtUser, Process, Unix}
use Rattle.process_table.specs.Patches.{bank_of}
use Rattle.process_table.proofs.Seats.{found_in, one_process}
use Rattle.phys_memory.specs.Memory.{words_of}
use Rattle.ow_plant.specs.State.{PlantState, returned_to}
use Rattle.ow_plant.proofs.Armed.{IsArmed-returned_to}
use Rattle.intent_store.specs.Live.{records_held}
use Rattle.ow_plant.specs.Images.{tapes_of}
use Rattle.kernel_traps.specs.Plants.{IsSound, context_of, unix_at}
use Rattle.kernel_traps.specs.User.{IsOutside, IsReturned, at_process}
use Rattle.intent_store.specs.OfMemory.{of_memory}
use Rattle.kernel_traps.proofs.UnixBy.{unix_by, unix_is}

-- the plant with the process in a slot loaded
abbrev pub returned : PlantState → (slot : ℕ) → ProcRec → PlantState
returned s slot process = returned_to s process.pid (bank_of process) ((records_held s).map.area_base + table_frame slot 0)

pub returned_sound : (s : PlantState) (slot : ℕ) (process : ProcRec) → IsSound s → IsOutside s slot process → IsSound (returned s slot process)
returned_sound s slot process sound is = record {
  held = record {
    armed = IsArmed-returned_to s process.pid (bank_of process) ((records_held s).map.area_base + table_frame slot 0) sound.held.armed;
    able = sound.held.able;
    shut = sound.held.shut;
    records = sound.held.records;
    on_terminals = sound.held.on_terminals;
    in_built_calls = sound.held.in_built_calls;
  };
  no_trap_runs = sound.no_trap_runs;
  served = sound.served;
  terminals = record { records = sound.terminals.records; bytes = sound.terminals.bytes };
  budget = sound.budget;
  in_user = λ runs. (slot, process, record { there = is.there; pid = refl; outside = is.outside; root = refl });
}

-- a record's own bank changes nothing
unchanged : (r : Records) (words : WordMap) (slot : ℕ) (process : ProcRec)
    → with_bank (bank_of process) (Some (process_of r words slot process)) ≡ Some (process_of r words slot process)
unfolding process_of
unchanged r words slot process = refl

-- the bank of a process that is in the kernel is that of its record
own_bank : (r : Records) (words : WordMap) (slot : ℕ) (process : ProcRec) → AreSound r → IsIn r slot process
    → with_bank (bank_of process) (process_at r words process.pid) ≡ process_at r words process.pid
own_bank r words slot process sound is =
    let found = found_in r words slot process sound is in
    ap (with_bank (bank_of process)) found ∙ (unchanged r words slot process ∙ sym found)

-- each process is what it is with the processor in the kernel
processes_stay : (r : Records) (words : WordMap) (slot : ℕ) (process : ProcRec) (q : ℕ) → AreSound r → IsIn r slot process
    → processes_of r words (InUser process.pid 0 (bank_of process)) q ≡ processes_of r words InKernel q
unfolding processes_of
processes_stay r words slot process q sound is = elim (cases_Bool (q == process.pid)) [
  | inl same ↦ let equal : q ≡ process.pid = grind (arith, nat_tests) in rw same (rw equal (own_bank r words slot process sound is))
  | inr other ↦ rw other refl
]

pub returned_unix : (s : PlantState) (slot : ℕ) (process : ProcRec) → IsSound s → IsOutside s slot process → s.in_user ≡ false
    → unix_at (returned s slot process) ≡ at_process (unix_at s) process.pid
unfolding unix_at
returned_unix s slot process sound is in_kernel =
    let r = records_held s in
    let words = words_of s.memory in
    let user = InUser process.pid 0 (bank_of process) in
    let processes : processes_of r words user ≡ processes_of r words InKernel =
    λ i q. processes_stay r words slot process q sound.held.records is.there i in
    let before : context_of s ≡ InKernel = rw in_kernel refl in
    unix_is r words (tapes_of s) user s.steps s.traps
    ∙ ap (λ (ps : ℕ → Option Process). unix_by r (tapes_of s) ps process.pid s.steps s.traps (AtUser process.pid 0)) processes
    ∙ sym (ap (λ (c : Context). at_process (unix_of r words (tapes_of s) c s.steps s.traps) process.pid) before
    ∙ ap (λ (u : Unix). at_process u process.pid) (unix_is r words (tapes_of s) InKernel s.steps s.traps))

-- the frames of the area have numbers of 22 bits
pub area_small : (s : PlantState) (base : ℕ) → IsSound s → base ≡ (records_held s).map.area_base → base + 64 ≤ 2 ^ 22
area_small s base sound is =
    let memory = of_memory s sound.held.armed in
    omega (arith, is, memory.apart, memory.fits)

-- the plant is the one with the process loaded, by what the kernel reads
module _ (s new : PlantState) (slot base : ℕ) (process found : ProcRec) (sound : IsSound s) (is : IsOutside s slot process)
    (reads : (records_held s).procs slot ≡ Some found) (at : base ≡ (records_held s).map.area_base)
    (loads : new ≡ returned_to s found.pid (bank_of found) (base + 16 + 3 * slot)) where
  is_loaded : new ≡ returned s slot process
  is_loaded =
      let same : found ≡ process = one_process (records_held s) slot found process reads is.there.there in
      let root : base + 16 + 3 * slot ≡ (records_held s).map.area_base + table_frame slot 0 = omega (arith, at) in
      loads ∙ ap (λ (p : ProcRec). returned_to s p.pid (bank_of p) (base + 16 + 3 * slot)) same
      ∙ ap (λ (n : ℕ). returned_to s process.pid (bank_of process) n) root

  pub goes_to : s.in_user ≡ false → IsReturned s slot new
  goes_to in_kernel = record {
    process = process;
    there = is.there;
    loaded = is_loaded;
    unix = ap unix_at is_loaded ∙ returned_unix s slot process sound is in_kernel;
  }

  pub goes_soundly : IsSound new
  goes_soundly = subst IsSound (sym is_loaded) (returned_sound s slot process sound is)
