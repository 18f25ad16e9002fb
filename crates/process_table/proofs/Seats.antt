-- Which pid is in which slot, and how a live process decodes.
use Rattle.std.proofs.Common.{◌≡◌, ◌⊎◌, ◌==◌, ℕ, ◌≤◌, true, false, Option, Some, None, IfSome, is_some, inl, inr, refl, ap, subst, arith}
use Rattle.std.proofs.lemmas.Bool.{cases_Bool}
use Rattle.std.proofs.lemmas.Bool.Decides.{nat_tests}
use Rattle.ow_base.specs.Sv32.{WordMap}
use Rattle.record_layouts.specs.declared.places.RecordId.TheVariants as id
use Rattle.record_layouts.specs.declared.proc.ProcRec.{ProcRec}
use Rattle.record_layouts.specs.Held.{Records, AreValues}
use Rattle.record_layouts.specs.Pages.{is_live, is_mapped}
use Rattle.record_layouts.specs.Proc.{FitsProc}
use Rattle.record_layouts.specs.Decode.{slot_by, is_number, pid_in, decodes, process_of, process_at}
use Rattle.record_layouts.specs.Sound.{IsIn, AreNumbered, AreSound}
use Rattle.process_table.specs.Least.{IsLeast, NonePasses}
use Rattle.process_table.proofs.Least.{least_found}
use Rattle.process_table.proofs.Ended.{live_fits}

-- a live process has a pid from 1 to 256
pub pid_range : (r : Records) (slot : ℕ) (process : ProcRec) → AreValues r → IsIn r slot process → (1 ≤ process.pid) × (process.pid ≤ 256)
pid_range r slot process values is =
    let fits : FitsProc process = subst (λ (held : Option ProcRec). IfSome held FitsProc) is.there (values (id.Proc slot)) in
    (live_fits process fits is.live).pid

is_this : (slot other : ℕ) (held : Option ℕ) → held ≡ Some other → is_number held slot ≡ (other == slot)
is_this slot other held same = rw same refl

-- a number that is another is not this one
pub other_number : (held : Option ℕ) (slot : ℕ) → (held ≡ Some slot → ⊥) → is_number held slot ≡ false
other_number (Some n) slot not_this = elim (cases_Bool (n == slot)) [
  | inl same ↦ let equal : n ≡ slot = grind (arith, nat_tests) in absurd (not_this (ap Some equal))
  | inr other ↦ other
]
other_number None slot not_this = refl

pub this_number : (n : ℕ) → is_number (Some n) n ≡ true
this_number n = grind (arith, nat_tests)

-- the pid that is live in a slot
pub pid_here : (r : Records) (slot : ℕ) (process : ProcRec) → AreValues r → AreNumbered r → IsIn r slot process → pid_in r slot ≡ Some process.pid
unfolding pid_in
pid_here r slot process values numbered is =
    let range = pid_range r slot process values is in
    let exit : slot_by (r.exits process.pid) ≡ Some slot = numbered.exit slot process is in
    let test = λ (pid : ℕ). is_number (slot_by (r.exits pid)) slot in
    let passes : test process.pid ≡ true = rw exit (this_number slot) in
    let below : NonePasses test 1 process.pid = record {
      none = λ k from less. other_number (slot_by (r.exits k)) slot (λ same.
          let equal : k ≡ process.pid = numbered.one_slot k process.pid slot same exit in omega (arith, equal, less));
    } in
    let least : IsLeast test 1 257 process.pid = record { from = range.0; to = omega (arith, range.1); passes = passes; below = below } in
    least_found test 1 256 257 process.pid refl least

-- what says that a live process decodes
decodes_here : (r : Records) (slot : ℕ) (process : ProcRec) → is_some r.head ≡ true → is_live process ≡ true → is_mapped r slot process ≡ true
    → decodes r slot process.pid process ≡ true
decodes_here r slot process head live mapped = rw (head, live, mapped) (grind (arith, nat_tests))

-- a live process decodes
pub found_in : (r : Records) (words : WordMap) (slot : ℕ) (process : ProcRec) → AreSound r → IsIn r slot process
    → process_at r words process.pid ≡ Some (process_of r words slot process)
unfolding process_at
found_in r words slot process sound is =
    let here : pid_in r slot ≡ Some process.pid = pid_here r slot process sound.values sound.numbered is in
    let exit : slot_by (r.exits process.pid) ≡ Some slot = sound.numbered.exit slot process is in
    let decoded : decodes r slot process.pid process ≡ true =
    decodes_here r slot process (sound.complete id.Head tt) is.live (sound.mapped.mapped slot process is) in
    let there : r.procs slot ≡ Some process = is.there in
    rw exit (rw here (rw (this_number process.pid) (rw there (rw decoded refl))))

-- a pid that is not live decodes to nothing
pub not_found : (r : Records) (words : WordMap) (pid : ℕ) → slot_by (r.exits pid) ≡ None → process_at r words pid ≡ None
unfolding process_at
not_found r words pid none = rw none refl

-- the live process with a pid
pub record Living (r : Records) (words : WordMap) (pid : ℕ) : Type 0 where
  pub slot : ℕ
  pub process : ProcRec
  pub is : IsIn r slot process
  pub exit : slot_by (r.exits pid) ≡ Some slot
  pub same : process.pid ≡ pid
  pub decoded : process_at r words pid ≡ Some (process_of r words slot process)

-- no process has the pid
pub record Missing (r : Records) (words : WordMap) (pid : ℕ) : Type 0 where
  pub exit : slot_by (r.exits pid) ≡ None
  pub decoded : process_at r words pid ≡ None

living_by : (r : Records) (words : WordMap) (pid : ℕ) (held : Option ℕ) → AreSound r → slot_by (r.exits pid) ≡ held → Missing r words pid ⊎ Living r words pid
living_by r words pid None sound exit = inl (record { exit = exit; decoded = not_found r words pid exit })
living_by r words pid (Some slot) sound exit =
    let found = sound.numbered.process pid slot exit in
    let decoded : process_at r words pid ≡ Some (process_of r words slot found.0) =
    subst (λ (p : ℕ). process_at r words p ≡ Some (process_of r words slot found.0)) found.2 (found_in r words slot found.0 sound found.1) in
    inr (record { slot = slot; process = found.0; is = found.1; exit = exit; same = found.2; decoded = decoded })

-- each pid is that of a live process or of none
pub living : (r : Records) (words : WordMap) (pid : ℕ) → AreSound r → Missing r words pid ⊎ Living r words pid
living r words pid sound = living_by r words pid (slot_by (r.exits pid)) sound refl

-- two processes in one slot are one
pub one_process : (r : Records) (slot : ℕ) (process other : ProcRec) → r.procs slot ≡ Some process → r.procs slot ≡ Some other → process ≡ other
one_process r slot process other there too = cc
