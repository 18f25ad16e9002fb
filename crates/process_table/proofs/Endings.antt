-- Records in which a process has ended: they are sound as before.
use Rattle.std.proofs.Common.{◌≡◌, ℕ, true, Option, Some, None, inl, inr, refl, sym, subst, ◌∙◌, arith}
use Rattle.std.proofs.lemmas.Bool.Decides.{nat_tests}
use Rattle.ow_base.specs.Words.{updated}
use Rattle.record_layouts.specs.declared.head.HeadRec.{HeadRec}
use Rattle.record_layouts.specs.declared.proc.ProcRec.{ProcRec}
use Rattle.record_layouts.specs.declared.exit.ExitRec.{ExitRec}
use Rattle.record_layouts.specs.Held.{Records, with_items}
use Rattle.record_layouts.specs.Pages.{is_live}
use Rattle.record_layouts.specs.Decode.{slot_by}
use Rattle.record_layouts.specs.Sound.{IsIn, AreNumbered, is_used}
use Rattle.process_table.specs.Patches.{ended_items, ended_process, ended_exit}
use Rattle.process_table.proofs.Regions.{changed}
use Rattle.process_table.proofs.Kept.{set_here, set_other, same_or_not, AllWere, kin_itself}

-- the head once a trap is done
abbrev pub served : HeadRec → (trap pid : ℕ) → HeadRec
served head trap pid = record head { served = trap; last = pid }

-- the records once the process has ended
abbrev pub ended_records : Records → HeadRec → (slot : ℕ) → ProcRec → (status trap : ℕ) → Records
ended_records r head slot process status trap =
    changed r (Some (served head trap process.pid)) (updated r.procs slot (Some (ended_process process status))) r.sigs (updated r.exits process.pid (Some (ended_exit status)))

pub ended_are : (r : Records) (head : HeadRec) (slot : ℕ) (process : ProcRec) (status trap : ℕ)
    → with_items r (ended_items head slot process status trap) ≡ ended_records r head slot process status trap
unfolding ended_items
ended_are r head slot process status trap = refl

-- a live process of another slot, which was there before
pub record IsOther (r : Records) (slot : ℕ) (process : ProcRec) (place : ℕ) (other : ProcRec) : Type 0 where
  pub apart : place ≡ slot → ⊥
  pub is : IsIn r place other
  pub pid : other.pid ≡ process.pid → ⊥

other_there : (r : Records) (slot : ℕ) (process : ProcRec) (place : ℕ) (other : ProcRec) → AreNumbered r → IsIn r slot process
    → (place ≡ slot → ⊥) → IsIn r place other → IsOther r slot process place other
other_there r slot process place other numbered is apart there = record {
  apart = apart;
  is = there;
  pid = λ same.
      let exit : slot_by (r.exits process.pid) ≡ Some slot = numbered.exit slot process is in
      let too : slot_by (r.exits other.pid) ≡ Some place = numbered.exit place other there in
      let moved : slot_by (r.exits process.pid) ≡ Some place = subst (λ (p : ℕ). slot_by (r.exits p) ≡ Some place) same too in
      let places : place ≡ slot = cc in
      apart places;
}

-- who is live now was so before, and is another
pub others : (r : Records) (head : HeadRec) (slot : ℕ) (process : ProcRec) (status trap : ℕ) (place : ℕ) (other : ProcRec)
    → AreNumbered r → IsIn r slot process → IsIn (ended_records r head slot process status trap) place other → IsOther r slot process place other
others r head slot process status trap place other numbered is now = elim (same_or_not place slot) [
  | inl same ↦
      let held : updated r.procs slot (Some (ended_process process status)) place ≡ Some other = now.there in
      let ended : Some (ended_process process status) ≡ Some other =
      sym (set_here r.procs slot (Some (ended_process process status))) ∙ subst (λ (k : ℕ). updated r.procs slot (Some (ended_process process status)) k ≡ Some other) same held in
      let equal : ended_process process status ≡ other = cc in
      let live : is_live (ended_process process status) ≡ true = rw (← equal) at now.live in
      absurd (grind (arith, live))
  | inr apart ↦
      let there : r.procs place ≡ Some other = sym (set_other r.procs slot (Some (ended_process process status)) place apart) ∙ now.there in
      let before : IsIn r place other = record { within = now.within; there = there; live = now.live } in
      other_there r slot process place other numbered is apart before
]

pub all_were : (r : Records) (head : HeadRec) (slot : ℕ) (process : ProcRec) (status trap : ℕ) → AreNumbered r → IsIn r slot process
    → AllWere r (Some (served head trap process.pid)) (updated r.procs slot (Some (ended_process process status))) r.sigs (updated r.exits process.pid (Some (ended_exit status)))
all_were r head slot process status trap numbered is = record {
  was = λ place other now.
      let before : IsOther r slot process place other = others r head slot process status trap place other numbered is now in
      record { old = other; is = before.is; kin = kin_itself other now.live };
}

-- the exit record of a pid that is live tells of a process
pub used_by : (exit : Option ExitRec) (slot : ℕ) → slot_by exit ≡ Some slot → is_used exit ≡ true
used_by (Some exit) slot live = grind (arith, nat_tests)
used_by None slot live = cc

-- who has a slot now had it before, and is another
pub slot_before : (r : Records) (pid : ℕ) (status : ℕ) (q s : ℕ) → slot_by (updated r.exits pid (Some (ended_exit status)) q) ≡ Some s
    → (q ≡ pid → ⊥) × (slot_by (r.exits q) ≡ Some s)
slot_before r pid status q s now = elim (same_or_not q pid) [
  | inl same ↦
      let here : updated r.exits pid (Some (ended_exit status)) q ≡ Some (ended_exit status) =
      subst (λ (k : ℕ). updated r.exits pid (Some (ended_exit status)) k ≡ Some (ended_exit status)) (sym same) (set_here r.exits pid (Some (ended_exit status))) in
      let none : slot_by (Some (ended_exit status)) ≡ Some s = subst (λ (e : Option ExitRec). slot_by e ≡ Some s) here now in
      absurd (cc none)
  | inr apart ↦ (apart, subst (λ (e : Option ExitRec). slot_by e ≡ Some s) (set_other r.exits pid (Some (ended_exit status)) q apart) now)
]

pub slot_still : (r : Records) (pid : ℕ) (status : ℕ) (q s : ℕ) → (q ≡ pid → ⊥) → slot_by (r.exits q) ≡ Some s
    → slot_by (updated r.exits pid (Some (ended_exit status)) q) ≡ Some s
slot_still r pid status q s apart before =
    subst (λ (e : Option ExitRec). slot_by e ≡ Some s) (sym (set_other r.exits pid (Some (ended_exit status)) q apart)) before
