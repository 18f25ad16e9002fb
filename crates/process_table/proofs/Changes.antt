-- Records in which one live process is changed: they are sound as before.
use Rattle.std.proofs.Common.{◌≡◌, ℕ, ◌<◌, true, nat_lt, Option, Some, IfSome, is_some, inl, inr, refl, sym, ap, subst, ◌∙◌, arith}
use Rattle.std.proofs.lemmas.Bool.Decides.{nat_tests}
use Rattle.ow_base.specs.Words.{updated}
use Rattle.record_layouts.specs.declared.places.RecordId.TheVariants as id
use Rattle.record_layouts.specs.declared.head.HeadRec.{HeadRec}
use Rattle.record_layouts.specs.declared.proc.ProcRec.{ProcRec}
use Rattle.record_layouts.specs.declared.sig.SigRec.{SigRec}
use Rattle.record_layouts.specs.Held.{AreComplete, AreValues, Records}
use Rattle.record_layouts.specs.Pages.{is_live}
use Rattle.record_layouts.specs.Head.{FitsHead}
use Rattle.record_layouts.specs.Proc.{FitsProc}
use Rattle.record_layouts.specs.Sig.{FitsSig}
use Rattle.record_layouts.specs.Decode.{slot_by, next_by}
use Rattle.record_layouts.specs.Sound.{IsIn, AreNumbered, AreSound}
use Rattle.process_table.proofs.Regions.{changed}
use Rattle.process_table.proofs.Kept.{set_here, set_other, same_or_not, IsKin, kin_itself, AllWere, calls_stay, mapped_stay}
use Rattle.process_table.proofs.Endings.{served}
use Rattle.process_table.proofs.EndedSound.{held_by_place, filled_by_place, served_fits, where_held}
use Rattle.process_table.proofs.Seats.{one_process}

-- signal records of which one may be another, of the same pid
pub record AreFor (r : Records) (slot pid : ℕ) (sigs : ℕ → Option SigRec) : Type 0 where
  pub here : (signals : SigRec) × (sigs slot ≡ Some signals) × (signals.pid ≡ pid)
  pub elsewhere : (k : ℕ) → (k ≡ slot → ⊥) → sigs k ≡ r.sigs k
  pub values : (k : ℕ) → IfSome (sigs k) FitsSig
  pub complete : (k : ℕ) → k < 16 → is_some (sigs k) ≡ true

-- the process of a slot is changed to another of its kin
pub record IsChange (r : Records) (head : HeadRec) (slot : ℕ) (process new : ProcRec) (sigs : ℕ → Option SigRec) : Type 0 where
  pub is_head : r.head ≡ Some head
  pub is : IsIn r slot process
  pub kin : IsKin process new
  pub fits : FitsProc new
  pub signals : AreFor r slot process.pid sigs

abbrev pub changed_records : Records → HeadRec → (slot : ℕ) → (process new : ProcRec) → (ℕ → Option SigRec) → (trap : ℕ) → Records
changed_records r head slot process new sigs trap = changed r (Some (served head trap process.pid)) (updated r.procs slot (Some new)) sigs r.exits

-- who is live now was so before
pub all_kin : (r : Records) (head : HeadRec) (slot : ℕ) (process new : ProcRec) (sigs : ℕ → Option SigRec) (trap : ℕ) → IsChange r head slot process new sigs
    → AllWere r (Some (served head trap process.pid)) (updated r.procs slot (Some new)) sigs r.exits
all_kin r head slot process new sigs trap change = record {
  was = λ place other now. elim (where_held r.procs slot place new other now.there) [
    | inl here ↦ record {
      old = process;
      is = subst (λ (k : ℕ). IsIn r k process) (sym here.0) change.is;
      kin = subst (λ (p : ProcRec). IsKin process p) (sym here.1) change.kin;
    }
    | inr before ↦ record { old = other; is = record { within = now.within; there = before.1; live = now.live }; kin = kin_itself other now.live }
  ];
}

-- a live process has not ended
live_state : (process : ProcRec) → is_live process ≡ true → process.state ≡ 3 → ⊥
live_state process live ended = absurd (grind (arith, nat_tests, live, ended))

ended_still : (r : Records) (head : HeadRec) (slot : ℕ) (process new : ProcRec) (sigs : ℕ → Option SigRec) (place : ℕ) (other : ProcRec) → IsChange r head slot process new sigs
    → updated r.procs slot (Some new) place ≡ Some other → other.state ≡ 3 → r.procs place ≡ Some other
ended_still r head slot process new sigs place other change there state = elim (where_held r.procs slot place new other there) [
  | inl here ↦ absurd (live_state new change.kin.regions.live (sym (ap (λ (p : ProcRec). p.state) here.1) ∙ state))
  | inr before ↦ before.1
]

pub here_now : (r : Records) (head : HeadRec) (slot : ℕ) (process new : ProcRec) (sigs : ℕ → Option SigRec) (trap : ℕ) → IsChange r head slot process new sigs
    → IsIn (changed_records r head slot process new sigs trap) slot new
here_now r head slot process new sigs trap change = record { within = change.is.within; there = set_here r.procs slot (Some new); live = change.kin.regions.live }

process_now : (r : Records) (head : HeadRec) (slot : ℕ) (process new : ProcRec) (sigs : ℕ → Option SigRec) (trap : ℕ) (pid s : ℕ) → AreNumbered r → IsChange r head slot process new sigs
    → slot_by (r.exits pid) ≡ Some s → (other : ProcRec) × (IsIn (changed_records r head slot process new sigs trap) s other) × (other.pid ≡ pid)
process_now r head slot process new sigs trap pid s numbered change exit =
    let found = numbered.process pid s exit in
    elim (same_or_not s slot) [
      | inl same ↦
          let there : r.procs slot ≡ Some found.0 = subst (λ (k : ℕ). r.procs k ≡ Some found.0) same found.1.there in
          let equal : process ≡ found.0 = one_process r slot process found.0 change.is.there there in
          let pid_is : new.pid ≡ pid = change.kin.pid ∙ (ap (λ (p : ProcRec). p.pid) equal ∙ found.2) in
          (new, subst (λ (k : ℕ). IsIn (changed_records r head slot process new sigs trap) k new) (sym same) (here_now r head slot process new sigs trap change), pid_is)
      | inr apart ↦ (found.0, record { within = found.1.within; there = set_other r.procs slot (Some new) s apart ∙ found.1.there; live = found.1.live }, found.2)
    ]

signals_now : (r : Records) (head : HeadRec) (slot : ℕ) (process new : ProcRec) (sigs : ℕ → Option SigRec) (trap : ℕ) (place : ℕ) (other : ProcRec) → AreNumbered r → IsChange r head slot process new sigs
    → IsIn (changed_records r head slot process new sigs trap) place other → (signals : SigRec) × (sigs place ≡ Some signals) × (signals.pid ≡ other.pid)
signals_now r head slot process new sigs trap place other numbered change now = elim (where_held r.procs slot place new other now.there) [
  | inl here ↦
      let own = change.signals.here in
      let pid : process.pid ≡ other.pid = sym change.kin.pid ∙ sym (ap (λ (p : ProcRec). p.pid) here.1) in
      (own.0, subst (λ (k : ℕ). sigs k ≡ Some own.0) (sym here.0) own.1, own.2 ∙ pid)
  | inr before ↦
      let held = numbered.signals place other (record { within = now.within; there = before.1; live = now.live }) in
      (held.0, change.signals.elsewhere place before.0 ∙ held.1, held.2)
]

pub change_numbered : (r : Records) (head : HeadRec) (slot : ℕ) (process new : ProcRec) (sigs : ℕ → Option SigRec) (trap : ℕ) → AreNumbered r → IsChange r head slot process new sigs
    → AreNumbered (changed_records r head slot process new sigs trap)
change_numbered r head slot process new sigs trap numbered change =
    let next : next_by r.head ≡ head.next = ap next_by change.is_head in
    let were = all_kin r head slot process new sigs trap change in
    record {
      used = λ pid from to. numbered.used pid from to ∙ ap (λ (n : ℕ). nat_lt pid n) next;
      one_slot = numbered.one_slot;
      exit = λ place other now.
          let was = were.was place other now in
          subst (λ (p : ℕ). slot_by (r.exits p) ≡ Some place) (sym was.kin.pid) (numbered.exit place was.old was.is);
      process = λ pid s exit. process_now r head slot process new sigs trap pid s numbered change exit;
      signals = λ place other now. signals_now r head slot process new sigs trap place other numbered change now;
      ended = λ place other there state. numbered.ended place other (ended_still r head slot process new sigs place other change there state) state;
      one_ended = λ place third other another there too state states same. numbered.one_ended place third other another
          (ended_still r head slot process new sigs place other change there state) (ended_still r head slot process new sigs third another change too states) state states same;
      parents = λ place other there. elim (where_held r.procs slot place new other there) [
        | inl here ↦
            let parent : other.parent ≡ process.parent = ap (λ (p : ProcRec). p.parent) here.1 ∙ change.kin.parent in
            omega (arith, parent, next, numbered.parents slot process change.is.there)
        | inr before ↦ omega (arith, next, numbered.parents place other before.1)
      ];
    }

change_values : (r : Records) (head : HeadRec) (slot : ℕ) (process new : ProcRec) (sigs : ℕ → Option SigRec) (trap : ℕ) → AreValues r → IsChange r head slot process new sigs
    → AreValues (changed_records r head slot process new sigs trap)
change_values r head slot process new sigs trap values change id.Head =
    served_fits head trap process.pid (subst (λ (h : Option HeadRec). IfSome h FitsHead) change.is_head (values id.Head))
change_values r head slot process new sigs trap values change (id.Proc k) =
    held_by_place (λ (p : Option ProcRec). IfSome p FitsProc) r.procs slot (Some new) change.fits (λ other. values (id.Proc other)) k
change_values r head slot process new sigs trap values change (id.Sig k) = change.signals.values k
change_values r head slot process new sigs trap values change one = values one

change_complete : (r : Records) (head : HeadRec) (slot : ℕ) (process new : ProcRec) (sigs : ℕ → Option SigRec) (trap : ℕ) → AreComplete r → IsChange r head slot process new sigs
    → AreComplete (changed_records r head slot process new sigs trap)
change_complete r head slot process new sigs trap complete change id.Head there = refl
change_complete r head slot process new sigs trap complete change (id.Proc k) there = filled_by_place r.procs slot new k (complete (id.Proc k) there)
change_complete r head slot process new sigs trap complete change (id.Sig k) there = change.signals.complete k there
change_complete r head slot process new sigs trap complete change one there = complete one there

pub change_sound : (r : Records) (head : HeadRec) (slot : ℕ) (process new : ProcRec) (sigs : ℕ → Option SigRec) (trap : ℕ) → AreSound r → IsChange r head slot process new sigs
    → AreSound (changed_records r head slot process new sigs trap)
change_sound r head slot process new sigs trap sound change =
    let were = all_kin r head slot process new sigs trap change in
    let procs = updated r.procs slot (Some new) in
    record {
      complete = change_complete r head slot process new sigs trap sound.complete change;
      values = change_values r head slot process new sigs trap sound.values change;
      numbered = change_numbered r head slot process new sigs trap sound.numbered change;
      in_calls = calls_stay r (Some (served head trap process.pid)) procs sigs r.exits were sound.in_calls;
      mapped = mapped_stay r (Some (served head trap process.pid)) procs sigs r.exits were sound.mapped;
    }
