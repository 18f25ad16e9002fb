-- Records in which a process has ended are sound.
use Rattle.std.proofs.Common.{◌≡◌, ◌⊎◌, ◌==◌, ℕ, ◌≤◌, true, nat_lt, Option, Some, IfSome, is_some, inl, inr, refl, sym, ap, subst, ◌∙◌, arith}
use Rattle.std.proofs.lemmas.Bool.{cases_Bool}
use Rattle.std.proofs.lemmas.Bool.Decides.{nat_tests}
use Rattle.ow_base.specs.Words.{updated}
use Rattle.record_layouts.specs.declared.places.RecordId.TheVariants as id
use Rattle.record_layouts.specs.declared.patch.AnyRec.TheVariants as any
use Rattle.record_layouts.proofs.At.{complete_with, values_with}
use Rattle.record_layouts.specs.declared.head.HeadRec.{HeadRec}
use Rattle.record_layouts.specs.declared.proc.ProcRec.{ProcRec}
use Rattle.record_layouts.specs.declared.exit.ExitRec.{ExitRec}
use Rattle.record_layouts.specs.Held.{Records, AreComplete, AreValues, with_record}
use Rattle.record_layouts.specs.Head.{FitsHead}
use Rattle.record_layouts.specs.Proc.{FitsProc}
use Rattle.record_layouts.specs.Spelling.{IsStatus}
use Rattle.record_layouts.specs.Decode.{slot_by, next_by}
use Rattle.record_layouts.specs.Sound.{IsIn, AreNumbered, AreSound, is_used}
use Rattle.process_table.specs.Patches.{ended_process, ended_exit}
use Rattle.process_table.proofs.Ended.{ended_fits}
use Rattle.process_table.proofs.Kept.{set_here, set_other, same_or_not, calls_stay, mapped_stay}
use Rattle.process_table.proofs.Endings.{served, ended_records, IsOther, others, all_were, used_by, slot_before, slot_still}

-- a place of a changed function holds what it is given, or what it held
pub held_by_place : {V : Type 0} (P : V → Type 0) (f : ℕ → V) (place : ℕ) (value : V) → P value → ((k : ℕ) → P (f k)) → (k : ℕ) → P (updated f place value k)
held_by_place P f place value new old k = elim (same_or_not k place) [
  | inl same ↦ subst P (sym (subst (λ (j : ℕ). updated f place value j ≡ value) (sym same) (set_here f place value))) new
  | inr apart ↦ subst P (sym (set_other f place value k apart)) (old k)
]

pub served_fits : (head : HeadRec) (trap pid : ℕ) → FitsHead head → FitsHead (served head trap pid)
served_fits head trap pid fits = record { layout = fits.layout; next_from = fits.next_from; next_to = fits.next_to; hand = fits.hand }

pub ended_values : (r : Records) (head : HeadRec) (slot : ℕ) (process : ProcRec) (status trap : ℕ) → AreValues r → r.head ≡ Some head → IsIn r slot process → IsStatus status
    → AreValues (ended_records r head slot process status trap)
ended_values r head slot process status trap values is_head is word =
    let fits : FitsProc process = subst (λ (p : Option ProcRec). IfSome p FitsProc) is.there (values (id.Proc slot)) in
    let head_fits : FitsHead head = subst (λ (h : Option HeadRec). IfSome h FitsHead) is_head (values id.Head) in
    let after_head = with_record r id.Head (any.Head (served head trap process.pid)) in
    let after_process = with_record after_head (id.Proc slot) (any.Proc (ended_process process status)) in
    values_with after_process (id.Exit process.pid) (any.Exit (ended_exit status))
    (values_with after_head (id.Proc slot) (any.Proc (ended_process process status))
    (values_with r id.Head (any.Head (served head trap process.pid)) values tt (served_fits head trap process.pid head_fits))
    tt (ended_fits process status fits is.live word))
    tt (inr (inr (record { state = refl; status = word })))

-- a place of a changed function is filled
pub filled_by_place : {V : Type 0} (f : ℕ → Option V) (place : ℕ) (value : V) (k : ℕ) → is_some (f k) ≡ true → is_some (updated f place (Some value) k) ≡ true
filled_by_place f place value k old = elim (cases_Bool (k == place)) [ inl same ↦ rw same refl | inr other ↦ rw other old ]

pub ended_complete : (r : Records) (head : HeadRec) (slot : ℕ) (process : ProcRec) (status trap : ℕ) → AreComplete r → AreComplete (ended_records r head slot process status trap)
ended_complete r head slot process status trap complete =
    let after_head = with_record r id.Head (any.Head (served head trap process.pid)) in
    let after_process = with_record after_head (id.Proc slot) (any.Proc (ended_process process status)) in
    complete_with after_process (id.Exit process.pid) (any.Exit (ended_exit status))
    (complete_with after_head (id.Proc slot) (any.Proc (ended_process process status))
    (complete_with r id.Head (any.Head (served head trap process.pid)) complete tt) tt) tt

-- an exit record of one that has ended is that of no live process
ended_apart : (exit : Option ExitRec) (slot : ℕ) (ended : ExitRec) → slot_by exit ≡ Some slot → exit ≡ Some ended → ended.state ≡ 2 → ⊥
ended_apart exit slot ended live same state =
    let held : slot_by (Some ended) ≡ Some slot = subst (λ (e : Option ExitRec). slot_by e ≡ Some slot) same live in
    grind (arith, nat_tests, held)

-- a process that has ended was there before, and is another
pub ended_before : (r : Records) (slot : ℕ) (process : ProcRec) (place : ℕ) (other : ProcRec) → AreNumbered r → IsIn r slot process
    → r.procs place ≡ Some other → other.state ≡ 3 → other.pid ≡ process.pid → ⊥
ended_before r slot process place other numbered is there state same =
    let record_of = numbered.ended place other there state in
    let exit : slot_by (r.exits other.pid) ≡ Some slot = subst (λ (p : ℕ). slot_by (r.exits p) ≡ Some slot) (sym same) (numbered.exit slot process is) in
    ended_apart (r.exits other.pid) slot record_of.0 exit record_of.1 record_of.2

-- who has a record is this one, or had it before elsewhere
pub record Elsewhere (r : Records) (slot place : ℕ) (other : ProcRec) : Type 0 where
  pub apart : place ≡ slot → ⊥
  pub there : r.procs place ≡ Some other

pub where_held : (f : ℕ → Option ProcRec) (slot place : ℕ) (new other : ProcRec) → updated f slot (Some new) place ≡ Some other
    → ((place ≡ slot) × (other ≡ new)) ⊎ ((place ≡ slot → ⊥) × (f place ≡ Some other))
where_held f slot place new other now = elim (same_or_not place slot) [
  | inl same ↦
      let held : updated f slot (Some new) slot ≡ Some other = subst (λ (k : ℕ). updated f slot (Some new) k ≡ Some other) same now in
      let both : Some new ≡ Some other = sym (set_here f slot (Some new)) ∙ held in
      let equal : other ≡ new = cc in
      inl (same, equal)
  | inr apart ↦ inr (apart, sym (set_other f slot (Some new) place apart) ∙ now)
]

ended_now : (r : Records) (head : HeadRec) (slot : ℕ) (process : ProcRec) (status trap : ℕ) (place : ℕ) (other : ProcRec) → AreNumbered r → IsIn r slot process
    → (ended_records r head slot process status trap).procs place ≡ Some other → other.state ≡ 3
    → (exit : ExitRec) × ((ended_records r head slot process status trap).exits other.pid ≡ Some exit) × (exit.state ≡ 2)
ended_now r head slot process status trap place other numbered is there state = elim (where_held r.procs slot place (ended_process process status) other there) [
  | inl here ↦
      let same : process.pid ≡ other.pid = sym (ap (λ (p : ProcRec). p.pid) here.1) in
      (ended_exit status, subst (λ (p : ℕ). updated r.exits process.pid (Some (ended_exit status)) p ≡ Some (ended_exit status)) same (set_here r.exits process.pid (Some (ended_exit status))), refl)
  | inr before ↦
      let held = numbered.ended place other before.1 state in
      let apart = ended_before r slot process place other numbered is before.1 state in
      (held.0, set_other r.exits process.pid (Some (ended_exit status)) other.pid apart ∙ held.1, held.2)
]

one_ended_now : (r : Records) (head : HeadRec) (slot : ℕ) (process : ProcRec) (status trap : ℕ) (place third : ℕ) (other another : ProcRec) → AreNumbered r → IsIn r slot process
    → (ended_records r head slot process status trap).procs place ≡ Some other → (ended_records r head slot process status trap).procs third ≡ Some another
    → other.state ≡ 3 → another.state ≡ 3 → other.pid ≡ another.pid → place ≡ third
one_ended_now r head slot process status trap place third other another numbered is there too state states same =
    elim (where_held r.procs slot place (ended_process process status) other there) [
      | inl here ↦ elim (where_held r.procs slot third (ended_process process status) another too) [
        | inl here_too ↦ here.0 ∙ sym here_too.0
        | inr before ↦ absurd (ended_before r slot process third another numbered is before.1 states (sym same ∙ ap (λ (p : ProcRec). p.pid) here.1))
      ]
      | inr before ↦ elim (where_held r.procs slot third (ended_process process status) another too) [
        | inl here_too ↦ absurd (ended_before r slot process place other numbered is before.1 state (same ∙ ap (λ (p : ProcRec). p.pid) here_too.1))
        | inr before_too ↦ numbered.one_ended place third other another before.1 before_too.1 state states same
      ]
    ]

used_now : (r : Records) (head : HeadRec) (slot : ℕ) (process : ProcRec) (status : ℕ) (pid : ℕ) → AreNumbered r → r.head ≡ Some head → IsIn r slot process
    → 1 ≤ pid → pid ≤ 256 → is_used (updated r.exits process.pid (Some (ended_exit status)) pid) ≡ nat_lt pid head.next
used_now r head slot process status pid numbered is_head is from to =
    let next : next_by r.head ≡ head.next = ap next_by is_head in
    let used : is_used (r.exits pid) ≡ nat_lt pid head.next = numbered.used pid from to ∙ ap (λ (n : ℕ). nat_lt pid n) next in
    elim (same_or_not pid process.pid) [
      | inl same ↦
          let live : is_used (r.exits pid) ≡ true = subst (λ (p : ℕ). is_used (r.exits p) ≡ true) (sym same) (used_by (r.exits process.pid) slot (numbered.exit slot process is)) in
          let here : updated r.exits process.pid (Some (ended_exit status)) pid ≡ Some (ended_exit status) =
          subst (λ (k : ℕ). updated r.exits process.pid (Some (ended_exit status)) k ≡ Some (ended_exit status)) (sym same) (set_here r.exits process.pid (Some (ended_exit status))) in
          ap is_used here ∙ (sym live ∙ used)
      | inr apart ↦ ap is_used (set_other r.exits process.pid (Some (ended_exit status)) pid apart) ∙ used
    ]

pub ended_numbered : (r : Records) (head : HeadRec) (slot : ℕ) (process : ProcRec) (status trap : ℕ) → AreNumbered r → r.head ≡ Some head → IsIn r slot process
    → AreNumbered (ended_records r head slot process status trap)
ended_numbered r head slot process status trap numbered is_head is =
    let next : next_by r.head ≡ head.next = ap next_by is_head in
    let new = ended_records r head slot process status trap in
    record {
      used = λ pid from to. used_now r head slot process status pid numbered is_head is from to;
      one_slot = λ pid other s one two. numbered.one_slot pid other s (slot_before r process.pid status pid s one).1 (slot_before r process.pid status other s two).1;
      exit = λ place other now.
          let before : IsOther r slot process place other = others r head slot process status trap place other numbered is now in
          slot_still r process.pid status other.pid place before.pid (numbered.exit place other before.is);
      process = λ pid s now.
          let before = slot_before r process.pid status pid s now in
          let found = numbered.process pid s before.1 in
          let apart : s ≡ slot → ⊥ = λ same.
          let exit : slot_by (r.exits pid) ≡ Some slot = subst (λ (k : ℕ). slot_by (r.exits pid) ≡ Some k) same before.1 in
          before.0 (numbered.one_slot pid process.pid slot exit (numbered.exit slot process is)) in
          (found.0, record { within = found.1.within; there = set_other r.procs slot (Some (ended_process process status)) s apart ∙ found.1.there; live = found.1.live }, found.2);
      signals = λ place other now. numbered.signals place other (others r head slot process status trap place other numbered is now).is;
      ended = λ place other there state. ended_now r head slot process status trap place other numbered is there state;
      one_ended = λ place third other another there too state states same.
          one_ended_now r head slot process status trap place third other another numbered is there too state states same;
      parents = λ place other there. elim (where_held r.procs slot place (ended_process process status) other there) [
        | inl here ↦
            let parent : other.parent ≡ process.parent = ap (λ (p : ProcRec). p.parent) here.1 in
            omega (arith, parent, next, numbered.parents slot process is.there)
        | inr before ↦ omega (arith, next, numbered.parents place other before.1)
      ];
    }

pub ended_sound : (r : Records) (head : HeadRec) (slot : ℕ) (process : ProcRec) (status trap : ℕ) → AreSound r → r.head ≡ Some head → IsIn r slot process → IsStatus status
    → AreSound (ended_records r head slot process status trap)
ended_sound r head slot process status trap sound is_head is word =
    let were = all_were r head slot process status trap sound.numbered is in
    let procs = updated r.procs slot (Some (ended_process process status)) in
    let exits = updated r.exits process.pid (Some (ended_exit status)) in
    record {
      complete = ended_complete r head slot process status trap sound.complete;
      values = ended_values r head slot process status trap sound.values is_head is word;
      numbered = ended_numbered r head slot process status trap sound.numbered is_head is;
      in_calls = calls_stay r (Some (served head trap process.pid)) procs r.sigs exits were sound.in_calls;
      mapped = mapped_stay r (Some (served head trap process.pid)) procs r.sigs exits were sound.mapped;
    }
