-- Records in which a live process becomes another with the same pid, parent and descriptors are sound again, where its
-- pages are the same, or where all pages have frames and clean tables.
use Rattle.std.proofs.Common.{◌≡◌, ◌≢◌, ◌⊎◌, ℕ, ◌+◌, ◌-◌, ◌*◌, true, false, nat_lt, List, slice_index, Option, Some, IfSome, is_some, inl, inr, refl, sym, ap, subst, ◌∙◌, arith}
use Rattle.std.proofs.lemmas.Bool.Decides.{nat_tests}
use Rattle.ow_base.specs.Words.{updated}
use Rattle.record_layouts.specs.declared.places.RecordId.{RecordId}
use Rattle.record_layouts.specs.declared.places.RecordId.TheVariants as id
use Rattle.record_layouts.specs.declared.patch.AnyRec.TheVariants as any
use Rattle.record_layouts.proofs.At.{complete_with, values_with}
use Rattle.record_layouts.specs.declared.head.HeadRec.{HeadRec}
use Rattle.record_layouts.specs.declared.proc.ProcRec.{ProcRec}
use Rattle.record_layouts.specs.declared.sig.SigRec.{SigRec}
use Rattle.record_layouts.specs.declared.desc.DescRec.{DescRec}
use Rattle.record_layouts.specs.At.{Fits, at}
use Rattle.record_layouts.specs.Held.{AreComplete, AreValues, Records, with_record}
use Rattle.record_layouts.specs.Head.{FitsHead}
use Rattle.record_layouts.specs.Pages.{is_live, is_mapped, high_place}
use Rattle.record_layouts.specs.Proc.{FitsProc}
use Rattle.record_layouts.specs.Decode.{slot_by, next_by}
use Rattle.record_layouts.specs.Sound.{IsIn, AreNumbered, AreInCalls, AreMapped, AreSound, IsInCall, IsTransfer, is_table_place}
use Rattle.process_table.proofs.Changes.{changed_records}
use Rattle.process_table.proofs.Endings.{served}
use Rattle.process_table.proofs.EndedSound.{served_fits, where_held}
use Rattle.process_table.proofs.Kept.{set_here, set_other, same_or_not}
use Rattle.process_table.proofs.Regions.{SameRegions, mapped_same, mapped_stays, region_same}
use Rattle.process_table.proofs.Seats.{one_process}
use Rattle.syscalls.proofs.Becoming.{IsAfter, IsNext, next_of, prepared}

-- a live process has not ended
not_over : (process : ProcRec) → is_live process ≡ true → process.state ≡ 3 → ⊥
not_over process live over = absurd (grind (arith, nat_tests, live, over))

-- owners of frames and words of tables are no records that an id names
same_at : (r : Records) (owners : ℕ → ℕ) (tables : (slot table word : ℕ) → ℕ) (one : RecordId) → at (prepared r owners tables) one ≡ at r one
same_at r owners tables id.Head = refl
same_at r owners tables (id.Proc slot) = refl
same_at r owners tables (id.Sig slot) = refl
same_at r owners tables (id.Desc index) = refl
same_at r owners tables (id.File index) = refl
same_at r owners tables (id.Cache index) = refl
same_at r owners tables (id.Term tty) = refl
same_at r owners tables (id.Row index) = refl
same_at r owners tables (id.Exit pid) = refl

pub complete_too : (r : Records) (owners : ℕ → ℕ) (tables : (slot table word : ℕ) → ℕ) → AreComplete r → AreComplete (prepared r owners tables)
complete_too r owners tables complete one there = ap is_some (same_at r owners tables one) ∙ complete one there

pub values_too : (r : Records) (owners : ℕ → ℕ) (tables : (slot table word : ℕ) → ℕ) → AreValues r → AreValues (prepared r owners tables)
values_too r owners tables values one = subst (λ held. IfSome held (Fits one)) (sym (same_at r owners tables one)) (values one)

pub places_same : (one other : ProcRec) (table word : ℕ) → SameRegions one other → is_table_place one table word ≡ is_table_place other table word
places_same one other table word same = rw (region_same one other same word, region_same one other same (1024 * high_place + word)) refl

module _ (r : Records) (head : HeadRec) (slot : ℕ) (process after : ProcRec) (trap : ℕ) (sound : AreSound r) (is_head : r.head ≡ Some head) (is : IsIn r slot process)
    (next : IsNext process after) (fits : FitsProc after) (call : after.state ≡ 2 → IsInCall r after) (owners : ℕ → ℕ) (tables : (slot table word : ℕ) → ℕ) where
  abbrev now : Records
  now = changed_records (prepared r owners tables) head slot process after r.sigs trap

  here_now : IsIn now slot after
  here_now = record { within = is.within; there = set_here r.procs slot (Some after); live = next.live }

  -- a process that is live is this one, or was live before in another slot
  were : (place : ℕ) (other : ProcRec) → IsIn now place other → ((place ≡ slot) × (other ≡ after)) ⊎ ((place ≡ slot → ⊥) × IsIn r place other)
  were place other there = elim (where_held r.procs slot place after other there.there) [
    | inl here ↦ inl (here.0, here.1)
    | inr before ↦ inr (before.0, record { within = there.within; there = before.1; live = there.live })
  ]

  exit_now : (place : ℕ) (other : ProcRec) → IsIn now place other → slot_by (r.exits other.pid) ≡ Some place
  exit_now place other there = elim (were place other there) [
    | inl here ↦
        ap (λ (p : ProcRec). slot_by (r.exits p.pid)) here.1
        ∙ (ap (λ (p : ℕ). slot_by (r.exits p)) next.pid ∙ (sound.numbered.exit slot process is ∙ ap (λ (k : ℕ). Some k) (sym here.0)))
    | inr before ↦ sound.numbered.exit place other before.1
  ]

  process_now : (pid s : ℕ) → slot_by (r.exits pid) ≡ Some s → (other : ProcRec) × (IsIn now s other) × (other.pid ≡ pid)
  process_now pid s exit =
      let found = sound.numbered.process pid s exit in
      elim (same_or_not s slot) [
        | inl same ↦
            let there : r.procs slot ≡ Some found.0 = subst (λ (k : ℕ). r.procs k ≡ Some found.0) same found.1.there in
            let equal : process ≡ found.0 = one_process r slot process found.0 is.there there in
            (after, subst (λ (k : ℕ). IsIn now k after) (sym same) here_now, next.pid ∙ (ap (λ (p : ProcRec). p.pid) equal ∙ found.2))
        | inr apart ↦ (found.0, record { within = found.1.within; there = set_other r.procs slot (Some after) s apart ∙ found.1.there; live = found.1.live }, found.2)
      ]

  signals_now : (place : ℕ) (other : ProcRec) → IsIn now place other → (signals : SigRec) × (r.sigs place ≡ Some signals) × (signals.pid ≡ other.pid)
  signals_now place other there = elim (were place other there) [
    | inl here ↦
        let own = sound.numbered.signals slot process is in
        (own.0, subst (λ (k : ℕ). r.sigs k ≡ Some own.0) (sym here.0) own.1, own.2 ∙ (sym next.pid ∙ sym (ap (λ (p : ProcRec). p.pid) here.1)))
    | inr before ↦ sound.numbered.signals place other before.1
  ]

  ended_still : (place : ℕ) (other : ProcRec) → updated r.procs slot (Some after) place ≡ Some other → other.state ≡ 3 → r.procs place ≡ Some other
  ended_still place other there state = elim (where_held r.procs slot place after other there) [
    | inl here ↦ absurd (not_over after next.live (sym (ap (λ (p : ProcRec). p.state) here.1) ∙ state))
    | inr before ↦ before.1
  ]

  numbered_now : AreNumbered now
  numbered_now =
      let before : next_by r.head ≡ head.next = ap next_by is_head in
      record {
        used = λ pid from to. sound.numbered.used pid from to ∙ ap (λ (n : ℕ). nat_lt pid n) before;
        one_slot = sound.numbered.one_slot;
        exit = exit_now;
        process = process_now;
        signals = signals_now;
        ended = λ place other there state. sound.numbered.ended place other (ended_still place other there state) state;
        one_ended = λ place third other another there too state states same.
            sound.numbered.one_ended place third other another (ended_still place other there state) (ended_still third another too states) state states same;
        parents = λ place other there. elim (where_held r.procs slot place after other there) [
          | inl here ↦
              let parent : other.parent ≡ process.parent = ap (λ (p : ProcRec). p.parent) here.1 ∙ next.parent in
              omega (arith, parent, before, sound.numbered.parents slot process is.there)
          | inr held ↦ omega (arith, before, sound.numbered.parents place other held.1)
        ];
      }

  transfer_stays : (other : ProcRec) (mode : ℕ) (description : DescRec) → IsTransfer r other mode description → IsTransfer now other mode description
  transfer_stays other mode description it = record {
    descriptor = it.descriptor;
    named = it.named;
    there = it.there;
    allowed = it.allowed;
    count = it.count;
    left = it.left;
  }

  call_stays : (other : ProcRec) → IsInCall r other → IsInCall now other
  call_stays other it = elim it [
    | inl write ↦ inl (write.0, (write.1.0, transfer_stays other 2 write.1.0 write.1.1))
    | inr rest ↦ inr (elim rest [
      | inl read ↦ inl (read.0, read.1, (read.2.0, transfer_stays other 1 read.2.0 read.2.1, read.2.2))
      | inr wait ↦ inr wait
    ])
  ]

  calls_now : AreInCalls now
  calls_now = record {
    calls = λ place other there state. elim (were place other there) [
      | inl here ↦ subst (λ (p : ProcRec). IsInCall now p) (sym here.1) (call_stays after (call (sym (ap (λ (p : ProcRec). p.state) here.1) ∙ state)))
      | inr before ↦ call_stays other (sound.in_calls.calls place other before.1 state)
    ];
    described = λ place other there fd within named. elim (were place other there) [
      | inl here ↦
          let descs : other.descs ≡ process.descs = ap (λ (p : ProcRec). p.descs) here.1 ∙ next.descs in
          subst (λ (ds : List ℕ). (description : DescRec) × (r.descs (slice_index ds fd - 1) ≡ Some description) × (description.object ≢ 0)) (sym descs)
          (sound.in_calls.described slot process is fd within (subst (λ (ds : List ℕ). slice_index ds fd ≢ 0) descs named))
      | inr before ↦ sound.in_calls.described place other before.1 fd within named
    ];
  }

  -- where all pages have frames and tables are clean
  pub next_sound : AreMapped now → AreSound (changed_records (prepared r owners tables) head slot process after r.sigs trap)
  next_sound mapped_now =
      let head_fits : FitsHead head = subst (λ (h : Option HeadRec). IfSome h FitsHead) is_head (sound.values id.Head) in
      let base = prepared r owners tables in
      let after_head = with_record base id.Head (any.Head (served head trap process.pid)) in
      record {
        complete = complete_with after_head (id.Proc slot) (any.Proc after)
            (complete_with base id.Head (any.Head (served head trap process.pid)) (complete_too r owners tables sound.complete) tt) tt;
        values = values_with after_head (id.Proc slot) (any.Proc after)
            (values_with base id.Head (any.Head (served head trap process.pid)) (values_too r owners tables sound.values) tt (served_fits head trap process.pid head_fits)) tt fits;
        numbered = numbered_now;
        in_calls = calls_now;
        mapped = mapped_now;
      }

-- where its pages are the same
module _ (r : Records) (head : HeadRec) (slot : ℕ) (process after : ProcRec) (trap : ℕ) (sound : AreSound r) (is_head : r.head ≡ Some head) (is : IsIn r slot process)
    (next : IsAfter process after) (fits : FitsProc after) (call : after.state ≡ 2 → IsInCall r after) where
  abbrev then_records : Records
  then_records = changed_records r head slot process after r.sigs trap

  were_then : (place : ℕ) (other : ProcRec) → IsIn then_records place other → ((place ≡ slot) × (other ≡ after)) ⊎ ((place ≡ slot → ⊥) × IsIn r place other)
  were_then place other there =
      were r head slot process after trap sound is_head is (next_of process after next) fits call r.owners r.table_words place other there

  mapped_here : is_mapped r slot after ≡ true
  mapped_here = mapped_same r slot after process next.regions ∙ sound.mapped.mapped slot process is

  mapped_then : AreMapped then_records
  mapped_then = record {
    mapped = λ place other there.
        mapped_stays r (Some (served head trap process.pid)) (updated r.procs slot (Some after)) r.sigs r.exits place other
        ∙ elim (were_then place other there) [
          | inl here ↦ ap (λ (k : ℕ). is_mapped r k other) here.0 ∙ (ap (is_mapped r slot) here.1 ∙ mapped_here)
          | inr before ↦ sound.mapped.mapped place other before.1
        ];
    clean = λ place other there table word few small no_place. elim (were_then place other there) [
      | inl here ↦
          let place_too : is_table_place process table word ≡ false =
          sym (places_same after process table word next.regions) ∙ (sym (ap (λ (p : ProcRec). is_table_place p table word) here.1) ∙ no_place) in
          ap (λ (k : ℕ). r.table_words k table word) here.0 ∙ sound.mapped.clean slot process is table word few small place_too
      | inr before ↦ sound.mapped.clean place other before.1 table word few small no_place
    ];
  }

  pub after_sound : AreSound (changed_records r head slot process after r.sigs trap)
  after_sound = next_sound r head slot process after trap sound is_head is (next_of process after next) fits call r.owners r.table_words mapped_then
