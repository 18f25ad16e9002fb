-- What is sound of records stays so where live processes keep their pids, parents, pages and descriptors.
use Rattle.std.proofs.Common.{◌≡◌, ◌≢◌, ◌⊎◌, ◌==◌, ℕ, ◌+◌, ◌*◌, true, false, Option, inl, inr, refl, sym, ◌∙◌, arith}
use Rattle.std.proofs.lemmas.Bool.{cases_Bool}
use Rattle.std.proofs.lemmas.Bool.Decides.{nat_tests}
use Rattle.ow_base.specs.Words.{updated}
use Rattle.record_layouts.specs.declared.head.HeadRec.{HeadRec}
use Rattle.record_layouts.specs.declared.proc.ProcRec.{ProcRec}
use Rattle.record_layouts.specs.declared.sig.SigRec.{SigRec}
use Rattle.record_layouts.specs.declared.desc.DescRec.{DescRec}
use Rattle.record_layouts.specs.declared.exit.ExitRec.{ExitRec}
use Rattle.record_layouts.specs.Held.{Records}
use Rattle.record_layouts.specs.Pages.{is_live, high_place}
use Rattle.record_layouts.specs.Sound.{IsIn, AreInCalls, IsInCall, IsTransfer, AreMapped, is_table_place}
use Rattle.process_table.proofs.Regions.{changed, SameRegions, region_same, mapped_stays, mapped_same}

-- a function that is changed at one place
pub set_here : {V : Type 0} (f : ℕ → V) (place : ℕ) (value : V) → updated f place value place ≡ value
set_here f place value = let same : (place == place) ≡ true = grind (arith, nat_tests) in rw same refl

pub set_other : {V : Type 0} (f : ℕ → V) (place : ℕ) (value : V) (k : ℕ) → (k ≡ place → ⊥) → updated f place value k ≡ f k
set_other f place value k differs = elim (cases_Bool (k == place)) [
  | inl same ↦ let equal : k ≡ place = grind (arith, nat_tests) in absurd (differs equal)
  | inr other ↦ rw other refl
]

nat_differs : (k place : ℕ) → (k == place) ≡ false → k ≢ place
nat_differs k place other = grind (arith, nat_tests)

-- a number is another or not
pub same_or_not : (k place : ℕ) → (k ≡ place) ⊎ (k ≡ place → ⊥)
same_or_not k place = elim (cases_Bool (k == place)) [
  | inl same ↦ inl (grind (arith, nat_tests))
  | inr other ↦ inr (λ equal. omega (arith, equal, nat_differs k place other))
]

-- a process is what another was, but for registers, saved contexts, its flags, and the call that it is not in any more
pub record IsKin (old new : ProcRec) : Type 0 where
  pub pid : new.pid ≡ old.pid
  pub parent : new.parent ≡ old.parent
  pub descs : new.descs ≡ old.descs
  pub regions : SameRegions new old
  pub call : new.state ≡ 2 → new ≡ old

pub same_regions : (process : ProcRec) → is_live process ≡ true → SameRegions process process
same_regions process live = record { live = live; lives = live; code = refl; values = refl; brk = refl }

pub kin_itself : (process : ProcRec) → is_live process ≡ true → IsKin process process
kin_itself process live = record { pid = refl; parent = refl; descs = refl; regions = same_regions process live; call = λ _. refl }

-- a live process of a slot was one there before
pub record Was (r : Records) (slot : ℕ) (new : ProcRec) : Type 0 where
  pub old : ProcRec
  pub is : IsIn r slot old
  pub kin : IsKin old new

-- the parts of records that this is about are others
pub record AllWere (r : Records) (head : Option HeadRec) (procs : ℕ → Option ProcRec) (sigs : ℕ → Option SigRec) (exits : ℕ → Option ExitRec) : Type 0 where
  pub was : (slot : ℕ) (process : ProcRec) → IsIn (changed r head procs sigs exits) slot process → Was r slot process

transfer_stays : (r : Records) (head : Option HeadRec) (procs : ℕ → Option ProcRec) (sigs : ℕ → Option SigRec) (exits : ℕ → Option ExitRec)
    (process : ProcRec) (mode : ℕ) (description : DescRec) → IsTransfer r process mode description → IsTransfer (changed r head procs sigs exits) process mode description
transfer_stays r head procs sigs exits process mode description is = record {
  descriptor = is.descriptor;
  named = is.named;
  there = is.there;
  allowed = is.allowed;
  count = is.count;
  left = is.left;
}

in_call_stays : (r : Records) (head : Option HeadRec) (procs : ℕ → Option ProcRec) (sigs : ℕ → Option SigRec) (exits : ℕ → Option ExitRec)
    (process : ProcRec) → IsInCall r process → IsInCall (changed r head procs sigs exits) process
in_call_stays r head procs sigs exits process is = elim is [
  | inl write ↦ inl (write.0, (write.1.0, transfer_stays r head procs sigs exits process 2 write.1.0 write.1.1))
  | inr rest ↦ inr (elim rest [
    | inl read ↦ inl (read.0, read.1, (read.2.0, transfer_stays r head procs sigs exits process 1 read.2.0 read.2.1, read.2.2))
    | inr wait ↦ inr wait
  ])
]

pub calls_stay : (r : Records) (head : Option HeadRec) (procs : ℕ → Option ProcRec) (sigs : ℕ → Option SigRec) (exits : ℕ → Option ExitRec)
    → AllWere r head procs sigs exits → AreInCalls r → AreInCalls (changed r head procs sigs exits)
calls_stay r head procs sigs exits all sound = record {
  calls = λ slot process is in_call.
      let was = all.was slot process is in
      let same : process ≡ was.old = was.kin.call in_call in
      let call : IsInCall r was.old = sound.calls slot was.old was.is (rw same at in_call) in
      rw same (in_call_stays r head procs sigs exits was.old call);
  described = λ slot process is fd within named.
      let was = all.was slot process is in
      rw was.kin.descs (sound.described slot was.old was.is fd within (rw was.kin.descs at named));
}

place_same : (new old : ProcRec) (table word : ℕ) → SameRegions new old → is_table_place new table word ≡ is_table_place old table word
place_same new old table word same = rw (region_same new old same word, region_same new old same (1024 * high_place + word)) refl

pub mapped_stay : (r : Records) (head : Option HeadRec) (procs : ℕ → Option ProcRec) (sigs : ℕ → Option SigRec) (exits : ℕ → Option ExitRec)
    → AllWere r head procs sigs exits → AreMapped r → AreMapped (changed r head procs sigs exits)
mapped_stay r head procs sigs exits all sound = record {
  mapped = λ slot process is.
      let was = all.was slot process is in
      mapped_stays r head procs sigs exits slot process ∙ (mapped_same r slot process was.old was.kin.regions ∙ sound.mapped slot was.old was.is);
  clean = λ slot process is table word few small no_place.
      let was = all.was slot process is in
      sound.clean slot was.old was.is table word few small (sym (place_same process was.old table word was.kin.regions) ∙ no_place);
}
