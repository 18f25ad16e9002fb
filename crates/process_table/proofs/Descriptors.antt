-- Live processes keep their descriptors where the records of a trap are set, so what these name stays on terminals.
use Rattle.std.proofs.Common.{◌≡◌, ◌≢◌, ◌==◌, ℕ, ◌+◌, ◌-◌, ◌<◌, true, List, [], ◌∷◌, slice_index, Option, Some, None, IfSome, inl, inr, refl, sym, ap, subst, ◌∙◌}
use Rattle.std.proofs.lemmas.Bool.{cases_Bool}
use Rattle.ow_base.specs.Words.{updated}
use Rattle.ow_base.specs.declared.machine.Bank.{Bank}
use Rattle.record_layouts.specs.declared.desc.DescRec.{DescRec}
use Rattle.record_layouts.specs.declared.exit.ExitRec.{ExitRec}
use Rattle.record_layouts.specs.declared.head.HeadRec.{HeadRec}
use Rattle.record_layouts.specs.declared.patch.PatchItem.{PatchItem}
use Rattle.record_layouts.specs.declared.proc.ProcRec.{ProcRec}
use Rattle.record_layouts.specs.declared.sig.SigRec.{SigRec}
use Rattle.record_layouts.specs.Held.{Records, with_items}
use Rattle.record_layouts.specs.Pages.{is_live, live_one}
use Rattle.record_layouts.specs.Sound.{AreOnTerminals, AreSound, IsIn}
use Rattle.process_table.specs.Meaning.{HadDescriptors, KeepDescriptors}
use Rattle.process_table.specs.Patches.{answered_process, ended_exit, ended_items, ended_process, fork_items, forked_process, free_process, handler_of, head_item, process_item, saved_items, saved_process, signal_items, signalled_process, wait_items, without_signal}
use Rattle.process_table.proofs.Changes.{all_kin}
use Rattle.process_table.proofs.EndedSound.{where_held}
use Rattle.process_table.proofs.Endings.{all_were, ended_are, served}
use Rattle.process_table.proofs.Kept.{AllWere}
use Rattle.process_table.proofs.Regions.{changed}
use Rattle.process_table.proofs.Signalling.{signal_are, signal_change, signal_ends}

-- what live processes name stays on terminals
pub on_terminals_stay : (r : Records) (items : List PatchItem) → KeepDescriptors r items → AreOnTerminals r → AreOnTerminals (with_items r items)
on_terminals_stay r items keep on = record {
  each = λ slot process is fd within some.
      let had = keep.was slot process is in
      let word : slice_index process.descs fd ≡ slice_index had.before.descs fd = ap (λ (ds : List ℕ). slice_index ds fd) had.descs in
      let held : IfSome (r.descs (slice_index had.before.descs fd - 1)) (λ d. d.object ≢ 1) = on.each had.place had.before had.is fd within (λ none. some (word ∙ none)) in
      subst (λ (ds : ℕ → Option DescRec). IfSome (ds (slice_index process.descs fd - 1)) (λ d. d.object ≢ 1)) (sym keep.descs)
      (subst (λ (n : ℕ). IfSome (r.descs (n - 1)) (λ d. d.object ≢ 1)) (sym word) held);
}

-- who is what he was has his own descriptors
still : (r : Records) (slot : ℕ) (process : ProcRec) → IsIn r slot process → HadDescriptors r slot process
still r slot process is = record { place = slot; before = process; is = is; descs = refl; seat = inl refl }

-- one process becomes another with its descriptors
had_after : (r : Records) (slot : ℕ) (process after : ProcRec) (place : ℕ) (other : ProcRec) → IsIn r slot process → after.descs ≡ process.descs
    → place < 16 → is_live other ≡ true → updated r.procs slot (Some after) place ≡ Some other → HadDescriptors r place other
had_after r slot process after place other is same within live there = elim (where_held r.procs slot place after other there) [
  | inl here ↦ record { place = slot; before = process; is = is; descs = ap (λ (p : ProcRec). p.descs) here.1 ∙ same; seat = inl (sym here.0) }
  | inr before ↦ still r place other (record { within = within; there = before.1; live = live })
]

pub set_keeps : (r : Records) (head : HeadRec) (slot : ℕ) (process after : ProcRec) (trap pid : ℕ) → IsIn r slot process → after.descs ≡ process.descs
    → KeepDescriptors r (head_item head trap pid ∷ process_item slot after ∷ [])
set_keeps r head slot process after trap pid is same = record {
  descs = refl;
  was = λ place other now. had_after r slot process after place other is same now.within now.live now.there;
}

-- the child that is made has the descriptors of its parent
pub fork_keeps : (r : Records) (head : HeadRec) (slot child : ℕ) (process : ProcRec) (bank : Bank) (signals : SigRec) (trap : ℕ) → IsIn r slot process → live_one (r.procs child) ≡ None
    → KeepDescriptors r (fork_items head slot child (saved_process process bank) signals trap)
unfolding fork_items
fork_keeps r head slot child process bank signals trap is empty =
    let parent = answered_process (saved_process process bank) head.next in
    let copy = forked_process (saved_process process bank) head.next in
    record {
      descs = refl;
      was = λ place other now. elim (where_held (updated r.procs slot (Some parent)) child place copy other now.there) [
        | inl made ↦
            record { place = slot; before = process; is = is; descs = ap (λ (p : ProcRec). p.descs) made.1; seat = inr (subst (λ (k : ℕ). live_one (r.procs k) ≡ None) (sym made.0) empty) }
        | inr held ↦ had_after r slot process parent place other is refl now.within now.live held.1
      ];
    }

-- the slot of the child that was waited for has no live process
pub wait_keeps : (r : Records) (head : HeadRec) (slot : ℕ) (process : ProcRec) (bank : Bank) (place pid trap : ℕ) → IsIn r slot process
    → KeepDescriptors r (wait_items head slot (saved_process process bank) place pid trap)
unfolding wait_items
wait_keeps r head slot process bank place pid trap is =
    let after = answered_process (saved_process process bank) pid in
    record {
      descs = refl;
      was = λ third other now. elim (where_held (updated r.procs slot (Some after)) place third free_process other now.there) [
        | inl free ↦
            let live : is_live free_process ≡ true = subst (λ (p : ProcRec). is_live p ≡ true) free.1 now.live in
            absurd (cc live)
        | inr held ↦ had_after r slot process after third other is refl now.within now.live held.1
      ];
    }

-- each live process is of the kin of one that was there before
kin_keep : (r : Records) (items : List PatchItem) (head : Option HeadRec) (procs : ℕ → Option ProcRec) (sigs : ℕ → Option SigRec) (exits : ℕ → Option ExitRec)
    → with_items r items ≡ changed r head procs sigs exits → AllWere r head procs sigs exits → KeepDescriptors r items
kin_keep r items head procs sigs exits are were = record {
  descs = ap (λ (x : Records). x.descs) are;
  was = λ slot process is.
      let was = were.was slot process (subst (λ (x : Records). IsIn x slot process) are is) in
      record { place = slot; before = was.old; is = was.is; descs = was.kin.descs; seat = inl refl };
}

pub end_keeps : (r : Records) (head : HeadRec) (slot : ℕ) (process : ProcRec) (status trap : ℕ) → AreSound r → IsIn r slot process
    → KeepDescriptors r (ended_items head slot process status trap)
end_keeps r head slot process status trap sound is =
    kin_keep r (ended_items head slot process status trap) (Some (served head trap process.pid)) (updated r.procs slot (Some (ended_process process status)))
    r.sigs (updated r.exits process.pid (Some (ended_exit status)))
    (ended_are r head slot process status trap) (all_were r head slot process status trap sound.numbered is)

pub save_keeps : (r : Records) (head : HeadRec) (slot : ℕ) (process : ProcRec) (bank : Bank) (trap : ℕ) → IsIn r slot process
    → KeepDescriptors r (saved_items head slot process bank trap)
unfolding saved_items
save_keeps r head slot process bank trap is = set_keeps r head slot process (saved_process process bank) trap process.pid is refl

pub signal_keeps : (r : Records) (head : HeadRec) (slot : ℕ) (process : ProcRec) (signals : SigRec) (signal trap : ℕ) → AreSound r → r.head ≡ Some head → IsIn r slot process
    → r.sigs slot ≡ Some signals → KeepDescriptors r (signal_items head slot process signals signal trap)
signal_keeps r head slot process signals signal trap sound is_head is there = elim (cases_Bool (handler_of signals signal == 0)) [
  | inl ends ↦ kin_keep r (signal_items head slot process signals signal trap) (Some (served head trap process.pid))
      (updated r.procs slot (Some (ended_process process (0x100 + signal)))) r.sigs (updated r.exits process.pid (Some (ended_exit (0x100 + signal))))
      (signal_ends r head slot process signals signal trap ends ∙ ended_are r head slot process (0x100 + signal) trap)
      (all_were r head slot process (0x100 + signal) trap sound.numbered is)
  | inr goes_on ↦
      let new = signalled_process process signal (handler_of signals signal) in
      let sigs : ℕ → Option SigRec = updated r.sigs slot (Some (without_signal signals signal)) in
      kin_keep r (signal_items head slot process signals signal trap) (Some (served head trap process.pid)) (updated r.procs slot (Some new)) sigs r.exits
      (signal_are r head slot process signals signal trap goes_on)
      (all_kin r head slot process new sigs trap (signal_change r head slot process signals signal (handler_of signals signal) sound is_head is there))
]
