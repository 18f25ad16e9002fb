-- The pids of a kernel that was built after a panic which damaged nothing, and the trap that it has as served.
use Rattle.std.proofs.Common.{◌≡◌, ℕ, ◌+◌, ◌<◌, nat_lt, List, Option, Some, None, IfSome, is_some, true, refl, sym, ap, subst, ◌∙◌, arith}
use Rattle.ow_base.specs.Images.{Image}
use Rattle.ow_base.specs.Sv32.{WordMap}
use Rattle.record_layouts.specs.declared.exit.ExitRec.{ExitRec}
use Rattle.record_layouts.specs.declared.head.HeadRec.{HeadRec}
use Rattle.record_layouts.specs.declared.places.RecordId.TheVariants as id
use Rattle.record_layouts.specs.declared.proc.ProcRec.{ProcRec}
use Rattle.record_layouts.specs.declared.sig.SigRec.{SigRec}
use Rattle.record_layouts.specs.Decode.{next_by, slot_by}
use Rattle.record_layouts.specs.Held.{AreComplete, Records}
use Rattle.record_layouts.specs.Images.{records_of_image}
use Rattle.record_layouts.specs.Left.{HandedOver}
use Rattle.record_layouts.specs.Sound.{AreNumbered, IsIn, is_used}
use Rattle.record_layouts.specs.SoundImages.{IsServedBefore, IsSoundAtPanic}
use Rattle.resurrector.specs.Rebuilt.{IsRevived}
use Rattle.resurrector.specs.Revived.{head_by, revived_head}
use Rattle.resurrector.proofs.RebuiltRecords.{exit_same, signals_same}
use Rattle.resurrector.proofs.SoundSlots.{is_in, parent_given, was_ended, was_in, was_live}
use Rattle.resurrector.proofs.Survivals.{after, after_pid}
use Rattle.resurrector.proofs.Undamaged.{own_pid, process}

module _ (i : Image) (most broken : ℕ) (sound : IsSoundAtPanic i most broken) (h : HandedOver) (counts : List ℕ)
    (next : Records) (next_words : WordMap) (is : IsRevived (records_of_image i) (Some h) counts i.words next next_words) where
  abbrev r : Records
  r = records_of_image i

  pub all_complete : AreComplete next
  all_complete id.Head there = ap (λ o. is_some o) (is.records id.Head there)
  all_complete (id.Proc slot) there = ap (λ o. is_some o) (is.records (id.Proc slot) there)
  all_complete (id.Sig slot) there = ap (λ o. is_some o) (is.records (id.Sig slot) there)
  all_complete (id.Desc index) there = ap (λ o. is_some o) (is.records (id.Desc index) there)
  all_complete (id.File index) there = ap (λ o. is_some o) (is.records (id.File index) there)
  all_complete (id.Cache index) there = ap (λ o. is_some o) (is.records (id.Cache index) there)
  all_complete (id.Term tty) there = ap (λ o. is_some o) (is.records (id.Term tty) there)
  all_complete (id.Row place) there = ap (λ o. is_some o) (is.records (id.Row place) there)
  all_complete (id.Exit pid) there = ap (λ o. is_some o) (is.records (id.Exit pid) there)

  exits : (pid : ℕ) → next.exits pid ≡ r.exits pid
  exits pid = exit_same i most broken sound h counts next next_words is pid

  slots : (pid : ℕ) → slot_by (next.exits pid) ≡ slot_by (r.exits pid)
  slots pid = ap slot_by (exits pid)

  -- the head
  head_next : (o : Option HeadRec) → is_some o ≡ true → next_by (Some (head_by r (Some h) o)) ≡ next_by o
  head_next (Some head) there = refl
  head_next None there = absurd (cc there)

  next_same : next_by next.head ≡ next_by r.head
  unfolding revived_head
  next_same = ap next_by (is.records id.Head tt) ∙ head_next r.head (sound.complete id.Head tt)

  head_served : (o : Option HeadRec) → (head_by r (Some h) o).served < h.trap + 1
  head_served (Some head) = omega arith
  head_served None = omega arith

  pub trap_served : IsServedBefore next (h.trap + 1)
  unfolding revived_head
  trap_served = subst (λ (o : Option HeadRec). IfSome o (λ head. head.served < h.trap + 1)) (sym (is.records id.Head tt)) (head_served r.head)

  -- a process that goes on
  exit_there : (pid slot : ℕ) (found : slot_by (r.exits pid) ≡ Some slot) → slot_by (next.exits (after i most broken sound h pid slot found).pid) ≡ Some slot
  exit_there pid slot found = rw (after_pid i most broken sound h pid slot found) (slots pid ∙ found)

  signals_there : (pid slot : ℕ) (found : slot_by (r.exits pid) ≡ Some slot)
      → (signals : SigRec) × (next.sigs slot ≡ Some signals) × (signals.pid ≡ (after i most broken sound h pid slot found).pid)
  signals_there pid slot found =
      let (signals, there, own) = sound.numbered.signals slot (process i most broken sound h pid slot found) (was_in i most broken sound h counts next next_words is pid slot found) in (
        signals,
        signals_same i most broken sound h counts next next_words is pid slot found ∙ there,
        own ∙ own_pid i most broken sound h pid slot found ∙ sym (after_pid i most broken sound h pid slot found),
      )

  process_live : (pid slot : ℕ) → slot_by (r.exits pid) ≡ Some slot → (process : ProcRec) × (IsIn next slot process) × (process.pid ≡ pid)
  process_live pid slot found =
      (after i most broken sound h pid slot found, is_in i most broken sound h counts next next_words is pid slot found, after_pid i most broken sound h pid slot found)

  exit_over : (slot : ℕ) (process : ProcRec) → next.procs slot ≡ Some process → process.state ≡ 3
      → (exit : ExitRec) × (next.exits process.pid ≡ Some exit) × (exit.state ≡ 2)
  exit_over slot process there over =
      let (exit, its, ended) = sound.numbered.ended slot process (was_ended i most broken sound h counts next next_words is slot process there over) over in
      (exit, exits process.pid ∙ its, ended)

  pub all_numbered : AreNumbered next
  all_numbered = record {
    used = λ pid from to. ap is_used (exits pid) ∙ sound.numbered.used pid from to ∙ ap (λ (n : ℕ). nat_lt pid n) (sym next_same);
    one_slot = λ pid other slot one two. sound.numbered.one_slot pid other slot (sym (slots pid) ∙ one) (sym (slots other) ∙ two);
    exit = λ slot process there.
        let (pid, found, same) = was_live i most broken sound h counts next next_words is slot process there in
        subst (λ (p : ProcRec). slot_by (next.exits p.pid) ≡ Some slot) same (exit_there pid slot found);
    process = λ pid slot found. process_live pid slot (sym (slots pid) ∙ found);
    signals = λ slot process there.
        let (pid, found, same) = was_live i most broken sound h counts next next_words is slot process there in
        subst (λ (p : ProcRec). (signals : SigRec) × (next.sigs slot ≡ Some signals) × (signals.pid ≡ p.pid)) same (signals_there pid slot found);
    ended = exit_over;
    one_ended = λ slot other process another there its over also same.
        sound.numbered.one_ended slot other process another
        (was_ended i most broken sound h counts next next_words is slot process there over)
        (was_ended i most broken sound h counts next next_words is other another its also) over also same;
    parents = λ slot process there. rw next_same (parent_given i most broken sound h counts next next_words is slot process there);
  }
