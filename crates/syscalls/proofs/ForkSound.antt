-- Records on which a fork is done are sound, where a copy of the process's pages was prepared in the child's slot.
use Rattle.std.proofs.Common.{◌≡◌, ◌≢◌, ◌⊎◌, ℕ, ◌-◌, ◌<◌, true, false, List, slice_index, Option, Some, IfSome, inl, inr, refl, sym, ap, subst, ◌∙◌, arith}
use Rattle.ow_base.specs.Sv32.{WordMap}
use Rattle.ow_base.specs.UserStep.{register}
use Rattle.ow_base.specs.declared.machine.Bank.{Bank}
use Rattle.record_layouts.specs.declared.places.RecordId.TheVariants as id
use Rattle.record_layouts.specs.declared.patch.AnyRec.TheVariants as any
use Rattle.record_layouts.specs.declared.head.HeadRec.{HeadRec}
use Rattle.record_layouts.specs.declared.proc.ProcRec.{ProcRec}
use Rattle.record_layouts.specs.declared.sig.SigRec.{SigRec}
use Rattle.record_layouts.specs.declared.desc.DescRec.{DescRec}
use Rattle.record_layouts.specs.declared.exit.ExitRec.{ExitRec}
use Rattle.record_layouts.specs.Exit.{FitsExit}
use Rattle.record_layouts.specs.Head.{FitsHead}
use Rattle.record_layouts.specs.Held.{AreComplete, AreValues, Records, with_items, with_record}
use Rattle.record_layouts.specs.Pages.{is_mapped}
use Rattle.record_layouts.specs.Proc.{FitsLive, FitsProc}
use Rattle.record_layouts.specs.Sig.{FitsSig}
use Rattle.record_layouts.specs.Sound.{AreInCalls, AreMapped, AreSound, IsIn, IsInCall, IsTransfer, is_table_place}
use Rattle.record_layouts.proofs.At.{complete_with, values_with}
use Rattle.address_space.specs.Spaces.{HasGrown, IsCopied, OnlyPrepares}
use Rattle.process_table.specs.Patches.{answered_process, fork_items, forked_exit, forked_head, forked_process, forked_signals, saved_process}
use Rattle.process_table.proofs.Ended.{live_fits}
use Rattle.process_table.proofs.Regions.{SameRegions, mapped_same, mapped_stays}
use Rattle.syscalls.specs.Done.{KeepsSound, held_as}
use Rattle.syscalls.specs.Planned.{PlanFork}
use Rattle.syscalls.proofs.AfterSound.{complete_too, places_same, values_too}
use Rattle.syscalls.proofs.Becoming.{OthersStay, prepared}
use Rattle.syscalls.proofs.ForkNumbers.{apart, head_fits, numbered_then, were}
use Rattle.syscalls.proofs.Forked.{CanFork, forked_are, forked_exits, forked_procs, forked_records, forked_sigs}
use Rattle.syscalls.proofs.Grown.{others_stay}

-- with the same descriptions a process is in the same call
transfer_stays : (r now : Records) → now.descs ≡ r.descs → (process : ProcRec) (mode : ℕ) (description : DescRec) → IsTransfer r process mode description → IsTransfer now process mode description
transfer_stays r now same process mode description it = record {
  descriptor = it.descriptor;
  named = it.named;
  there = ap (λ (descs : ℕ → Option DescRec). descs (slice_index process.descs (register process.regs 10) - 1)) same ∙ it.there;
  allowed = it.allowed;
  count = it.count;
  left = it.left;
}

call_stays : (r now : Records) → now.descs ≡ r.descs → (process : ProcRec) → IsInCall r process → IsInCall now process
call_stays r now same process it = elim it [
  | inl write ↦ inl (write.0, (write.1.0, transfer_stays r now same process 2 write.1.0 write.1.1))
  | inr rest ↦ inr (elim rest [
    | inl read ↦ inl (read.0, read.1, (read.2.0, transfer_stays r now same process 1 read.2.0 read.2.1, read.2.2))
    | inr wait ↦ inr wait
  ])
]

module _ (r : Records) (head : HeadRec) (slot child : ℕ) (process : ProcRec) (bank : Bank) (signals : SigRec) (trap : ℕ)
    (can : CanFork r head slot child process signals) where
  abbrev saved : ProcRec
  saved = saved_process process bank

  abbrev parent : ProcRec
  parent = answered_process saved head.next

  abbrev copy : ProcRec
  copy = forked_process saved head.next

  abbrev procs : ℕ → Option ProcRec
  procs = forked_procs r head slot child saved

  abbrev sigs : ℕ → Option SigRec
  sigs = forked_sigs r head child signals

  abbrev exits : ℕ → Option ExitRec
  exits = forked_exits r head child

  -- the records as they can be spelled
  process_fits : FitsProc process
  process_fits = subst (λ (held : Option ProcRec). IfSome held FitsProc) can.is.there (can.sound.values (id.Proc slot))

  held : FitsLive process
  held = live_fits process process_fits can.is.live

  forked_head_fits : FitsHead (forked_head head trap process.pid)
  forked_head_fits = let fits = head_fits r head slot child process bank signals trap can in record { layout = fits.layout; next_from = omega arith; next_to = omega (arith, can.few); hand = fits.hand }

  parent_fits : FitsProc parent
  parent_fits = record {
    state = omega arith;
    free = λ s. absurd (omega (arith, s));
    live = λ s. record {
      pid = held.pid;
      parent = held.parent;
      code_pages = held.code_pages;
      data_pages = held.data_pages;
      heap_end = held.heap_end;
      flags = held.flags;
      status = held.status;
      descs = held.descs;
    };
    no_call = λ s. refl;
    none_done = λ s. refl;
    ended = λ s. absurd (omega (arith, s));
  }

  copy_fits : FitsProc copy
  copy_fits = record {
    state = omega arith;
    free = λ s. absurd (omega (arith, s));
    live = λ s. record {
      pid = ((head_fits r head slot child process bank signals trap can).next_from, can.few);
      parent = held.pid.1;
      code_pages = held.code_pages;
      data_pages = held.data_pages;
      heap_end = held.heap_end;
      flags = held.flags;
      status = held.status;
      descs = held.descs;
    };
    no_call = λ s. refl;
    none_done = λ s. refl;
    ended = λ s. absurd (omega (arith, s));
  }

  sig_fits : FitsSig (forked_signals signals head.next)
  sig_fits = record { highest = omega arith; lowest = refl }

  exit_fits : FitsExit (forked_exit child)
  exit_fits = inr (inl (record { state = refl; slot = omega (arith, can.within) }))

  module _ (owners : ℕ → ℕ) (tables : (slot table word : ℕ) → ℕ) where
    abbrev base : Records
    base = prepared r owners tables

    abbrev now : Records
    now = forked_records base head slot child saved signals trap

    -- who is live, with the parameters of this module
    who_lives : (place : ℕ) (other : ProcRec) → IsIn now place other
        → ((place ≡ child) × (other ≡ copy)) ⊎ (((place ≡ slot) × (other ≡ parent)) ⊎ ((place ≡ child → ⊥) × IsIn r place other))
    who_lives place other there = were r head slot child process bank signals trap can owners tables place other there

    -- the child and its parent are outside calls and have the same descriptors
    described_by : (descs : List ℕ) → descs ≡ process.descs → (fd : ℕ) → fd < 8 → slice_index descs fd ≢ 0
        → (description : DescRec) × (r.descs (slice_index descs fd - 1) ≡ Some description) × (description.object ≢ 0)
    described_by descs same fd within named =
        subst (λ (ds : List ℕ). (description : DescRec) × (r.descs (slice_index ds fd - 1) ≡ Some description) × (description.object ≢ 0)) (sym same)
        (can.sound.in_calls.described slot process can.is fd within (subst (λ (ds : List ℕ). slice_index ds fd ≢ 0) same named))

    calls_then : AreInCalls now
    calls_then = record {
      calls = λ place other there state. elim (who_lives place other there) [
        | inl new ↦ let one : other.state ≡ 1 = ap (λ (p : ProcRec). p.state) new.1 in absurd (omega (arith, one, state))
        | inr rest ↦ elim rest [
          | inl own ↦ let one : other.state ≡ 1 = ap (λ (p : ProcRec). p.state) own.1 in absurd (omega (arith, one, state))
          | inr before ↦ call_stays r now refl other (can.sound.in_calls.calls place other before.1 state)
        ]
      ];
      described = λ place other there fd within named. elim (who_lives place other there) [
        | inl new ↦ described_by other.descs (ap (λ (p : ProcRec). p.descs) new.1) fd within named
        | inr rest ↦ elim rest [
          | inl own ↦ described_by other.descs (ap (λ (p : ProcRec). p.descs) own.1) fd within named
          | inr before ↦ can.sound.in_calls.described place other before.1 fd within named
        ]
      ];
    }

    -- each of the five records that are set can be spelled
    values_then : AreValues now
    values_then =
        let head_set = with_record base id.Head (any.Head (forked_head head trap process.pid)) in
        let parent_set = with_record head_set (id.Proc slot) (any.Proc parent) in
        let child_set = with_record parent_set (id.Proc child) (any.Proc copy) in
        let sig_set = with_record child_set (id.Sig child) (any.Sig (forked_signals signals head.next)) in
        values_with sig_set (id.Exit head.next) (any.Exit (forked_exit child))
        (values_with child_set (id.Sig child) (any.Sig (forked_signals signals head.next))
        (values_with parent_set (id.Proc child) (any.Proc copy)
        (values_with head_set (id.Proc slot) (any.Proc parent)
        (values_with base id.Head (any.Head (forked_head head trap process.pid)) (values_too r owners tables can.sound.values) tt forked_head_fits)
        tt parent_fits) tt copy_fits) tt sig_fits) tt exit_fits

    complete_then : AreComplete now
    complete_then =
        let head_set = with_record base id.Head (any.Head (forked_head head trap process.pid)) in
        let parent_set = with_record head_set (id.Proc slot) (any.Proc parent) in
        let child_set = with_record parent_set (id.Proc child) (any.Proc copy) in
        let sig_set = with_record child_set (id.Sig child) (any.Sig (forked_signals signals head.next)) in
        complete_with sig_set (id.Exit head.next) (any.Exit (forked_exit child))
        (complete_with child_set (id.Sig child) (any.Sig (forked_signals signals head.next))
        (complete_with parent_set (id.Proc child) (any.Proc copy)
        (complete_with head_set (id.Proc slot) (any.Proc parent)
        (complete_with base id.Head (any.Head (forked_head head trap process.pid)) (complete_too r owners tables can.sound.complete) tt) tt) tt) tt) tt

    -- the child has the pages that are copied, and all others keep theirs
    module _ (words then_words : WordMap) (prepares : OnlyPrepares child (held_as r words) (held_as (prepared r owners tables) then_words))
        (copies : IsCopied (held_as r words) (held_as (prepared r owners tables) then_words) slot child process) where
      copy_has : HasGrown process 0 copy
      copy_has = record { live = refl; code = refl; values = refl; heap = omega arith }

      others : OthersStay r words child (prepared r owners tables) then_words
      others = others_stay r words child owners tables then_words can.sound prepares

      parent_regions : SameRegions parent process
      parent_regions = record { live = refl; lives = can.is.live; code = refl; values = refl; brk = refl }

      parent_mapped : is_mapped base slot parent ≡ true
      parent_mapped = mapped_same base slot parent process parent_regions ∙ others.mapped slot process can.is (apart r head slot child process bank signals trap can)

      mapped_base : (place : ℕ) (other : ProcRec) → IsIn now place other → is_mapped base place other ≡ true
      mapped_base place other there = elim (who_lives place other there) [
        | inl new ↦ ap (λ (k : ℕ). is_mapped base k other) new.0 ∙ (ap (is_mapped base child) new.1 ∙ copies.mapped copy copy_has)
        | inr rest ↦ elim rest [
          | inl own ↦ ap (λ (k : ℕ). is_mapped base k other) own.0 ∙ (ap (is_mapped base slot) own.1 ∙ parent_mapped)
          | inr before ↦ others.mapped place other before.1 before.0
        ]
      ]

      place_by : (table word : ℕ) (other named : ProcRec) → other ≡ named → is_table_place other table word ≡ false → is_table_place named table word ≡ false
      place_by table word other named same free = sym (ap (λ (p : ProcRec). is_table_place p table word) same) ∙ free

      clean_then : (place : ℕ) (other : ProcRec) → IsIn now place other → (table word : ℕ) → table < 3 → word < 1024
          → is_table_place other table word ≡ false → tables place table word ≡ 0
      clean_then place other there table word few small free = elim (who_lives place other there) [
        | inl new ↦ ap (λ (k : ℕ). tables k table word) new.0 ∙ copies.clean copy copy_has table word few small (place_by table word other copy new.1 free)
        | inr rest ↦ elim rest [
          | inl own ↦
              let none : is_table_place process table word ≡ false =
              sym (places_same parent process table word parent_regions) ∙ place_by table word other parent own.1 free in
              ap (λ (k : ℕ). tables k table word) own.0 ∙ (prepares.tables slot table word (apart r head slot child process bank signals trap can) ∙ can.sound.mapped.clean slot process can.is table word few small none)
          | inr before ↦ prepares.tables place table word before.0 ∙ can.sound.mapped.clean place other before.1 table word few small free
        ]
      ]

      mapped_then : AreMapped now
      mapped_then = record {
        mapped = λ place other there. mapped_stays base (Some (forked_head head trap process.pid)) procs sigs exits place other ∙ mapped_base place other there;
        clean = clean_then;
      }

      forked_sound : AreSound now
      forked_sound = record { complete = complete_then; values = values_then; numbered = numbered_then r head slot child process bank signals trap can owners tables; in_calls = calls_then; mapped = mapped_then }

pub fork_sound : (r : Records) (head : HeadRec) (slot child : ℕ) (process : ProcRec) (bank : Bank) (signals : SigRec) (trap : ℕ)
    → CanFork r head slot child process signals → (words then_words : WordMap) (owners : ℕ → ℕ) (tables : (slot table word : ℕ) → ℕ)
    → OnlyPrepares child (held_as r words) (held_as (prepared r owners tables) then_words)
    → IsCopied (held_as r words) (held_as (prepared r owners tables) then_words) slot child process
    → AreSound (with_items (prepared r owners tables) (fork_items head slot child (saved_process process bank) signals trap))
fork_sound r head slot child process bank signals trap can words then_words owners tables prepares copies =
    subst AreSound (sym (forked_are (prepared r owners tables) head slot child (saved_process process bank) signals trap))
    (forked_sound r head slot child process bank signals trap can owners tables words then_words prepares copies)

-- so a fork keeps records sound
pub fork_keeps : (r : Records) (head : HeadRec) (slot child : ℕ) (process : ProcRec) (bank : Bank) (signals : SigRec) (trap : ℕ)
    → CanFork r head slot child process signals → KeepsSound r slot process (PlanFork child (fork_items head slot child (saved_process process bank) signals trap))
fork_keeps r head slot child process bank signals trap can words then_words new prepares copies =
    let items = fork_items head slot child (saved_process process bank) signals trap in
    let base = prepared r new.owners new.table_words in
    let is_base : new ≡ base = prepares.records in
    let prepares_base = subst (λ (x : Records). OnlyPrepares child (held_as r words) (held_as x then_words)) is_base prepares in
    let copies_base = subst (λ (x : Records). IsCopied (held_as r words) (held_as x then_words) slot child process) is_base copies in
    subst (λ (x : Records). AreSound (with_items x items)) (sym is_base)
    (fork_sound r head slot child process bank signals trap can words then_words new.owners new.table_words prepares_base copies_base)
