-- With which record each process goes on, where the panic damaged nothing, and which slots have none.
use Rattle.std.proofs.Common.{◌≡◌, ℕ, ◌==◌, Bool, true, false, if◌then◌else◌, List, map, Option, Some, None, inl, inr, refl, sym, ap, ◌∙◌, arith}
use Rattle.std.proofs.lemmas.Bool.{cases_Bool}
use Rattle.std.proofs.lemmas.Bool.Decides.{nat_tests}
use Rattle.ow_base.specs.Images.{Image}
use Rattle.record_layouts.specs.declared.dead_proc.DeadProc.{DeadProc}
use Rattle.record_layouts.specs.declared.proc.ProcRec.{ProcRec}
use Rattle.record_layouts.specs.Decode.{is_number, pid_in, slot_by}
use Rattle.record_layouts.specs.Held.{Records}
use Rattle.record_layouts.specs.Images.{records_of_image}
use Rattle.record_layouts.specs.Left.{HandedOver, call_found, dead_proc, has_handed_bank, left_rec, with_handed_bank}
use Rattle.record_layouts.specs.Pages.{is_live, is_mapped}
use Rattle.record_layouts.specs.Proc.{FitsProc}
use Rattle.record_layouts.specs.SoundImages.{IsSoundAtPanic}
use Rattle.record_layouts.proofs.Least.{least_passes}
use Rattle.dead_reader.specs.Losses.{bits_lost}
use Rattle.dead_reader.specs.Processes.{IsDead}
use Rattle.resurrector.specs.Procedures.{brought_out, fate_with, is_lost, revived}
use Rattle.resurrector.specs.Survivors.{fate_of, kept_open, left_in, survivor_in, survivor_left, with_descriptors}
use Rattle.resurrector.proofs.Paged.{IsPagedAs, paged_mapped}
use Rattle.resurrector.proofs.Reviving.{dead_fits, dead_live, revived_fits, revived_live}
use Rattle.resurrector.proofs.Undamaged.{all_open, decoded, fate_there, held, left_is, lost_by, number_is, own_pid, pages_there, pid_there, process, slot_low}
use Rattle.resurrector.proofs.UnhurtRecords.{not_lost}

then_paged : (one other third : ProcRec) → IsPagedAs one other → IsPagedAs other third → IsPagedAs one third
then_paged one other third first second = record {
  live = first.live ∙ second.live;
  code_pages = first.code_pages ∙ second.code_pages;
  data_pages = first.data_pages ∙ second.data_pages;
  brk = first.brk ∙ second.brk;
  pid = first.pid ∙ second.pid;
  descs = first.descs ∙ second.descs;
}

left_paged : (handed : Option HandedOver) (test : Bool) (own : ProcRec) → IsPagedAs (if test then with_handed_bank handed own else own) own
left_paged (Some h) true own = record { live = refl; code_pages = refl; data_pages = refl; brk = refl; pid = refl; descs = refl }
left_paged None true own = record { live = refl; code_pages = refl; data_pages = refl; brk = refl; pid = refl; descs = refl }
left_paged handed false own = record { live = refl; code_pages = refl; data_pages = refl; brk = refl; pid = refl; descs = refl }

revived_paged : (dead : DeadProc) → is_live dead.rec ≡ true → IsPagedAs (revived dead 0) dead.rec
unfolding revived brought_out
revived_paged dead live = elim (cases_Bool (dead.rec.procedure == 0)) [
  | inl plain ↦ elim (cases_Bool dead.aborted) [
    | inl aborted ↦ rw (plain, aborted) (record { live = sym live; code_pages = refl; data_pages = refl; brk = refl; pid = refl; descs = refl })
    | inr whole ↦ rw (plain, whole) (record { live = sym live; code_pages = refl; data_pages = refl; brk = refl; pid = refl; descs = refl })
  ]
  | inr own ↦ elim (cases_Bool dead.aborted) [
    | inl aborted ↦ rw (own, aborted) (record { live = sym live; code_pages = refl; data_pages = refl; brk = refl; pid = refl; descs = refl })
    | inr whole ↦ rw (own, whole) (record { live = sym live; code_pages = refl; data_pages = refl; brk = refl; pid = refl; descs = refl })
  ]
]

revived_state : (dead : DeadProc) → (revived dead 0).state ≡ 1
unfolding revived brought_out
revived_state dead = elim (cases_Bool (dead.rec.procedure == 0)) [
  | inl plain ↦ elim (cases_Bool dead.aborted) [ inl aborted ↦ rw (plain, aborted) refl | inr whole ↦ rw (plain, whole) refl ]
  | inr own ↦ elim (cases_Bool dead.aborted) [ inl aborted ↦ rw (own, aborted) refl | inr whole ↦ rw (own, whole) refl ]
]

open_same : (r : Records) (process : ProcRec) → map (kept_open r) process.descs ≡ process.descs → with_descriptors r process ≡ process
open_same r process same = ap (λ (descs : List ℕ). record process { descs = descs }) same

survivor_with : (r : Records) (dead : DeadProc) → is_lost (fate_with dead 0) ≡ false → bits_lost r dead.slot dead.rec.descs ≡ 0
    → survivor_left r (Some dead) ≡ Some (with_descriptors r (revived dead 0))
survivor_with r dead kept none = rw (none, kept) refl

module _ (i : Image) (steps broken : ℕ) (is : IsSoundAtPanic i steps broken) (h : HandedOver) where
  abbrev r : Records
  r = records_of_image i

  module _ (pid slot : ℕ) (found : slot_by (r.exits pid) ≡ Some slot) where
    abbrev before : ProcRec
    before = process i steps broken is h pid slot found

    abbrev pub dead : DeadProc
    dead = dead_proc r (Some h) slot before

    abbrev pub after : ProcRec
    after = revived dead 0

    is_dead : IsDead r (Some h) slot dead
    is_dead = record {
      process = before;
      decoded = record {
        within = slot_low i steps broken is h pid slot found;
        pid = pid;
        live = pid_there i steps broken is pid slot found;
        there = held i steps broken is h pid slot found;
        decodes = decoded i steps broken is h pid slot found;
      };
      left = refl;
    }

    dead_paged : IsPagedAs dead.rec before
    unfolding dead_proc left_rec
    dead_paged = left_paged (Some h) (has_handed_bank (Some h) r.head before.pid) before

    pub dead_lives : is_live dead.rec ≡ true
    dead_lives = dead_live r (Some h) slot dead is_dead

    after_paged : IsPagedAs after before
    after_paged = then_paged after dead.rec before (revived_paged dead dead_lives) dead_paged

    pub after_mapped : is_mapped r slot after ≡ true
    after_mapped = paged_mapped r slot after before after_paged ∙ pages_there i steps broken is h pid slot found

    pub after_fits : FitsProc after
    after_fits = revived_fits dead 0 (dead_fits r (Some h) slot dead is.values is_dead) dead_lives

    pub after_lives : is_live after ≡ true
    after_lives = revived_live dead 0 (dead_fits r (Some h) slot dead is.values is_dead) dead_lives

    pub after_state : after.state ≡ 1
    after_state = revived_state dead

    pub after_pid : after.pid ≡ pid
    after_pid = after_paged.pid ∙ own_pid i steps broken is h pid slot found

    pub after_descs : after.descs ≡ before.descs
    after_descs = after_paged.descs

    pub stays : is_lost (fate_with dead 0) ≡ false
    unfolding dead_proc
    stays = not_lost dead (call_found (Some h) r.head before) refl refl r i.words slot

    all_stay : map (kept_open r) after.descs ≡ after.descs
    all_stay = rw after_descs (all_open i steps broken is h pid slot found)

    -- the process goes on with the record that is revived
    pub survivor_there : survivor_in r (Some h) slot ≡ Some after
    unfolding survivor_in
    survivor_there =
        ap (λ (o : Option DeadProc). survivor_left r o) (left_is i steps broken is h pid slot found)
        ∙ survivor_with r dead stays (lost_by i steps broken is h pid slot found)
        ∙ ap Some (open_same r after all_stay)

    pub fate_told : fate_of r (Some h) pid ≡ Some (fate_with dead 0)
    unfolding fate_of
    fate_told =
        let same : (pid == pid) ≡ true = grind (arith, nat_tests) in
        rw (found, pid_there i steps broken is pid slot found, same, fate_there i steps broken is h pid slot found) refl

  -- a slot in which no pid is live has no process that goes on
  pub no_survivor : (slot : ℕ) → pid_in r slot ≡ None → survivor_in r (Some h) slot ≡ None
  unfolding survivor_in left_in
  no_survivor slot none = rw none refl

  -- the pid in a slot is live there
  pub pid_is : (slot pid : ℕ) → pid_in r slot ≡ Some pid → slot_by (r.exits pid) ≡ Some slot
  unfolding pid_in
  pid_is slot pid found = number_is (slot_by (r.exits pid)) slot (least_passes (λ q. is_number (slot_by (r.exits q)) slot) 1 256 pid found)
