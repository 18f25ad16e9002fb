-- The record with which a process goes on that lost nothing stands for the process that Abort leaves.
use Rattle.std.proofs.Common.{◌≡◌, ℕ, ◌+◌, ◌/◌, ◌%◌, ◌==◌, true, false, if◌then◌else◌, Option, Some, None, inl, inr, refl, sym, ap, ◌∙◌, arith}
use Rattle.std.proofs.lemmas.Bool.{cases_Bool}
use Rattle.std.proofs.lemmas.Bool.Decides.{nat_tests}
use Rattle.ow_base.specs.Sv32.{WordMap}
use Rattle.ow_base.specs.UserStep.{with_register}
use Rattle.ow_base.specs.Words.{minus, wrapped}
use Rattle.record_layouts.specs.declared.dead_proc.DeadProc.{DeadProc}
use Rattle.record_layouts.specs.declared.proc.ProcRec.{ProcRec}
use Rattle.record_layouts.specs.Decode.{procedure_save_of, process_of}
use Rattle.record_layouts.specs.Held.{Records}
use Rattle.record_layouts.specs.Pages.{frame_of, is_live, pages_of, region_of}
use Rattle.record_layouts.specs.Unix.State.{Process, Out}
use Rattle.record_layouts.specs.Unix.Abort.{bit_if, context_with, fate_of_call, is_aborted, is_made_again, mask_with, stands_at}
use Rattle.record_layouts.specs.Unix.Abort.{in_procedure as enters}
use Rattle.record_layouts.specs.declared.fates.Fate.TheVariants as fate
use Rattle.resurrector.specs.Procedures.{aborted_call, bits_told, brought_out, context_saved, fate_by_call, fate_with, in_procedure, is_in_procedure, is_lost, mask_told, revived}
use Rattle.resurrector.proofs.Paged.{paged_pages}
use Rattle.resurrector.proofs.Unhurt.{carried_on, fate_by, outside}

context_same : (process : ProcRec) → context_with (procedure_save_of process) (record { pc = process.pc; regs = process.regs }) ≡ context_saved process
context_same process = elim (cases_Bool (process.flags / 2 == 1)) [
  | inl runs ↦ rw runs refl
  | inr rests ↦ rw rests refl
]

-- a process outside its call
module _ (r : Records) (words : WordMap) (slot : ℕ) (process : ProcRec) (live : is_live process ≡ true) where
  abbrev out : ProcRec
  out = record process { state = 1; call = 0; done = 0 }

  whole_same : process_of r words slot out ≡ record (process_of r words slot process) { call = Out }
  unfolding process_of
  whole_same = rw (paged_pages r words slot out process (record { live = sym live; code_pages = refl; data_pages = refl; brk = refl; pid = refl; descs = refl })) refl

  aborted_same : process_of r words slot (aborted_call out)
      ≡ record (process_of r words slot process) { call = Out; bank = record { pc = wrapped (process.pc + 4); regs = with_register process.regs 10 (minus 200) } }
  unfolding process_of
  aborted_same = rw (paged_pages r words slot (aborted_call out) process (record { live = sym live; code_pages = refl; data_pages = refl; brk = refl; pid = refl; descs = refl })) refl

module _ (dead : DeadProc) (call : Option ℕ) (aborted : dead.aborted ≡ is_aborted call) (stands : dead.stands ≡ stands_at call) where
  by_call : fate_by_call dead ≡ fate_of_call call
  by_call = rw (aborted, stands) (by_number call) where
    by_number : (o : Option ℕ) → (if is_aborted o then fate.Aborted else if stands_at o then fate.Stands else fate.Goes) ≡ fate_of_call o
    by_number (Some number) = elim (cases_Bool (is_made_again number)) [
      | inl again ↦ rw again refl
      | inr once ↦ rw once refl
    ]
    by_number None = refl

  bits_same : bits_told dead 0 ≡ 0 + bit_if (is_aborted call) 16
  bits_same = rw aborted (elim (cases_Bool (is_aborted call)) [
    | inl is ↦ rw is refl
    | inr not_one ↦ rw not_one refl
  ])

  mask_same : mask_told dead 0 ≡ mask_with (procedure_save_of dead.rec) (0 + bit_if (is_aborted call) 16)
  unfolding mask_told
  mask_same = elim (cases_Bool (is_in_procedure dead.rec)) [
    | inl runs ↦ rw (runs, bits_same) refl
    | inr rests ↦ rw (rests, bits_same) refl
  ]

  module _ (r : Records) (words : WordMap) (slot : ℕ) where
    pub fate_same : fate_with dead 0 ≡ fate_by call (process_of r words slot dead.rec)
    unfolding fate_with process_of
    fate_same = elim (cases_Bool (dead.rec.procedure == 0)) [
      | inl plain ↦ rw plain by_call
      | inr own ↦ rw (own, mask_same) refl
    ]

    pub not_lost : is_lost (fate_with dead 0) ≡ false
    unfolding fate_with
    not_lost = elim (cases_Bool (dead.rec.procedure == 0)) [
      | inl plain ↦ rw (plain, by_call) (never call)
      | inr own ↦ rw own refl
    ]
      where
        never : (o : Option ℕ) → is_lost (fate_of_call o) ≡ false
        never (Some number) = elim (cases_Bool (is_made_again number)) [
          | inl again ↦ rw again refl
          | inr once ↦ rw once refl
        ]
        never None = refl

    out_same : is_live dead.rec ≡ true → process_of r words slot (brought_out dead) ≡ outside call (process_of r words slot dead.rec)
    unfolding brought_out process_of
    out_same live = elim (cases_Bool (is_aborted call)) [
      | inl is ↦ rw (aborted, is) (aborted_same r words slot dead.rec live)
      | inr not_one ↦ rw (aborted, not_one) (whole_same r words slot dead.rec live)
    ]

    enters_same : (mask : ℕ) (process : ProcRec) → process_of r words slot (in_procedure mask process) ≡ enters mask (process_of r words slot process)
    unfolding process_of pages_of frame_of region_of
    enters_same mask process =
        let runs : ((process.flags % 2 + 2) / 2 == 1) ≡ true = grind (arith, nat_tests) in
        let same : (process.flags % 2 + 2) % 2 ≡ process.flags % 2 = omega arith in
        rw (runs, same, context_same process) refl

    pub process_same : is_live dead.rec ≡ true → process_of r words slot (revived dead 0) ≡ carried_on call (process_of r words slot dead.rec)
    unfolding revived process_of
    process_same live = elim (cases_Bool (dead.rec.procedure == 0)) [
      | inl plain ↦ rw plain (out_same live)
      | inr own ↦ rw (own, mask_same) (enters_same _ (brought_out dead) ∙ ap (λ (p : Process). enters (mask_with (procedure_save_of dead.rec) (0 + bit_if (is_aborted call) 16)) p) (out_same live))
    ]
