-- What the records of a process that is left say.
use Rattle.std.proofs.Common.{◌≡◌, ℕ, ◌≤◌, Bool, true, false, if◌then◌else◌, List, slice_index, EachIndex, Option, Some, None, refl, sym, ap, subst, ◌∙◌}
use Rattle.std.proofs.lemmas.Bool.{and_parts}
use Rattle.record_layouts.specs.declared.dead_proc.DeadProc.{DeadProc}
use Rattle.record_layouts.specs.declared.head.HeadRec.{HeadRec}
use Rattle.record_layouts.specs.declared.proc.ProcRec.{ProcRec}
use Rattle.record_layouts.specs.Held.{AreValues, Records}
use Rattle.record_layouts.specs.Left.{HandedOver, dead_proc, left_rec, with_handed_bank}
use Rattle.record_layouts.specs.Pages.{is_live}
use Rattle.frame_table.proofs.Counting.{fits_there, live_fits}
use Rattle.dead_reader.specs.Processes.{IsDead}

-- descriptor words that are 0 or one more than the number of a description
abbrev pub AreDescriptors : List ℕ → Type 0
AreDescriptors descs = EachIndex descs (λ k. slice_index descs k ≤ 32)

with_same : (test : Bool) (handed : Option HandedOver) (process : ProcRec)
    → (if test then with_handed_bank handed process else process).descs ≡ process.descs
with_same true (Some h) process = refl
with_same true None process = refl
with_same false handed process = refl

-- what is handed over is no descriptor
left_descs : (handed : Option HandedOver) (head : Option HeadRec) (process : ProcRec) → (left_rec handed head process).descs ≡ process.descs
unfolding left_rec
left_descs handed head process = with_same _ handed process

pub dead_descs : (r : Records) (handed : Option HandedOver) (slot : ℕ) (dead : DeadProc) → AreValues r → IsDead r handed slot dead → AreDescriptors dead.rec.descs
unfolding dead_proc
dead_descs r handed slot dead values is =
    let process = is.process in
    let fits = fits_there r slot process values is.decoded.there in
    let live : is_live process ≡ true = (and_parts _ _ (and_parts _ _ (and_parts _ _ is.decoded.decodes).0).0).1 in
    let same : dead.rec.descs ≡ process.descs = ap (λ (d : DeadProc). d.rec.descs) is.left ∙ left_descs handed r.head process in
    subst AreDescriptors (sym same) (live_fits process fits live).descs
