-- What a descriptor names.
use Rattle.std.proofs.Common.{◌≡◌, ◌≢◌, ℕ, zero, suc, ◌-◌, ◌<◌, List, [], ◌∷◌, slice_get, slice_index, Option, Some, IfSome, inl, inr, refl, subst, ap, ◌∙◌, arith}
use Rattle.std.proofs.lemmas.Bool.{ne_eqb}
use Rattle.ow_base.specs.UserStep.{register}
use Rattle.record_layouts.specs.declared.places.RecordId.TheVariants as id
use Rattle.record_layouts.specs.declared.proc.ProcRec.{ProcRec}
use Rattle.record_layouts.specs.declared.desc.DescRec.{DescRec}
use Rattle.record_layouts.specs.Desc.{FitsDesc}
use Rattle.record_layouts.specs.Held.{Records, AreValues}
use Rattle.record_layouts.specs.Sound.{IsInCall, IsOpenTo, IsTransfer}
use Rattle.syscalls.specs.Planned.{if_open, named, named_by}
use Rattle.syscalls.specs.Serving.{IsInside}

-- a word of a list that is not 0 is there
pub word_there : (words : List ℕ) (i : ℕ) → slice_index words i ≢ 0 → slice_get words i ≡ Some (slice_index words i)
word_there [] i some = absurd (some refl)
word_there (word ∷ words) zero some = refl
word_there (word ∷ words) (suc i) some = word_there words i some

-- a description that is open and on no file is on a terminal
pub terminal_of : (d : DescRec) → FitsDesc d → d.object ≢ 0 → d.object ≢ 1 → d.index < 2
terminal_of d (inl closed) opened other = absurd (opened closed.object)
terminal_of d (inr (inl file)) opened other = absurd (other file.object)
terminal_of d (inr (inr terminal)) opened other = omega (arith, terminal.index)

-- a description that is open to write is open
open_to_write : (d : DescRec) → FitsDesc d → IsOpenTo 2 d → d.object ≢ 0
open_to_write d (inl closed) (inl writes) none = omega (arith, closed.mode, writes)
open_to_write d (inl closed) (inr both) none = omega (arith, closed.mode, both)
open_to_write d (inr (inl file)) opens none = omega (arith, file.object)
open_to_write d (inr (inr terminal)) opens none = omega (arith, terminal.object)

open_there : (d : DescRec) → d.object ≢ 0 → if_open (Some d) ≡ Some d
open_there d opened = rw (ne_eqb d.object 0 opened) refl

word_names : (r : Records) (word : ℕ) (d : DescRec) → word ≢ 0 → r.descs (word - 1) ≡ Some d → d.object ≢ 0 → named_by r.descs (Some word) ≡ Some d
word_names r word d some there opened = rw (ne_eqb word 0 some) (ap if_open there ∙ open_there d opened)

-- a process in a write has the description that it is on
pub transfer_names : (r : Records) (process : ProcRec) (d : DescRec) → IsTransfer r process 2 d → FitsDesc d
    → named r process.descs (register process.regs 10) ≡ Some d
unfolding named
transfer_names r process d is fits =
    let fd = register process.regs 10 in
    let word = slice_index process.descs fd in
    ap (named_by r.descs) (word_there process.descs fd is.named) ∙ word_names r word d is.named is.there (open_to_write d fits is.allowed)

-- what is known of a process in a write
pub record InWrite (r : Records) (process : ProcRec) : Type 0 where
  pub description : DescRec
  pub fits : FitsDesc description
  pub transfer : IsTransfer r process 2 description
  pub is_named : named r process.descs (register process.regs 10) ≡ Some description

fits_there : (held : Option DescRec) (d : DescRec) → IfSome held FitsDesc → held ≡ Some d → FitsDesc d
fits_there held d fits is = let P : Option DescRec → Type 0 = λ o. IfSome o FitsDesc in subst P is fits

by_transfer : (r : Records) (process : ProcRec) → AreValues r → (d : DescRec) × IsTransfer r process 2 d → InWrite r process
by_transfer r process values (d, is) =
    let fits = fits_there (r.descs (slice_index process.descs (register process.regs 10) - 1)) d (values (id.Desc (slice_index process.descs (register process.regs 10) - 1))) is.there in
    record { description = d; fits = fits; transfer = is; is_named = transfer_names r process d is fits }

transfer_of : (r : Records) (process : ProcRec) → IsInCall r process → process.call ≡ 2 → (d : DescRec) × IsTransfer r process 2 d
transfer_of r process (inl (is, transfer)) call = transfer
transfer_of r process (inr (inl reads)) call = absurd (omega (arith, call, reads.0))
transfer_of r process (inr (inr waits)) call = absurd (omega (arith, call, waits.0))

pub in_write : (r : Records) (process : ProcRec) → AreValues r → IsInCall r process → process.call ≡ 2 → InWrite r process
in_write r process values inside call = by_transfer r process values (transfer_of r process inside call)

-- the process of a slot is in its call
pub call_in : (r : Records) (slot : ℕ) (process : ProcRec) → r.procs slot ≡ Some process → IsInside r (r.procs slot) → IsInCall r process
call_in r slot process there inside = (subst (IsInside r) there inside).1

-- what is found in its descriptor is that description
pub found : (r : Records) (slot fd : ℕ) (process : ProcRec) (result : Option DescRec) → r.procs slot ≡ Some process → fd ≡ register process.regs 10
    → IfSome (r.procs slot) (λ held. result ≡ named r held.descs fd) → (is : InWrite r process) → result ≡ Some is.description
found r slot fd process result there same looked is =
    let here : result ≡ named r process.descs fd = let P : Option ProcRec → Type 0 = λ o. IfSome o (λ held. result ≡ named r held.descs fd) in subst P there looked in
    here ∙ ap (named r process.descs) same ∙ is.is_named
