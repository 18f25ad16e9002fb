-- The description that a descriptor names, by the records and in the state that they stand for.
use Rattle.std.proofs.Common.{◌≡◌, ◌==◌, ◌||◌, ◌%◌, ℕ, zero, suc, ◌+◌, ◌-◌, ◌<◌, ◌≤◌, Bool, true, false, List, [], ◌∷◌, map, slice_get, Option, Some, None, inl, inr, refl, ap, ◌∙◌, arith}
use Rattle.std.specs.Prelude.{option_and_then}
use Rattle.std.proofs.lemmas.Bool.{cases_Bool}
use Rattle.std.proofs.lemmas.Bool.Decides.{nat_tests}
use Rattle.record_layouts.specs.declared.desc.DescRec.{DescRec}
use Rattle.record_layouts.specs.Unix.State.{Process, Description, in_use, is_among, is_named, is_named_by, is_this}
use Rattle.record_layouts.specs.Unix.Calls.{flat}
use Rattle.record_layouts.specs.Held.{Records}
use Rattle.record_layouts.specs.Decode.{description_by, descriptor_of, object_of}
use Rattle.syscalls.specs.Planned.{if_open, is_written, named, named_by}

-- a description by its record
abbrev pub described_as : DescRec → Description
described_as d = record { object = object_of d; reads = d.mode % 2 == 1; writes = is_written d; offset = d.offset }

abbrev pub described : Option DescRec → Option Description
described (Some d) = Some (described_as d)
described None = None

described_open : (held : Option DescRec) → description_by held ≡ described (if_open held)
described_open None = refl
described_open (Some d) = elim (cases_Bool (d.object == 0)) [ inl closed ↦ rw closed refl | inr isnt ↦ rw isnt refl ]

-- the descriptors of a process, by its words
get_map : (words : List ℕ) (i : ℕ) (held : Option ℕ) → slice_get words i ≡ held → flat (slice_get (map descriptor_of words) i) ≡ option_and_then descriptor_of held
get_map [] i None is = refl
get_map [] i (Some word) is = cc
get_map (w ∷ words) zero None is = cc
get_map (w ∷ words) zero (Some word) is = let same : w ≡ word = cc in ap descriptor_of same
get_map (w ∷ words) (suc i) held is = get_map words i held is

either : (test : Bool) → (test || true) ≡ true
either true = refl
either false = refl

among : (words : List ℕ) (i word : ℕ) → slice_get words i ≡ Some word → (word == 0) ≡ false → is_among (word - 1) (map descriptor_of words) ≡ true
unfolding is_among
among [] i word is some = cc
among (w ∷ words) zero word is some =
    let same : w ≡ word = cc in
    let here : is_this (descriptor_of w) (word - 1) ≡ true = rw same (rw some (grind (arith, nat_tests))) in
    rw here refl
among (w ∷ words) (suc i) word is some = rw (among words i word is some) (either (is_this (descriptor_of w) (word - 1)))

named_within : (ps : ℕ → Option Process) (pid number : ℕ) (p : Process) (first count : ℕ) → ps pid ≡ Some p → is_among number p.descriptors ≡ true → first ≤ pid → pid < first + count
    → is_named ps number first count ≡ true
unfolding is_named
named_within ps pid number p first zero there named from to = absurd (omega arith)
named_within ps pid number p first (suc count) there named from to = elim (cases_Bool (first == pid)) [
  | inl same ↦
      let equal : first ≡ pid = grind (arith, nat_tests) in
      let here : is_named_by number (ps first) ≡ true = rw equal (rw there named) in
      rw here refl
  | inr apart ↦
      let later : first + 1 ≤ pid = grind (arith, nat_tests) in
      rw (named_within ps pid number p (first + 1) count there named later (omega arith)) (either (is_named_by number (ps first)))
]

by_word : (r : Records) (ps : ℕ → Option Process) (pid : ℕ) (p : Process) (words : List ℕ) (i : ℕ) (held : Option ℕ) → slice_get words i ≡ held
    → ps pid ≡ Some p → p.descriptors ≡ map descriptor_of words → 1 ≤ pid → pid ≤ 256
    → option_and_then (in_use ps (λ n. description_by (r.descs n))) (option_and_then descriptor_of held) ≡ described (named_by r.descs held)
unfolding in_use
by_word r ps pid p words i None is there descriptors from to = refl
by_word r ps pid p words i (Some word) is there descriptors from to = elim (cases_Bool (word == 0)) [
  | inl none ↦ rw none refl
  | inr some ↦
      let listed : is_among (word - 1) p.descriptors ≡ true = rw descriptors (among words i word is some) in
      let used : is_named ps (word - 1) 1 256 ≡ true = named_within ps pid (word - 1) p 1 256 there listed from (omega arith) in
      rw some (rw used (described_open (r.descs (word - 1))))
]

pub description_is : (r : Records) (ps : ℕ → Option Process) (pid : ℕ) (p : Process) (words : List ℕ) (fd : ℕ) → ps pid ≡ Some p
    → p.descriptors ≡ map descriptor_of words → 1 ≤ pid → pid ≤ 256
    → option_and_then (in_use ps (λ n. description_by (r.descs n))) (flat (slice_get p.descriptors fd)) ≡ described (named r words fd)
unfolding named
description_is r ps pid p words fd there descriptors from to =
    ap (λ (ds : List (Option ℕ)). option_and_then (in_use ps (λ n. description_by (r.descs n))) (flat (slice_get ds fd))) descriptors
    ∙ (ap (option_and_then (in_use ps (λ n. description_by (r.descs n)))) (get_map words fd (slice_get words fd) refl)
    ∙ by_word r ps pid p words fd (slice_get words fd) refl there descriptors from to)
