-- What a panic left that damaged nothing: each process that was live decodes, and has lost nothing.
use Rattle.std.proofs.Common.{◌≡◌, ℕ, suc, ◌+◌, ◌-◌, ◌<◌, ◌≤◌, ◌==◌, ◌&&◌, Bool, true, false, not, nat_lt, if◌then◌else◌, List, [], ◌∷◌, length, map, slice_index, take, drop, Option, Some, None, IfSome, is_some, inl, inr, refl, sym, ap, subst, ◌∙◌, arith}
use Rattle.std.proofs.lemmas.Bool.{cases_Bool, lt-ltb}
use Rattle.std.proofs.lemmas.Bool.Decides.{nat_tests}
use Rattle.std.proofs.lemmas.Grind.{common_steps}
use Rattle.ow_base.specs.Images.{Image}
use Rattle.record_layouts.specs.declared.dead_proc.DeadProc.{DeadProc}
use Rattle.record_layouts.specs.declared.desc.DescRec.{DescRec}
use Rattle.record_layouts.specs.declared.places.RecordId.TheVariants as id
use Rattle.record_layouts.specs.declared.proc.ProcRec.{ProcRec}
use Rattle.record_layouts.specs.Decode.{decodes, is_number, pid_in, slot_by}
use Rattle.record_layouts.specs.Desc.{FitsDesc, is_on_file, is_on_terminal}
use Rattle.record_layouts.specs.Held.{Records}
use Rattle.record_layouts.specs.Images.{records_of_image}
use Rattle.record_layouts.specs.Left.{HandedOver, dead_proc, has_handed_bank, left_rec, may_lack_page, with_handed_bank}
use Rattle.record_layouts.specs.LeftImages.{unix_left, wounds_of}
use Rattle.record_layouts.specs.Pages.{is_live, is_mapped}
use Rattle.record_layouts.specs.Proc.{proc_in}
use Rattle.record_layouts.specs.Reading.{records_in, records_of}
use Rattle.record_layouts.specs.Sound.{IsIn}
use Rattle.record_layouts.specs.SoundImages.{IsSoundAtPanic}
use Rattle.record_layouts.specs.Spelling.{lies_between}
use Rattle.record_layouts.specs.Terminals.{terminal_decodes}
use Rattle.record_layouts.specs.Unix.Wounds.{Wounds, no_wounds}
use Rattle.record_layouts.proofs.LeftImages.{whole}
use Rattle.record_layouts.proofs.Least.{any_none, least_found}
use Rattle.record_layouts.proofs.Reading.{proc_is}
use Rattle.dead_reader.specs.Losses.{bit_if, bits_lost, loses_at, one_loses}
use Rattle.resurrector.specs.Procedures.{fate_with}
use Rattle.resurrector.specs.Survivors.{fate_in, kept_open, left_in}
use Rattle.resurrector.proofs.Outcomes.{no_owner}

pub number_is : (o : Option ℕ) (slot : ℕ) → is_number o slot ≡ true → o ≡ Some slot
number_is (Some n) slot is = let same : n ≡ slot = grind (arith, nat_tests, is) in ap Some same
number_is None slot is = absurd (cc is)

pub is_there : {A : Type 0} (o : Option A) → is_some o ≡ true → (a : A) × (o ≡ Some a)
is_there (Some a) there = (a, refl)
is_there None there = absurd (cc there)

-- words that stay one by one stay
map_same : (f : ℕ → ℕ) (words : List ℕ) → ((k : ℕ) → k < length words → f (slice_index words k) ≡ slice_index words k) → map f words ≡ words
map_same f [] each = refl
map_same f (word ∷ words) each =
    let first : f word ≡ word = each 0 (omega arith) in
    rw (first, map_same f words (λ k less. each (suc k) (omega (arith, less)))) refl

-- a process has eight words of descriptors
eight_words : (words descs : List ℕ) → length words ≡ 128 → take 8 (drop 13 words) ≡ descs → length descs ≡ 8
eight_words words descs long is = sym (ap (λ (ws : List ℕ). length ws) is) ∙ grind (arith, common_steps, long)

eight_if : (test : Bool) (read : List ℕ) (process : ProcRec) → (if test then proc_in read else None) ≡ Some process → length process.descs ≡ 8
eight_if true read process there = let is = proc_is read process there in eight_words read process.descs is.long is.descs
eight_if false read process there = absurd (cc there)

-- what was handed over is no more than registers and a pc
left_descs : (handed : Option HandedOver) (test : Bool) (process : ProcRec) → (if test then with_handed_bank handed process else process).descs ≡ process.descs
left_descs (Some h) true process = refl
left_descs None true process = refl
left_descs handed false process = refl

-- no descriptor loses anything, so there are no bits
none_loses : (r : Records) (descs : List ℕ) (one : _) → ((k : ℕ) → k < 8 → loses_at r one descs k ≡ false) → one_loses r one descs ≡ false
unfolding one_loses
none_loses r descs one keeps = any_none (loses_at r one descs) 0 8 8 refl (record { none = λ k from to. keeps k to })

no_bits : (r : Records) (slot : ℕ) (descs : List ℕ) (one two three : _) → ((k : ℕ) → k < 8 → loses_at r one descs k ≡ false)
    → ((k : ℕ) → k < 8 → loses_at r two descs k ≡ false) → ((k : ℕ) → k < 8 → loses_at r three descs k ≡ false) → is_some (r.sigs slot) ≡ true
    → bit_if (one_loses r one descs) 1 + bit_if (one_loses r two descs) 2 + bit_if (one_loses r three descs) 4 + bit_if (not (is_some (r.sigs slot))) 8 ≡ 0
no_bits r slot descs one two three first second third there =
    rw (none_loses r descs one first, none_loses r descs two second, none_loses r descs three third, there) refl

module _ (i : Image) (steps broken : ℕ) (is : IsSoundAtPanic i steps broken) where
  abbrev r : Records
  r = records_of_image i

  pub exit_out : (pid : ℕ) → lies_between 1 256 pid ≡ false → r.exits pid ≡ None
  unfolding records_of records_in
  exit_out pid out = rw out refl

  -- a pid that is live is one of 256
  pub pid_within : (pid slot : ℕ) → slot_by (r.exits pid) ≡ Some slot → (1 ≤ pid) × (pid ≤ 256)
  pid_within pid slot found = elim (cases_Bool (lies_between 1 256 pid)) [
    | inl inside ↦ (grind (arith, nat_tests, inside), grind (arith, nat_tests, inside))
    | inr out ↦ absurd (cc (rw (exit_out pid out) at found))
  ]

  pub pid_there : (pid slot : ℕ) → slot_by (r.exits pid) ≡ Some slot → pid_in r slot ≡ Some pid
  unfolding pid_in
  pid_there pid slot found =
      let within = pid_within pid slot found in
      let same : (slot == slot) ≡ true = grind (arith, nat_tests) in
      least_found (λ q. is_number (slot_by (r.exits q)) slot) 1 256 257 pid refl (record {
        from = within.0;
        to = omega (arith, within.1);
        passes = rw (found, same) refl;
        below = record {
          none = λ k from to. elim (cases_Bool (is_number (slot_by (r.exits k)) slot)) [
            | inl also ↦
                let one : k ≡ pid = is.numbered.one_slot k pid slot (number_is _ slot also) found in
                absurd (omega (arith, one, to))
            | inr other ↦ other
          ];
        };
      })

  pub eight : (slot : ℕ) (process : ProcRec) → r.procs slot ≡ Some process → length process.descs ≡ 8
  unfolding records_of records_in
  eight slot process there = eight_if (nat_lt slot 16) _ process there

  pub head_there : is_some r.head ≡ true
  head_there = is.complete id.Head tt

  pub few_owners : (frame : ℕ) → r.map.user_frames ≤ frame → r.owners frame ≡ 0
  few_owners frame past = no_owner _ i.words frame past

  module _ (h : HandedOver) where
    nothing_lost : wounds_of i i (λ tty. 0) ≡ no_wounds (unix_left i h 0 0)
    nothing_lost = whole i steps broken is h (λ tty. 0) 0 0

    pub no_page_lost : (file : ℕ) → may_lack_page r file ≡ false
    unfolding wounds_of no_wounds
    no_page_lost file = ap (λ (x : Wounds). x.paged file) nothing_lost

    pub terminals_there : (tty : ℕ) → tty < 2 → terminal_decodes r tty ≡ true
    unfolding wounds_of no_wounds
    terminals_there tty low = elim (cases_Bool (terminal_decodes r tty)) [
      | inl there ↦ there
      | inr lost ↦ absurd (cc (rw (lt-ltb tty 2 low, lost) at (ap (λ (x : Wounds). x.ttys tty) nothing_lost)))
    ]

    -- a description that is there has lost nothing
    module _ (d : DescRec) (fits : FitsDesc d) where
      file_there : is_on_file d ≡ true → is_some (r.files d.index) ≡ true
      file_there on = is.complete (id.File d.index) (grind (arith, nat_tests, fits, on))

      terminal_there : is_on_terminal d ≡ true → terminal_decodes r d.index ≡ true
      terminal_there on = terminals_there d.index (grind (arith, nat_tests, fits, on))

      file_kept : (is_on_file d && not (is_some (r.files d.index))) ≡ false
      file_kept = elim (cases_Bool (is_on_file d)) [
        | inl on ↦ rw (on, file_there on) refl
        | inr off ↦ rw off refl
      ]

      page_kept : (is_on_file d && may_lack_page r d.index) ≡ false
      page_kept = elim (cases_Bool (is_on_file d)) [
        | inl on ↦ rw (on, no_page_lost d.index) refl
        | inr off ↦ rw off refl
      ]

      terminal_kept : (is_on_terminal d && not (terminal_decodes r d.index)) ≡ false
      terminal_kept = elim (cases_Bool (is_on_terminal d)) [
        | inl on ↦ rw (on, terminal_there on) refl
        | inr off ↦ rw off refl
      ]

    -- a process that was live
    module _ (pid slot : ℕ) (found : slot_by (r.exits pid) ≡ Some slot) where
      abbrev pub process : ProcRec
      process = (is.numbered.process pid slot found).0

      inside : IsIn r slot process
      inside = (is.numbered.process pid slot found).1

      pub own_pid : process.pid ≡ pid
      own_pid = (is.numbered.process pid slot found).2

      pub held : r.procs slot ≡ Some process
      held = inside.there

      pub slot_low : slot < 16
      slot_low = inside.within

      pub lives : is_live process ≡ true
      lives = inside.live

      pub pages_there : is_mapped r slot process ≡ true
      pages_there = is.mapped slot process inside

      pub decoded : decodes r slot pid process ≡ true
      decoded =
          let same : (process.pid == pid) ≡ true = grind (arith, nat_tests, own_pid) in
          rw (head_there, lives, same, pages_there) refl

      pub signals_there : is_some (r.sigs slot) ≡ true
      signals_there = is.complete (id.Sig slot) slot_low

      pub left_is : left_in r (Some h) slot ≡ Some (dead_proc r (Some h) slot process)
      unfolding left_in
      left_is = rw (pid_there pid slot found, held, decoded) refl

      description_there : (k : ℕ) → k < 8 → (slice_index process.descs k == 0) ≡ false
          → (d : DescRec) × (r.descs (slice_index process.descs k - 1) ≡ Some d) × FitsDesc d
      description_there k less some =
          let (d, there, used) = is.in_calls.described slot process inside k less (λ e. absurd (grind (arith, nat_tests, e, some))) in
          (d, there, subst (λ (o : Option DescRec). IfSome o FitsDesc) there (is.values (id.Desc (slice_index process.descs k - 1))))

      still_open : (k : ℕ) → k < 8 → kept_open r (slice_index process.descs k) ≡ slice_index process.descs k
      still_open k less = elim (cases_Bool (slice_index process.descs k == 0)) [
        | inl none ↦ rw none refl
        | inr some ↦ let (d, there, fits) = description_there k less some in rw (some, there, file_kept d fits) refl
      ]

      pub all_open : map (kept_open r) process.descs ≡ process.descs
      all_open = map_same (kept_open r) process.descs (λ k less. still_open k (omega (arith, less, eight slot process held)))

      pub none_lost : bits_lost r slot process.descs ≡ 0
      unfolding bits_lost
      none_lost = no_bits r slot process.descs _ _ _
          (λ k less. elim (cases_Bool (slice_index process.descs k == 0)) [
            | inl none ↦ rw none refl
            | inr some ↦ let (d, there, fits) = description_there k less some in rw (some, there, file_kept d fits) refl
          ])
          (λ k less. elim (cases_Bool (slice_index process.descs k == 0)) [
            | inl none ↦ rw none refl
            | inr some ↦ let (d, there, fits) = description_there k less some in rw (some, there, page_kept d fits) refl
          ])
          (λ k less. elim (cases_Bool (slice_index process.descs k == 0)) [
            | inl none ↦ rw none refl
            | inr some ↦ let (d, there, fits) = description_there k less some in rw (some, there, terminal_kept d fits) refl
          ])
          signals_there

      abbrev dead : DeadProc
      dead = dead_proc r (Some h) slot process

      pub same_descs : dead.rec.descs ≡ process.descs
      unfolding dead_proc left_rec
      same_descs = left_descs (Some h) (has_handed_bank (Some h) r.head process.pid) process

      pub lost_by : bits_lost r dead.slot dead.rec.descs ≡ 0
      unfolding dead_proc
      lost_by = ap (λ (descs : List ℕ). bits_lost r slot descs) same_descs ∙ none_lost

      pub fate_there : fate_in r (Some h) slot ≡ fate_with dead 0
      unfolding fate_in
      fate_there = rw (left_is, lost_by) refl
