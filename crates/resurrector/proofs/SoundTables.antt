-- The tables of a kernel that was built after a panic which damaged nothing: they lead to a frame for each page of a process
-- that goes on, and have no other word.
use Rattle.std.proofs.Common.{◌≡◌, ℕ, ◌+◌, ◌<◌, ◌==◌, true, false, List, Option, Some, None, is_some, inl, inr, refl, ap, subst, ◌∙◌, arith}
use Rattle.std.proofs.lemmas.Bool.{cases_Bool}
use Rattle.std.proofs.lemmas.Bool.Decides.{nat_tests}
use Rattle.ow_base.specs.Images.{Image}
use Rattle.ow_base.specs.Sv32.{WordMap}
use Rattle.ow_base.specs.declared.machine.Rights.{Rights}
use Rattle.kernel_builder.specs.Plan.{entry_word, page_entry, root_entry}
use Rattle.kernel_builder.specs.declared.blueprint.Placed.{Placed}
use Rattle.record_layouts.specs.declared.proc.ProcRec.{ProcRec}
use Rattle.record_layouts.specs.Decode.{slot_by}
use Rattle.record_layouts.specs.Held.{Records}
use Rattle.record_layouts.specs.Images.{records_of_image}
use Rattle.record_layouts.specs.Left.{HandedOver}
use Rattle.record_layouts.specs.Pages.{frame_of, is_mapped, region_of}
use Rattle.record_layouts.specs.Sound.{AreMapped, is_table_place}
use Rattle.record_layouts.specs.SoundImages.{IsSoundAtPanic}
use Rattle.resurrector.specs.Rebuilt.{IsRevived}
use Rattle.resurrector.specs.Revived.{placed_by, revived_page, revived_plan}
use Rattle.resurrector.specs.Survivors.{survivor_in}
use Rattle.resurrector.proofs.RebuiltPages.{mapped}
use Rattle.resurrector.proofs.SoundSlots.{was_live}
use Rattle.resurrector.proofs.Survivals.{after, after_fits, after_lives, after_mapped, survivor_there}
use Rattle.resurrector.proofs.Undamaged.{few_owners, slot_low}

none_placed : (r : Records) (frame : Option ℕ) (rights : Option Rights) → is_some rights ≡ false → placed_by r frame rights ≡ None
none_placed r (Some frame) (Some rights) none = absurd (cc none)
none_placed r (Some frame) None none = refl
none_placed r None rights none = refl

module _ (i : Image) (most broken : ℕ) (sound : IsSoundAtPanic i most broken) (h : HandedOver) (counts : List ℕ)
    (next : Records) (next_words : WordMap) (is : IsRevived (records_of_image i) (Some h) counts i.words next next_words) where
  abbrev r : Records
  r = records_of_image i

  module _ (pid slot : ℕ) (found : slot_by (r.exits pid) ≡ Some slot) where
    abbrev now : ProcRec
    now = after i most broken sound h pid slot found

    now_mapped : is_mapped next slot now ≡ true
    now_mapped = mapped r next (Some h) counts i.words next_words is (few_owners i most broken sound) slot (slot_low i most broken sound h pid slot found)
        now (survivor_there i most broken sound h pid slot found) (after_fits i most broken sound h pid slot found) (after_lives i most broken sound h pid slot found)
        (after_mapped i most broken sound h pid slot found)

    no_page : (page : ℕ) → is_some (region_of now page) ≡ false → revived_page r (Some h) slot page ≡ None
    unfolding revived_page
    no_page page none = rw (survivor_there i most broken sound h pid slot found) (none_placed r (frame_of r slot now page) (region_of now page) none)

    no_entry : (page : ℕ) → is_some (region_of now page) ≡ false → page_entry next.map.pool_base (revived_page r (Some h) slot page) ≡ 0
    no_entry page none = ap (λ (o : Option Placed). page_entry next.map.pool_base o) (no_page page none)

    no_pointer : (frame word : ℕ) → is_table_place now 0 word ≡ false → root_entry frame word ≡ 0
    no_pointer frame word unused = elim (cases_Bool (word == 0)) [
      | inl first ↦ absurd (cc (rw first at unused))
      | inr other ↦ elim (cases_Bool (word == 511)) [
        | inl last ↦ absurd (cc (rw (other, last) at unused))
        | inr neither ↦ rw (other, neither) refl
      ]
    ]

    no_word : (table word : ℕ) → table < 3 → is_table_place now table word ≡ false → entry_word next.map (revived_plan r (Some h) counts i.words) slot table word ≡ 0
    unfolding entry_word
    no_word table word kind unused = elim (cases_Bool (table == 0)) [
      | inl root ↦
          let is_root : table ≡ 0 = grind (arith, nat_tests, root) in
          rw root (no_pointer _ word (subst (λ (t : ℕ). is_table_place now t word ≡ false) is_root unused))
      | inr below ↦ elim (cases_Bool (table == 1)) [
        | inl low ↦
            let is_low : table ≡ 1 = grind (arith, nat_tests, low) in
            let none : is_table_place now 1 word ≡ false = subst (λ (t : ℕ). is_table_place now t word ≡ false) is_low unused in
            rw (below, low) (no_entry word (low_unused word none))
        | inr high ↦
            let is_high : table ≡ 2 = grind (arith, nat_tests, kind, below, high) in
            let none : is_table_place now 2 word ≡ false = subst (λ (t : ℕ). is_table_place now t word ≡ false) is_high unused in
            rw (below, high) (no_entry (523264 + word) (high_unused word none))
      ]
    ]
      where
        low_unused : (word : ℕ) → is_table_place now 1 word ≡ false → is_some (region_of now word) ≡ false
        low_unused word none = elim (cases_Bool (is_some (region_of now word))) [
          | inl held ↦ absurd (cc (rw held at none))
          | inr free ↦ free
        ]

        high_unused : (word : ℕ) → is_table_place now 2 word ≡ false → is_some (region_of now (523264 + word)) ≡ false
        high_unused word none = elim (cases_Bool (is_some (region_of now (523264 + word)))) [
          | inl held ↦ absurd (cc (rw held at none))
          | inr free ↦ free
        ]

    clean : (table word : ℕ) → table < 3 → word < 1024 → is_table_place now table word ≡ false → next.table_words slot table word ≡ 0
    clean table word kind small unused =
        let there : is_some (survivor_in r (Some h) slot) ≡ true = rw (survivor_there i most broken sound h pid slot found) refl in
        is.tables slot table word (slot_low i most broken sound h pid slot found) kind small there ∙ no_word table word kind unused

  pub all_mapped : AreMapped next
  all_mapped = record {
    mapped = λ slot one there.
        let (pid, found, same) = was_live i most broken sound h counts next next_words is slot one there in
        subst (λ (p : ProcRec). is_mapped next slot p ≡ true) same (now_mapped pid slot found);
    clean = λ slot one there table word kind small unused.
        let (pid, found, same) = was_live i most broken sound h counts next next_words is slot one there in
        subst (λ (p : ProcRec). is_table_place p table word ≡ false → next.table_words slot table word ≡ 0) same (clean pid slot found table word kind small) unused;
  }
