-- User frames that are taken one after the other, each the first free one from where the walk has come to.
use Rattle.std.proofs.Common.{◌≡◌, ℕ, ◌+◌, ◌/◌, ◌<◌, ◌⊎◌, false, Option, Some, None, IfNone, is_some, true, refl, sym, ap, ◌∙◌, arith}
use Rattle.record_layouts.specs.declared.memory_map.MemoryMap.{MemoryMap}
use Rattle.record_layouts.specs.Held.{Held, Records}
use Rattle.record_layouts.specs.Least.{IsLeast, NonePasses}
use Rattle.frame_table.specs.Free.{KeepsFrames, free_before, is_free_frame, is_page_of}
use Rattle.frame_table.proofs.Free.{before_same, counted_free, none_behind}
use Rattle.frame_table.proofs.Kept.{before_kept}
use Rattle.address_space.specs.Preparing.{CanPrepare, IsPageBegun}

-- one of the two tables has an entry for the page
abbrev pub IsPlaced : (page : ℕ) → Type 0
IsPlaced page = (page / 1024 ≡ 0) ⊎ (page / 1024 ≡ 511)

module _ (r new : Records) (keeps : KeepsFrames r new) (from users : ℕ) where
  -- a frame is left where more are free than those before
  none_left : free_before r from < free_before r users → NonePasses (is_free_frame new) from users → ⊥
  none_left more none =
      let few = none_behind new from users (free_before new from) (omega arith) none in
      absurd (omega (arith, few, before_kept r new from keeps, before_kept r new users keeps, more))

  pub one_left : free_before r from < free_before r users → (found : Option ℕ) → IfNone found (NonePasses (is_free_frame new) from users)
      → is_some found ≡ true
  one_left more (Some number) none = refl
  one_left more None none = absurd (none_left more none)

  module _ (number : ℕ) (least : IsLeast (is_free_frame new) from users number) where
    -- one frame more comes before the next one to take
    pub one_taken : free_before r (number + 1) ≡ free_before r from + 1
    one_taken =
        sym (before_kept r new (number + 1) keeps) ∙ counted_free new number least.passes
        ∙ ap (λ n. n + 1) (before_same new from number least.from least.below ∙ before_kept r new from keeps)

    pub can_prepare : (slot page : ℕ) → slot < 16 → IsPlaced page → is_page_of page (r.procs slot) ≡ false → users ≡ r.map.user_frames
        → CanPrepare new slot page number
    can_prepare slot page fits placed uncounted all =
        let frames : users ≡ new.map.user_frames = all ∙ ap (λ (map : MemoryMap). map.user_frames) (sym keeps.map) in
        record {
          fits = fits;
          entry = placed;
          uncounted = ap (is_page_of page) (keeps.procs slot) ∙ uncounted;
          within = rw frames at least.to;
          free = least.passes;
        }

-- a page that is begun has no entry yet
pub begun_entries : {Rest : Type 0} (h new : Held Rest) (number slot table word : ℕ) → IsPageBegun h new number
    → new.records.table_words slot table word ≡ h.records.table_words slot table word
begun_entries h new number slot table word begun = ap (λ (r : Records). r.table_words slot table word) begun.records
