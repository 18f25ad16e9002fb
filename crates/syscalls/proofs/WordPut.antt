-- A word of a process is stored: its pages have it, and all other processes keep theirs.
use Rattle.std.proofs.Common.{◌≡◌, ◌≢◌, ℕ, ◌/◌, ◌%◌, ◌^◌, ◌<◌, true, Option, Some, None, inl, inr, refl, sym, ap, ◌∙◌, arith}
use Rattle.std.proofs.lemmas.Bool.{cases_lt}
use Rattle.ow_base.specs.Sv32.{WordMap, byte_of, word_or_zero}
use Rattle.ow_base.specs.Pages.{Pages}
use Rattle.record_layouts.specs.declared.proc.ProcRec.{ProcRec}
use Rattle.record_layouts.specs.Unix.Spaces.{with_word}
use Rattle.record_layouts.specs.Held.{Records}
use Rattle.record_layouts.specs.Pages.{byte_on, frame_if, frame_of, is_live, page_frame_of, pages_of, region_of}
use Rattle.record_layouts.specs.Proc.{FitsProc}
use Rattle.record_layouts.specs.Sound.{AreSound, IsIn}
use Rattle.frame_table.proofs.Counting.{behind_none, fits_there}
use Rattle.frame_table.proofs.Found.{frame_found, one_page_each}
use Rattle.frame_table.proofs.Tables.{framed_same}
use Rattle.address_space.specs.Spaces.{IsWordPut}
use Rattle.syscalls.specs.Done.{held_as}
use Rattle.syscalls.proofs.Becoming.{OthersStay}

-- a page of a live process that has a frame has a number below 2^20
page_small : (r : Records) (slot : ℕ) (process : ProcRec) (page frame : ℕ) → FitsProc process → is_live process ≡ true
    → frame_of r slot process page ≡ Some frame → page < 2 ^ 20
page_small r slot process page frame fits live found = elim (cases_lt page (2 ^ 20)) [
  | inl small ↦ small
  | inr large ↦
      let has = frame_found r slot process page frame found in
      let both : Some has.rights ≡ None = sym has.held ∙ behind_none process page fits live (omega (arith, large)) in
      absurd (cc both)
]

module _ (r : Records) (words words_then : WordMap) (slot : ℕ) (process : ProcRec) (address value : ℕ) (sound : AreSound r) (is : IsIn r slot process)
    (put : IsWordPut (held_as r words) (held_as r words_then) slot address value) where
  -- the pages of the process
  pub put_pages : pages_of r words_then slot process ≡ with_word (pages_of r words slot process) address value
  put_pages =
      let mapped = sound.mapped.mapped slot process is in
      sym (framed_same r slot process words_then is.there mapped)
      ∙ (put.pages ∙ ap (λ (pages : Pages). with_word pages address value) (framed_same r slot process words is.there mapped))

  -- the pages of another one
  module _ (place : ℕ) (other : ProcRec) (there : IsIn r place other) (apart : place ≡ slot → ⊥) where
    no_page : (page frame : ℕ) → frame_of r place other page ≡ Some frame → (own : ℕ) → own < 2 ^ 20 → page_frame_of r slot own ≢ Some frame
    unfolding page_frame_of
    no_page page frame found own small same =
        let too = page_small r place other page frame (fits_there r place other sound.values there.there) there.live found in
        let its : frame_of r slot process own ≡ Some frame = sym (ap (frame_if r slot own) is.there) ∙ same in
        apart (one_page_each r place slot page own frame other process too small found its).0

    byte_stays : (page offset : ℕ) (held : Option ℕ) → frame_of r place other page ≡ held → byte_on words_then offset held ≡ byte_on words offset held
    byte_stays page offset None found = refl
    byte_stays page offset (Some frame) found =
        ap (λ (word : Option ℕ). byte_of (word_or_zero word) (offset % 4)) (put.contents frame (offset / 4) (no_page page frame found))

    pages_stay : pages_of r words_then place other ≡ pages_of r words place other
    unfolding pages_of
    pages_stay = λ i. record { rights = region_of other; bytes = λ a. byte_stays (a / 4096) (a % 4096) (frame_of r place other (a / 4096)) refl i }

  pub put_others : OthersStay r words slot r words_then
  put_others = record { mapped = λ place other there apart. sound.mapped.mapped place other there; pages = pages_stay }
