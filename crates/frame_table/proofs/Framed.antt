-- The pages of a slot that have a frame.
use Rattle.std.proofs.Common.{◌≡◌, ℕ, ◌^◌, ◌≤◌, true, Option, Some, None, IfSome, is_some, refl, inl, inr, arith}
use Rattle.std.proofs.lemmas.Bool.{cases_Bool}
use Rattle.ow_base.specs.Sv32.{WordMap}
use Rattle.sv32_tables.specs.Spaces.{rights_in, byte_in}
use Rattle.record_layouts.specs.declared.proc.ProcRec.{ProcRec}
use Rattle.record_layouts.specs.Held.{Records}
use Rattle.record_layouts.specs.Proc.{FitsProc}
use Rattle.record_layouts.specs.Pages.{byte_on, frame_if, is_live}
use Rattle.frame_table.specs.Maps.{map_if}
use Rattle.frame_table.proofs.Counting.{behind_none, region_dead}
use Rattle.frame_table.proofs.Found.{frame_found}
use Rattle.frame_table.proofs.Tables.{map_found, map_unfound, map_unheld}

module _ (r : Records) (slot page : ℕ) where
  pub rights_of_frame : (process : Option ProcRec) (frame : ℕ) → frame_if r slot page process ≡ Some frame → is_some (rights_in (map_if r slot page process)) ≡ true
  rights_of_frame (Some process) frame found = let f = frame_found r slot process page frame found in rw (map_found r slot process page frame f.rights found f.held) refl
  rights_of_frame None frame found = grind arith

  pub byte_of_frame : (words : WordMap) (offset : ℕ) (process : Option ProcRec) (frame : ℕ) → frame_if r slot page process ≡ Some frame
      → byte_in words offset (map_if r slot page process) ≡ byte_on words offset (Some frame)
  byte_of_frame words offset (Some process) frame found = let f = frame_found r slot process page frame found in rw (map_found r slot process page frame f.rights found f.held) refl
  byte_of_frame words offset None frame found = grind arith

  pub none_without_frame : (process : Option ProcRec) → frame_if r slot page process ≡ None → map_if r slot page process ≡ None
  none_without_frame (Some process) unfound = map_unfound r slot process page unfound
  none_without_frame None unfound = refl

  -- no page lies behind the last address
  pub none_behind : (process : Option ProcRec) → IfSome process FitsProc → 2 ^ 20 ≤ page → map_if r slot page process ≡ None
  none_behind (Some process) fits high = map_unheld r slot process page (elim (cases_Bool (is_live process)) [
    | inl live ↦ behind_none process page fits live (omega arith)
    | inr dead ↦ region_dead process page dead
  ])
  none_behind None fits high = refl
