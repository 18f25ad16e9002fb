-- Whether a process goes on is told by one word of its record.
use Rattle.std.proofs.Common.{◌≡◌, ◌⊎◌, ℕ, ◌+◌, ◌<◌, Option, Some, None, sym, ◌∙◌, arith, refl}
use Rattle.std.proofs.lemmas.Bool.Decides.{nat_tests}
use Rattle.record_layouts.specs.declared.memory_map.MemoryMap.{MemoryMap}
use Rattle.record_layouts.specs.declared.proc.ProcRec.{ProcRec}
use Rattle.record_layouts.specs.declared.places.RecordId.TheVariants.{Proc}
use Rattle.ow_base.specs.Sv32.{WordMap}
use Rattle.record_layouts.specs.Overlay.{Area, area_at, gate_of, overlay, words_from}
use Rattle.record_layouts.specs.Pages.{live_one}
use Rattle.record_layouts.specs.Places.{first_word}
use Rattle.record_layouts.specs.Proc.{proc_in}
use Rattle.record_layouts.specs.Reading.{is_readable_gate, record_in, records_in, records_of}
use Rattle.record_layouts.proofs.Ranges.{nth-words_from}
use Rattle.record_layouts.proofs.Reading.{proc_is}

-- the state that is read is the word with the number 1 of the record
state_in : (area : Area) (first : ℕ) (process : ProcRec) → proc_in (words_from area first 128) ≡ Some process
    → process.state ≡ area (first + 1)
state_in area first process read =
    sym (proc_is (words_from area first 128) process read).front.state ∙ nth-words_from area first 128 1 (omega arith)

-- the process that is read has this state
abbrev pub HasState : Option ProcRec → ℕ → Type 0
HasState found state = (process : ProcRec) → found ≡ Some process → process.state ≡ state

pub state_read : (map : MemoryMap) (words : WordMap) (slot state : ℕ) → slot < 16
    → state ≡ overlay (area_at words map.area_base) (first_word (Proc slot) + 1) → HasState ((records_of map words).procs slot) state
unfolding records_of records_in
state_read map words slot state within is process read =
    let here : record_in map (is_readable_gate (gate_of (area_at words map.area_base))) (overlay (area_at words map.area_base)) (Proc slot)
    ≡ proc_in (words_from (overlay (area_at words map.area_base)) (first_word (Proc slot)) 128) = grind (arith, nat_tests) in
    state_in (overlay (area_at words map.area_base)) (first_word (Proc slot)) process (sym here ∙ read) ∙ sym is

pub live_stays : (found : Option ProcRec) (state : ℕ) → HasState found state → (state ≡ 1) ⊎ ((state ≡ 1 → ⊥) × (state ≡ 2))
    → found ≡ live_one found
live_stays (Some process) state has live = let same = has process refl in grind (arith, nat_tests)
live_stays None state has live = refl

pub none_live : (found : Option ProcRec) (state : ℕ) → HasState found state → (state ≡ 1 → ⊥) × (state ≡ 2 → ⊥)
    → None ≡ live_one found
none_live (Some process) state has not_live = let same = has process refl in grind (arith, nat_tests)
none_live None state has not_live = refl
