-- Each record of the new kernel decodes.
use Rattle.std.proofs.Common.{ℕ, ◌+◌, ◌*◌, ◌<◌, is_some, refl, ap, arith}
use Rattle.std.proofs.lemmas.List.Elements.{All-nil}
use Rattle.ow_base.specs.Sv32.{WordMap}
use Rattle.ow_plant.specs.Dead.{DeadState}
use Rattle.record_layouts.specs.declared.memory_map.MemoryMap.{MemoryMap}
use Rattle.record_layouts.specs.declared.places.RecordId.TheVariants as id
use Rattle.record_layouts.specs.Held.{AreComplete}
use Rattle.record_layouts.specs.Reading.{records_of}
use Rattle.record_layouts.specs.Terminals.{TerminalDecodes}
use Rattle.kernel_builder.specs.Reading.{IsReadAs}
use Rattle.resurrector.specs.Revived.{plan_of}

pub all_decode : (dead : DeadState) (words own : WordMap) (map : MemoryMap) → IsReadAs map (plan_of dead words) own → AreComplete (records_of map own)
all_decode dead words own map read id.Head there = ap (λ o. is_some o) (read.records id.Head _ there refl tt)
all_decode dead words own map read (id.Proc i) there = ap (λ o. is_some o) (read.records (id.Proc i) _ there refl tt)
all_decode dead words own map read (id.Sig i) there = ap (λ o. is_some o) (read.records (id.Sig i) _ there refl tt)
all_decode dead words own map read (id.Desc i) there = ap (λ o. is_some o) (read.records (id.Desc i) _ there refl tt)
all_decode dead words own map read (id.File i) there =
    ap (λ o. is_some o) (read.records (id.File i) _ there refl (All-nil (λ (sector : ℕ). sector < map.sectors)))
all_decode dead words own map read (id.Cache i) there = ap (λ o. is_some o) (read.records (id.Cache i) _ there refl tt)
all_decode dead words own map read (id.Term i) there = ap (λ o. is_some o) (read.records (id.Term i) _ there refl tt)
all_decode dead words own map read (id.Row i) there = ap (λ o. is_some o) (read.records (id.Row i) _ there refl tt)
all_decode dead words own map read (id.Exit i) there = ap (λ o. is_some o) (read.records (id.Exit i) _ there refl tt)

-- so both of its terminals do
pub terminals_decode : (dead : DeadState) (words own : WordMap) (map : MemoryMap) → IsReadAs map (plan_of dead words) own → (tty : ℕ) → tty < 2
    → TerminalDecodes (records_of map own) tty
terminals_decode dead words own map read tty few = record {
  terminal = all_decode dead words own map read (id.Term tty) few;
  rows = λ place within. all_decode dead words own map read (id.Row (24 * tty + place)) (omega (arith, few, within));
}
