-- What the reader answers is what the text is.
use Rattle.std.proofs.Common.{◌≡◌, ◌≤◌, ◌∙◌, ℕ, ◌⊎◌, inl, inr, List, length, Result, Ok, Err, IfOk, IfErr, refl}
use Rattle.ow_base.specs.World.{IsWorld}
use Rattle.ow_base.specs.declared.worlds.World.{World}
use Rattle.world_file.specs.declared.reader.WorldFault.{WorldFault}
use Rattle.world_file.specs.declared.reader.WorldFault.TheVariants.{Bad, Memory}
use Rattle.world_file.specs.declared.why.Why.{Why}
use Rattle.world_file.specs.WorldReading.{Gives, Refusal, nothing_said, read_lines, read_text}
use Rattle.world_file.specs.WorldLines.{pieces}
use Rattle.world_file.specs.WorldRefusals.{IsBuilt, IsRefused, IsRefusedFault}
use Rattle.world_file.proofs.WorldLaws.{reads, refuses}
use Rattle.world_file.proofs.WorldRefused.{in_time}

-- what the lines of a text that is not too long give
pub found : (text : List ℕ) (result : Result World WorldFault) → length text ≤ 1048576 → Gives result (read_lines nothing_said 0 (pieces 10 text)) → IfOk result (λ world. IsWorld text world)
found text (Ok world) small h = (reads text world (in_time text small ∙ h)).0
found text (Err fault) small h = tt

pub built : (text : List ℕ) (result : Result World WorldFault) → length text ≤ 1048576 → Gives result (read_lines nothing_said 0 (pieces 10 text)) → IfOk result IsBuilt
built text (Ok world) small h = (reads text world (in_time text small ∙ h)).1
built text (Err fault) small h = tt

pub refused_as : (text : List ℕ) (result : Result World WorldFault) → length text ≤ 1048576 → Gives result (read_lines nothing_said 0 (pieces 10 text)) → IfErr result (IsRefusedFault text)
refused_as text (Ok world) small h = tt
refused_as text (Err (Bad line why)) small h = refuses text (record { line = line; why = why }) (in_time text small ∙ h)
refused_as text (Err (Memory e)) small h = tt

-- a text is read, or it is refused
answered : (text : List ℕ) (read : Result World Refusal) → read_text text ≡ read
    → ((world : World) × IsWorld text world × IsBuilt world) ⊎ ((line : ℕ) × (why : Why) × IsRefused text line why)
answered text (Ok world) h = let is = reads text world h in inl (world, is.0, is.1)
answered text (Err r) h = inr (r.line, r.why, refuses text r h)

pub each_text : (text : List ℕ) → ((world : World) × IsWorld text world × IsBuilt world) ⊎ ((line : ℕ) × (why : Why) × IsRefused text line why)
each_text text = answered text (read_text text) refl
