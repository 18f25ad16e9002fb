-- The same of what a dead kernel left: what is built of it, and the fates that are told.
use Rattle.std.proofs.Common.{◌≡◌, ℕ, ◌≤◌, List, [], ◌∷◌, take, Option, Some, refl, sym, ap, subst, ◌∙◌}
use Rattle.std.proofs.lemmas.List.{take_all}
use Rattle.ow_base.specs.Sv32.{WordMap}
use Rattle.ow_plant.specs.Dead.{DeadState}
use Rattle.dead_reader.specs.Left.{handed_of, records_left}
use Rattle.kernel_builder.specs.Sets.{IsBuilt}
use Rattle.record_layouts.specs.declared.memory_map.MemoryMap.{MemoryMap}
use Rattle.record_layouts.specs.Decode.{InKernel, unix_of}
use Rattle.record_layouts.specs.Left.{HandedOver}
use Rattle.record_layouts.specs.LeftImages.{unix_left}
use Rattle.record_layouts.specs.Reading.{records_in, records_of}
use Rattle.record_layouts.specs.SoundImages.{IsSoundAtPanic}
use Rattle.record_layouts.specs.Unix.Abort.{abort, fates}
use Rattle.record_layouts.specs.Unix.Wounds.{no_wounds}
use Rattle.resurrector.specs.Rebuilt.{image_left, tapes_put}
use Rattle.resurrector.specs.Revived.{fates_left, plan_of, revived_plan}
use Rattle.resurrector.specs.Survivors.{fates_to}
use Rattle.resurrector.proofs.Built.{read_as_revived}
use Rattle.resurrector.proofs.FewFates.{few_fates}
use Rattle.resurrector.proofs.RebuiltUnix.{unix_same}
use Rattle.resurrector.proofs.ToldFates.{fates_same}

frames_left : (dead : DeadState) (words : WordMap) → (records_left dead words).map.user_frames ≡ dead.user_frames
unfolding records_of records_in
frames_left dead words = refl

module _ (dead : DeadState) (words : WordMap) (tapes : ℕ → List ℕ) (h : HandedOver) (handed : handed_of dead.handover ≡ Some h)
    (most trap steps traps : ℕ) (sound : IsSoundAtPanic (image_left dead words tapes) most trap) where
  pub built_unix : (map : MemoryMap) (old new : WordMap) → map.user_frames ≤ 384 → map.user_frames ≡ dead.user_frames → IsBuilt map (plan_of dead words) old new
      → unix_of (records_of map new) new (tapes_put (records_left dead words) tapes) InKernel steps traps
      ≡ abort (unix_left (image_left dead words tapes) h steps traps) (no_wounds (unix_left (image_left dead words tapes) h steps traps))
  built_unix map old new few as_many built =
      let counts = dead.counts 0 ∷ dead.counts 1 ∷ [] in
      let planned : IsBuilt map (revived_plan (records_left dead words) (Some h) counts words) old new =
      subst (λ (o : Option HandedOver). IsBuilt map (revived_plan (records_left dead words) o counts words) old new) handed built in
      unix_same (image_left dead words tapes) most trap sound h steps traps counts (records_of map new) new
      (read_as_revived (records_left dead words) (Some h) counts words map old new few (as_many ∙ sym (frames_left dead words)) planned)

  pub told_fates : fates_left dead words
      ≡ fates (unix_left (image_left dead words tapes) h steps traps) (no_wounds (unix_left (image_left dead words tapes) h steps traps))
  told_fates =
      ap (λ (o : Option HandedOver). take 16 (fates_to (records_left dead words) o 256)) handed
      ∙ take_all 16 (fates_to (records_left dead words) (Some h) 256) (few_fates (image_left dead words tapes) most trap sound h 256)
      ∙ fates_same (image_left dead words tapes) most trap sound h steps traps
