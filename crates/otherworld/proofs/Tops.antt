-- How the parts of a call of the program make its answer.
use Rattle.std.proofs.Common.{◌≡◌, ℕ, zero, suc, ◌+◌, ◌≤◌, true, List, [], ◌∷◌, length, drop, Option, Some, None, refl, ap, sym, subst, ◌∙◌, arith}
use Rattle.ow_base.specs.Outside.{TakesAll, TakesOver}
use Rattle.world_file.specs.declared.why.Why.{Why}
use Rattle.world_file.specs.declared.why.Why.TheVariants.{TooLarge}
use Rattle.world_file.specs.declared.reader.WorldFault.{WorldFault}
use Rattle.world_file.specs.declared.reader.WorldFault.TheVariants.{Bad}
use Rattle.world_file.specs.declared.reader.WorldFault.TheVariants as fault
use Rattle.world_file.specs.WorldRefusals.{IsBuilt, IsRefused, IsRefusedFault, Long}
use Rattle.record_layouts.specs.Unix.Panics.{RunWith}
use Rattle.record_layouts.specs.Unix.PanicReport.{report_with}
use Rattle.record_layouts.specs.declared.fates.Fate.{Fate}
use Rattle.ow_base.specs.declared.worlds.World.{World}
use Rattle.ow_base.specs.declared.worlds.Ending.{Ending}
use Rattle.ow_base.specs.declared.worlds.Ending.TheVariants as ending
use Rattle.ow_plant.specs.State.{PlantState}
use Rattle.ow_plant.specs.declared.points.PanicPoint.{PanicPoint}
use Rattle.kernel_traps.specs.Plants.{unix_at, IsSound}
use Rattle.schedule_runner.specs.Histories.{images_of, lines_of, world_of}
use Rattle.otherworld.proofs.Agrees.{agrees, agrees_by_context}
use Rattle.otherworld.proofs.ArmedWorlds.{world_is}
use Rattle.otherworld.specs.Top.{IsRead, IsReported, IsNoWorld, Intends, status_of, unread_status, refusal_text, most_bytes}

-- behind the last byte there is none
drop_past : (n : ℕ) (bytes : List ℕ) → length bytes ≤ n → drop n bytes ≡ []
drop_past zero [] small = refl
drop_past (suc n) [] small = refl
drop_past zero (b ∷ bs) small = absurd (omega arith)
drop_past (suc n) (b ∷ bs) small = drop_past n bs (omega arith)

-- an input that is read whole and is refused
pub no_world : (left after : Option (List ℕ)) (bytes : List ℕ) (number : ℕ) (why : Why) → TakesAll left after bytes → length bytes ≤ most_bytes → IsRefused bytes number why
    → IsNoWorld left after number why
no_world None after bytes number why takes small refused = tt
no_world (Some told) after bytes number why takes small refused =
    (subst (λ (b : List ℕ). IsRefused b number why) takes.0 refused, takes.1 ∙ ap Some (sym (drop_past (most_bytes + 1) told (omega (arith, ap (λ (b : List ℕ). length b) takes.0)))))

-- one that is too long is refused as a whole
pub too_long : (left after : Option (List ℕ)) → TakesOver most_bytes left after → IsNoWorld left after 0 TooLarge
too_long None after takes = tt
too_long (Some told) after takes = (Long (record { longer = takes.0; reason = refl; number = refl }), takes.1)

-- what a world that was not read intends
pub unread_intends : (left after : Option (List ℕ)) (bytes : List ℕ) (rose : Type 0) (plant : PlantState) (fault : WorldFault) → TakesAll left after bytes → length bytes ≤ most_bytes
    → IsRefusedFault bytes fault → Intends true left after rose plant plant (unread_status fault) (refusal_text (unread_status fault))
unread_intends left after bytes rose plant (Bad number why) takes small refused = (refl, no_world left after bytes number why takes small refused, refl, refl)
unread_intends left after bytes rose plant (fault.Memory e) takes small refused = (refl, refl, refl)

-- a run on a plant that was armed for a world is one of the world
pub reports : (world : World) (points : List PanicPoint) (s : PlantState) (told : List (List (ℕ × Fate))) (e : Ending) → IsBuilt world
    → lines_of points ≡ world.panics → lines_of s.points ≡ lines_of points → IsSound s
    → RunWith (world_of world.load points) (images_of s) s.history told e (unix_at s)
    → IsReported world s e (report_with world.panics s.history told e (unix_at s))
reports world points s told e built listed same sound run = record {
  w = unix_at s;
  told = told;
  run = subst (λ (world : World). RunWith world (images_of s) s.history told e (unix_at s)) (world_is world points built listed) run;
  points = same ∙ listed;
  armed = sound.held.armed.armed;
  agrees = agrees s sound;
  context = agrees_by_context s sound;
  reported = refl;
}

-- what a reported run intends
pub reported_intends : (left after : Option (List ℕ)) (rose : Type 0) (old new : PlantState) (world : World) (e : Ending) (text : List ℕ) → IsRead left after world → IsReported world new e text → Intends true left after rose old new (status_of e) text
reported_intends left after rose old new world ending.Done text read run = (refl, (world, read, run))
reported_intends left after rose old new world ending.Budget text read run = (refl, (world, read, run))
reported_intends left after rose old new world ending.Restarted text read run = (refl, (world, read, run))
