use Rattle.std.proofs.Common.{false, IsTrue, ◌↔◌, refl, sym}
use Rattle.process_table.specs.declared.choice.Choice.TheVariants as choice
use Rattle.ow_plant.specs.State.{PlantState}
use Rattle.kernel_traps.specs.Turning.{AllHaveEnded, IsSomeLive}
use Rattle.kernel_traps.proofs.KernelServed.{all_ended, not_ended, rest_live, user_lives, work_live}
use Rattle.kernel_traps.proofs.ended.all_have_ended.Goals as goal

-- where some process is live the answer is no
not_all : (s : PlantState) → IsSomeLive s → IsTrue false ↔ AllHaveEnded s
not_all s live = (λ no. absurd (cc), λ ended. absurd (not_ended s live ended))

pub returns-then-in_user : goal.returns-then-in_user
returns-then-in_user c = not_all c.args.plant.now (user_lives c.args.plant.now c.requires.sound (sym c.if-in_user.ensures))

pub returns-in-User : goal.returns-in-User
returns-in-User c =
    not_all c.args.plant.now (work_live c.args.plant.now c.in-User.field-0 (choice.User c.in-User.field-0) c.requires.sound c.in-User.ensures)

pub returns-in-Piece : goal.returns-in-Piece
returns-in-Piece c =
    not_all c.args.plant.now (work_live c.args.plant.now c.in-Piece.field-0 (choice.Piece c.in-Piece.field-0) c.requires.sound c.in-Piece.ensures)

pub returns-in-Signal : goal.returns-in-Signal
returns-in-Signal c =
    not_all c.args.plant.now (work_live c.args.plant.now c.in-Signal.field-0 (choice.Signal c.in-Signal.field-0) c.requires.sound c.in-Signal.ensures)

pub returns-in-Idle : goal.returns-in-Idle
returns-in-Idle c = not_all c.args.plant.now (rest_live c.args.plant.now c.requires.sound c.in-Idle.ensures)

pub returns-in-AllEnded : goal.returns-in-AllEnded
returns-in-AllEnded c = (λ yes. all_ended c.args.plant.now c.requires.sound c.in-AllEnded.ensures, λ ended. refl)
