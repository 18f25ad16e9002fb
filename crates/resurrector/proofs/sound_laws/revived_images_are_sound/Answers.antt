use Rattle.resurrector.proofs.SoundRevived.{image_sound}
use Rattle.resurrector.proofs.sound_laws.revived_images_are_sound.Goals as goal

pub returns : goal.returns
returns c = λ i h steps trap counts area old new is few built. image_sound i steps trap is h counts area old new few built
