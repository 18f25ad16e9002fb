-- What is read is the world of its text, each world is read from its text, and what is not read is refused.
use Rattle.std.proofs.Common.{◌≡◌, ℕ, List, Ok, Err}
use Rattle.ow_base.specs.World.{IsWorld}
use Rattle.ow_base.specs.declared.worlds.World.{World}
use Rattle.world_file.specs.declared.why.Why.{Why}
use Rattle.world_file.specs.WorldRefusals.{IsBuilt, IsRefused}
use Rattle.world_file.specs.WorldReading.{Refusal, read_text}
use Rattle.world_file.proofs.WorldAccepts.{world_accepted}
use Rattle.world_file.proofs.WorldFound.{world_found}
use Rattle.world_file.proofs.WorldRefused.{unread_is_refused, refused_is_not_read, read_is_not_refused}

-- what is read has the text, and is of the built forms
pub reads : (text : List ℕ) (world : World) → read_text text ≡ Ok world → IsWorld text world × IsBuilt world
reads text world h = world_found text world h

-- what has the text is read
pub accepts : (text : List ℕ) (world : World) → IsWorld text world → IsBuilt world → read_text text ≡ Ok world
accepts text world is built = world_accepted text world is built

-- what is not read is refused at its line
pub refuses : (text : List ℕ) (r : Refusal) → read_text text ≡ Err r → IsRefused text r.line r.why
refuses text r h = unread_is_refused text r h

-- what is refused is not read, at the same line
pub refused : (text : List ℕ) (line : ℕ) (why : Why) → IsRefused text line why → read_text text ≡ Err (record { line = line; why = why })
refused text line why is = refused_is_not_read text line why is

-- what has the text of a world of the built forms is not refused
pub built_is_not_refused : (text : List ℕ) (world : World) (line : ℕ) (why : Why) → IsWorld text world → IsBuilt world → IsRefused text line why → ⊥
built_is_not_refused text world line why is built refused =
    read_is_not_refused text world line why (accepts text world is built) refused
