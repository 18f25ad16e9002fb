use Rattle.world_file.specs.WorldLines.{tokens, is_empty}
use Rattle.world_file.proofs.WorldWords.{any_of_map}
use Rattle.world_file.proofs.line.Line.has_empty_token.Goals as goal

pub returns : goal.returns
returns c = rw (c.has_empty.ensures, c.deref.ensures.value, ← c.self.view_is) (any_of_map is_empty c.self.inside.parts.items (tokens c.self.inside.bytes.now) c.self.invariant)
