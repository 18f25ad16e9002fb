use Rattle.std.proofs.Common.{◌≡◌, ◌++◌, take, filter_map}
use Rattle.world_file.specs.WorldLines.{word_of}
use Rattle.world_file.proofs.line.append_words.Given as goal

-- the words of so many fields stand behind
abbrev pub invariant-loop-field : goal.invariant-loop-field
invariant-loop-field l = l.all.items ≡ l.fn.before.items ++ filter_map (λ field. word_of field.now) (take l.field-index l.fields)
