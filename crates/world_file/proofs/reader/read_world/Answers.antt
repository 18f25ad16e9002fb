use Rattle.world_file.proofs.WorldAnswers.{found, built, refused_as}
use Rattle.world_file.proofs.reader.read_world.Goals as goal

pub returns-clause-found : goal.returns-clause-found
returns-clause-found c = found c.args.bytes.now c.read_lines.result c.if-bytes-gt-MOST_BYTES.false c.read_lines.ensures

pub returns-clause-built : goal.returns-clause-built
returns-clause-built c = built c.args.bytes.now c.read_lines.result c.if-bytes-gt-MOST_BYTES.false c.read_lines.ensures

pub returns-clause-refused : goal.returns-clause-refused
returns-clause-refused c = refused_as c.args.bytes.now c.read_lines.result c.if-bytes-gt-MOST_BYTES.false c.read_lines.ensures
