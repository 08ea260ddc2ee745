use Rattle.pair_reader.proofs.BitLines.{named_parts}
use Rattle.pair_reader.proofs.lines.read_named.Goals as goal

pub returns-clause-line : goal.returns-clause-line
returns-clause-line c = λ l rest w e. c.read_literal.ensures.lit l rest w (named_parts c.args.name.now l rest c.args.bytes.now c.in_ok-word.word.now c.in_ok-word.ensures.some e)
