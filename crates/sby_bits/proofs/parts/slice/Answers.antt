use Rattle.std.proofs.Common.{◌∙◌, length}
use Rattle.sby_bits.proofs.Moves.{sliced}
use Rattle.sby_bits.proofs.parts.slice.Goals as goal

pub returns-clause-inside : goal.returns-clause-inside
returns-clause-inside c = λ inside. c.copy_down.ensures ∙ sliced c.args.a.now c.args.offset (length c.args.y.now) inside
