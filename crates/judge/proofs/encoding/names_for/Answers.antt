use Rattle.std.proofs.Common.{◌∙◌, ap, arith, length, sym}
use Rattle.judge.proofs.Encodes.{covers_few}
use Rattle.judge.proofs.encoding.names_for.Goals as goal

pub overflow_cast-covers : goal.overflow_cast-covers
overflow_cast-covers c = omega (arith, covers_few c.args.flat.now c.args.model.now c.requires.built, ap length c.covers.ensures)

pub returns : goal.returns
returns c = c.in_ok-names.ensures c.args.flat.now (sym c.requires.built.model.covers ∙ ap length (sym c.covers.ensures))
