use Rattle.std.proofs.Common.{sym}
use Rattle.design_core.specs.Shape.{IsNumbered}
use Rattle.design_graph.proofs.Declared.{All-digits_at}
use Rattle.word_model.proofs.rows.fill_parameter.Goals as goal

pub fill_digits-requires : goal.fill_digits-requires
fill_digits-requires c =
    All-digits_at (IsNumbered c.args.design.now.free) c.args.cell.now.parameters c.args.name c.requires.parameters c.in-Some.constant.now (sym c.in-Some.ensures)
