use Rattle.std.proofs.Common.{map, ap, ◌∙◌}
use Rattle.once_cell.specs.Once.{cell_name}
use Rattle.race_cells.proofs.Lists.{fresh_result}
use Rattle.race_cells.proofs.cells.Cells.notes.Goals as goal

pub returns-clause-notes : goal.returns-clause-notes
returns-clause-notes g c = fresh_result (map cell_name c.deref.result.now) c.args.self.now c.of.result (ap (map cell_name) c.deref.ensures.value ∙ c.self.view_is) c.of.ensures
