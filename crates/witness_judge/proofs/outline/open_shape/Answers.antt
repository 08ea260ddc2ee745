use Rattle.btor_emit.proofs.Rowing.{read_rows_of}
use Rattle.witness_judge.proofs.outline.open_shape.Goals as goal

pub returns-clause-rows : goal.returns-clause-rows
returns-clause-rows c = read_rows_of c.args.model.now c.size-size.ensures.model c.args.rows.now c.requires c.in_ok-inputs.inputs c.in_ok-inputs.ensures
