use Rattle.btor_emit.proofs.Inputting.{input_one}
use Rattle.btor_emit.proofs.inputs.push_input.Goals as goal

pub returns : goal.returns
returns c = input_one c.args.draft.now c.input.new.draft c.args.table.now c.give.new.table c.in_ok-word.word c.args.row.now c.requires.distinct c.requires.seats c.in_ok-word.ensures c.give.ensures
