use Rattle.btor_emit.proofs.OperandRows.{put_two, still_in}
use Rattle.btor_emit.proofs.operands.pair.Goals as goal

pub gather-requires-2-clause-inside : goal.gather-requires-2-clause-inside
gather-requires-2-clause-inside c = still_in c.args.table.now c.gather.new.table c.args.b.now c.in_ok-left.ensures.row.turns.size c.requires.b.inside

pub gather-requires-2-clause-seats : goal.gather-requires-2-clause-seats
gather-requires-2-clause-seats c = c.in_ok-left.ensures.row.turns.seats

pub gather-requires-2-clause-btor : goal.gather-requires-2-clause-btor
gather-requires-2-clause-btor c = c.in_ok-left.ensures.row.turns.adds.btor

pub returns : goal.returns
returns c = record { row = (put_two c.args.draft.now c.gather.new.draft c.gather-2.new.draft c.args.table.now c.gather.new.table c.gather-2.new.table c.args.a.now c.args.b.now c.in_ok-left.left c.in_ok-right.right c.in_ok-left.ensures.row c.in_ok-right.ensures.row) }
