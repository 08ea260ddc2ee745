use Rattle.std.proofs.Common.{arith, refl}
use Rattle.model_play.proofs.Tables.{Written-more, Written-none, written_all, written_others}
use Rattle.model_play.proofs.table.write_row.Goals as goal

pub loop-k-init : goal.loop-k-init
loop-k-init c = Written-none c.args.places.now c.args.row.now c.args.table.now

pub loop-k-preserved : goal.loop-k-preserved
loop-k-preserved c =
    Written-more c.args.places.now c.args.row.now c.loop-k.k _ _ c.args.table.now c.loop-k.table c.requires.below c.requires.distinct c.loop-k-test.true refl refl c.loop-k.invariant

pub returns-clause-row : goal.returns-clause-row
returns-clause-row c = let t = c.loop-k-test.false in written_all c.args.places.now c.args.row.now c.loop-k.k c.args.table.now c.loop-k.table c.requires.as_many (omega arith) c.loop-k.invariant

pub returns-clause-others : goal.returns-clause-others
returns-clause-others c = written_others c.args.places.now c.args.row.now c.loop-k.k c.args.table.now c.loop-k.table c.loop-k.invariant
