use Rattle.std.proofs.Common.{◌∙◌}
use Rattle.std.proofs.lemmas.List.{length-set}
use Rattle.net_unroll.proofs.Stepping.{write_step}
use Rattle.net_unroll.proofs.making.write.Goals as goal

pub loop-place-preserved : goal.loop-place-preserved
loop-place-preserved c = record {
  size = length-set c.loop-place.table.items c.index-moves-place.result.0 c.index-lits-place.result ∙ c.loop-place.invariant.size;
  table = write_step c.args.table.now.items c.loop-place.table.items c.args.moves.now c.args.lits.now c.loop-place.place c.index-moves-place.result c.index-lits-place.result c.loop-place-test.true c.index-moves-place.is c.requires.lits
      c.index-lits-place.is c.loop-place.invariant.table;
}
