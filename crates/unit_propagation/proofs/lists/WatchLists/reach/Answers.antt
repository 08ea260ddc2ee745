use Rattle.std.proofs.Common.{◌≡◌, ◌<◌, ◌+◌, ◌*◌, ◌++◌, ◌∷◌, [], length, ◌∙◌, ap, arith, rules}
use Rattle.unit_propagation.specs.Watch.{rows_of}
use Rattle.unit_propagation.proofs.Trails.{index_room}
use Rattle.unit_propagation.proofs.Rows.{rows_grown}
use Rattle.unit_propagation.proofs.lists.WatchLists.reach.Goals as goal

pub loop-preserved : goal.loop-preserved
loop-preserved c =
    let i = c.loop.invariant in
    let s = c.loop.self in
    let grown : c.push.new.self.items ≡ s.lists.items ++ c.new.result ∷ [] = search rules in
    let room : length s.lists.items < 2 * s.vars + 2 = omega (arith, i.at, i.vars, c.loop-test.true, c.index-end.ensures, index_room c.args.l c.args.self.now.vars c.requires.lit) in
    record {
      vars = i.vars;
      clauses = i.clauses;
      at = search rules;
      count = search rules;
      rows = ap (rows_of s.vars) grown ∙ rows_grown s.vars s.lists.items c.new.result room c.new.ensures.items ∙ i.rows;
    }
