use Rattle.std.proofs.Common.{get_or}
use Rattle.std.proofs.lemmas.Option.{slice_get-get_or}
use Rattle.digraph.proofs.Growing.{Extends-push, Extends-none}
use Rattle.digraph.proofs.edges.add_edge.Goals as goal

pub returns-in_default-clause-err : goal.returns-in_default-clause-err
returns-in_default-clause-err c =
    Extends-none c.args.graph.now c.args.from (get_or c.args.graph.now c.args.from c.index-graph-from.result) c.push.new.self
    (slice_get-get_or c.args.graph.now c.args.from c.index-graph-from.result c.requires) c.in_default.ensures.items

pub returns-clause-ok : goal.returns-clause-ok
returns-clause-ok c =
    Extends-push c.args.graph.now c.args.from (get_or c.args.graph.now c.args.from c.index-graph-from.result) c.push.new.self
    (slice_get-get_or c.args.graph.now c.args.from c.index-graph-from.result c.requires) c.args.to c.in-Ok.ensures.items
