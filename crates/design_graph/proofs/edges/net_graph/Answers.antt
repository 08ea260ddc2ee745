use Rattle.std.proofs.Common.{◌≡◌, ◌∙◌, length, drop, subst, arith}
use Rattle.digraph.specs.Graph.{Extends, Graph}
use Rattle.design_core.specs.Places.{places}
use Rattle.design_graph.specs.Edges.{IsDown}
use Rattle.design_graph.proofs.EdgeSteps.{written-back, IsNetGraph-built}
use Rattle.design_graph.proofs.edges.net_graph.Goals as goal

pub returns : goal.returns
returns c =
    let same : c.as_mut_slice-rows.result.now ≡ c.in_ok-graph.graph.items = c.as_mut_slice-rows.ensures.value in
    let down : Extends c.in_ok-graph.graph.items (IsDown c.args.design.now c.args.design.now.connects) c.add_down.new.graph =
    subst (λ (g : Graph). Extends g (IsDown c.args.design.now c.args.design.now.connects) c.add_down.new.graph) same c.in_ok-add_down.ensures in
    let size : length c.in_ok-graph.graph.items ≡ places c.args.design.now = c.in_ok-graph.ensures.nodes ∙ c.places.ensures.places in
    let built = IsNetGraph-built c.args.design.now c.in_ok-graph.graph.items c.add_down.new.graph c.add_up.new.graph c.in_ok-graph.ensures.edges down size c.in_ok-add_up.ensures in
    let whole : c.in_ok-graph.graph.len ≡ length c.add_up.new.graph = omega (arith, c.in_ok-graph.graph.ok.0, built.size, size) in
    rw (written-back c.in_ok-graph.graph.len c.add_up.new.graph (drop (length c.add_up.new.graph) c.in_ok-graph.graph.items) whole) built
