use Rattle.std.proofs.Common.{◌≡◌, ◌+◌, ◌∙◌, ℕ, List, length, drop, ap, subst, arith}
use Rattle.digraph.specs.Graph.{Extends, Graph}
use Rattle.design_core.specs.Shape.{CellOf}
use Rattle.design_core.specs.Places.{places}
use Rattle.design_graph.specs.Edges.{IsDown}
use Rattle.design_graph.proofs.EdgeSteps.{written-back, IsRestGraph-built}
use Rattle.design_graph.proofs.edges.rest_graph.Goals as goal

rooms : (a b m n : ℕ) → a ≡ b → m ≡ n → a + m ≡ b + n
rooms a b m n e f = omega arith

pub returns : goal.returns
returns c =
    let same : c.as_mut_slice-rows.result.now ≡ c.in_ok-graph.graph.items = c.as_mut_slice-rows.ensures.value in
    let down : Extends c.in_ok-graph.graph.items (IsDown c.args.design.now c.args.design.now.connects) c.add_down.new.graph =
    subst (λ (g : Graph). Extends g (IsDown c.args.design.now c.args.design.now.connects) c.add_down.new.graph) same c.in_ok-add_down.ensures in
    let size : length c.in_ok-graph.graph.items ≡ places c.args.design.now + length c.args.design.now.cells = c.in_ok-graph.ensures.nodes ∙ rooms c.places.result (places c.args.design.now) (length c.cells.result.now) (length c.args.design.now.cells) c.places.ensures.places (ap (λ (l : List CellOf). length l) c.cells.ensures.cells) in
    let built = IsRestGraph-built c.args.design.now c.in_ok-graph.graph.items c.add_down.new.graph c.add_cells.new.graph c.in_ok-graph.ensures.edges down size c.in_ok-add_cells.ensures in
    let whole : c.in_ok-graph.graph.len ≡ length c.add_cells.new.graph = omega (arith, c.in_ok-graph.graph.ok.0, built.size, size) in
    rw (written-back c.in_ok-graph.graph.len c.add_cells.new.graph (drop (length c.add_cells.new.graph) c.in_ok-graph.graph.items) whole) built
