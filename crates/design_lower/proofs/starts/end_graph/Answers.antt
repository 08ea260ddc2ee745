use Rattle.std.proofs.Common.{◌≡◌, ◌+◌, ◌<◌, length, drop, subst, arith, ℕ}
use Rattle.digraph.specs.Graph.{Extends, Graph}
use Rattle.design_core.specs.Places.{places}
use Rattle.design_graph.specs.Edges.{IsDown}
use Rattle.design_graph.proofs.EdgeSteps.{written-back}
use Rattle.design_lower.specs.Progress.{IsInitPlace}
use Rattle.design_lower.proofs.Reaching.{IsEndGraph-built}
use Rattle.design_lower.proofs.starts.end_graph.Goals as goal

pub returns : goal.returns
returns c =
    let d = c.args.design.now in
    let at : c.places-root.result ≡ places c.args.design.now = c.places-root.ensures.places in
    let same : c.as_mut_slice-rows.result.now ≡ c.in_ok-graph.graph.items = c.as_mut_slice-rows.ensures.value in
    let down : Extends c.in_ok-graph.graph.items (IsDown c.args.design.now c.args.design.now.connects) c.add_down.new.graph =
    subst (λ (g : Graph). Extends g (IsDown c.args.design.now c.args.design.now.connects) c.add_down.new.graph) same c.in_ok-add_down.ensures in
    let inits : Extends c.add_down.new.graph (λ p q. (p ≡ places c.args.design.now) × IsInitPlace c.args.design.now c.args.digit q) c.add_inits.new.graph =
    subst (λ (r : ℕ). Extends c.add_down.new.graph (λ p q. (p ≡ r) × IsInitPlace c.args.design.now c.args.digit q) c.add_inits.new.graph) at c.in_ok-add_inits.ensures in
    let back : Extends c.add_inits.new.graph (λ p q. (p < places c.args.design.now) × (q ≡ places c.args.design.now)) c.add_back.new.graph =
    subst (λ (r : ℕ). Extends c.add_inits.new.graph (λ p q. (p < r) × (q ≡ r)) c.add_back.new.graph) at c.in_ok-add_back.ensures in
    let size : length c.in_ok-graph.graph.items ≡ places c.args.design.now + 1 = omega (arith, c.in_ok-graph.ensures.nodes, at) in
    let built = IsEndGraph-built d c.args.digit c.in_ok-graph.graph.items c.add_down.new.graph c.add_inits.new.graph c.add_back.new.graph c.in_ok-graph.ensures.edges size down inits back in
    let whole : c.in_ok-graph.graph.len ≡ length c.add_back.new.graph = omega (arith, c.in_ok-graph.graph.ok.0, built.size, size) in
    rw (written-back c.in_ok-graph.graph.len c.add_back.new.graph (drop (length c.add_back.new.graph) c.in_ok-graph.graph.items) whole) built
