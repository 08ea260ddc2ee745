use Rattle.std.proofs.Common.{ℕ, List, sym, subst}
use Rattle.digraph.specs.Graph.{Graph, IsGraph, IsSorted}
use Rattle.design_core.specs.Places.{places}
use Rattle.design_lower.specs.Progress.{IsLedWith}
use Rattle.design_lower.proofs.Reaching.{IsEnds-built, IsGraph-ends}
use Rattle.design_lower.proofs.starts.digit_ends.Goals as goal

pub sort-requires : goal.sort-requires
sort-requires c =
    let is : IsGraph c.in_ok-graph.graph.items = IsGraph-ends c.args.design.now c.requires c.args.digit c.in_ok-graph.graph.items c.in_ok-graph.ensures in
    subst (λ (g : Graph). IsGraph g) (sym c.as_slice.ensures.value) is

pub returns : goal.returns
returns c =
    let sorted : IsSorted c.in_ok-graph.graph.items c.in_ok-sorted.sorted.order.items c.in_ok-sorted.sorted.cyclic.items c.in_ok-sorted.sorted.leaders.items =
    subst (λ (g : Graph). IsSorted g c.in_ok-sorted.sorted.order.items c.in_ok-sorted.sorted.cyclic.items c.in_ok-sorted.sorted.leaders.items) c.as_slice.ensures.value c.in_ok-sorted.ensures in
    let led : IsLedWith c.in_ok-sorted.sorted.leaders.items (places c.args.design.now) (places c.args.design.now) c.in_ok-led_with.field-0.items =
    subst (λ (n : ℕ). IsLedWith c.in_ok-sorted.sorted.leaders.items n n c.in_ok-led_with.field-0.items) c.places.ensures.places
    (subst (λ (l : List ℕ). IsLedWith l c.places.result c.places.result c.in_ok-led_with.field-0.items) c.as_slice-2.ensures.value c.in_ok-led_with.ensures) in
    IsEnds-built c.args.design.now c.requires c.args.digit c.in_ok-graph.graph.items c.in_ok-graph.ensures c.in_ok-sorted.sorted.order.items c.in_ok-sorted.sorted.cyclic.items
    c.in_ok-sorted.sorted.leaders.items sorted c.in_ok-led_with.field-0.items led
