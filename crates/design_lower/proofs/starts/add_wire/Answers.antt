use Rattle.std.proofs.Common.{◌≡◌, ◌≤◌, ◌<◌, ◌+◌, ℕ, List, Bool, Option, Some, Contains, length, ap, subst, arith}
use Rattle.std.specs.Prelude.{slice_get}
use Rattle.std.proofs.lemmas.List.Elements.{All-contains}
use Rattle.digraph.proofs.Growing.{Extends-as}
use Rattle.design_core.specs.Shape.{WireOf, IsWire}
use Rattle.design_meaning.specs.Meaning.{IsInit}
use Rattle.design_core.specs.Places.{offset}
use Rattle.design_core.proofs.Lists.{Contains-from_place, place-from_Contains, item_at, one_at}
use Rattle.design_graph.proofs.Counts.{wires-few}
use Rattle.design_graph.proofs.EdgeSteps.{Upto-end, Upto-next, Upto-start}
use Rattle.design_lower.proofs.Ending.{InitEdge}
use Rattle.design_lower.proofs.starts.add_wire.Goals as goal
use Rattle.design_lower.proofs.starts.add_wire.Goals.{After-inits-inits, After-index-inits-place}

wire : (c : After-inits-inits) → slice_get c.args.design.now.wires c.args.wire ≡ Some c.index-wires-wire.result
wire c =
    let lt : c.args.wire < length c.wires-wires.result.now = rw c.wires-wires.ensures.wires c.requires.wire in
    rw c.wires-wires.ensures.wires at (item_at c.wires-wires.result.now c.args.wire c.index-wires-wire.result c.index-wires-wire.is lt)

init : (c : After-index-inits-place) → slice_get c.inits-inits.result.now c.loop-place.place ≡ Some c.index-inits-place.result
init c = item_at c.inits-inits.result.now c.loop-place.place c.index-inits-place.result c.index-inits-place.is c.loop-place-test.true

pub loop-place-init : goal.loop-place-init
loop-place-init c = Upto-start c.inits-inits.result.now (InitEdge c.offset-first.result c.args.digit c.args.root) c.args.graph.now

pub loop-place-preserved : goal.loop-place-preserved
loop-place-preserved c =
    let at = init (goal.at.loop-place-preserved c).After-index-inits-place in
    let next = rw c.as_slice.ensures at c.in_ok-add_init.ensures in
    Upto-next c.inits-inits.result.now (InitEdge c.offset-first.result c.args.digit c.args.root) c.args.graph.now c.loop-place.graph c.add_init.new.graph c.loop-place.place c.index-inits-place.result at
    c.loop-place.invariant next

pub returns : goal.returns
returns c =
    let at = wire (goal.at.returns c).After-inits-inits in
    let w = c.index-wires-wire.result in
    let edges = rw c.offset-first.ensures.offset at
    (Upto-end c.inits-inits.result.now (InitEdge c.offset-first.result c.args.digit c.args.root) c.args.graph.now c.loop-place.graph c.loop-place.place
    (λ p q. (k : ℕ) × (digits : List (Option Bool)) × (slice_get c.inits-inits.result.now k ≡ Some digits) × InitEdge c.offset-first.result c.args.digit c.args.root k digits p q)
    c.loop-place-test.false c.loop-place.invariant (λ k x p q there h. (k, x, there, h)) (λ p q t. t)) in
    let all = rw c.inits-inits.ensures at edges in
    Extends-as c.args.graph.now c.loop-place.graph
    (λ p q. (k : ℕ) × (digits : List (Option Bool)) × (slice_get c.index-wires-wire.result.inits k ≡ Some digits) × InitEdge (offset c.args.design.now c.args.wire) c.args.digit c.args.root k digits p q)
    (λ p q. (p ≡ c.args.root) × ((b : ℕ) × IsInit c.args.design.now c.args.wire b c.args.digit × (q ≡ offset c.args.design.now c.args.wire + b))) all
    (λ p q h. let e = h.3.1 in (h.3.0, (e.0, (w, h.1, at, Contains-from_place w.inits h.0 h.1 h.2, e.1), e.2)))
    (λ p q t.
    let b = t.1 in
    let i = b.1 in
    let one : i.0 ≡ c.index-wires-wire.result = one_at c.args.design.now.wires c.args.wire i.0 w i.2 at in
    let there = place-from_Contains w.inits i.1 (subst (λ (x : WireOf). Contains x.inits i.1) one i.3) in
    (there.0, i.1, there.1, (t.0, (b.0, i.4, b.2))))

pub overflow_cast-wire : goal.overflow_cast-wire
overflow_cast-wire c = omega (arith, wires-few c.args.design.now c.wires-wires.ensures.design, c.wires-wires.ensures.design.bits, c.requires.wire)

pub add_init-requires-clause-wire : goal.add_init-requires-clause-wire
add_init-requires-clause-wire c = λ b lt.
    let x = (goal.at.add_init-requires-clause-wire c).After-inits-inits in
    let at = wire x in
    let there = rw c.inits-inits.ensures at (init (goal.at.add_init-requires-clause-wire c).After-index-inits-place) in
    let is : IsWire c.index-wires-wire.result = All-contains IsWire c.args.design.now.wires c.index-wires-wire.result c.wires-wires.ensures.design.wires (Contains-from_place c.args.design.now.wires c.args.wire c.index-wires-wire.result at) in
    let size = All-contains (λ (digits : List (Option Bool)). length digits ≤ c.index-wires-wire.result.width) c.index-wires-wire.result.inits c.index-inits-place.result is.1
    (Contains-from_place c.index-wires-wire.result.inits c.loop-place.place c.index-inits-place.result there) in
    let same : length c.as_slice.result.now ≡ length c.index-inits-place.result = ap (λ (l : List (Option Bool)). length l) c.as_slice.ensures in
    omega (arith, c.offset-first.ensures.within c.index-wires-wire.result at, c.requires.places, size, same, lt)

pub add_init-requires-clause-root : goal.add_init-requires-clause-root
add_init-requires-clause-root c = omega (arith, c.requires.root, c.loop-place.invariant.size)
