use Rattle.std.proofs.Common.{◌≡◌, ◌≤◌, ◌<◌, ◌+◌, ℕ, List, Bool, Option, Some, Contains, length, ap, subst, arith}
use Rattle.std.specs.Prelude.{slice_get}
use Rattle.std.proofs.lemmas.List.Elements.{All-contains}
use Rattle.design_core.specs.Shape.{WireOf, IsWire}
use Rattle.design_meaning.specs.Meaning.{IsInit}
use Rattle.design_core.specs.Places.{offset}
use Rattle.design_core.proofs.Lists.{Contains-from_place, place-from_Contains, item_at, one_at}
use Rattle.design_graph.proofs.MarkSets.{Before-next, Before-end, Marks-as, InitAt}
use Rattle.design_graph.proofs.Counts.{wires-few}
use Rattle.design_graph.proofs.starts.mark_wire.Goals as goal
use Rattle.design_graph.proofs.starts.mark_wire.Goals.{After-inits-inits, After-index-inits-place}

wire : (c : After-inits-inits) → slice_get c.args.design.now.wires c.args.wire ≡ Some c.index-wires-wire.result
wire c =
    let lt : c.args.wire < length c.wires-wires.result.now = rw c.wires-wires.ensures.wires c.requires.wire in
    rw c.wires-wires.ensures.wires at (item_at c.wires-wires.result.now c.args.wire c.index-wires-wire.result c.index-wires-wire.is lt)

init : (c : After-index-inits-place) → slice_get c.inits-inits.result.now c.loop-place.place ≡ Some c.index-inits-place.result
init c = item_at c.inits-inits.result.now c.loop-place.place c.index-inits-place.result c.index-inits-place.is c.loop-place-test.true

pub overflow_cast-wire : goal.overflow_cast-wire
overflow_cast-wire c = omega (arith, wires-few c.args.design.now c.wires-wires.ensures.design, c.wires-wires.ensures.design.bits, c.requires.wire)

pub mark_init-requires-clause-wire : goal.mark_init-requires-clause-wire
mark_init-requires-clause-wire c = λ b lt.
    let x = (goal.at.mark_init-requires-clause-wire c).After-inits-inits in
    let at = wire x in
    let there = rw c.inits-inits.ensures at (init (goal.at.mark_init-requires-clause-wire c).After-index-inits-place) in
    let is : IsWire c.index-wires-wire.result = All-contains IsWire c.args.design.now.wires c.index-wires-wire.result c.wires-wires.ensures.design.wires (Contains-from_place c.args.design.now.wires c.args.wire c.index-wires-wire.result at) in
    let size = All-contains (λ (digits : List (Option Bool)). length digits ≤ c.index-wires-wire.result.width) c.index-wires-wire.result.inits c.index-inits-place.result is.1
    (Contains-from_place c.index-wires-wire.result.inits c.loop-place.place c.index-inits-place.result there) in
    let same : length c.as_slice.result.now ≡ length c.index-inits-place.result = ap (λ (l : List (Option Bool)). length l) c.as_slice.ensures in
    omega (arith, c.offset-first.ensures.within c.index-wires-wire.result at, c.requires.nets.size, size, same, lt)

pub loop-place-preserved : goal.loop-place-preserved
loop-place-preserved c =
    let at = init (goal.at.loop-place-preserved c).After-index-inits-place in
    let next = rw c.as_slice.ensures at c.mark_init.ensures in
    Before-next c.inits-inits.result.now (InitAt c.offset-first.result c.args.leaders.now c.args.digit) c.args.marks.now c.loop-place.marks c.mark_init.new.marks c.loop-place.place c.index-inits-place.result at
    c.loop-place.invariant next

pub returns : goal.returns
returns c =
    let at = wire (goal.at.returns c).After-inits-inits in
    let w = c.index-wires-wire.result in
    let marks = rw c.offset-first.ensures.offset at
    (Before-end c.inits-inits.result.now (InitAt c.offset-first.result c.args.leaders.now c.args.digit) c.args.marks.now c.loop-place.marks c.loop-place.place
    (λ l. (k : ℕ) × (digits : List (Option Bool)) × (slice_get c.inits-inits.result.now k ≡ Some digits) × InitAt c.offset-first.result c.args.leaders.now c.args.digit k digits l)
    c.loop-place-test.false c.loop-place.invariant (λ k x p there h. (k, x, there, h)) (λ p t. t)) in
    let all = rw c.inits-inits.ensures at marks in
    Marks-as c.args.marks.now c.loop-place.marks
    (λ l. (k : ℕ) × (digits : List (Option Bool)) × (slice_get c.index-wires-wire.result.inits k ≡ Some digits) × InitAt (offset c.args.design.now c.args.wire) c.args.leaders.now c.args.digit k digits l)
    (λ l. (b : ℕ) × IsInit c.args.design.now c.args.wire b c.args.digit × (slice_get c.args.leaders.now (offset c.args.design.now c.args.wire + b) ≡ Some l)) all
    (λ l h. (h.3.0, (w, h.1, at, Contains-from_place w.inits h.0 h.1 h.2, h.3.1), h.3.2))
    (λ l t.
    let i = t.1 in
    let one : i.0 ≡ c.index-wires-wire.result = one_at c.args.design.now.wires c.args.wire i.0 w i.2 at in
    let there = place-from_Contains w.inits i.1 (subst (λ (x : WireOf). Contains x.inits i.1) one i.3) in
    (there.0, i.1, there.1, (t.0, i.4, t.2)))
