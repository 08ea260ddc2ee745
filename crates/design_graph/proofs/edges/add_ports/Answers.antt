use Rattle.std.proofs.Common.{◌≡◌, ◌≤◌, ◌∙◌, List, Some, length, get_or, ap, subst}
use Rattle.std.specs.Prelude.{slice_get}
use Rattle.std.proofs.lemmas.Option.{slice_get-get_or}
use Rattle.design_core.specs.Ports.{signal_at}
use Rattle.design_core.specs.Shape.{IsDeclared}
use Rattle.design_core.specs.Table.{ports_read}
use Rattle.design_core.specs.declared.names.PortName.{PortName}
use Rattle.design_core.specs.declared.names.PortName.TheVariants.{A}
use Rattle.design_core.proofs.Lists.{Contains-from_place, place-from_Contains}
use Rattle.design_graph.specs.Edges.{IsPlaceIn, IsPortPlace}
use Rattle.design_graph.proofs.Declared.{All-signal_at}
use Rattle.design_graph.proofs.EdgeSteps.{Upto-next, Upto-end}
use Rattle.design_graph.proofs.edges.add_ports.Goals as goal

pub add_from-requires-clause-bits : goal.add_from-requires-clause-bits
add_from-requires-clause-bits c =
    let d = c.args.design.now in
    rw c.signal.ensures.bits (All-signal_at (IsDeclared d.wires d.free) c.args.cell.now.ports (get_or c.ports_read-names.result.now c.loop-place.place A) c.requires.cell.ports)

pub loop-place-preserved : goal.loop-place-preserved
loop-place-preserved c =
    let d = c.args.design.now in
    let cell = c.args.cell.now in
    let names = c.ports_read-names.result.now in
    let name : PortName = get_or names c.loop-place.place A in
    let same : names ≡ ports_read cell.kind = c.ports_read-names.ensures ∙ ap (λ k. ports_read k) c.kind.ensures in
    let at : slice_get (ports_read cell.kind) c.loop-place.place ≡ Some name = subst (λ (l : List PortName). slice_get l c.loop-place.place ≡ Some name) same (slice_get-get_or names c.loop-place.place A c.loop-place-test.true) in
    let next = rw c.signal.ensures.bits at c.in_ok-add_from.ensures in
    Upto-next (ports_read cell.kind) (λ k n p q. (p ≡ c.args.node) × IsPlaceIn d (signal_at cell.ports n) q) c.args.graph.now c.loop-place.graph c.add_from.new.graph c.loop-place.place name at
    c.loop-place.invariant next

pub returns : goal.returns
returns c =
    let d = c.args.design.now in
    let cell = c.args.cell.now in
    let names = c.ports_read-names.result.now in
    let same : names ≡ ports_read cell.kind = c.ports_read-names.ensures ∙ ap (λ k. ports_read k) c.kind.ensures in
    let most : length (ports_read cell.kind) ≤ c.loop-place.place = subst (λ (l : List PortName). length l ≤ c.loop-place.place) same c.loop-place-test.false in
    Upto-end (ports_read cell.kind) (λ k n p q. (p ≡ c.args.node) × IsPlaceIn d (signal_at cell.ports n) q) c.args.graph.now c.loop-place.graph c.loop-place.place
    (λ p q. (p ≡ c.args.node) × IsPortPlace d cell q) most c.loop-place.invariant
    (λ k n p q at h. let b = h.1 in (h.0, (b.0, (n, Contains-from_place (ports_read cell.kind) k n at, b.1), b.2)))
    (λ p q t. let b = t.1 in let port = b.1 in let at = place-from_Contains (ports_read cell.kind) port.0 port.1 in (at.0, port.0, at.1, (t.0, (b.0, port.2, b.2))))
