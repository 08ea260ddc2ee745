use Rattle.std.proofs.Common.{◌≡◌, ◌⊎◌, inl, inr}
use Rattle.digraph.proofs.Growing.{Extends-more}
use Rattle.design_core.specs.Asked.{output_of}
use Rattle.design_graph.specs.Edges.{IsPlaceIn, IsPortPlace, IsResetPlace, IsCellEdge}
use Rattle.design_graph.proofs.Declared.{outputs-declared}
use Rattle.design_graph.proofs.edges.add_cell.Goals as goal

pub add_to-requires-clause-bits : goal.add_to-requires-clause-bits
add_to-requires-clause-bits c = rw c.output.ensures.bits (outputs-declared c.args.design.now.wires c.args.design.now.free c.args.cell.now c.requires.cell)

pub returns : goal.returns
returns c =
    let d = c.args.design.now in
    let cell = c.args.cell.now in
    let node = c.args.node in
    let first = rw c.output.ensures.bits at c.in_ok-add_to.ensures in
    let ports = Extends-more c.args.graph.now c.add_to.new.graph c.add_ports.new.graph (λ p q. IsPlaceIn d (output_of cell) p × (q ≡ node)) (λ p q. (p ≡ node) × IsPortPlace d cell q)
    (λ p q. (IsPlaceIn d (output_of cell) p × (q ≡ node)) ⊎ ((p ≡ node) × IsPortPlace d cell q)) first c.in_ok-add_ports.ensures (λ p q h. inl h) (λ p q h. inr h) (λ p q h. h) in
    Extends-more c.args.graph.now c.add_ports.new.graph c.add_reset.new.graph (λ p q. (IsPlaceIn d (output_of cell) p × (q ≡ node)) ⊎ ((p ≡ node) × IsPortPlace d cell q))
    (λ p q. (p ≡ node) × IsResetPlace d cell q) (IsCellEdge d cell node) ports c.in_ok-add_reset.ensures
    (λ p q h. elim h as (λ _. IsCellEdge d cell node p q) [ inl out ↦ inl out | inr in' ↦ inr (in'.0, (in'.1.0, inl in'.1.1, in'.1.2)) ])
    (λ p q h. inr (h.0, (h.1.0, inr h.1.1, h.1.2)))
    (λ p q h. elim h as (λ _. ((IsPlaceIn d (output_of cell) p × (q ≡ node)) ⊎ ((p ≡ node) × IsPortPlace d cell q)) ⊎ ((p ≡ node) × IsResetPlace d cell q)) [
      | inl out ↦ inl (inl out)
      | inr in' ↦ elim in'.1.1 as (λ _. ((IsPlaceIn d (output_of cell) p × (q ≡ node)) ⊎ ((p ≡ node) × IsPortPlace d cell q)) ⊎ ((p ≡ node) × IsResetPlace d cell q)) [
        | inl port ↦ inl (inr (in'.0, (in'.1.0, port, in'.1.2)))
        | inr reset ↦ inr (in'.0, (in'.1.0, reset, in'.1.2))
      ]
    ])
