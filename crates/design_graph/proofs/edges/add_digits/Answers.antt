use Rattle.std.proofs.Common.{◌≡◌, ◌+◌, Some, Contains, refl, subst, arith}
use Rattle.std.specs.Prelude.{slice_get}
use Rattle.digraph.specs.Graph.{Extends}
use Rattle.digraph.proofs.Growing.{Extends-same}
use Rattle.design_core.specs.declared.digit.Digit.{Digit}
use Rattle.design_core.specs.declared.digit.Digit.TheVariants.{Free as FreeDigit}
use Rattle.design_core.proofs.Lists.{Contains-from_place, place-from_Contains}
use Rattle.design_graph.specs.Edges.{IsDigitPlace}
use Rattle.design_graph.proofs.EdgeSteps.{Upto-next, Upto-end, IsFreePlace, DigitsUpto, digit-step}
use Rattle.design_graph.proofs.edges.add_digits.Goals as goal
use Rattle.design_graph.proofs.edges.add_digits.Goals.{in-Free+in_ok-add_edge, in_default}

pub loop-place-preserved : goal.loop-place-preserved
loop-place-preserved c =
    let d = c.args.design.now in
    let at : slice_get c.args.constant.now c.loop-place.place ≡ Some c.digit.result = c.digit.ensures in
    elim c.match-digit.branch as (λ _. Extends c.args.graph.now (DigitsUpto d c.args.constant.now c.args.node (c.loop-place.place + 1)) c.match-digit.graph) [
      | in-Free+in_ok-add_edge w ↦
          rw w.graph-is
          (Upto-next c.args.constant.now (λ k x p q. (p ≡ c.args.node) × IsFreePlace d x q) c.args.graph.now c.loop-place.graph w.add_edge.new.graph c.loop-place.place c.digit.result at
          c.loop-place.invariant
          (digit-step d c.loop-place.graph w.add_edge.new.graph c.args.node w.place.result c.digit.result w.in-Free.number w.in-Free.is w.place.ensures.place w.in_ok-add_edge.ensures.ok))
      | in_default w ↦
          rw w.graph-is
          (Upto-next c.args.constant.now (λ k x p q. (p ≡ c.args.node) × IsFreePlace d x q) c.args.graph.now c.loop-place.graph c.loop-place.graph c.loop-place.place c.digit.result at
          c.loop-place.invariant
          (Extends-same c.loop-place.graph (λ p q. (p ≡ c.args.node) × IsFreePlace d c.digit.result q) (λ p q h. w.in_default.not-Free h.1.0 h.1.1)))
    ]

pub returns : goal.returns
returns c =
    let d = c.args.design.now in
    Upto-end c.args.constant.now (λ k x p q. (p ≡ c.args.node) × IsFreePlace d x q) c.args.graph.now c.loop-place.graph c.loop-place.place
    (λ p q. (p ≡ c.args.node) × IsDigitPlace d c.args.constant.now q) (omega (arith, c.loop-place-test.false, c.len-place-end.ensures)) c.loop-place.invariant
    (λ k x p q at h.
    let f = h.1 in
    (h.0, (f.0, subst (λ (y : Digit). Contains c.args.constant.now y) f.1 (Contains-from_place c.args.constant.now k x at), f.2)))
    (λ p q t. let r = t.1 in let at = place-from_Contains c.args.constant.now (FreeDigit r.0) r.1 in (at.0, FreeDigit r.0, at.1, (t.0, (r.0, refl, r.2))))
