use Rattle.std.proofs.Common.{◌≡◌, ◌+◌, ◌∙◌, ℕ, Bool, Option, Some, None, get_or, refl, ap, sym}
use Rattle.std.specs.Prelude.{slice_get}
use Rattle.std.proofs.lemmas.Bool.{false≢true}
use Rattle.std.proofs.lemmas.Option.{slice_get-get_or}
use Rattle.digraph.specs.Graph.{Extends}
use Rattle.digraph.proofs.Growing.{Extends-as, Extends-same}
use Rattle.design_graph.proofs.EdgeSteps.{Upto-end, Upto-next, Upto-start}
use Rattle.design_lower.proofs.Ending.{DigitEdge, InitUpto}
use Rattle.design_lower.proofs.starts.add_init.Goals as goal
use Rattle.design_lower.proofs.starts.add_init.Goals.{then-is_digit+in_ok-add_edge, else-is_digit}

pub loop-bit-init : goal.loop-bit-init
loop-bit-init c = Upto-start c.args.digits.now (DigitEdge c.args.first c.args.digit c.args.root) c.args.graph.now

pub loop-bit-preserved : goal.loop-bit-preserved
loop-bit-preserved c =
    let x : Option Bool = get_or c.args.digits.now c.loop-bit.bit None in
    let at = slice_get-get_or c.args.digits.now c.loop-bit.bit None c.loop-bit-test.true in
    elim c.if-is_digit.branch as (λ _. Extends c.args.graph.now (InitUpto c.args.first c.args.digits.now c.args.digit c.args.root (c.loop-bit.bit + 1)) c.if-is_digit.graph) [
      | then-is_digit+in_ok-add_edge w ↦
          let e : get_or c.args.digits.now c.loop-bit.bit None ≡ Some c.args.digit = c.is_digit.ensures.0 w.if-is_digit.true in
          rw w.graph-is
          (Upto-next c.args.digits.now (DigitEdge c.args.first c.args.digit c.args.root) c.args.graph.now c.loop-bit.graph w.add_edge.new.graph c.loop-bit.bit x at c.loop-bit.invariant
          (Extends-as c.loop-bit.graph w.add_edge.new.graph (λ p q. (p ≡ c.args.root) × (q ≡ c.args.first + c.loop-bit.bit)) (DigitEdge c.args.first c.args.digit c.args.root c.loop-bit.bit x)
          w.in_ok-add_edge.ensures.ok (λ p q h. (h.0, (e, h.1))) (λ p q h. (h.0, h.1.1))))
      | else-is_digit w ↦
          rw w.graph-is
          (Upto-next c.args.digits.now (DigitEdge c.args.first c.args.digit c.args.root) c.args.graph.now c.loop-bit.graph c.loop-bit.graph c.loop-bit.bit x at c.loop-bit.invariant
          (Extends-same c.loop-bit.graph (DigitEdge c.args.first c.args.digit c.args.root c.loop-bit.bit x) (λ p q h. false≢true (sym w.if-is_digit.false ∙ c.is_digit.ensures.1 h.1.0))))
    ]

pub returns : goal.returns
returns c =
    Upto-end c.args.digits.now (DigitEdge c.args.first c.args.digit c.args.root) c.args.graph.now c.loop-bit.graph c.loop-bit.bit
    (λ p q. (p ≡ c.args.root) × ((b : ℕ) × (slice_get c.args.digits.now b ≡ Some (Some c.args.digit)) × (q ≡ c.args.first + b))) c.loop-bit-test.false c.loop-bit.invariant
    (λ k x p q at h. (h.0, (k, at ∙ ap (λ (y : Option Bool). Some y) h.1.0, h.1.1))) (λ p q t. let r = t.1 in (r.0, Some c.args.digit, r.1, (t.0, (refl, r.2))))
