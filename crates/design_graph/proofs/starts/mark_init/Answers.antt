use Rattle.std.proofs.Common.{◌≡◌, ◌<◌, ◌+◌, ◌∙◌, ℕ, Bool, true, Option, Some, None, length, get_or, set, refl, ap, sym, arith}
use Rattle.std.specs.Prelude.{slice_get}
use Rattle.std.proofs.lemmas.Bool.{false≢true}
use Rattle.std.proofs.lemmas.Option.{slice_get-get_or}
use Rattle.design_graph.specs.Edges.{Marks}
use Rattle.design_core.proofs.Lists.{one_at}
use Rattle.design_graph.proofs.MarkSets.{Before-next, Before-end, Marks-as, Marks-set, DigitAt}
use Rattle.design_graph.proofs.starts.mark_init.Goals as goal
use Rattle.design_graph.proofs.MarkSets.{Marks-none}
use Rattle.design_graph.proofs.starts.mark_init.Goals.{then-is_digit, else-is_digit}

pub loop-bit-preserved : goal.loop-bit-preserved
loop-bit-preserved c =
    let x : Option Bool = get_or c.args.digits.now c.loop-bit.bit None in
    let at = slice_get-get_or c.args.digits.now c.loop-bit.bit None c.loop-bit-test.true in
    let within = c.requires.wire c.loop-bit.bit c.loop-bit-test.true in
    let l : ℕ = get_or c.args.leaders.now (c.args.first + c.loop-bit.bit) 0 in
    let led = slice_get-get_or c.args.leaders.now (c.args.first + c.loop-bit.bit) 0 within in
    let lt : l < length c.loop-bit.marks = omega (arith, c.requires.leaders (c.args.first + c.loop-bit.bit) l led, c.loop-bit.invariant.size) in
    elim c.if-is_digit.branch as (λ _. Marks c.args.marks.now (λ p. (k : ℕ) × (y : Option Bool) × (k < c.loop-bit.bit + 1) × (slice_get c.args.digits.now k ≡ Some y) × DigitAt c.args.first c.args.leaders.now c.args.digit k y p) c.if-is_digit.marks) [
      | then-is_digit w ↦
          let e : get_or c.args.digits.now c.loop-bit.bit None ≡ Some c.args.digit = c.is_digit.ensures.0 w.if-is_digit.true in
          rw w.marks-is
          (Before-next c.args.digits.now (DigitAt c.args.first c.args.leaders.now c.args.digit) c.args.marks.now c.loop-bit.marks (set c.loop-bit.marks l true) c.loop-bit.bit x at c.loop-bit.invariant
          (Marks-as c.loop-bit.marks (set c.loop-bit.marks l true) (λ p. p ≡ l) (DigitAt c.args.first c.args.leaders.now c.args.digit c.loop-bit.bit x) (Marks-set c.loop-bit.marks l lt)
          (λ p h. (e, led ∙ ap (λ (n : ℕ). Some n) (sym h))) (λ p h. one_at c.args.leaders.now (c.args.first + c.loop-bit.bit) p l h.1 led)))
      | else-is_digit w ↦
          rw w.marks-is
          (Before-next c.args.digits.now (DigitAt c.args.first c.args.leaders.now c.args.digit) c.args.marks.now c.loop-bit.marks c.loop-bit.marks c.loop-bit.bit x at c.loop-bit.invariant
          (Marks-none c.loop-bit.marks (DigitAt c.args.first c.args.leaders.now c.args.digit c.loop-bit.bit x) (λ p h. false≢true (sym w.if-is_digit.false ∙ c.is_digit.ensures.1 h.0))))
    ]

pub returns : goal.returns
returns c =
    Before-end c.args.digits.now (DigitAt c.args.first c.args.leaders.now c.args.digit) c.args.marks.now c.loop-bit.marks c.loop-bit.bit
    (λ l. (b : ℕ) × (slice_get c.args.digits.now b ≡ Some (Some c.args.digit)) × (slice_get c.args.leaders.now (c.args.first + b) ≡ Some l)) c.loop-bit-test.false c.loop-bit.invariant
    (λ k x p at h. (k, at ∙ ap (λ (y : Option Bool). Some y) h.0, h.1)) (λ p t. (t.0, Some c.args.digit, t.1, (refl, t.2)))
