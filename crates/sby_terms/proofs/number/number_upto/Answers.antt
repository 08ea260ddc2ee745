use Rattle.std.proofs.Common.{arith, sym, ◌∙◌, ap, ◌*◌, ◌+◌}
use Rattle.sby_terms.proofs.Numbers.{value_more, digits_more, none_large}
use Rattle.sby_terms.proofs.number.number_upto.Goals as goal

pub returns-then-value-from : goal.returns-then-value-from
returns-then-value-from c =
    none_large c.args.most c.args.digits.now c.loop-b.b-index (c.loop-b.value * 10 + c.from.result) (omega arith)
    (ap (λ d. c.loop-b.value * 10 + d) c.from.ensures ∙ value_more _ _ _ c.loop-b-test.true (sym c.is_ascii_digit.ensures.value ∙ c.if-not-is_ascii_digit.false) c.loop-b.invariant.value)

pub loop-b-preserved : goal.loop-b-preserved
loop-b-preserved c = record {
  value = ap (λ d. c.loop-b.value * 10 + d) c.from.ensures ∙ value_more _ _ _ c.loop-b-test.true (sym c.is_ascii_digit.ensures.value ∙ c.if-not-is_ascii_digit.false) c.loop-b.invariant.value;
  digits = digits_more _ _ c.loop-b-test.true (sym c.is_ascii_digit.ensures.value ∙ c.if-not-is_ascii_digit.false) c.loop-b.invariant.digits;
  limit = omega arith;
}
