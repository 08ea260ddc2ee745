use Rattle.std.proofs.Common.{arith, inl, ◌∙◌}
use Rattle.std.proofs.lemmas.Result.{err_from_is_err_and}
use Rattle.sby_lines.proofs.TellLemmas.{grown_more}
use Rattle.sby_lines.proofs.tell.offer.Goals as goal

pub loop-at-preserved : goal.loop-at-preserved
loop-at-preserved g c = record {
  within = omega (arith, c.in_ok-count.ensures.fits, c.split_at.ensures.back_len);
  taken = grown_more _ _ _ c.loop-at.at c.in_ok-count.count c.args.piece.now _ c.split_at.ensures.back c.loop-at.invariant.taken c.in_ok-count.ensures.taken;
  still = c.in_ok-count.ensures.stands (inl (omega (arith, c.if-count-eq0.false))) ∙ c.loop-at.invariant.still;
}

pub returns-in_err-count-clause-failed : goal.returns-in_err-count-clause-failed
returns-in_err-count-clause-failed g c = let p = err_from_is_err_and c.from_residual.result c.from_residual.ensures.1 in
    rw p.1 (omega (arith, c.loop-at.invariant.still, c.in_err-count.ensures.cause.failed))

pub returns-then-count-eq0-clause-failed : goal.returns-then-count-eq0-clause-failed
returns-then-count-eq0-clause-failed g c =
    omega (arith, c.loop-at.invariant.still, c.in_ok-count.ensures.some c.if-count-eq0.true (omega (arith, c.split_at.ensures.back_len, c.loop-at-test.true)))
