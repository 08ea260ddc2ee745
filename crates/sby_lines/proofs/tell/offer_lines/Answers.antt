use Rattle.std.proofs.Common.{arith, ap, ◌∙◌}
use Rattle.std.proofs.lemmas.Result.{err_from_is_err_and}
use Rattle.sby_lines.specs.Telling.{grown}
use Rattle.sby_lines.proofs.TellLemmas.{grown_more, grown_part}
use Rattle.sby_lines.proofs.tell.offer_lines.Goals as goal

pub loop-at-preserved : goal.loop-at-preserved
loop-at-preserved g c = record {
  within = omega (arith, c.first_line-count.ensures.within, c.split_at.ensures.back_len);
  taken = grown_more _ _ _ c.loop-at.at c.first_line-count.result c.args.text.now _ c.split_at.ensures.back c.loop-at.invariant.taken
      (c.in_ok-offer.ensures.whole ∙ ap (grown _) c.split_at-in-loop-at.ensures.front);
  still = c.in_ok-offer.ensures.still ∙ c.loop-at.invariant.still;
}

pub returns-in_err-offer-clause-part : goal.returns-in_err-offer-clause-part
returns-in_err-offer-clause-part g c = let p = err_from_is_err_and c.from_residual.result c.from_residual.ensures.1 in
    rw p.1 (grown_part _ _ _ c.loop-at.at c.first_line-count.result c.args.text.now _ _ c.split_at.ensures.back c.split_at-in-loop-at.ensures.front c.first_line-count.ensures.within
    (omega (arith, c.first_line-count.ensures.within, c.split_at.ensures.back_len)) c.loop-at.invariant.taken c.in_err-offer.ensures.part)
