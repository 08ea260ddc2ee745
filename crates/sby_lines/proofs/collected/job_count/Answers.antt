use Rattle.std.proofs.Common.{◌∙◌, ap, sym, arith}
use Rattle.sby_lines.proofs.PlaceLemmas.{cover_length, few_covers, slice_length}
use Rattle.sby_lines.proofs.collected.job_count.Goals as goal

pub overflow_cast-result : goal.overflow_cast-result
overflow_cast-result c = omega (arith, few_covers c.design.result.now c.counts_of.ensures.design, ap (λ x. x.covers) c.counts_of.ensures.counts)

pub returns-in-Bmc : goal.returns-in-Bmc
returns-in-Bmc c = c.slices.ensures.slices ∙ sym (slice_length c.args.mode c.args.span.now c.args.flat.now c.in-Bmc.is)

pub returns-in-Cover : goal.returns-in-Cover
returns-in-Cover c = ap (λ x. x.covers) c.counts_of.ensures.counts ∙ sym (cover_length c.args.mode c.args.span.now c.args.flat.now c.design.result.now c.in-Cover.is c.design.ensures.design)
