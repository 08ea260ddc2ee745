use Rattle.std.proofs.Common.{subst, sym}
use Rattle.net_jobs.specs.Jobs.{IsOfSpan}
use Rattle.sby_terms.specs.declared.span.Span.{Span}
use Rattle.judge.proofs.Encodes.{job_of_span}
use Rattle.judge.proofs.Sizes.{witness_told}
use Rattle.judge.specs.Jobs.{span_of}
use Rattle.judge.proofs.witness.WitnessReader.new.Goals as goal

pub sought_of-requires-clause-job : goal.sought_of-requires-clause-job
sought_of-requires-clause-job c =
    let p = c.args.problem.now in
    let h = c.flat-flat.ensures.problem in
    let w = c.requires.job in
    subst (λ (s : Span). IsOfSpan c.args.job s) (sym c.span.ensures) (job_of_span p.design p.model h.design h.model p.problem.mode (span_of p.problem) w.0 c.args.job w.1 (witness_told c.args.job c.requires.run))
