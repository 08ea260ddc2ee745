use Rattle.std.proofs.Common.{◌∙◌, ◌≤◌, ◌^◌, ap, subst, sym}
use Rattle.bit_net.specs.Net.{NetOf}
use Rattle.net_jobs.specs.Jobs.{IsOfSpan, job_made}
use Rattle.task_net.specs.Net.{TaskNetOf}
use Rattle.judge.proofs.Encodes.{job_of_span, told-fits}
use Rattle.judge.specs.Basis.{BasisOf}
use Rattle.judge.specs.Jobs.{span_of}
use Rattle.judge.specs.Problem.{AskedOf}
use Rattle.judge.proofs.problem.Problem.encoded.Goals as goal

pub encode_again-requires-clause-job : goal.encode_again-requires-clause-job
encode_again-requires-clause-job c =
    let p = c.args.self.now in
    let h = c.flat-flat.ensures.problem in
    subst (λ (q : AskedOf). IsOfSpan c.args.job (span_of q.problem)) (sym c.self.view_is)
    (job_of_span p.design p.model h.design h.model p.problem.mode (span_of p.problem) c.requires.0.0 c.args.job c.requires.0.1 c.requires.1)

pub encode_again-requires-clause-fits : goal.encode_again-requires-clause-fits
encode_again-requires-clause-fits c =
    let net = c.net-2.ensures ∙ ap (λ (t : TaskNetOf). t.net) (c.net.ensures ∙ ap (λ (b : BasisOf). b.net) c.deref.ensures) in
    subst (λ (n : NetOf). job_made n c.args.job c.self.inside.span ≤ 2 ^ 27) (sym net)
    (subst (λ (q : AskedOf). job_made q.net.net c.args.job (span_of q.problem) ≤ 2 ^ 27) (sym c.self.view_is) (told-fits c.args.self.now c.flat-flat.ensures.problem c.args.job c.requires))
