use Rattle.race_law.proofs.laws.any_report_order.Goals as goal
use Rattle.race_law.proofs.Permuting.{same-outcome}

pub returns : goal.returns
returns c called = λ mode jobs p xs ys same are. same-outcome c.T.Settled.problem c.T.Settled.job c.T.Settled.answer c.T.Settled.is_true c.met.T.Settled.one_answer mode
    (λ answers v u. called.one_verdict.ensures mode answers v u) jobs p xs ys same are
