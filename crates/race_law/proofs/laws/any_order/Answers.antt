use Rattle.race_law.proofs.laws.any_order.Goals as goal
use Rattle.race_law.proofs.Tasks.{run-agrees, run-consistent, run-found, run-collected, run-plain}

pub returns : goal.returns
returns c called = record {
  consistent = λ task script w v ss ends r. run-consistent c.T.Settled.problem c.T.Settled.job c.T.Settled.answer c.T.Settled.is_true c.met.T.Settled.one_answer task script r.scripts w v ss r.new r.run ends r.ended;
  agree = λ task script w v ss ends r. run-agrees c.T.Settled.problem c.T.Settled.job c.T.Settled.answer c.T.Settled.is_true c.met.T.Settled.one_answer task script r.scripts w v ss r.new r.run;
  found = λ task script w v ss ends r. run-found c.T.Settled.problem c.T.Settled.job c.T.Settled.answer c.T.Settled.is_true c.met.T.Settled.one_answer task script r.scripts w v ss r.new r.run ends r.ended;
  collected = λ task script w v ss ends r. run-collected c.T.Settled.problem c.T.Settled.job c.T.Settled.answer c.T.Settled.is_true c.met.T.Settled.one_answer task script r.scripts w v ss r.new r.run ends r.ended;
  plain = λ task script w v ss ends r u. run-plain c.T.Settled.problem c.T.Settled.job c.T.Settled.answer c.T.Settled.is_true c.met.T.Settled.one_answer task script r.scripts w v ss r.new r.run ends r.ended u.steps u.ends_calm
      (λ answers x y. called.one_verdict.ensures task.mode answers x y);
}
