use Rattle.sby_terms.specs.declared.names.Answer.TheVariants.{Sat}
use Rattle.sby_top.proofs.TraceLemmas.{settled_at}
use Rattle.sby_top.proofs.traces.sat_run.Goals as goal

pub push_run-requires-clause-settled : goal.push_run-requires-clause-settled
push_run-requires-clause-settled c = settled_at _ _ c.args.reports.now c.args.answers.now c.in-Some.place Sat c.requires.answers c.in-Some.ensures.some.0
