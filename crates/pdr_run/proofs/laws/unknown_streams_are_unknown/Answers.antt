use Rattle.pdr_run.proofs.Unknown.{broken_fate, spent_fate}
use Rattle.pdr_run.proofs.laws.unknown_streams_are_unknown.Goals as goal

pub returns-clause-spent : goal.returns-clause-spent
returns-clause-spent c = spent_fate

pub returns-clause-broken : goal.returns-clause-broken
returns-clause-broken c = broken_fate
