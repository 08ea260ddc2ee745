use Rattle.cdcl_run.proofs.HintedUnknown.{hinted_unknown_fate}
use Rattle.cdcl_run.proofs.Unknown.{unknown_fate}
use Rattle.cdcl_run.proofs.laws.unknown_streams_are_unknown.Goals as goal

pub returns-clause-plain : goal.returns-clause-plain
returns-clause-plain c = unknown_fate

pub returns-clause-hinted : goal.returns-clause-hinted
returns-clause-hinted c = hinted_unknown_fate
