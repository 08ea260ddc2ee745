use Rattle.witness_judge.proofs.Finding.{played_shows}
use Rattle.witness_judge.proofs.laws.played_runs_show.Goals as goal

pub returns : goal.returns
returns c = played_shows
