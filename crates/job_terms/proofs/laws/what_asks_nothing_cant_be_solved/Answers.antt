use Rattle.job_terms.proofs.Nothing.{unsolvable}
use Rattle.job_terms.proofs.laws.what_asks_nothing_cant_be_solved.Goals as goal

pub returns : goal.returns
returns c m job span none solved = unsolvable m job span none solved
