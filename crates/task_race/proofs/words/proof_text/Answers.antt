use Rattle.std.proofs.Common.{rules, append_assoc}
use Rattle.task_race.specs.Words.{proof_text}
use Rattle.task_race.proofs.words.proof_text.Goals as goal

pub returns : goal.returns
unfolding proof_text
returns c = search (rules, append_assoc)
