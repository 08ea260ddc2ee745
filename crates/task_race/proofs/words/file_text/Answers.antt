use Rattle.std.proofs.Common.{rules, append_assoc}
use Rattle.task_race.specs.Words.{file_text}
use Rattle.task_race.proofs.words.file_text.Goals as goal

pub returns : goal.returns
unfolding file_text
returns c = search (rules, append_assoc)
