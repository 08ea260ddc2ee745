use Rattle.sby_file.proofs.Comments.{uncommented_whole, uncommented_cut}
use Rattle.sby_file.proofs.laws.comments_end_lines.Goals as goal

pub returns-clause-whole : goal.returns-clause-whole
returns-clause-whole c = uncommented_whole

pub returns-clause-cut : goal.returns-clause-cut
returns-clause-cut c = uncommented_cut
