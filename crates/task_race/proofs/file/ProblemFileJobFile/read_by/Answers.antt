use Rattle.std.proofs.Common.{◌≡◌, ap, ◌∙◌, subst}
use Rattle.task_race.specs.Serving.{ProblemFileOf, file_of}
use Rattle.task_race.proofs.Files.{file_is}
use Rattle.task_race.proofs.file.ProblemFileJobFile.read_by.Goals as goal

pub returns-clause-read : goal.returns-clause-read
returns-clause-read g c =
    let is = file_is c.self.inside.problem.now c.self.inside.job c.in_ok-file.file c.in_ok-file.ensures in
    let same : c.new.result.text ≡ c.in_ok-file.file = c.new.ensures ∙ c.text.ensures in
    let whole : c.new.result.text ≡ file_of c.args.self.now.problem c.args.self.now.job = same ∙ is ∙ ap (λ (v : ProblemFileOf). file_of v.problem v.job) c.self.view_is in
    subst (λ bs. g.R.FileReader.has_read c.args.reader.now bs c.read.new.self) whole c.read.ensures
