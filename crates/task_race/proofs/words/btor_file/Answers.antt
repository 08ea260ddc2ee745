use Rattle.std.proofs.Common.{◌≡◌, ◌∙◌, ◌++◌, sym, List, ℕ}
use Rattle.std.specs.Prelude.{codes}
use Rattle.std.proofs.lemmas.List.{append_assoc}
use Rattle.std.proofs.lemmas.Result.{IfOk-weaker}
use Rattle.task_race.specs.Words.{btor_file}
use Rattle.task_race.proofs.words.btor_file.Goals as goal

flat : (front name : List ℕ) → front ++ (codes "/model/" ++ (name ++ codes ".btor")) ≡ btor_file front name
unfolding btor_file
flat front name = sym (append_assoc (front ++ codes "/model/") name (codes ".btor") ∙ append_assoc front (codes "/model/") (name ++ codes ".btor"))

pub returns : goal.returns
returns c = IfOk-weaker c.format.result _ _ (λ t is. is ∙ flat c.args.folder.now c.args.job.now) c.format.ensures.ok
