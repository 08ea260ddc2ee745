use Rattle.sby_top.proofs.PutLemmas.{model_put, put_model}
use Rattle.sby_top.proofs.laws.models_are_put_for_witnesses.Goals as goal

pub returns : goal.returns
returns c = λ service p job. (model_put service p job, put_model service p job)
