use Rattle.word_model.proofs.Runs.{reach-to, reach-from}
use Rattle.word_model.proofs.laws.covers_carry_over.Goals as goal

pub returns-clause-model : goal.returns-clause-model
returns-clause-model c = λ d m is n cs k s. reach-to d m is n cs k s

pub returns-clause-design : goal.returns-clause-design
returns-clause-design c = λ d m shape is n k vs s. reach-from d m is shape n vs k s
