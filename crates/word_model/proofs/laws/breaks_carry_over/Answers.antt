use Rattle.word_model.proofs.Runs.{shows-to, shows-from}
use Rattle.word_model.proofs.laws.breaks_carry_over.Goals as goal

pub returns-clause-model : goal.returns-clause-model
returns-clause-model c = λ d m is n cs a s. shows-to d m is n cs a s

pub returns-clause-design : goal.returns-clause-design
returns-clause-design c = λ d m shape is n a vs s. shows-from d m is shape n vs a s
