use Rattle.model_laws.proofs.Coned.{input-read, state-read}
use Rattle.model_laws.proofs.laws.cone_bits_are_read.Goals as goal

pub returns-clause-inputs : goal.returns-clause-inputs
returns-clause-inputs c = λ d order m shape flat ordered built asked b has cone. input-read d shape flat order ordered m built asked b has cone

pub returns-clause-states : goal.returns-clause-states
returns-clause-states c = λ d order m shape flat ordered built asked s has cone. state-read d shape flat order ordered m built asked s has cone
