use Rattle.cnf_form.proofs.Literals.{index_of-injective}
use Rattle.cnf_form.proofs.literal.places_differ.Goals as goal

pub returns : goal.returns
returns c = index_of-injective
