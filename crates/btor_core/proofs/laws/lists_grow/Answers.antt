use Rattle.btor_core.proofs.Growing.{bads_body, constraints_body, inits_body, nexts_body, open_body}
use Rattle.btor_core.proofs.laws.lists_grow.Goals as goal

pub returns : goal.returns
returns c = record { inits = inits_body; nexts = nexts_body; constraints = constraints_body; bads = bads_body; open_words = open_body }
