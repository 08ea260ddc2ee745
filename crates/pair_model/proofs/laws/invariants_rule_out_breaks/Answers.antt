use Rattle.pair_model.proofs.Ruling.{no_break}
use Rattle.pair_model.proofs.laws.invariants_rule_out_breaks.Goals as goal

pub returns : goal.returns
returns c m places p I is inv n cs a lt s = no_break m places p I is inv n cs a lt s
