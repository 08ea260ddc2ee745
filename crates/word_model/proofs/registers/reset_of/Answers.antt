use Rattle.std.proofs.Common.{refl}
use Rattle.design_core.specs.declared.names.ParameterName.TheVariants.{SrstPolarity, ArstPolarity}
use Rattle.word_model.proofs.registers.reset_of.Goals as goal

pub control-requires-clause-plain : goal.control-requires-clause-plain
control-requires-clause-plain c = c.requires.flags SrstPolarity refl

pub control-requires-then-asks-2-clause-plain : goal.control-requires-then-asks-2-clause-plain
control-requires-then-asks-2-clause-plain c = c.requires.flags ArstPolarity refl
