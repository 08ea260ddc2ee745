use Rattle.std.proofs.Common.{refl}
use Rattle.design_core.specs.declared.names.ParameterName.TheVariants.{EnPolarity}
use Rattle.word_model.proofs.registers.enable_of.Goals as goal

pub control-requires-clause-plain : goal.control-requires-clause-plain
control-requires-clause-plain c = c.requires.flags EnPolarity refl
