use Rattle.std.proofs.Common.{refl}
use Rattle.design_core.specs.declared.names.ParameterName.TheVariants.{ASigned, BSigned}
use Rattle.word_model.proofs.nodes.op_of.Goals as goal

pub flag-a-requires : goal.flag-a-requires
flag-a-requires c = c.requires.flags ASigned refl

pub flag-b-requires : goal.flag-b-requires
flag-b-requires c = c.requires.flags BSigned refl
