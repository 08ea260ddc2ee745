use Rattle.std.proofs.Common.{[]}
use Rattle.inv_stream.specs.declared.mode.Part.TheVariants.{Head}
use Rattle.inv_fate.proofs.Fates.{comes_more}
use Rattle.inv_fate.proofs.laws.fates_stay.Goals as goal

pub returns : goal.returns
returns c p ss more fate h = comes_more p Head [] [] ss more fate h
