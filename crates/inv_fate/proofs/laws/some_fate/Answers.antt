use Rattle.std.proofs.Common.{[]}
use Rattle.inv_stream.specs.declared.mode.Part.TheVariants.{Head}
use Rattle.inv_fate.proofs.Fates.{comes_somewhere}
use Rattle.inv_fate.proofs.laws.some_fate.Goals as goal

pub returns : goal.returns
returns c p ss k = comes_somewhere p Head [] [] ss k
