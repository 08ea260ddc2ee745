use Rattle.std.proofs.Common.{length}
use Rattle.std.specs.List.{range_with_len}
use Rattle.design_core.specs.Asked.{output_of}
use Rattle.design_core.specs.Table.{role_of}
use Rattle.design_meaning.proofs.States.{by_role}
use Rattle.design_meaning.proofs.laws.state_bits_are_held.Goals as goal

pub returns : goal.returns
returns c = λ v i x. by_role v i (role_of x.kind) (output_of x) (range_with_len 0 (length (output_of x)))
