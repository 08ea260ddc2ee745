use Rattle.std.proofs.Common.{refl}
use Rattle.btor_emit.proofs.Marking.{marked_one}
use Rattle.btor_emit.proofs.reads.mark.Goals as goal

pub returns : goal.returns
returns c = marked_one _ _ c.args.place c.requires refl
