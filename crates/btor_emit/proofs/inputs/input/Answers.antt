use Rattle.std.proofs.Common.{refl}
use Rattle.btor_core.specs.declared.line.Node.TheVariants.{Input}
use Rattle.btor_emit.proofs.Leaves.{opened_one}
use Rattle.btor_emit.proofs.inputs.input.Goals as goal

pub returns : goal.returns
returns c = opened_one c.args.draft.now c.push.new.self c.args.width Input c.in_ok-word.word c.promise.ensures.numbered c.promise-2.ensures.btor c.requires c.in_ok-word.ensures.ok c.in_ok-word.ensures.word c.in_ok-word.ensures.pushed refl
