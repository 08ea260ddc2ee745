use Rattle.std.proofs.Common.{ap, ◌∙◌}
use Rattle.proof_stream.specs.Binary.{BinaryOf}
use Rattle.proof_stream.proofs.Turning.{turn_vars}
use Rattle.proof_stream.proofs.binary.BinaryParser.turn.Goals as goal

pub returns-clause-vars : goal.returns-clause-vars
returns-clause-vars c = ap (λ (w : BinaryOf). w.vars) c.self-2.view_is ∙ turn_vars c.args.self.now c.read.new.self c.args.b c.in_ok-event.event c.in_ok-event.ensures
