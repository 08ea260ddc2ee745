use Rattle.std.proofs.Common.{◌≡◌, Err, ap, ◌∷◌, []}
use Rattle.gate_graph.specs.declared.gates.GateFault.{GateFault}
use Rattle.net_unroll.specs.Making.{made_of}
use Rattle.net_unroll.specs.Program.Step.{End, Pass}
use Rattle.net_unroll.proofs.Stepping.{past_more}
use Rattle.net_unroll.proofs.cycles.end_and_pass.Goals as goal

pub returns-in-Err-clause-too_many : goal.returns-in-Err-clause-too_many
returns-in-Err-clause-too_many c h =
    let f : c.in-Err.fault ≡ GateFault.TooMany = cc in
    past_more (made_of c.args.made.now) (End c.args.goal ∷ []) (Pass c.args.goal ∷ []) (c.in-Err.ensures.too_many (ap Err f))
