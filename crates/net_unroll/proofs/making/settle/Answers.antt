use Rattle.std.proofs.Common.{◌≡◌, Err, ap, ◌∙◌}
use Rattle.gate_graph.specs.declared.gates.GateFault.{GateFault}
use Rattle.gate_graph.specs.Folding.{asked}
use Rattle.net_unroll.proofs.Settling.{refused_past, settled_is}
use Rattle.net_unroll.proofs.making.settle.Goals as goal

pub returns-in-Ok-clause-core : goal.returns-in-Ok-clause-core
returns-in-Ok-clause-core c = (settled_is c.args.gates.now c.gate.new.self (asked c.args.gate) c.in-Ok.lit c.promise.ensures.kept c.in-Ok.ensures.settles).0

pub returns-in-Ok-clause-literal : goal.returns-in-Ok-clause-literal
returns-in-Ok-clause-literal c = (settled_is c.args.gates.now c.gate.new.self (asked c.args.gate) c.in-Ok.lit c.promise.ensures.kept c.in-Ok.ensures.settles).1

pub returns-in-Err-clause-too_many : goal.returns-in-Err-clause-too_many
returns-in-Err-clause-too_many c h =
    let is : c.gate.result ≡ Err c.in-Err.fault = c.in-Err.is in
    let f : c.in-Err.fault ≡ GateFault.TooMany = cc in
    let e : c.gate.result ≡ Err GateFault.TooMany = is ∙ ap Err f in
    refused_past c.args.gates.now (asked c.args.gate) (c.gate.ensures.too_many.0 e)
