use Rattle.std.proofs.Common.{ap, arith, length}
use Rattle.net_text.proofs.Writing.{entry_here}
use Rattle.net_text.proofs.pieces.gate_place.Goals as goal

pub returns-then-gate-gates-clause-place : goal.returns-then-gate-gates-clause-place
returns-then-gate-gates-clause-place c =
    let n = ap length c.gates.ensures in
    let less = c.if-gate-gates.true in
    entry_here c.args.encoded.now.gates c.args.gate (omega arith)
