use Rattle.std.proofs.Common.{arith, not, ◌&&◌}
use Rattle.frame_gates.specs.Frames.{cycle_of}
use Rattle.gate_rows.proofs.Building.{Builds-gate, Builds-trans}
use Rattle.frame_gates.proofs.Saying.{holds_means}
use Rattle.frame_gates.proofs.statements.and_holds.Goals as goal

pub returns-clause-bit : goal.returns-clause-bit
returns-clause-bit c =
    holds_means c.speaks.new.gates c.and.new.self c.args.all c.in_ok-fails.fails c.not.result c.in_ok-lit.lit
    (λ x. cycle_of c.args.table.now x c.args.statement.en && not (cycle_of c.args.table.now x c.args.statement.a)) c.in_ok-fails.ensures.bit c.not.ensures.means c.in_ok-lit.ensures.gate

pub returns-clause-builds : goal.returns-clause-builds
returns-clause-builds c =
    Builds-trans c.args.gates.now c.speaks.new.gates c.and.new.self 1 1 2 c.speaks.ensures.builds (Builds-gate c.speaks.new.gates c.and.new.self _ c.in_ok-lit.lit c.in_ok-lit.ensures.gate) (omega arith)
