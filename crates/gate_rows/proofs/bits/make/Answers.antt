use Rattle.gate_rows.proofs.Building.{gate_builds, gate_full}
use Rattle.gate_rows.proofs.bits.make.Goals as goal

pub returns-clause-builds : goal.returns-clause-builds
returns-clause-builds c = gate_builds c.args.gates.now c.gate.new.self _ c.gate.result c.gate.ensures.gate c.gate.ensures.refused c.gate.ensures.memory

pub returns-clause-too_many : goal.returns-clause-too_many
returns-clause-too_many c = λ e. gate_full c.args.gates.now c.gate.new.self (c.gate.ensures.full e) (c.gate.ensures.refused e)
