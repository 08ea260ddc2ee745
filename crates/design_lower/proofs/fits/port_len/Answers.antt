use Rattle.std.proofs.Common.{◌∙◌, sym}
use Rattle.design_core.specs.Ports.{is_port}
use Rattle.design_core.proofs.Finding.{find_none}
use Rattle.design_check.proofs.Counting.{found-none}
use Rattle.design_lower.proofs.fits.port_len.Goals as goal

pub returns-clause-none : goal.returns-clause-none
returns-clause-none c =
    found-none (λ p. is_port p.name c.args.name) c.args.cell.now.ports
    (sym c.loop-port.invariant ∙ find_none (λ p. is_port p.name c.args.name) c.ports-port-items.result.now c.loop-port.port-index c.loop-port-test.false)
