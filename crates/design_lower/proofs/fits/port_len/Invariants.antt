use Rattle.std.proofs.Common.{◌≡◌, drop}
use Rattle.std.specs.List.{find}
use Rattle.design_core.specs.Ports.{is_port}
use Rattle.design_lower.proofs.fits.port_len.Given as goal

abbrev pub invariant-loop-port : goal.invariant-loop-port
invariant-loop-port l = find (λ p. is_port p.name l.name) (drop l.port-index l.port-items) ≡ find (λ p. is_port p.name l.name) l.cell.ports
