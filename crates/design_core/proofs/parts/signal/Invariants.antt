use Rattle.std.proofs.Common.{◌≡◌, drop}
use Rattle.std.specs.List.{find}
use Rattle.design_core.specs.Ports.{is_port}
use Rattle.design_core.proofs.parts.signal.Given as goal

abbrev pub invariant-loop-port : goal.invariant-loop-port
invariant-loop-port l = find (λ p. is_port p.name l.name) (drop l.port-index l.ports) ≡ find (λ p. is_port p.name l.name) l.ports
