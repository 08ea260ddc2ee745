use Rattle.std.proofs.Common.{◌≡◌, drop}
use Rattle.std.specs.List.{find}
use Rattle.design_core.specs.Ports.{is_parameter}
use Rattle.design_core.proofs.parts.constant.Given as goal

abbrev pub invariant-loop-parameter : goal.invariant-loop-parameter
invariant-loop-parameter l = find (λ p. is_parameter p.name l.name) (drop l.parameter-index l.parameters) ≡ find (λ p. is_parameter p.name l.name) l.parameters
