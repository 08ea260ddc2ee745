use Rattle.std.proofs.Common.{true, ◌≡◌}
use Rattle.invariant_rule.proofs.Rule.{rules_out, reached}
use Rattle.invariant_rule.proofs.invariant_rule.Goals as goal

pub returns : goal.returns
returns g c = record {
  rules_out = λ system holds inductive. rules_out (g.S.Steps.starts system) (g.S.Steps.follows system) (g.S.Steps.assumed system) (g.S.Steps.ok system)
      (λ state. holds state ≡ true) inductive;
  reached = λ system never. reached (g.S.Steps.starts system) (g.S.Steps.follows system) (g.S.Steps.assumed system) (g.S.Steps.ok system) never;
}
