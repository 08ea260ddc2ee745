use Rattle.std.proofs.Common.{◌≡◌, ◌++◌, ◌∷◌, [], inl, rules, sym, subst}
use Rattle.std.specs.Prelude.{Contains}
use Rattle.std.proofs.lemmas.List.Elements.{Contains-push}
use Rattle.unit_propagation.proofs.walk.imply.Goals as goal

pub returns-clause-ends : goal.returns-clause-ends
returns-clause-ends c =
    let t = c.args.trail.now.lits in
    let grown : c.assign.new.self.lits ≡ t ++ c.args.blocker ∷ [] = search rules in
    inl (subst (λ z. Contains z c.args.blocker) (sym grown) (Contains-push t c.args.blocker))
