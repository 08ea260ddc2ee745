use Rattle.std.proofs.Common.{rules, ◌≡◌, true, subst, sym}
use Rattle.cnf_form.specs.Cnf.{Satisfies}
use Rattle.gate_graph.specs.Circuit.{GatesOf}
use Rattle.gate_graph.proofs.gates.Gates.constant.Goals as goal

pub returns-clause-means : goal.returns-clause-means
returns-clause-means c = λ x s.
    let one : x 1 ≡ true = c.self.invariant.truth x (subst (λ (g : GatesOf). Satisfies x g.formula.clauses) (sym c.self.view_is) s) in
    search rules
