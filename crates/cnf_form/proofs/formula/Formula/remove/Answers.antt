use Rattle.std.proofs.Common.{ap, sym, subst, ◌∙◌}
use Rattle.std.specs.Prelude.{remove}
use Rattle.cnf_form.specs.Arena.{clauses_at, IsArena}
use Rattle.cnf_form.proofs.Arenas.{clauses_at-remove, arena-remove, formula_changed}
use Rattle.cnf_form.proofs.formula.Formula.remove.Goals as goal

pub invariant_of-self : goal.invariant_of-self
invariant_of-self c = subst (λ s. IsArena c.self.inside.vars c.self.inside.lits.items s) (sym c.remove.ensures.items) (arena-remove _ _ _ c.self.invariant c.args.place)

pub returns : goal.returns
returns c =
    formula_changed _ _ _ _ (λ F. remove F c.args.place) c.self.view_is
    (ap (clauses_at c.self.inside.lits.items) c.remove.ensures.items ∙ clauses_at-remove _ _ _ c.self.invariant c.args.place)
