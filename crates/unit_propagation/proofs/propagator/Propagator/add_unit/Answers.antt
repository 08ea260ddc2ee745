use Rattle.std.proofs.Common.{◌++◌, ◌∷◌, [], subst, sym, ◌∙◌}
use Rattle.std.specs.Prelude.{Contains}
use Rattle.std.proofs.lemmas.List.Elements.{Contains-push}
use Rattle.cnf_form.proofs.Members.{Contains-empty}
use Rattle.unit_propagation.proofs.Filing.{kept_loose}
use Rattle.unit_propagation.proofs.propagator.Propagator.add_unit.Goals as goal

pub add_propagating-requires-clause-kept : goal.add_propagating-requires-clause-kept
add_propagating-requires-clause-kept c = λ h l r.
    let t = c.args.self.now.trail in
    kept_loose t (t ++ c.args.l ∷ []) c.args.clause.now h (l ∙ sym r) (record { lit = c.args.l; contains = c.requires.lit; on = Contains-push t c.args.l })

pub add_propagating-requires-clause-levels : goal.add_propagating-requires-clause-levels
add_propagating-requires-clause-levels c = λ n h k. absurd (Contains-empty n (subst (λ z. Contains z n) c.requires.level k))
