use Rattle.std.proofs.Common.{◌∙◌, ◌++◌, ◌∷◌, [], ap, append-nil, sym}
use Rattle.std.proofs.lemmas.Result.{on_ok_weaker}
use Rattle.unit_propagation.specs.Propagator.{clauses_of}
use Rattle.frozen_clauses.specs.Frozen.{FrozenOf}
use Rattle.cdcl_core.proofs.Justified.{clauses_push}
use Rattle.cdcl_core.proofs.eliminate.index_next.Goals as goal

pub returns-in_default-clause-slots : goal.returns-in_default-clause-slots
returns-in_default-clause-slots c =
    let e = c.in_default.ensures in
    sym (ap (λ z. clauses_of c.args.index.now.slots ++ clauses_of (z ∷ [])) e.gone ∙ append-nil (clauses_of c.args.index.now.slots))

pub returns-clause-vars : goal.returns-clause-vars
returns-clause-vars c = on_ok_weaker c.push.result (λ w. ap (λ (x : FrozenOf). x.vars) w) c.push.ensures.ok

pub returns-clause-slots : goal.returns-clause-slots
returns-clause-slots c =
    let z = c.args.index.now.slots in
    let e = c.in-Some.ensures in
    on_ok_weaker c.push.result (λ w. ap (λ (x : FrozenOf). clauses_of x.slots) w ∙ clauses_push z c.in-Some.clause.now ∙ ap (λ y. clauses_of z ++ clauses_of (y ∷ [])) (sym e.there)) c.push.ensures.ok
