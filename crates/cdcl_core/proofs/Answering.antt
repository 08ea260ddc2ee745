-- What a falsified clause at level 0 says of the clauses.
use Rattle.std.proofs.Common.{◌≡◌, [], ◌++◌, length, ap, subst, arith}
use Rattle.std.proofs.lemmas.List.{take_all}
use Rattle.std.proofs.lemmas.List.Elements.{Contains-append_left}
use Rattle.cnf_form.specs.Cnf.{negate, IsAdmitted, negated_units}
use Rattle.cnf_form.proofs.Members.{Contains-empty}
use Rattle.unit_propagation.specs.Propagation.{ContainsAll, IsDerived, HasFalsified}
use Rattle.unit_propagation.specs.Propagator.{PropagatorOf, clauses_of}
use Rattle.cdcl_core.specs.Levels.{IsJustified, end_of}
use Rattle.cdcl_core.proofs.Justified.{end_past}

-- a falsified clause at level 0 admits the empty clause
pub root_admits : (p : PropagatorOf) → IsJustified p → p.limits ≡ [] → HasFalsified p.trail (clauses_of p.slots) → IsAdmitted (clauses_of p.slots) []
root_admits p v none w =
    let F = clauses_of p.slots in
    let G = F ++ negated_units [] in
    let all : ContainsAll F G = record { each = λ c h. Contains-append_left F (negated_units []) c h } in
    let last : end_of p 0 ≡ length p.trail = end_past p.limits 0 (length p.trail) (omega (arith, ap length none)) in
    let r = v.root in
    let d : IsDerived G p.trail = subst (IsDerived G) (take_all (end_of p 0) p.trail (omega (arith, last))) (r.derived G all (record { each = λ x k. absurd (Contains-empty x k) })) in
    let f = w.2 in
    (w.0, all.each w.0 w.1, λ l h. d.each (negate l) (f.each l h))
