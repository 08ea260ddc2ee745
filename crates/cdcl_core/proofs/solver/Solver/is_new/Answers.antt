use Rattle.std.proofs.Common.{subst}
use Rattle.std.specs.Prelude.{List, Contains}
use Rattle.cnf_form.specs.Cnf.{LitOf}
use Rattle.unit_propagation.specs.Propagator.{clauses_of}
use Rattle.cdcl_core.proofs.Resolvents.{new_indexed}
use Rattle.cdcl_core.proofs.Steps.{new_both}
use Rattle.cdcl_core.proofs.solver.Solver.is_new.Goals as goal

pub returns-clause-new : goal.returns-clause-new
returns-clause-new c q =
    let s = c.args.self.now in
    let z = c.args.index.now in
    let cl = s.analysis.clause.items in
    let is = c.clause-clause.ensures in
    let n = c.in_default.ensures in
    let m = c.in_default-subset_of.ensures in
    let none : (d : List LitOf) → Contains (clauses_of z.slots) d → ((l : LitOf) → Contains d l → Contains cl l) → ⊥ = subst (λ y. (d : List LitOf) → Contains (clauses_of z.slots) d → ((l : LitOf) → Contains d l → Contains y l) → ⊥) is n.none in
    let none' : (d : List LitOf) → Contains (clauses_of s.frozen.slots) d → ((l : LitOf) → Contains d l → Contains cl l) → ⊥ =
    subst (λ y. (d : List LitOf) → Contains (clauses_of s.frozen.slots) d → ((l : LitOf) → Contains d l → Contains y l) → ⊥) is m.none in
    new_both (clauses_of s.core.slots) (clauses_of s.frozen.slots) cl (new_indexed s.core z cl c.requires.indexed none) none'
