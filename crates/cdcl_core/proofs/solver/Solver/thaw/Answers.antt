use Rattle.std.proofs.Common.{◌≡◌, refl, length, set, ap, sym, subst, arith}
use Rattle.std.specs.Prelude.{None, ◌<◌, ◌≤◌}
use Rattle.unit_propagation.specs.Propagator.{clauses_of}
use Rattle.frozen_clauses.specs.Frozen.{FrozenOf}
use Rattle.cdcl_core.specs.declared.solver.Solver.{Solver}
use Rattle.cdcl_core.proofs.Orders.{clauses_less}
use Rattle.cdcl_core.proofs.Steps.{moves_thaw, named_thaw_by}
use Rattle.cdcl_core.proofs.solver.Solver.thaw.Goals as goal

pub returns-clause-moves : goal.returns-clause-moves
returns-clause-moves c =
    let s = c.args.self.now in
    let e = c.in_ok-add_at_root.ensures in
    let f = c.in-Some.ensures in
    let rest : c.remove_clause.new.self.slots ≡ set s.frozen.slots c.args.k None = ap (λ (y : FrozenOf). y.slots) c.remove_clause.ensures in
    let new : Solver = record s { core = c.add_at_root.new.core; frozen = c.remove_clause.new.self; learnts = c.push_thawed.new.self; ids = c.thaw.new.self } in
    let z = c.in_ok-thaw.ensures in
    moves_thaw s new c.args.k c.in-Some.clause.now f.there e.vars e.slots rest refl refl z.wanted (named_thaw_by s new c.args.k c.in-Some.clause.now f.there e.slots rest z.wanted z.last z.named)

pub returns-clause-few : goal.returns-clause-few
returns-clause-few c =
    let z = c.args.self.now.frozen in
    let f = c.in-Some.ensures in
    let rest : c.remove_clause.new.self.slots ≡ set z.slots c.args.k None = ap (λ (y : FrozenOf). y.slots) c.remove_clause.ensures in
    subst (λ y. length (clauses_of y) ≤ length (clauses_of z.slots)) (sym rest) (let h = clauses_less z.slots c.args.k c.in-Some.clause.now f.there in omega (arith, h))

pub returns-clause-fewer : goal.returns-clause-fewer
returns-clause-fewer c d h =
    let z = c.args.self.now.frozen in
    let rest : c.remove_clause.new.self.slots ≡ set z.slots c.args.k None = ap (λ (y : FrozenOf). y.slots) c.remove_clause.ensures in
    subst (λ y. length (clauses_of y) < length (clauses_of z.slots)) (sym rest) (clauses_less z.slots c.args.k d h)
