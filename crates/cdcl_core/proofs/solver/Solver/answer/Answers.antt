use Rattle.std.proofs.Common.{refl, subst}
use Rattle.std.specs.Prelude.{◌≡◌, ◌<◌, List, length, IfSome, None, Some}
use Rattle.cnf_form.specs.Cnf.{LitOf, Satisfies}
use Rattle.unit_propagation.specs.Propagator.{slot_at}
use Rattle.cdcl_core.specs.Solving.{valued}
use Rattle.cdcl_core.specs.declared.solver.Solver.{Solver}
use Rattle.cdcl_core.proofs.Steps.{moves_same, moves_both}
use Rattle.cdcl_core.proofs.solver.Solver.answer.Goals as goal

pub returns-then-is_model-clause-moves : goal.returns-then-is_model-clause-moves
returns-then-is_model-clause-moves c = let s = c.args.self.now in moves_same s s refl refl refl refl refl refl

pub thaw-requires-clause-clause : goal.thaw-requires-clause-clause
thaw-requires-clause-clause c =
    let z = c.args.self.now.frozen.slots in
    let w = subst (λ o. IfSome o (λ k. (k < length z) × ((d : List LitOf) × (slot_at z k ≡ Some d)))) c.in-Some.is c.first_falsified.ensures in
    w.0

pub returns-clause-moves : goal.returns-clause-moves
returns-clause-moves c =
    let s = c.args.self.now in
    let e = c.in_ok-restart.ensures in
    let t = c.in_ok-thaw.ensures in
    let mid : Solver = record s { core = c.restart.new.core; order = c.restart.new.order; pending = None } in
    moves_both s mid c.thaw.new.self (moves_same s mid e.vars e.slots refl refl refl refl) t.moves

pub returns-clause-fewer : goal.returns-clause-fewer
returns-clause-fewer c =
    let z = c.args.self.now.frozen.slots in
    let w = subst (λ o. IfSome o (λ k. (k < length z) × ((d : List LitOf) × (slot_at z k ≡ Some d)))) c.in-Some.is c.first_falsified.ensures in
    let t = c.in_ok-thaw.ensures in
    t.fewer w.1.0 w.1.1

pub returns-then-is_model-clause-right : goal.returns-then-is_model-clause-right
returns-then-is_model-clause-right c = let e = c.is_model.ensures in subst (λ x. Satisfies (valued x) c.args.formula.now.clauses) c.deref.ensures.value (e.satisfies c.if-is_model.true)

pub returns-then-is_model-2-clause-right : goal.returns-then-is_model-2-clause-right
returns-then-is_model-2-clause-right c = let e = c.is_model-2.ensures in subst (λ x. Satisfies (valued x) c.args.formula.now.clauses) c.deref-2.ensures.value (e.satisfies c.if-is_model-2.true)
