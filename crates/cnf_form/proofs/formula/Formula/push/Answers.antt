use Rattle.std.proofs.Common.{◌≡◌, ◌++◌, ◌∷◌, [], length, ap, sym, subst, arith}
use Rattle.std.proofs.lemmas.Grind.{common_steps}
use Rattle.std.proofs.lemmas.Result.{err_from_is_err_and}
use Rattle.cnf_form.specs.Cnf.{FormulaOf, ClauseWithin}
use Rattle.cnf_form.proofs.Arenas.{after_failure, after_push, formula_from, formula_changed}
use Rattle.cnf_form.proofs.formula.Formula.push.Goals as goal

pub invariant_of-self-in_err-push : goal.invariant_of-self-in_err-push
invariant_of-self-in_err-push c = (after_failure _ _ c.args.clause.now _ c.self.invariant _ _ c.in_ok-extend_from_slice.ensures.items c.in_err-push.ensures.items).0

pub returns-in_err-push-clause-err : goal.returns-in_err-push-clause-err
returns-in_err-push-clause-err c =
    let p = err_from_is_err_and c.from_residual-in_err-push.result c.from_residual-in_err-push.ensures.1 in
    let w = after_failure _ _ c.args.clause.now _ c.self.invariant _ _ c.in_ok-extend_from_slice.ensures.items c.in_err-push.ensures.items in
    rw p.1 (formula_from _ _ _ _ c.self.view_is w.1)

pub invariant_of-self-2 : goal.invariant_of-self-2
invariant_of-self-2 c =
    let within : ClauseWithin c.self.inside.vars c.args.clause.now = subst (λ n. ClauseWithin n c.args.clause.now) (ap (λ (f : FormulaOf). f.vars) (sym c.self.view_is)) c.requires in
    let from : c.in-Some.span.start ≡ length c.self.inside.lits.items = cc (c.in-Some.ensures.0) in
    let to : c.in-Some.span.end ≡ length c.extend_from_slice.new.self.items = grind (arith, common_steps, c.in-Some.ensures.1, c.in_ok-extend_from_slice.ensures.items) in
    (after_push _ _ c.args.clause.now _ c.self.invariant _ _ _ c.in_ok-extend_from_slice.ensures.items c.in_ok-push.ensures.items from to within).0

pub returns-clause-ok : goal.returns-clause-ok
returns-clause-ok c =
    let within : ClauseWithin c.self.inside.vars c.args.clause.now = subst (λ n. ClauseWithin n c.args.clause.now) (ap (λ (f : FormulaOf). f.vars) (sym c.self.view_is)) c.requires in
    let from : c.in-Some.span.start ≡ length c.self.inside.lits.items = cc (c.in-Some.ensures.0) in
    let to : c.in-Some.span.end ≡ length c.extend_from_slice.new.self.items = grind (arith, common_steps, c.in-Some.ensures.1, c.in_ok-extend_from_slice.ensures.items) in
    let w = after_push _ _ c.args.clause.now _ c.self.invariant _ _ _ c.in_ok-extend_from_slice.ensures.items c.in_ok-push.ensures.items from to within in
    formula_changed _ _ _ _ (λ F. F ++ c.args.clause.now ∷ []) c.self.view_is w.1
