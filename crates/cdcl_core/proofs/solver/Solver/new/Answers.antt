use Rattle.std.proofs.Common.{◌≡◌, ◌∙◌, [], ap, arith, length, map, subst, sym}
use Rattle.std.specs.Prelude.{Some}
use Rattle.frozen_clauses.specs.Frozen.{FrozenOf}
use Rattle.lrat_check.specs.Hints.{numbered}
use Rattle.hint_chain.specs.Ids.{IsNamed}
use Rattle.cdcl_core.proofs.solver.Solver.new.Goals as goal

pub returns-clause-named : goal.returns-clause-named
returns-clause-named c t =
    let F = c.args.formula.now.clauses in
    let zs = c.in_ok-frozen.frozen.slots in
    let ids = c.in_ok-ids.ids in
    let e = c.in_ok-ids.ensures in
    let l = c.in_ok-load.ensures in
    let same = c.clauses.ensures in
    let count : length F ≡ c.len.result = omega (arith, ap length same.clauses, c.len.ensures) in
    let none : zs ≡ [] = ap (λ (x : FrozenOf). x.slots) c.in_ok-frozen.ensures in
    let named : IsNamed (numbered F) (map Some F) [] ids = e.named F count t in
    (subst (λ x. IsNamed (numbered F) x zs ids) (sym l.slots) (subst (λ x. IsNamed (numbered F) (map Some F) x ids) (sym none) named), e.last ∙ sym count)
