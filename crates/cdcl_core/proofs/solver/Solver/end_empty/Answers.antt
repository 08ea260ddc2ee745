use Rattle.std.proofs.Common.{◌<◌, ◌≤◌, ◌^◌, [], length, rules, sym, subst}
use Rattle.std.specs.Prelude.{IsTrue}
use Rattle.sby_edge.specs.Cause.{Rose}
use Rattle.hint_chain.specs.Ids.{IdsOf}
use Rattle.hint_chain.specs.Chains.{Hints}
use Rattle.cdcl_core.specs.Lines.{Adds, AreFew}
use Rattle.cdcl_core.proofs.Steps.{IsHintedFor, hinted_by, solver_same, step_refutes, fails_empty}
use Rattle.cdcl_core.proofs.solver.Solver.end_empty.Goals as goal

pub returns-then-is_err-clause-stopped : goal.returns-then-is_err-clause-stopped
returns-then-is_err-clause-stopped g c =
    let s = c.args.self.now in
    let a = c.args.log.now in
    let b = c.clause.new.self in
    let e = c.in_ok-find_last_hints.ensures in
    let i = c.in_ok-id.ensures in
    let h = c.hints.ensures in
    let id = c.in_ok-id.id in
    let hints = c.hints.result.now in
    let few : AreFew (Adds [] id hints) = (i.most, subst (λ z. length z ≤ 2 ^ 27) (sym h.hints) h.few) in
    let by : IsHintedFor s (Adds [] id hints) = hinted_by s [] id hints (λ t. subst (Hints s.core.slots s.ids []) (sym h.hints) (e.hints t)) (λ t. subst (λ (x : IdsOf). x.last < id) e.ids (i.above (subst (λ (x : IdsOf). IsTrue x.wanted) (sym e.ids) t))) in
    let broke : g.L.Log.fails a (Adds [] id hints) b = search rules in
    let rose : Rose (g.L.Log.faults a) (g.L.Log.faults b) = search rules in
    fails_empty g.L.Log.takes g.L.Log.faults g.L.Log.fails s id hints a b c.requires.admitted few by broke rose

pub returns-clause-fits : goal.returns-clause-fits
returns-clause-fits g c =
    let s = c.args.self.now in
    let a = c.args.log.now in
    let b = c.clause.new.self in
    let e = c.in_ok-find_last_hints.ensures in
    let i = c.in_ok-id.ensures in
    let h = c.hints.ensures in
    let id = c.in_ok-id.id in
    let hints = c.hints.result.now in
    let few : AreFew (Adds [] id hints) = (i.most, subst (λ z. length z ≤ 2 ^ 27) (sym h.hints) h.few) in
    let by : IsHintedFor s (Adds [] id hints) = hinted_by s [] id hints (λ t. subst (Hints s.core.slots s.ids []) (sym h.hints) (e.hints t)) (λ t. subst (λ (x : IdsOf). x.last < id) e.ids (i.above (subst (λ (x : IdsOf). IsTrue x.wanted) (sym e.ids) t))) in
    let taken : g.L.Log.takes a (Adds [] id hints) b = search rules in
    ((λ q. cc), step_refutes g.L.Log.takes g.L.Log.faults g.L.Log.fails s id hints a b c.requires.admitted few by taken)

pub returns-clause-solver : goal.returns-clause-solver
returns-clause-solver g c = let e = c.in_ok-find_last_hints.ensures in solver_same c.args.self.now c.find_last_hints.new.self e.core e.frozen e.pending e.analysis c.requires.solver
