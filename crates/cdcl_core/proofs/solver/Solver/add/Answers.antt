use Rattle.std.proofs.Common.{◌≡◌, ◌+◌, ◌<◌, ◌≤◌, ◌^◌, ◌∷◌, [], ◌++◌, length, rules, sym, ◌∙◌, ap, subst}
use Rattle.std.specs.Prelude.{IsTrue, Some}
use Rattle.std.proofs.lemmas.Result.{err_from_is_err_and}
use Rattle.sby_edge.specs.Cause.{Rose}
use Rattle.unit_propagation.specs.Propagator.{PropagatorOf}
use Rattle.frozen_clauses.specs.Frozen.{FrozenOf}
use Rattle.hint_chain.specs.Ids.{IdsOf}
use Rattle.hint_chain.specs.Chains.{Hints}
use Rattle.cdcl_core.specs.Lines.{Adds, AreFew, HeldOf, held_after}
use Rattle.cdcl_core.specs.Searching.{IsNamedBy, IsPlaced}
use Rattle.cdcl_core.specs.declared.analysis.Analysis.{Analysis}
use Rattle.cdcl_core.proofs.Steps.{IsHintedFor, hinted_by, named_as, leads_added, stops_added, fails_added}
use Rattle.cdcl_core.proofs.solver.Solver.add.Goals as goal

pub returns-then-is_err-clause-stopped : goal.returns-then-is_err-clause-stopped
returns-then-is_err-clause-stopped g c =
    let s = c.args.self.now in
    let mid = c.find_hints.new.self in
    let a = c.args.log.now in
    let b = c.clause.new.self in
    let cl = s.analysis.clause.items in
    let e = c.in_ok-find_hints.ensures in
    let i = c.in_ok-id.ensures in
    let h = c.hints.ensures in
    let id = c.in_ok-id.id in
    let hints = c.hints.result.now in
    let is : c.clause-clause.result.now ≡ cl = c.clause-clause.ensures ∙ ap (λ (x : Analysis). x.clause.items) e.analysis in
    let few : AreFew (Adds cl id hints) = (i.most, subst (λ z. length z ≤ 2 ^ 27) (sym h.hints) h.few) in
    let by : IsHintedFor s (Adds cl id hints) = hinted_by s cl id hints (λ t. subst (Hints s.core.slots s.ids cl) (sym h.hints) (e.hints t)) (λ t. subst (λ (x : IdsOf). x.last < id) e.ids (i.above (subst (λ (x : IdsOf). IsTrue x.wanted) (sym e.ids) t))) in
    let broke : g.L.Log.fails a (Adds c.clause-clause.result.now id hints) b = search rules in
    let rose : Rose (g.L.Log.faults a) (g.L.Log.faults b) = search rules in
    fails_added g.L.Log.takes g.L.Log.faults g.L.Log.fails s cl id hints a b c.requires.addable few by (subst (λ z. g.L.Log.fails a (Adds z id hints) b) is broke) rose

pub returns-in_err-add_learnt-clause-stopped : goal.returns-in_err-add_learnt-clause-stopped
returns-in_err-add_learnt-clause-stopped g c =
    let s = c.args.self.now in
    let mid = c.find_hints.new.self in
    let a = c.args.log.now in
    let b = c.clause.new.self in
    let cl = s.analysis.clause.items in
    let e = c.in_ok-find_hints.ensures in
    let i = c.in_ok-id.ensures in
    let h = c.hints.ensures in
    let id = c.in_ok-id.id in
    let hints = c.hints.result.now in
    let is : c.clause-clause.result.now ≡ cl = c.clause-clause.ensures ∙ ap (λ (x : Analysis). x.clause.items) e.analysis in
    let few : AreFew (Adds cl id hints) = (i.most, subst (λ z. length z ≤ 2 ^ 27) (sym h.hints) h.few) in
    let by : IsHintedFor s (Adds cl id hints) = hinted_by s cl id hints (λ t. subst (Hints s.core.slots s.ids cl) (sym h.hints) (e.hints t)) (λ t. subst (λ (x : IdsOf). x.last < id) e.ids (i.above (subst (λ (x : IdsOf). IsTrue x.wanted) (sym e.ids) t))) in
    let taken : g.L.Log.takes a (Adds c.clause-clause.result.now id hints) b = search rules in
    let p = err_from_is_err_and c.from_residual-in_err-add_learnt.result c.from_residual-in_err-add_learnt.ensures.1 in
    rw (p.1, p.2) (stops_added g.L.Log.takes g.L.Log.faults g.L.Log.fails s cl id hints a b c.requires.addable few by (subst (λ z. g.L.Log.takes a (Adds z id hints) b) is taken))

pub returns-clause-leads : goal.returns-clause-leads
returns-clause-leads g c =
    let s = c.args.self.now in
    let mid = c.find_hints.new.self in
    let a = c.args.log.now in
    let b = c.clause.new.self in
    let cl = s.analysis.clause.items in
    let e = c.in_ok-find_hints.ensures in
    let i = c.in_ok-id.ensures in
    let h = c.hints.ensures in
    let id = c.in_ok-id.id in
    let hints = c.hints.result.now in
    let is : c.clause-clause.result.now ≡ cl = c.clause-clause.ensures ∙ ap (λ (x : Analysis). x.clause.items) e.analysis in
    let few : AreFew (Adds cl id hints) = (i.most, subst (λ z. length z ≤ 2 ^ 27) (sym h.hints) h.few) in
    let by : IsHintedFor s (Adds cl id hints) = hinted_by s cl id hints (λ t. subst (Hints s.core.slots s.ids cl) (sym h.hints) (e.hints t)) (λ t. subst (λ (x : IdsOf). x.last < id) e.ids (i.above (subst (λ (x : IdsOf). IsTrue x.wanted) (sym e.ids) t))) in
    let new = c.add_learnt.new.self in
    let p = c.in_ok-add_learnt.ensures in
    let taken : g.L.Log.takes a (Adds c.clause-clause.result.now id hints) b = search rules in
    let later : g.L.Log.faults a ≤ g.L.Log.faults b = search rules in
    let named : (k : HeldOf) → IsNamedBy k s → IsNamedBy (held_after k (Adds cl id hints)) new =
    λ k w. subst (λ (x : Analysis). IsNamedBy (held_after k (Adds x.clause.items id hints)) new) e.analysis
    (p.named k hints i.above (named_as s mid k (ap (λ (x : PropagatorOf). x.slots) e.core) (ap (λ (x : FrozenOf). x.slots) e.frozen) e.ids w)) in
    leads_added g.L.Log.takes g.L.Log.faults s new cl id hints a b c.requires.addable few by (subst (λ z. g.L.Log.takes a (Adds z id hints) b) is taken) later (p.vars ∙ ap (λ (x : PropagatorOf). x.vars) e.core)
    (p.slots ∙ ap (λ (x : PropagatorOf). x.slots ++ Some mid.analysis.clause.items ∷ []) e.core ∙ ap (λ (x : Analysis). s.core.slots ++ Some x.clause.items ∷ []) e.analysis)
    (p.frozen ∙ e.frozen) (p.conflicts ∙ ap (λ z. z + 1) e.conflicts) (p.deletions ∙ e.deletions) (p.wanted ∙ ap (λ (x : IdsOf). x.wanted) e.ids) named

pub returns-clause-conflicts : goal.returns-clause-conflicts
returns-clause-conflicts g c = let e = c.in_ok-find_hints.ensures in let p = c.in_ok-add_learnt.ensures in p.conflicts ∙ ap (λ z. z + 1) e.conflicts

pub returns-clause-vars : goal.returns-clause-vars
returns-clause-vars g c = let e = c.in_ok-find_hints.ensures in let p = c.in_ok-add_learnt.ensures in p.vars ∙ ap (λ (x : PropagatorOf). x.vars) e.core

pub returns-clause-slots : goal.returns-clause-slots
returns-clause-slots g c =
    let s = c.args.self.now in
    let e = c.in_ok-find_hints.ensures in
    let p = c.in_ok-add_learnt.ensures in
    p.slots ∙ ap (λ (x : PropagatorOf). x.slots ++ Some c.find_hints.new.self.analysis.clause.items ∷ []) e.core ∙ ap (λ (x : Analysis). s.core.slots ++ Some x.clause.items ∷ []) e.analysis

pub add_learnt-requires-clause-placed : goal.add_learnt-requires-clause-placed
add_learnt-requires-clause-placed g c =
    let s = c.args.self.now in
    let e = c.in_ok-find_hints.ensures in
    subst (λ (x : PropagatorOf). IsPlaced x c.find_hints.new.self.analysis.clause.items c.args.first) (sym e.core) (subst (λ (x : Analysis). IsPlaced s.core x.clause.items c.args.first) (sym e.analysis) c.requires.placed)
