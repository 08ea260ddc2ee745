use Rattle.std.proofs.Common.{◌≤◌, ◌^◌, ◌∷◌, [], length, rules, refl, sym, subst}
use Rattle.sby_edge.specs.Cause.{Rose}
use Rattle.hint_chain.specs.Chains.{Hints}
use Rattle.cdcl_core.specs.Lines.{Notes, AreFew}
use Rattle.cdcl_core.specs.declared.solver.Solver.{Solver}
use Rattle.cdcl_core.proofs.Steps.{IsHintedFor, hinted_by, named_fact_by, proper_one, leads_noted, fails_noted}
use Rattle.cdcl_core.proofs.solver.Solver.note_fact.Goals as goal

pub follow-requires : goal.follow-requires
follow-requires g c =
    let s = c.args.self.now in
    let r = c.requires.solver in
    let p = proper_one s.core c.args.l r.justified c.requires.on in
    record { within = p.within }

pub returns-then-is_err-clause-stopped : goal.returns-then-is_err-clause-stopped
returns-then-is_err-clause-stopped g c =
    let s = c.args.self.now in
    let a = c.args.log.now in
    let b = c.fact.new.self in
    let l = c.args.l in
    let r = c.requires.solver in
    let i = c.in_ok-id.ensures in
    let h = c.hints.ensures in
    let k = c.in_ok-follow.ensures in
    let id = c.in_ok-id.id in
    let hints = c.hints.result.now in
    let fits = proper_one s.core l r.justified c.requires.on in
    let few : AreFew (Notes l id hints) = (i.most, subst (λ z. length z ≤ 2 ^ 27) (sym h.hints) h.few) in
    let by : IsHintedFor s (Notes l id hints) = hinted_by s (l ∷ []) id hints (λ t. subst (Hints s.core.slots s.ids (l ∷ [])) (sym h.hints) (k.hints (cc))) i.above in
    let broke : g.L.Log.fails a (Notes l id hints) b = search rules in
    let rose : Rose (g.L.Log.faults a) (g.L.Log.faults b) = search rules in
    fails_noted g.L.Log.takes g.L.Log.faults g.L.Log.fails s l id hints a b fits few by broke rose

pub returns-clause-leads : goal.returns-clause-leads
returns-clause-leads g c =
    let s = c.args.self.now in
    let a = c.args.log.now in
    let b = c.fact.new.self in
    let l = c.args.l in
    let r = c.requires.solver in
    let i = c.in_ok-id.ensures in
    let h = c.hints.ensures in
    let k = c.in_ok-follow.ensures in
    let id = c.in_ok-id.id in
    let hints = c.hints.result.now in
    let fits = proper_one s.core l r.justified c.requires.on in
    let few : AreFew (Notes l id hints) = (i.most, subst (λ z. length z ≤ 2 ^ 27) (sym h.hints) h.few) in
    let by : IsHintedFor s (Notes l id hints) = hinted_by s (l ∷ []) id hints (λ t. subst (Hints s.core.slots s.ids (l ∷ [])) (sym h.hints) (k.hints (cc))) i.above in
    let taken : g.L.Log.takes a (Notes l id hints) b = search rules in
    let later : g.L.Log.faults a ≤ g.L.Log.faults b = search rules in
    let w = c.set_fact.ensures in
    let new : Solver = record s { chain = c.follow.new.self; ids = c.set_fact.new.self } in
    leads_noted g.L.Log.takes g.L.Log.faults s new l id hints a b fits few by taken later refl refl refl refl w.wanted (named_fact_by s new l id hints refl refl w.wanted w.last i.above w.named)
