use Rattle.std.proofs.Common.{◌∙◌, ◌≡◌, arith, subst}
use Rattle.std.specs.Prelude.{IfSome, IfNone}
use Rattle.std.proofs.lemmas.Result.{err_from_is_err_and}
use Rattle.cdcl_core.specs.Searching.{AreRight, EndsBy, StepFits, present_of}
use Rattle.cdcl_core.specs.Solving.{SolvedFits}
use Rattle.cdcl_core.specs.declared.solver.Solved.TheVariants.{Budget}
use Rattle.cdcl_core.specs.declared.solver.Step.TheVariants.{Answered, Learnt}
use Rattle.cdcl_core.proofs.Solutions.{held_spent}
use Rattle.cdcl_core.proofs.Steps.{stops_ends}
use Rattle.cdcl_core.proofs.solver.Solver.search.Goals as goal

pub returns-in_err-reduce_if_due-clause-stopped : goal.returns-in_err-reduce_if_due-clause-stopped
returns-in_err-reduce_if_due-clause-stopped g c =
    let i = c.loop-self.invariant in
    let t = c.in_err-reduce_if_due.ensures in
    let p = err_from_is_err_and c.from_residual.result c.from_residual.ensures.1 in
    rw (p.1, p.2) (subst (λ z. EndsBy g.L.Log.takes g.L.Log.fails z c.args.formula.now c.args.budget c.args.log.now c.reduce_if_due.new.log c.in_err-reduce_if_due.field-0.0) i.wanted
    (stops_ends g.L.Log.takes g.L.Log.faults g.L.Log.fails c.loop-self.self c.loop-self.log c.reduce_if_due.new.log c.in_err-reduce_if_due.field-0.0 c.args.formula.now c.args.log.now c.args.budget (omega (arith, c.loop-self-test.true)) i.logged t.stopped))

pub eliminate_if_due-requires-clause-in_time : goal.eliminate_if_due-requires-clause-in_time
eliminate_if_due-requires-clause-in_time g c = let r = c.in_ok-reduce_if_due.ensures in omega (arith, r.conflicts, c.loop-self-test.true)

pub returns-in_err-eliminate_if_due-clause-stopped : goal.returns-in_err-eliminate_if_due-clause-stopped
returns-in_err-eliminate_if_due-clause-stopped g c =
    let i = c.loop-self.invariant in
    let r = c.in_ok-reduce_if_due.ensures in
    let l = r.leads in
    let f = c.args.formula.now in
    let first = c.args.log.now in
    let t = c.in_err-eliminate_if_due.ensures in
    let u = t.stopped in
    let p = err_from_is_err_and c.from_residual-in_err-eliminate_if_due.result c.from_residual-in_err-eliminate_if_due.ensures.1 in
    rw (p.1, p.2) (subst (λ z. EndsBy g.L.Log.takes g.L.Log.fails z f c.args.budget first c.eliminate_if_due.new.log c.in_err-eliminate_if_due.field-0.0) (l.wanted ∙ i.wanted) (u.ends f first (l.on f first i.logged)))

pub returns-in_err-solved-clause-stopped : goal.returns-in_err-solved-clause-stopped
returns-in_err-solved-clause-stopped g c =
    let i = c.loop-self.invariant in
    let r = c.in_ok-reduce_if_due.ensures in
    let l = r.leads in
    let e = c.in_ok-eliminate_if_due.ensures in
    let k = e.grows in
    let m = k.leads in
    let f = c.args.formula.now in
    let first = c.args.log.now in
    let t = c.in_err-solved.ensures in
    let p = err_from_is_err_and c.from_residual-in_err-solved.result c.from_residual-in_err-solved.ensures.1 in
    rw (p.1, p.2) (subst (λ z. EndsBy g.L.Log.takes g.L.Log.fails z f c.args.budget first c.next_conflict.new.log c.in_err-solved.field-0.0) (m.wanted ∙ l.wanted ∙ i.wanted)
    (stops_ends g.L.Log.takes g.L.Log.faults g.L.Log.fails c.eliminate_if_due.new.self c.eliminate_if_due.new.log c.next_conflict.new.log c.in_err-solved.field-0.0 f first c.args.budget k.in_time (m.on f first (l.on f first i.logged)) t.stopped))

pub returns-in-Some-clause-solved : goal.returns-in-Some-clause-solved
returns-in-Some-clause-solved g c =
    let i = c.loop-self.invariant in
    let r = c.in_ok-reduce_if_due.ensures in
    let l = r.leads in
    let e = c.in_ok-eliminate_if_due.ensures in
    let k = e.grows in
    let m = k.leads in
    let f = c.args.formula.now in
    let first = c.args.log.now in
    let t = c.in_ok-solved.ensures in
    let w = subst (λ o. IfSome o (λ s. StepFits g.L.Log.takes g.L.Log.fails g.L.Log.faults c.eliminate_if_due.new.self c.next_conflict.new.self c.eliminate_if_due.new.log c.next_conflict.new.log (Answered s))) c.in-Some.is t.answered in
    let right = subst (λ o. IfSome o (λ s. AreRight f s)) c.in-Some.is t.right in
    subst (λ z. SolvedFits g.L.Log.takes g.L.Log.fails z f c.args.budget first c.next_conflict.new.log c.in-Some.solved) (m.wanted ∙ l.wanted ∙ i.wanted) (w.1 f first c.args.budget k.in_time (m.on f first (l.on f first i.logged)) right)

pub returns-clause-solved : goal.returns-clause-solved
returns-clause-solved g c =
    let i = c.loop-self.invariant in
    let k = i.logged in
    let s = c.loop-self.self in
    let f = c.args.formula.now in
    let budget = c.args.budget in
    let spent : s.conflicts ≡ budget = omega (arith, i.within, c.loop-self-test.false) in
    subst (λ z. SolvedFits g.L.Log.takes g.L.Log.fails z f budget c.args.log.now c.loop-self.log Budget) i.wanted
    (held_spent g.L.Log.takes s.ids.wanted f budget c.args.log.now c.loop-self.log (present_of s) s.conflicts s.deletions k.live spent k.held)

pub loop-self-preserved : goal.loop-self-preserved
loop-self-preserved g c =
    let i = c.loop-self.invariant in
    let r = c.in_ok-reduce_if_due.ensures in
    let l = r.leads in
    let e = c.in_ok-eliminate_if_due.ensures in
    let k = e.grows in
    let n = k.leads in
    let f = c.args.formula.now in
    let first = c.args.log.now in
    let t = c.in_ok-solved.ensures in
    let w = subst (λ o. IfNone o (StepFits g.L.Log.takes g.L.Log.fails g.L.Log.faults c.eliminate_if_due.new.self c.next_conflict.new.self c.eliminate_if_due.new.log c.next_conflict.new.log Learnt)) c.in_default.is t.learnt in
    let m = w.0 in
    record {
      solver = t.solver;
      logged = m.on f first (n.on f first (l.on f first i.logged));
      wanted = m.wanted ∙ n.wanted ∙ l.wanted ∙ i.wanted;
      within = (let h = w.1 in let j = k.in_time in omega (arith, h, j));
      later = (let a = m.later in let b = n.later in let d = l.later in omega (arith, a, b, d, i.later));
    }
