use Rattle.std.proofs.Common.{refl, sym, ◌∙◌, ap, subst}
use Rattle.unit_propagation.specs.Propagator.{PropagatorOf}
use Rattle.cdcl_core.specs.Levels.{IsJustified}
use Rattle.cdcl_core.specs.Analysis.{IsUnmarked}
use Rattle.cdcl_core.specs.declared.solver.Solver.{Solver}
use Rattle.cdcl_core.proofs.Steps.{moves_collect, named_collect_by, justified_collect, pending_rest}
use Rattle.cdcl_core.proofs.solver.Solver.collect.Goals as goal

pub returns-clause-solver : goal.returns-clause-solver
returns-clause-solver c =
    let s = c.args.self.now in
    let r = c.requires.solver in
    let t = c.requires.rest in
    let e = c.in_ok-collect-2.ensures.ok in
    record {
      frozen = r.frozen ∙ sym (ap (λ (p : PropagatorOf). p.vars) e);
      unmarked = subst (λ (p : PropagatorOf). IsUnmarked p.vars s.analysis.seen.items s.analysis.lower.items s.analysis.current.items) (sym e) r.unmarked;
      justified = subst IsJustified (sym e) (justified_collect s.core r.justified);
      pending = pending_rest s.core c.collect-2.new.self s.pending t.conflict (ap (λ (p : PropagatorOf). p.conflict) e ∙ t.conflict) r.pending;
    }

pub returns-clause-moves : goal.returns-clause-moves
returns-clause-moves c =
    let s = c.args.self.now in
    let e = c.in_ok-collect-2.ensures.ok in
    let z = c.in_ok-collect.ensures in
    let new : Solver = record s { core = c.collect-2.new.self; learnts = c.renumber.new.self; ids = c.collect.new.self } in
    moves_collect s new (ap (λ (p : PropagatorOf). p.vars) e) (ap (λ (p : PropagatorOf). p.slots) e) refl refl refl z.wanted (named_collect_by s new (ap (λ (p : PropagatorOf). p.slots) e) refl z.wanted z.last z.named)
