use Rattle.std.proofs.Common.{refl, subst, sym}
use Rattle.std.proofs.lemmas.Result.{err_from_is_err_and}
use Rattle.cdcl_core.specs.Searching.{Grows}
use Rattle.cdcl_core.specs.declared.solver.Solver.{Solver}
use Rattle.cdcl_core.proofs.Steps.{moves_same, grows_moves, grows_both, ended_now, ended_later}
use Rattle.cdcl_core.proofs.solver.Solver.add_resolvents.Goals as goal
use Rattle.cdcl_core.proofs.solver.Solver.add_resolvents.Goals.{else-loop-test, then-loop-test+in_ok-next+then-not-branch}

pub returns-in_err-index-clause-stopped : goal.returns-in_err-index-clause-stopped
returns-in_err-index-clause-stopped g c =
    let s = c.args.self.now in
    let a = c.args.log.now in
    let p = err_from_is_err_and c.from_residual.result c.from_residual.ensures.1 in
    rw (p.1, p.2) (ended_now g.L.Log.takes g.L.Log.faults g.L.Log.fails c.args.budget s s a a (grows_moves g.L.Log.takes g.L.Log.faults c.args.budget s s a (moves_same s s refl refl refl refl refl refl) c.requires.in_time))

pub loop-init : goal.loop-init
loop-init g c =
    let s = c.args.self.now in
    record {
      solver = c.requires.solver;
      indexed = c.in_ok-index.ensures;
      grows = grows_moves g.L.Log.takes g.L.Log.faults c.args.budget s s c.args.log.now (moves_same s s refl refl refl refl refl refl) c.requires.in_time;
    }

pub returns-in_err-next-clause-stopped : goal.returns-in_err-next-clause-stopped
returns-in_err-next-clause-stopped g c =
    let i = c.loop.invariant in
    let p = err_from_is_err_and c.from_residual-in_err-next.result c.from_residual-in_err-next.ensures.1 in
    rw (p.1, p.2) (ended_now g.L.Log.takes g.L.Log.faults g.L.Log.fails c.args.budget c.args.self.now c.loop.self c.args.log.now c.loop.log i.grows)

pub returns-in_err-add_resolvent-clause-stopped : goal.returns-in_err-add_resolvent-clause-stopped
returns-in_err-add_resolvent-clause-stopped g c =
    let i = c.loop.invariant in
    let s = c.args.self.now in
    let t = c.loop.self in
    let mid : Solver = record t { eliminator = c.next.new.self } in
    let w = i.grows in
    let all = grows_both g.L.Log.takes g.L.Log.faults c.args.budget s t mid c.args.log.now c.loop.log c.loop.log w (grows_moves g.L.Log.takes g.L.Log.faults c.args.budget t mid c.loop.log (moves_same t mid refl refl refl refl refl refl) w.in_time) in
    let e = c.in_err-add_resolvent.ensures in
    let p = err_from_is_err_and c.from_residual-in_err-add_resolvent.result c.from_residual-in_err-add_resolvent.ensures.1 in
    rw (p.1, p.2) (ended_later g.L.Log.takes g.L.Log.faults g.L.Log.fails c.args.budget s mid c.args.log.now c.loop.log c.add_resolvent.new.log c.in_err-add_resolvent.field-0.0 all e.stopped)

pub loop-preserved : goal.loop-preserved
loop-preserved g c =
    let i = c.loop.invariant in
    let s = c.args.self.now in
    let t = c.loop.self in
    let mid : Solver = record t { eliminator = c.next.new.self } in
    let w = i.grows in
    let e = c.in_ok-add_resolvent.ensures in
    let all = grows_both g.L.Log.takes g.L.Log.faults c.args.budget s t mid c.args.log.now c.loop.log c.loop.log w (grows_moves g.L.Log.takes g.L.Log.faults c.args.budget t mid c.loop.log (moves_same t mid refl refl refl refl refl refl) w.in_time) in
    record {
      solver = e.solver;
      indexed = e.indexed;
      grows = grows_both g.L.Log.takes g.L.Log.faults c.args.budget s mid c.add_resolvent.new.self c.args.log.now c.loop.log c.add_resolvent.new.log all e.grows;
    }

pub returns-clause-grows : goal.returns-clause-grows
returns-clause-grows g c =
    let i = c.loop.invariant in
    let s = c.args.self.now in
    let t = c.loop.self in
    let a = c.args.log.now in
    let b = c.loop.log in
    let w = i.grows in
    elim c.loop-test.branch [
      | else-loop-test k ↦ subst (λ (x : Solver). Grows g.L.Log.takes g.L.Log.faults c.args.budget s x a b) (sym k.self-is) w
      | then-loop-test+in_ok-next+then-not-branch k ↦
          let mid : Solver = record t { eliminator = k.next.new.self } in
          subst (λ (x : Solver). Grows g.L.Log.takes g.L.Log.faults c.args.budget s x a b) (sym k.self-is)
          (grows_both g.L.Log.takes g.L.Log.faults c.args.budget s t mid a b b w (grows_moves g.L.Log.takes g.L.Log.faults c.args.budget t mid b (moves_same t mid refl refl refl refl refl refl) w.in_time))
    ]
