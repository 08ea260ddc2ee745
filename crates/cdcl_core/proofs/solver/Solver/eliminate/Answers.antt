use Rattle.std.proofs.Common.{refl, arith}
use Rattle.std.proofs.lemmas.Result.{err_from_is_err_and}
use Rattle.cdcl_core.specs.declared.solver.Solver.{Solver}
use Rattle.cdcl_core.proofs.Steps.{moves_same, moves_both, grows_moves, grows_leads, grows_both, ended_now, ended_later, ended_both}
use Rattle.cdcl_core.proofs.solver.Solver.eliminate.Goals as goal

pub returns-in_err-come_to_rest-clause-stopped : goal.returns-in_err-come_to_rest-clause-stopped
returns-in_err-come_to_rest-clause-stopped g c =
    let s = c.args.self.now in
    let a = c.args.log.now in
    let p = err_from_is_err_and c.from_residual.result c.from_residual.ensures.1 in
    rw (p.1, p.2) (ended_now g.L.Log.takes g.L.Log.faults g.L.Log.fails c.args.budget s s a a (grows_moves g.L.Log.takes g.L.Log.faults c.args.budget s s a (moves_same s s refl refl refl refl refl refl) c.requires.in_time))

pub returns-then-not-branch-clause-grows : goal.returns-then-not-branch-clause-grows
returns-then-not-branch-clause-grows g c =
    let m = c.in_ok-come_to_rest.ensures in
    grows_moves g.L.Log.takes g.L.Log.faults c.args.budget c.args.self.now c.come_to_rest.new.self c.args.log.now m.moves c.requires.in_time

pub returns-in_err-begin-clause-stopped : goal.returns-in_err-begin-clause-stopped
returns-in_err-begin-clause-stopped g c =
    let m = c.in_ok-come_to_rest.ensures in
    let s = c.args.self.now in
    let a = c.args.log.now in
    let p = err_from_is_err_and c.from_residual-in_err-begin.result c.from_residual-in_err-begin.ensures.1 in
    rw (p.1, p.2) (ended_now g.L.Log.takes g.L.Log.faults g.L.Log.fails c.args.budget s c.come_to_rest.new.self a a (grows_moves g.L.Log.takes g.L.Log.faults c.args.budget s c.come_to_rest.new.self a m.moves c.requires.in_time))

pub add_resolvents-requires-clause-in_time : goal.add_resolvents-requires-clause-in_time
add_resolvents-requires-clause-in_time g c = let m = c.in_ok-come_to_rest.ensures in let v = m.moves in let n = v.conflicts in omega (arith, n, c.requires.in_time)

pub returns-in_err-add_resolvents-clause-stopped : goal.returns-in_err-add_resolvents-clause-stopped
returns-in_err-add_resolvents-clause-stopped g c =
    let m = c.in_ok-come_to_rest.ensures in
    let s = c.args.self.now in
    let t = c.come_to_rest.new.self in
    let mid : Solver = record t { eliminator = c.begin.new.self } in
    let a = c.args.log.now in
    let e = c.in_err-add_resolvents.ensures in
    let first = grows_moves g.L.Log.takes g.L.Log.faults c.args.budget s mid a (moves_both s t mid m.moves (moves_same t mid refl refl refl refl refl refl)) c.requires.in_time in
    let p = err_from_is_err_and c.from_residual-in_err-add_resolvents.result c.from_residual-in_err-add_resolvents.ensures.1 in
    rw (p.1, p.2) (ended_both g.L.Log.takes g.L.Log.faults g.L.Log.fails c.args.budget s mid a a c.add_resolvents.new.log c.in_err-add_resolvents.field-0.0 first e.stopped)

pub returns-in_err-come_to_rest_and_shelve-clause-stopped : goal.returns-in_err-come_to_rest_and_shelve-clause-stopped
returns-in_err-come_to_rest_and_shelve-clause-stopped g c =
    let m = c.in_ok-come_to_rest.ensures in
    let r = c.in_ok-add_resolvents.ensures in
    let s = c.args.self.now in
    let t = c.come_to_rest.new.self in
    let mid : Solver = record t { eliminator = c.begin.new.self } in
    let u = c.add_resolvents.new.self in
    let a = c.args.log.now in
    let b = c.add_resolvents.new.log in
    let e = c.in_err-come_to_rest_and_shelve.ensures in
    let first = grows_moves g.L.Log.takes g.L.Log.faults c.args.budget s mid a (moves_both s t mid m.moves (moves_same t mid refl refl refl refl refl refl)) c.requires.in_time in
    let all = grows_both g.L.Log.takes g.L.Log.faults c.args.budget s mid u a a b first r.grows in
    let p = err_from_is_err_and c.from_residual-in_err-come_to_rest_and_shelve.result c.from_residual-in_err-come_to_rest_and_shelve.ensures.1 in
    rw (p.1, p.2) (ended_later g.L.Log.takes g.L.Log.faults g.L.Log.fails c.args.budget s u a b c.come_to_rest_and_shelve.new.log c.in_err-come_to_rest_and_shelve.field-0.0 all e.stopped)

pub returns-clause-grows : goal.returns-clause-grows
returns-clause-grows g c =
    let m = c.in_ok-come_to_rest.ensures in
    let r = c.in_ok-add_resolvents.ensures in
    let e = c.in_ok-come_to_rest_and_shelve.ensures in
    let s = c.args.self.now in
    let t = c.come_to_rest.new.self in
    let mid : Solver = record t { eliminator = c.begin.new.self } in
    let u = c.add_resolvents.new.self in
    let new = c.come_to_rest_and_shelve.new.self in
    let a = c.args.log.now in
    let b = c.add_resolvents.new.log in
    let d = c.come_to_rest_and_shelve.new.log in
    let first = grows_moves g.L.Log.takes g.L.Log.faults c.args.budget s mid a (moves_both s t mid m.moves (moves_same t mid refl refl refl refl refl refl)) c.requires.in_time in
    let w = r.grows in
    let all = grows_both g.L.Log.takes g.L.Log.faults c.args.budget s mid u a a b first w in
    grows_both g.L.Log.takes g.L.Log.faults c.args.budget s u new a b d all (grows_leads g.L.Log.takes g.L.Log.faults c.args.budget u new b d e.leads e.conflicts w.in_time)
