use Rattle.std.proofs.Common.{◌∙◌, refl, rules}
use Rattle.std.proofs.lemmas.Result.{err_from_is_err_and}
use Rattle.cdcl_core.specs.Searching.{IsAtRest}
use Rattle.cdcl_core.specs.declared.stop.Stop.TheVariants.{OutOfMemory}
use Rattle.cdcl_core.proofs.Steps.{leads_moves, leads_both, moves_same, rest_same, stops_moves, stops_later, stops_now}
use Rattle.cdcl_core.proofs.solver.Solver.come_to_rest_and_shelve.Goals as goal

pub returns-then-conflict-clause-leads : goal.returns-then-conflict-clause-leads
returns-then-conflict-clause-leads g c = let s = c.args.self.now in leads_moves g.L.Log.takes g.L.Log.faults s s c.args.log.now (moves_same s s refl refl refl refl refl refl)

pub returns-then-not-branch-clause-leads : goal.returns-then-not-branch-clause-leads
returns-then-not-branch-clause-leads g c =
    let m = c.in_ok-come_to_rest.ensures in
    leads_moves g.L.Log.takes g.L.Log.faults c.args.self.now c.come_to_rest.new.self c.args.log.now m.moves

pub returns-in_err-note_facts-clause-stopped : goal.returns-in_err-note_facts-clause-stopped
returns-in_err-note_facts-clause-stopped g c =
    let m = c.in_ok-come_to_rest.ensures in
    let e = c.in_err-note_facts.ensures in
    let p = err_from_is_err_and c.from_residual-in_err-note_facts.result c.from_residual-in_err-note_facts.ensures.1 in
    rw (p.1, p.2) (stops_moves g.L.Log.takes g.L.Log.faults g.L.Log.fails c.args.self.now c.come_to_rest.new.self c.args.log.now c.note_facts.new.log c.in_err-note_facts.field-0.0 m.moves e.stopped)

pub shelve-requires-clause-rest : goal.shelve-requires-clause-rest
shelve-requires-clause-rest g c =
    let n = c.in_ok-note_facts.ensures in
    let t : IsAtRest c.come_to_rest.new.self = search rules in
    rest_same c.come_to_rest.new.self c.note_facts.new.self n.core n.frozen t

pub returns-in_err-shelve-clause-stopped : goal.returns-in_err-shelve-clause-stopped
returns-in_err-shelve-clause-stopped g c =
    let m = c.in_ok-come_to_rest.ensures in
    let v = m.moves in
    let n = c.in_ok-note_facts.ensures in
    let old = c.args.self.now in
    let mid = c.come_to_rest.new.self in
    let noted = c.note_facts.new.self in
    let a = c.args.log.now in
    let b = c.note_facts.new.log in
    let l = leads_both g.L.Log.takes g.L.Log.faults old mid noted a a b (leads_moves g.L.Log.takes g.L.Log.faults old mid a v) n.leads in
    let p = err_from_is_err_and c.from_residual-in_err-shelve.result c.from_residual-in_err-shelve.ensures.1 in
    rw (p.1, p.2) (stops_later g.L.Log.takes g.L.Log.faults g.L.Log.fails old noted a b b OutOfMemory l (n.conflicts ∙ v.conflicts) (stops_now g.L.Log.takes g.L.Log.faults g.L.Log.fails noted b))

pub returns-clause-leads : goal.returns-clause-leads
returns-clause-leads g c =
    let m = c.in_ok-come_to_rest.ensures in
    let v = m.moves in
    let n = c.in_ok-note_facts.ensures in
    let e = c.in_ok-shelve.ensures in
    let old = c.args.self.now in
    let mid = c.come_to_rest.new.self in
    let noted = c.note_facts.new.self in
    let new = c.shelve.new.self in
    let a = c.args.log.now in
    let b = c.note_facts.new.log in
    let l = leads_both g.L.Log.takes g.L.Log.faults old mid noted a a b (leads_moves g.L.Log.takes g.L.Log.faults old mid a v) n.leads in
    leads_both g.L.Log.takes g.L.Log.faults old noted new a b b l (leads_moves g.L.Log.takes g.L.Log.faults noted new b e.moves)
