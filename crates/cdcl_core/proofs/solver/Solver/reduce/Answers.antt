use Rattle.std.proofs.Common.{◌∙◌, rules}
use Rattle.std.proofs.lemmas.Result.{err_from_is_err_and}
use Rattle.cdcl_core.specs.Searching.{IsAtRest}
use Rattle.cdcl_core.specs.declared.stop.Stop.TheVariants.{OutOfMemory}
use Rattle.cdcl_core.proofs.Steps.{leads_moves, leads_both, moves_both, rest_same, stops_moves, stops_later, stops_now}
use Rattle.cdcl_core.proofs.solver.Solver.reduce.Goals as goal

pub returns-then-not-branch-clause-leads : goal.returns-then-not-branch-clause-leads
returns-then-not-branch-clause-leads g c =
    let m = c.in_ok-come_to_rest.ensures in
    leads_moves g.L.Log.takes g.L.Log.faults c.args.self.now c.come_to_rest.new.self c.args.log.now m.moves

pub returns-in_err-note_facts-clause-stopped : goal.returns-in_err-note_facts-clause-stopped
returns-in_err-note_facts-clause-stopped g c =
    let m = c.in_ok-come_to_rest.ensures in
    let e = c.in_err-note_facts.ensures in
    let p = err_from_is_err_and c.from_residual-in_err-note_facts.result c.from_residual-in_err-note_facts.ensures.1 in
    rw (p.1, p.2) (stops_moves g.L.Log.takes g.L.Log.faults g.L.Log.fails c.args.self.now c.come_to_rest.new.self c.args.log.now c.note_facts.new.log c.in_err-note_facts.field-0.0 m.moves e.stopped)

pub shrink-requires-clause-rest : goal.shrink-requires-clause-rest
shrink-requires-clause-rest g c =
    let n = c.in_ok-note_facts.ensures in
    let t : IsAtRest c.come_to_rest.new.self = search rules in
    rest_same c.come_to_rest.new.self c.note_facts.new.self n.core n.frozen t

pub returns-in_err-shrink-clause-stopped : goal.returns-in_err-shrink-clause-stopped
returns-in_err-shrink-clause-stopped g c =
    let m = c.in_ok-come_to_rest.ensures in
    let v = m.moves in
    let n = c.in_ok-note_facts.ensures in
    let e = c.in_err-shrink.ensures in
    let old = c.args.self.now in
    let mid = c.come_to_rest.new.self in
    let noted = c.note_facts.new.self in
    let a = c.args.log.now in
    let b = c.note_facts.new.log in
    let l = leads_both g.L.Log.takes g.L.Log.faults old mid noted a a b (leads_moves g.L.Log.takes g.L.Log.faults old mid a v) n.leads in
    let p = err_from_is_err_and c.from_residual-in_err-shrink.result c.from_residual-in_err-shrink.ensures.1 in
    rw (p.1, p.2) (stops_later g.L.Log.takes g.L.Log.faults g.L.Log.fails old noted a b c.shrink.new.log c.in_err-shrink.field-0.0 l (n.conflicts ∙ v.conflicts) e.stopped)

pub returns-in_err-tidy-clause-stopped : goal.returns-in_err-tidy-clause-stopped
returns-in_err-tidy-clause-stopped g c =
    let m = c.in_ok-come_to_rest.ensures in
    let v = m.moves in
    let n = c.in_ok-note_facts.ensures in
    let e = c.in_ok-shrink.ensures in
    let r = e.reduces in
    let old = c.args.self.now in
    let mid = c.come_to_rest.new.self in
    let noted = c.note_facts.new.self in
    let new = c.shrink.new.self in
    let a = c.args.log.now in
    let b = c.note_facts.new.log in
    let d = c.shrink.new.log in
    let l = leads_both g.L.Log.takes g.L.Log.faults old mid noted a a b (leads_moves g.L.Log.takes g.L.Log.faults old mid a v) n.leads in
    let k = leads_both g.L.Log.takes g.L.Log.faults old noted new a b d l r.leads in
    let p = err_from_is_err_and c.from_residual-in_err-tidy.result c.from_residual-in_err-tidy.ensures.1 in
    rw (p.1, p.2) (stops_later g.L.Log.takes g.L.Log.faults g.L.Log.fails old new a d d OutOfMemory k (r.conflicts ∙ n.conflicts ∙ v.conflicts) (stops_now g.L.Log.takes g.L.Log.faults g.L.Log.fails new d))

pub returns-in_err-tidy_frozen-clause-stopped : goal.returns-in_err-tidy_frozen-clause-stopped
returns-in_err-tidy_frozen-clause-stopped g c =
    let m = c.in_ok-come_to_rest.ensures in
    let v = m.moves in
    let n = c.in_ok-note_facts.ensures in
    let e = c.in_ok-shrink.ensures in
    let r = e.reduces in
    let old = c.args.self.now in
    let mid = c.come_to_rest.new.self in
    let noted = c.note_facts.new.self in
    let new = c.shrink.new.self in
    let a = c.args.log.now in
    let b = c.note_facts.new.log in
    let d = c.shrink.new.log in
    let l = leads_both g.L.Log.takes g.L.Log.faults old mid noted a a b (leads_moves g.L.Log.takes g.L.Log.faults old mid a v) n.leads in
    let k = leads_both g.L.Log.takes g.L.Log.faults old noted new a b d l r.leads in
    let p = err_from_is_err_and c.from_residual-in_err-tidy_frozen.result c.from_residual-in_err-tidy_frozen.ensures.1 in
    rw (p.1, p.2) (stops_later g.L.Log.takes g.L.Log.faults g.L.Log.fails old new a d d OutOfMemory k (r.conflicts ∙ n.conflicts ∙ v.conflicts) (stops_now g.L.Log.takes g.L.Log.faults g.L.Log.fails new d))

pub returns-clause-leads : goal.returns-clause-leads
returns-clause-leads g c =
    let m = c.in_ok-come_to_rest.ensures in
    let v = m.moves in
    let n = c.in_ok-note_facts.ensures in
    let e = c.in_ok-shrink.ensures in
    let r = e.reduces in
    let t = c.in_ok-tidy.ensures in
    let z = c.in_ok-tidy_frozen.ensures in
    let old = c.args.self.now in
    let mid = c.come_to_rest.new.self in
    let noted = c.note_facts.new.self in
    let new = c.shrink.new.self in
    let last = c.tidy_frozen.new.self in
    let a = c.args.log.now in
    let b = c.note_facts.new.log in
    let d = c.shrink.new.log in
    let l = leads_both g.L.Log.takes g.L.Log.faults old mid noted a a b (leads_moves g.L.Log.takes g.L.Log.faults old mid a v) n.leads in
    let k = leads_both g.L.Log.takes g.L.Log.faults old noted new a b d l r.leads in
    leads_both g.L.Log.takes g.L.Log.faults old new last a d d k (leads_moves g.L.Log.takes g.L.Log.faults new last d (moves_both new c.tidy.new.self last t.moves z.moves))
