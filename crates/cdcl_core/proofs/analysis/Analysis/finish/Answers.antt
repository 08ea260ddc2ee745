use Rattle.std.proofs.Common.{◌≤◌, length, rules, arith}
use Rattle.unit_propagation.specs.Propagator.{clauses_of}
use Rattle.cdcl_core.specs.Analysis.{IsUip}
use Rattle.cdcl_core.proofs.Analyses.{learnt_built, supports_more}
use Rattle.cdcl_core.proofs.analysis.Analysis.finish.Goals as goal

pub returns-clause-learnt : goal.returns-clause-learnt
returns-clause-learnt c =
    let core = c.args.core.now in
    let F = clauses_of core.slots in
    let root = c.args.root in
    let r = c.requires in
    let m = c.mark_all.ensures in
    let d = c.drop_all.ensures in
    let f = c.is_uip.ensures in
    let q = c.drop_all.new.self in
    let e = c.in_ok-build.ensures in
    let supports = d.supports (search rules) (supports_more F core.trail root c.args.self.now.seen.items c.mark_all.new.self.seen.items m.keeps r.supports) in
    let first : IsUip core.trail c.args.base q.seen.items q.current.items c.args.l = record { on = r.on; late = f.late (search rules); only = f.only (search rules) } in
    let short : length c.build.new.self.clause.items ≤ core.vars = omega (arith, c.if-len-vars.false, c.len.ensures, c.vars.ensures.vars) in
    rw c.negate.ensures (learnt_built core c.args.base root q.seen.items q.lower.items q.current.items c.args.l c.build.new.self.clause.items r.justified r.root (d.listed c.args.base (m.listed r.listed)) supports first e.clause short)

pub returns-in_err-build-clause-listed : goal.returns-in_err-build-clause-listed
returns-in_err-build-clause-listed c = let m = c.mark_all.ensures in let d = c.drop_all.ensures in let e = c.build.ensures in rw (e.seen, e.lower, e.current) (d.listed c.args.base (m.listed c.requires.listed))

pub returns-then-len-vars-clause-listed : goal.returns-then-len-vars-clause-listed
returns-then-len-vars-clause-listed c = let m = c.mark_all.ensures in let d = c.drop_all.ensures in let e = c.build.ensures in rw (e.seen, e.lower, e.current) (d.listed c.args.base (m.listed c.requires.listed))

pub returns-clause-listed : goal.returns-clause-listed
returns-clause-listed c = let m = c.mark_all.ensures in let d = c.drop_all.ensures in let e = c.build.ensures in rw (e.seen, e.lower, e.current) (d.listed c.args.base (m.listed c.requires.listed))
