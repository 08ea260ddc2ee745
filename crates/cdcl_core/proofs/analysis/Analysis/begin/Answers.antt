use Rattle.std.proofs.Common.{rules, sym, subst, inl, inr}
use Rattle.cnf_form.proofs.Literals.{lit_cases}
use Rattle.unit_propagation.proofs.Slots.{clauses_of-contains}
use Rattle.unit_propagation.specs.Propagator.{clauses_of}
use Rattle.cdcl_core.specs.Analysis.{IsSeenOrRoot}
use Rattle.cdcl_core.proofs.Analyses.{supports_clause, noted_keeps}
use Rattle.cdcl_core.proofs.analysis.Analysis.begin.Goals as goal

pub returns-clause-supports : goal.returns-clause-supports
returns-clause-supports c h =
    let core = c.args.core.now in
    let cl = c.in-Some.clause.now in
    let n = c.note_others.ensures in
    let f = c.note.ensures in
    let first = c.in-Some-first.first.now in
    supports_clause (clauses_of core.slots) core.trail c.args.root c.note_others.new.self.seen.items cl (clauses_of-contains core.slots c.args.k cl (search rules))
    (λ m k. elim (lit_cases m first) [
      | inl e ↦ subst (IsSeenOrRoot core.trail c.args.root c.note_others.new.self.seen.items) (sym e) (noted_keeps core.trail c.args.root c.note.new.self.seen.items _ first n.keeps (f.noted (search rules)))
      | inr d ↦ n.noted h m k d
    ])
