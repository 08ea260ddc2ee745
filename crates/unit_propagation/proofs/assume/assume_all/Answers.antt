use Rattle.std.proofs.Common.{◌≡◌, length, rules, arith, subst}
use Rattle.std.specs.Prelude.{Contains}
use Rattle.cnf_form.proofs.Members.{Contains-read}
use Rattle.unit_propagation.proofs.Assumptions.{assume_more, front_more}
use Rattle.unit_propagation.proofs.assume.assume_all.Goals as goal

pub returns-in_err-assume_one-clause-assumes : goal.returns-in_err-assume_one-clause-assumes
returns-in_err-assume_one-clause-assumes c =
    let i = c.loop-l.invariant in
    let e = c.assume_one.ensures in
    assume_more c.args.lits.now c.args.trail.now.lits c.loop-l.trail.lits _ c.l-item.result i.assumes (Contains-read _ _ _ c.loop-l-test.true c.l-item.is) e.grown

pub returns-then-not-branch-clause-assumes : goal.returns-then-not-branch-clause-assumes
returns-then-not-branch-clause-assumes c =
    let i = c.loop-l.invariant in
    let e = c.assume_one.ensures in
    assume_more c.args.lits.now c.args.trail.now.lits c.loop-l.trail.lits _ c.l-item.result i.assumes (Contains-read _ _ _ c.loop-l-test.true c.l-item.is) e.grown

pub loop-l-preserved : goal.loop-l-preserved
loop-l-preserved c =
    let i = c.loop-l.invariant in
    let e = c.assume_one.ensures in
    record {
      vars = search rules;
      assumes = assume_more c.args.lits.now c.args.trail.now.lits c.loop-l.trail.lits _ c.l-item.result i.assumes (Contains-read _ _ _ c.loop-l-test.true c.l-item.is) e.grown;
      front = front_more c.args.lits.now c.loop-l.trail.lits _ c.loop-l.l-index c.l-item.result c.loop-l-test.true c.l-item.is i.front e.grown (search rules);
    }

pub returns-clause-yes : goal.returns-clause-yes
returns-clause-yes c = λ g l h.
    let i = c.loop-l.invariant in
    let past : length c.args.lits.now ≡ c.loop-l.l-index = search rules in
    subst (Contains c.loop-l.trail.lits) h.2 (i.front h.0 l (omega (arith, h.1, past)))
