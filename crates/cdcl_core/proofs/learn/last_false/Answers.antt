use Rattle.std.proofs.Common.{take, arith, sym, subst}
use Rattle.std.proofs.lemmas.List.{take_all}
use Rattle.cnf_form.proofs.Members.{take_one_more}
use Rattle.cdcl_core.specs.Analysis.{IsLastOf}
use Rattle.cdcl_core.proofs.learn.last_false.Goals as goal

pub loop-m-preserved : goal.loop-m-preserved
loop-m-preserved c =
    let i = c.loop-m.invariant in
    let e = c.later-last.ensures in
    let cl = c.args.clause.now in
    record {
      last = e.last;
      is = subst (λ z. IsLastOf c.args.core.now.trail c.args.first z c.later-last.result) (sym (take_one_more cl c.loop-m.m-index c.m-item.result c.loop-m-test.true c.m-item.is)) (e.step (take c.loop-m.m-index cl) i.is);
    }

pub returns : goal.returns
returns c =
    let i = c.loop-m.invariant in
    subst (λ z. IsLastOf c.args.core.now.trail c.args.first z c.loop-m.last) (take_all c.loop-m.m-index c.args.clause.now (omega arith)) i.is
