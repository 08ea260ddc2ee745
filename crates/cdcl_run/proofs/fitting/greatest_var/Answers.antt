use Rattle.std.proofs.Common.{◌≡◌, ◌≤◌, get_or, take, ap, subst, arith}
use Rattle.std.proofs.lemmas.List.{take_all}
use Rattle.std.proofs.lemmas.List.Elements.{All-get_or, All-more, All-weaker}
use Rattle.std.specs.Prelude.{All, List}
use Rattle.cnf_form.specs.Cnf.{LitOf}
use Rattle.cdcl_run.proofs.Fitted.{first_within_max, max_within, second_within_max}
use Rattle.cdcl_run.proofs.fitting.greatest_var.Goals as goal

pub loop-l-preserved : goal.loop-l-preserved
loop-l-preserved c =
    let clause = c.args.clause.now in
    let i = c.loop-l.l-index in
    let l = c.l-item.result in
    let had = c.loop-l.greatest in
    let now = c.max-greatest.result in
    let item : l.var ≡ (get_or clause i l).var = ap (λ (m : LitOf). m.var) c.l-item.is in
    let is = c.max-greatest.ensures in
    let first = first_within_max had c.var.result in
    let second = second_within_max had c.var.result in
    record {
      above = All-more (λ (m : LitOf). m.var ≤ now) clause i l c.loop-l-test.true (All-weaker (λ (m : LitOf). m.var ≤ had) (λ (m : LitOf). m.var ≤ now) (λ m h. omega (arith, h, is, first)) (take i clause) c.loop-l.invariant.above) (omega (arith, is, second, item));
      least = λ vars all. let one = All-get_or (λ (m : LitOf). m.var ≤ vars) clause i l c.loop-l-test.true all in let both = max_within had c.var.result vars (c.loop-l.invariant.least vars all) (omega (arith, one, item)) in omega (arith, is, both);
    }

pub returns-clause-above : goal.returns-clause-above
returns-clause-above c =
    let clause : List LitOf = c.args.clause.now in
    subst (All (λ (m : LitOf). m.var ≤ c.loop-l.greatest)) (take_all c.loop-l.l-index clause c.loop-l-test.false) c.loop-l.invariant.above
