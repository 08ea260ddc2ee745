use Rattle.std.proofs.Common.{◌≡◌, ◌+◌, ◌*◌, ◌<◌, length, true, false, ap, rules, refl, arith}
use Rattle.cnf_form.specs.Cnf.{LitOf}
use Rattle.drup_check.proofs.Weights.{all_more, all_whole}
use Rattle.drup_check.proofs.marks.has_places.Goals as goal

pub loop-l-preserved : goal.loop-l-preserved
loop-l-preserved c =
    let room : 2 * c.l-item.result.var + 1 < length c.args.marks.now = search rules in
    all_more (λ m. 2 * m.var + 1 < length c.args.marks.now) c.args.clause.now c.loop-l.l-index c.l-item.result (omega arith) c.l-item.is c.loop-l.invariant room

pub returns : goal.returns
returns c = (λ t. all_whole (λ m. 2 * m.var + 1 < length c.args.marks.now) c.args.clause.now c.loop-l.l-index (omega arith) c.loop-l.invariant, λ h. refl)

pub returns-then-var-marks : goal.returns-then-var-marks
returns-then-var-marks c = (λ t. absurd (let f : false ≡ true = t in cc), λ h. absurd (let r = h c.loop-l.l-index c.l-item.result (omega arith) in omega (arith, r, ap (λ (z : LitOf). z.var) c.l-item.is)))
