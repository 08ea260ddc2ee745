use Rattle.std.proofs.Common.{◌≡◌, ◌∙◌, true, false, arith, rules}
use Rattle.drup_check.proofs.Weights.{within_from_same, same_iff, shows_same}
use Rattle.drup_check.proofs.marks.is_same.Goals as goal

pub returns-then-not-is_within-clause-same : goal.returns-then-not-is_within-clause-same
returns-then-not-is_within-clause-same c = (
  λ t. absurd (let f : false ≡ true = t in cc),
  λ s. absurd (let t = c.is_within.ensures.1 (within_from_same c.args.a_marks.now c.args.a.now c.args.b.now c.requires.shows s) in let n = c.if-not-is_within.true in cc),
)

pub returns-clause-same : goal.returns-clause-same
returns-clause-same c =
    let yes : c.is_within.result ≡ true = search rules in
    same_iff c.args.a_marks.now c.mark_all-b_weight.new.marks c.args.a.now c.args.b.now c.is_within-same.result c.requires.shows c.mark_all-b_weight.ensures.shows (c.is_within.ensures.0 yes) c.is_within-same.ensures

pub returns-then-b_weight-a_weight-clause-same : goal.returns-then-b_weight-a_weight-clause-same
returns-then-b_weight-a_weight-clause-same c = (
  λ t. absurd (let f : false ≡ true = t in cc),
  λ s. absurd (
      let m = c.mark_all-b_weight.ensures in
      let h = c.requires.weighs in
      let marks = c.mark_all-b_weight.new.marks in
      let e : c.mark_all-b_weight.result ≡ c.args.a_weight = m.weight ∙ h.each marks (shows_same marks c.args.b.now c.args.a.now m.shows (record { forth = s.back; back = s.forth })) in
      omega (arith, e, c.if-b_weight-a_weight.true)
      ),
)
