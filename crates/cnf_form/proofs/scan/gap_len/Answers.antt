use Rattle.std.proofs.Common.{arith, sym, subst, drop}
use Rattle.std.proofs.lemmas.Bool.{both_ways}
use Rattle.cnf_form.specs.Reading.{Gap}
use Rattle.cnf_form.proofs.Scanning.{gap_visible, gap_feed, gap_blank, gap_comment, gap_over, comment_room}
use Rattle.cnf_form.proofs.scan.gap_len.Goals as goal
use Rattle.cnf_form.proofs.scan.gap_len.Goals.{then-b-eq10, else-b-eq10+then-not-is_space+else-not-fresh+else-b-ne99, else-b-eq10+else-not-is_space}

pub returns-then-not-fresh-clause-gap : goal.returns-then-not-fresh-clause-gap
returns-then-not-fresh-clause-gap c =
    let w = c.gap.invariant in
    w.so_far _ (gap_visible c.args.comments c.args.bytes.now c.gap.at (omega arith) c.gap.fresh (λ h. both_ways _ c.if-not-is_space.true (c.is_space.ensures.1 h)) (λ t. absurd (both_ways _ c.if-not-fresh.true t)))

pub returns-then-b-ne99-clause-gap : goal.returns-then-b-ne99-clause-gap
returns-then-b-ne99-clause-gap c =
    let w = c.gap.invariant in
    w.so_far _ (gap_visible c.args.comments c.args.bytes.now c.gap.at (omega arith) c.gap.fresh (λ h. both_ways _ c.if-not-is_space.true (c.is_space.ensures.1 h)) (λ t. c.if-b-ne99.true))

pub returns-clause-gap : goal.returns-clause-gap
returns-clause-gap c =
    let w = c.gap.invariant in
    w.so_far _ (gap_over c.args.comments c.gap.fresh c.args.bytes.now c.gap.at (omega arith))

pub gap-preserved : goal.gap-preserved
gap-preserved c =
    let w = c.gap.invariant in
    elim c.if-b-eq10.branch [
      | then-b-eq10 v ↦ rw (v.at-is, v.fresh-is) (record {
        within = omega arith;
        so_far = λ rest g. w.so_far rest (gap_feed c.args.comments c.args.bytes.now c.gap.at (omega arith) c.gap.fresh rest v.if-b-eq10.true g);
      })
      | else-b-eq10+then-not-is_space+else-not-fresh+else-b-ne99 v ↦ rw (v.at-is, v.fresh-is) (record {
        within = comment_room c.args.comments c.args.bytes.now c.gap.at (omega arith) v.line_len-at.result v.line_len-at.ensures.within;
        so_far = λ rest g. w.so_far rest (subst (λ f. Gap c.args.comments f (drop c.gap.at c.args.bytes.now) rest) (sym v.if-not-fresh.false) (gap_comment c.args.comments c.args.bytes.now c.gap.at (omega arith) v.line_len-at.result rest v.if-b-ne99.false v.line_len-at.ensures.clean v.line_len-at.ensures.ends g));
      })
      | else-b-eq10+else-not-is_space v ↦ rw (v.at-is, v.fresh-is) (record {
        within = omega arith;
        so_far = λ rest g. w.so_far rest (gap_blank c.args.comments c.args.bytes.now c.gap.at (omega arith) c.gap.fresh rest (v.is_space.ensures.0 (cc)) v.if-b-eq10.false g);
      })
    ]
