use Rattle.std.proofs.Common.{arith, ◌∙◌}
use Rattle.net_answer.proofs.Answers.{whole_next, wrote_so}
use Rattle.net_answer.proofs.writer.write_answer.Goals as goal

pub loop-at-preserved : goal.loop-at-preserved
loop-at-preserved g c =
    let i = c.loop-at.invariant in
    let p = c.split_at-in-loop-at.ensures in
    let r = c.split_at.ensures in
    (omega (arith, c.loop-at-test.true), whole_next _ _ _ c.args.stream.now _ _ c.loop-at.at i.1 r.back p.front p.front_len c.in_ok-write_piece.ensures.written, c.in_ok-write_piece.ensures.still ∙ i.2)

pub returns-clause-written : goal.returns-clause-written
returns-clause-written g c =
    let i = c.loop-at.invariant in
    wrote_so _ _ c.write_end.result _ _ _ c.args.stream.now _ c.loop-at.at i.1 c.split_at-2.ensures.back (omega (arith, c.loop-at-test.false, c.split_at-2.ensures.back_len)) c.write_end.ensures.written
