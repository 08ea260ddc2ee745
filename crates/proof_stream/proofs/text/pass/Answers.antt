use Rattle.std.proofs.Common.{arith, sym, ◌∙◌}
use Rattle.proof_stream.proofs.Passing.{pass_step}
use Rattle.proof_stream.proofs.text.pass.Goals as goal

pub loop-i-preserved : goal.loop-i-preserved
loop-i-preserved c =
    let k = pass_step _ _ c.args.bytes.now c.loop-i.i c.loop-i-test.true c.loop-i.invariant.passes c.loop-i.invariant.starts (sym c.claims.ensures ∙ c.if-claims.false) in
    record { within = omega (arith, c.loop-i-test.true); passes = k.0; starts = c.next_starts.ensures ∙ k.1 }
