use Rattle.std.proofs.Common.{◌++◌, length, false, arith}
use Rattle.std.proofs.lemmas.List.{ext_get_or, length-append}
use Rattle.sby_bits.proofs.Moves.{joined}
use Rattle.sby_bits.proofs.parts.concat.Goals as goal

pub returns-clause-value : goal.returns-clause-value
returns-clause-value c =
    joined c.loop-i.y c.args.a.now c.args.b.now (length c.args.y.now) (omega arith) (λ k h. c.loop-i.invariant k (omega arith))

pub returns-clause-whole : goal.returns-clause-whole
returns-clause-whole c = λ whole.
    ext_get_or false c.loop-i.y (c.args.a.now ++ c.args.b.now) (omega (arith, length-append c.args.a.now c.args.b.now))
    (λ k h. c.loop-i.invariant k (omega arith))
