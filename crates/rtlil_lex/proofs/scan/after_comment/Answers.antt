use Rattle.std.proofs.Common.{◌≤◌, arith}
use Rattle.std.proofs.lemmas.List.{take_rest}
use Rattle.rtlil_lex.specs.Tokens.{is_feed}
use Rattle.rtlil_lex.proofs.Feeds.{from_first, from_none}
use Rattle.rtlil_lex.proofs.scan.after_comment.Goals as goal

pub returns-in-Some : goal.returns-in-Some
returns-in-Some c =
    let found = c.in-Some.ensures in
    rw take_rest (from_first is_feed c.args.bytes.now c.in-Some.place found.0.high (λ i h. let low : 0 ≤ i = omega arith in found.0.before i low h) found.1)

pub returns-in-None : goal.returns-in-None
returns-in-None c = from_none is_feed c.args.bytes.now (λ i h. let low : 0 ≤ i = omega arith in c.in-None.ensures i low h)
