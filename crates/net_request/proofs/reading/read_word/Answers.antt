use Rattle.std.proofs.Common.{◌≡◌, rules, arith, subst, length}
use Rattle.net_link.specs.Link.{Took}
use Rattle.net_request.proofs.Fronts.{take_whole}
use Rattle.net_request.proofs.reading.read_word.Goals as goal

pub returns-clause-word : goal.returns-clause-word
returns-clause-word g c =
    let len : length c.read_whole.new.buf ≡ 8 = search rules in
    let k = c.if-count-lt8.false in
    (subst (Took (g.L.Link.left c.args.link.now) (g.L.Link.left c.read_whole.new.link)) (take_whole c.in_ok-count.count c.read_whole.new.buf (omega arith)) c.in_ok-count.ensures.took, len, c.read_whole.ensures.are_bytes)
