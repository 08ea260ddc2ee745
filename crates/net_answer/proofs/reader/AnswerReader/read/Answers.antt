use Rattle.std.proofs.Common.{◌≡◌, ◌<◌, ◌≤◌, rules, length, false}
use Rattle.sby_edge.specs.declared.outside.Failed.{Failed}
use Rattle.net_answer.proofs.Stages.{goes_read}
use Rattle.net_answer.proofs.reader.AnswerReader.read.Goals as goal

pub returns-clause-gives : goal.returns-clause-gives
returns-clause-gives g c =
    let shut : c.loop.self.is_over ≡ false = search rules in
    let low : 0 < c.loop.self.left = search rules in
    let r = c.in_ok-count.ensures in
    let most : c.in_ok-count.count ≤ c.loop.self.left = search rules in
    let fits : c.in_ok-count.count ≤ length c.read.new.buf = search rules in
    goes_read Failed _ (g.L.Link.left c.loop.self.link) _ _ c.loop.self.is_over c.loop.self.head c.read.new.buf c.split_at_mut-front.result.1.now c.loop.self.got c.loop.self.left c.in_ok-count.count c.loop.invariant.0 shut low (c.loop.self.apart low) most fits r.bytes
