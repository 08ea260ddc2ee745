use Rattle.std.proofs.Common.{rules, ◌≡◌, ◌<◌, ◌≤◌, arith, get_or, length}
use Rattle.bit_net.proofs.Searching.{descends, descent_goes_on}
use Rattle.bit_net.proofs.search.descend.Goals as goal

pub loop-next-preserved : goal.loop-next-preserved
loop-next-preserved c =
    let inv = c.loop-next.invariant in
    let at : get_or c.loop-next.found.items c.loop-next.next c.index-var.result.now ≡ c.index-var.result.now = search rules in
    let more = c.loop-next-test.true in
    let size = c.len.ensures in
    let inside : c.loop-next.next < length c.loop-next.found.items = omega arith in
    record {
      size = search rules;
      search = search rules;
      descent = descent_goes_on c.args.net.now c.read.new.seen.items c.args.found.now.items c.loop-next.found.items c.read.new.found.items c.loop-next.next c.index-var.result.now inv.descent inside at
          c.in_ok-read.ensures.search c.in_ok-read.ensures.visits;
    }

pub returns-clause-descends : goal.returns-clause-descends
returns-clause-descends c =
    let past = c.loop-next-test.false in
    let size = c.len.ensures in
    let end : length c.loop-next.found.items ≤ c.loop-next.next = omega arith in
    descends c.args.net.now c.args.found.now.items c.loop-next.found.items c.loop-next.next c.loop-next.invariant.descent end
