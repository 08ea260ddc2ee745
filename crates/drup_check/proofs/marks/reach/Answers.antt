use Rattle.std.proofs.Common.{◌+◌, ◌*◌, ◌<◌, ◌≤◌, [], length, replicate, false, sym, subst, ap, arith, rules}
use Rattle.std.proofs.lemmas.List.{length-append}
use Rattle.unit_propagation.specs.Marks.{Shows}
use Rattle.drup_check.proofs.Weights.{all_more, clear_longer, places_up}
use Rattle.drup_check.proofs.marks.reach.Goals as goal

pub loop-l-preserved : goal.loop-l-preserved
loop-l-preserved c =
    let i = c.loop-l.invariant in
    let m = c.reach_one.ensures.more in
    let old = c.loop-l.marks.items in
    let new = c.reach_one.new.marks.items in
    let up : length old ≤ length new = omega (arith, ap length m.1, length-append old (replicate m.0 false)) in
    let room : 2 * c.l-item.result.var + 1 < length new = search rules in
    record {
      clear = λ s. subst (λ z. Shows z []) (sym m.1) (clear_longer old m.0 (i.clear s));
      longer = omega (arith, i.longer, up);
      places = all_more (λ l. 2 * l.var + 1 < length new) c.args.clause.now c.loop-l.l-index c.l-item.result (omega arith) c.l-item.is (places_up old new _ up i.places) room;
    }
