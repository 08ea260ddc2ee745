use Rattle.std.proofs.Common.{◌≤◌, length, take, replicate, false, sym, subst, ap, arith, rules}
use Rattle.std.specs.Prelude.{All}
use Rattle.std.proofs.lemmas.List.{length-append, take_all}
use Rattle.std.proofs.lemmas.List.Elements.{All-push}
use Rattle.cnf_form.proofs.Members.{take_one_more}
use Rattle.lrat_check.specs.Marks.{HasPlaces, IsClear}
use Rattle.lrat_check.proofs.Table.{clear_longer, places_up}
use Rattle.lrat_check.proofs.marks.reach.Goals as goal

pub loop-l-preserved : goal.loop-l-preserved
loop-l-preserved c =
    let i = c.loop-l.invariant in
    let m = c.reach_one.ensures.more in
    let old = c.loop-l.marks.items in
    let new = c.reach_one.new.marks.items in
    let n = c.loop-l.l-index in
    let l = c.l-item.result in
    let up : length old ≤ length new = omega (arith, ap length m.1, length-append old (replicate m.0 false)) in
    let room : HasPlaces new l = search rules in
    record {
      clear = λ s. subst IsClear (sym m.1) (clear_longer old m.0 (i.clear s));
      longer = omega (arith, i.longer, up);
      places = subst (All (HasPlaces new)) (sym (take_one_more c.args.clause.now n l (omega arith) c.l-item.is)) (All-push (HasPlaces new) (take n c.args.clause.now) l (places_up old new _ up i.places) room);
    }

pub returns-clause-places : goal.returns-clause-places
returns-clause-places c =
    let i = c.loop-l.invariant in
    subst (All (HasPlaces c.loop-l.marks.items)) (take_all c.loop-l.l-index c.args.clause.now (omega arith)) i.places
