use Rattle.std.proofs.Common.{◌≡◌, length, ◌∙◌, arith, rules}
use Rattle.unit_propagation.specs.Propagator.{clauses_of}
use Rattle.unit_propagation.proofs.Slots.{clauses_of-contains}
use Rattle.drup_check.proofs.Weights.{free_same}
use Rattle.drup_check.proofs.Present.{filed_more, filed_none}
use Rattle.drup_check.proofs.lookup.file_present.Goals.{in-Some, in_default}
use Rattle.drup_check.proofs.lookup.file_present.Goals as goal

pub weigh-weight-requires-clause-places : goal.weigh-weight-requires-clause-places
weigh-weight-requires-clause-places c =
    let p = c.args.core.now in
    let v = c.loop-k.invariant in
    let free = v.free in
    free.places c.in-Some.clause.now (clauses_of-contains p.slots c.loop-k.k c.in-Some.clause.now c.in-Some.ensures.there)

pub loop-k-preserved : goal.loop-k-preserved
loop-k-preserved c =
    let p = c.args.core.now in
    let k = c.loop-k.k in
    let v = c.loop-k.invariant in
    elim c.match-clause.branch [
      | in-Some w ↦
          let e = w.enter.ensures in
          let m = w.weigh-weight.ensures in
          let size : length w.weigh-weight.new.marks ≡ length c.loop-k.marks = search rules in
          rw (w.marks-is, w.copies-is) (record {
            free = free_same (clauses_of p.slots) c.loop-k.marks w.weigh-weight.new.marks (omega (arith, size)) v.free m.clear;
            counted = omega (arith, e.count);
            placed = e.places ∙ v.placed;
            filed = filed_more p c.args.salt _ _ k w.weigh-weight.result w.in-Some.clause.now w.in-Some.ensures.there m.weighs e.holds e.keeps v.filed;
          })
      | in_default w ↦
          rw (w.marks-is, w.copies-is) (record {
            free = v.free;
            counted = omega (arith, v.counted);
            placed = v.placed;
            filed = filed_none p c.args.salt _ k w.in_default.ensures.gone v.filed;
          })
    ]
