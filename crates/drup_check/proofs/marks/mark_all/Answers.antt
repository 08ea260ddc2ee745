use Rattle.std.proofs.Common.{◌≡◌, ◌<◌, true, false, length, get_or, rules, arith}
use Rattle.drup_check.proofs.Weights.{weight_clear, marked_step, again_step}
use Rattle.drup_check.proofs.marks.mark_all.Goals as goal
use Rattle.drup_check.proofs.marks.mark_all.Goals.{then-not-marks-place, else-not-marks-place}

pub loop-l-init : goal.loop-l-init
loop-l-init c = record { shows = c.requires.clear; sum = weight_clear c.args.salt c.args.marks.now c.requires.clear }

pub loop-l-preserved : goal.loop-l-preserved
loop-l-preserved c =
    let inv = c.loop-l.invariant in
    let room : c.index-place.result < length c.loop-l.marks = search rules in
    elim c.if-not-marks-place.branch [
      | then-not-marks-place w ↦
          let free : get_or c.loop-l.marks c.index-place.result false ≡ false = search rules in
          let r = marked_step c.args.salt c.loop-l.marks c.if-not-marks-place.marks c.args.clause.now c.loop-l.l-index c.index-place.result c.loop-l.sum w.scattered-sum.result c.if-not-marks-place.sum c.l-item.result
          (omega arith) c.l-item.is c.index-place.ensures room free inv.shows inv.sum w.scattered-sum.ensures w.marks-is w.sum-is in
          record { shows = r.0; sum = r.1 }
      | else-not-marks-place w ↦
          let on : get_or c.loop-l.marks c.index-place.result false ≡ true = search rules in
          let r = again_step c.args.salt c.loop-l.marks c.if-not-marks-place.marks c.args.clause.now c.loop-l.l-index c.index-place.result c.loop-l.sum c.if-not-marks-place.sum c.l-item.result
          (omega arith) c.l-item.is c.index-place.ensures on inv.shows inv.sum w.marks-is w.sum-is in
          record { shows = r.0; sum = r.1 }
    ]
