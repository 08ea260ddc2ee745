use Rattle.std.proofs.Common.{◌+◌, arith, length}
use Rattle.gate_rows.proofs.Building.{Builds-trans}
use Rattle.frame_net.proofs.Telling.{covers_more}
use Rattle.frame_net.proofs.net.covers_of.Goals as goal

pub returns-in_err-reached-clause-builds : goal.returns-in_err-reached-clause-builds
returns-in_err-reached-clause-builds c =
    let n = c.covers-k-end.ensures in
    let h = c.loop-k-test.true in
    Builds-trans c.args.gates.now c.loop-k.gates c.reached.new.gates c.loop-k.k 1 (length c.args.model.now.covers) c.loop-k.invariant.builds c.reached.ensures.builds (rw (← n) (omega arith))

pub returns-in_err-push-clause-builds : goal.returns-in_err-push-clause-builds
returns-in_err-push-clause-builds c =
    let n = c.covers-k-end.ensures in
    let h = c.loop-k-test.true in
    Builds-trans c.args.gates.now c.loop-k.gates c.reached.new.gates c.loop-k.k 1 (length c.args.model.now.covers) c.loop-k.invariant.builds c.reached.ensures.builds (rw (← n) (omega arith))

pub loop-k-preserved : goal.loop-k-preserved
loop-k-preserved c = record {
  covers = rw c.in_ok-push.ensures (covers_more c.args.model.now c.loop-k.gates c.reached.new.gates c.args.frame.now c.loop-k.k c.loop-k.covers.items c.in_ok-reached.reached c.reached.ensures.builds.continues c.loop-k.invariant.covers c.in_ok-reached.ensures.reached);
  builds = Builds-trans c.args.gates.now c.loop-k.gates c.reached.new.gates c.loop-k.k 1 (c.loop-k.k + 1) c.loop-k.invariant.builds c.reached.ensures.builds (omega arith);
}
