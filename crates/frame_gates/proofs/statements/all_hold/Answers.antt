use Rattle.std.proofs.Common.{arith, add-one, ◌*◌, ◌+◌}
use Rattle.std.proofs.lemmas.List.{take_all}
use Rattle.std.proofs.lemmas.Option.{slice_get-get_or}
use Rattle.gate_rows.proofs.Building.{Builds-none, Builds-trans}
use Rattle.frame_gates.proofs.Saying.{all_more, all_none}
use Rattle.frame_gates.proofs.statements.all_hold.Goals as goal

pub loop-statement-init : goal.loop-statement-init
loop-statement-init c = record {
  builds = Builds-none c.args.gates.now _;
  bit = all_none c.args.gates.now c.args.table.now c.constant-all.result c.constant-all.ensures.within c.constant-all.ensures.means;
}

pub loop-statement-preserved : goal.loop-statement-preserved
loop-statement-preserved c = record {
  builds = Builds-trans c.args.gates.now c.loop-statement.gates c.and_holds.new.gates (2 * c.loop-statement.statement-index) 2 (2 * (c.loop-statement.statement-index + 1)) c.loop-statement.invariant.builds c.and_holds.ensures.builds (omega arith);
  bit = rw add-one
      (all_more c.loop-statement.gates c.and_holds.new.gates c.args.table.now c.args.statements.now c.loop-statement.statement-index _ c.loop-statement.all c.in_ok-all.all
      (slice_get-get_or c.args.statements.now c.loop-statement.statement-index _ c.loop-statement-test.true) c.and_holds.ensures.builds.continues c.loop-statement.invariant.bit c.in_ok-all.ensures.bit);
}

pub returns-clause-bit : goal.returns-clause-bit
returns-clause-bit c =
    let t = c.loop-statement-test.false in
    let all = take_all c.loop-statement.statement-index c.args.statements.now (omega arith) in
    let b = rw all at c.loop-statement.invariant.bit in
    b
