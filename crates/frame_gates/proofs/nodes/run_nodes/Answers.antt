use Rattle.std.proofs.Common.{arith, rules}
use Rattle.gate_rows.proofs.Building.{Builds-trans}
use Rattle.frame_gates.specs.Costs.{node_gates}
use Rattle.model_core.proofs.Lists.{at_place}
use Rattle.frame_gates.proofs.Noding.{sum_step, sum_within}
use Rattle.frame_gates.proofs.Giving.{Given-more}
use Rattle.frame_gates.proofs.nodes.run_nodes.Goals as goal

pub returns-in_err-run_node-clause-builds : goal.returns-in_err-run_node-clause-builds
returns-in_err-run_node-clause-builds c =
    let n = at_place c.args.model.now.nodes c.loop-node.node (let e = c.nodes-node-end.ensures in let h = c.loop-node-test.true in omega arith) in
    let s = sum_within node_gates c.args.model.now.nodes c.loop-node.node n.0 n.1 in
    Builds-trans c.args.gates.now c.loop-node.gates c.run_node.new.gates _ (node_gates n.0) _ c.loop-node.invariant.builds (c.run_node.ensures.builds n.0 n.1) s

pub returns-in_err-run_node-clause-too_many : goal.returns-in_err-run_node-clause-too_many
returns-in_err-run_node-clause-too_many c =
    let n = at_place c.args.model.now.nodes c.loop-node.node (let e = c.nodes-node-end.ensures in let h = c.loop-node-test.true in omega arith) in
    let s = sum_within node_gates c.args.model.now.nodes c.loop-node.node n.0 n.1 in
    let most = c.loop-node.invariant.builds.most in
    let limit = c.loop-node.invariant.builds.continues.limit in
    let full = c.in_err-run_node.ensures.too_many in
    λ e. let f = full (search rules) n.0 n.1 in record { full = f.full; past = let q = f.past in omega arith }

pub loop-node-preserved : goal.loop-node-preserved
loop-node-preserved c =
    let n = at_place c.args.model.now.nodes c.loop-node.node (let e = c.nodes-node-end.ensures in let h = c.loop-node-test.true in omega arith) in
    let s = sum_step node_gates c.args.model.now.nodes c.loop-node.node n.0 n.1 in
    record {
      given = Given-more c.args.model.now c.requires.model c.loop-node.gates c.run_node.new.gates c.loop-node.node n.0 c.args.table.now c.loop-node.table c.run_node.new.table n.1
          (c.run_node.ensures.builds n.0 n.1).continues c.loop-node.invariant.given (c.in_ok-run_node.ensures.given n.0 n.1);
      builds = rw s
          (Builds-trans c.args.gates.now c.loop-node.gates c.run_node.new.gates _ (node_gates n.0) _ c.loop-node.invariant.builds (c.run_node.ensures.builds n.0 n.1) (omega arith));
    }
