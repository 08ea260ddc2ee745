use Rattle.std.proofs.Common.{◌<◌, ◌+◌, ◌*◌, ◌++◌, ◌∙◌, ℕ, List, length, sym, arith}
use Rattle.std.specs.Prelude.{Contains}
use Rattle.btor_emit.specs.Emitting.{Gives}
use Rattle.btor_emit.specs.Table.{cycle_of}
use Rattle.btor_emit.proofs.Noding.{by_parts, nodes_more, nodes_none, reads_in, gives_in, reads_apart}
use Rattle.btor_emit.proofs.nodes.push_nodes.Goals as goal
use Rattle.model_core.specs.Meaning.{node_fn, row_at}
use Rattle.model_core.specs.Served.{HasWidths, IsNode}
use Rattle.model_core.specs.Shape.{IsDistinct}
use Rattle.model_core.specs.declared.op.Op.{Op}
use Rattle.model_core.proofs.Lists.{all_at, at_place, contains_left, contains_right}
use Rattle.model_core.proofs.Writing.{output_distinct}

pub loop-node-init : goal.loop-node-init
loop-node-init c = nodes_none c.args.model.now c.args.draft.now c.args.table.now c.requires.btor c.requires.seats

pub push_node-requires-clause-btor : goal.push_node-requires-clause-btor
push_node-requires-clause-btor c = c.loop-node.invariant.adds.btor

pub push_node-requires-clause-seats : goal.push_node-requires-clause-seats
push_node-requires-clause-seats c = c.loop-node.invariant.seats

pub push_node-requires-clause-a : goal.push_node-requires-clause-a
push_node-requires-clause-a c =
    let m = c.args.model.now in
    let i = c.loop-node.node in
    let l : i < length m.nodes = omega arith in
    let n = at_place m.nodes i l in
    reads_in m c.requires.model i n.0 n.1 c.loop-node.table n.0.a c.a.result.now (c.loop-node.invariant.size ∙ c.requires.size) (sym (c.a.ensures n.0 n.1)) (λ p h. contains_left n.0.a (n.0.b ++ n.0.s) p h)

pub push_node-requires-clause-b : goal.push_node-requires-clause-b
push_node-requires-clause-b c =
    let m = c.args.model.now in
    let i = c.loop-node.node in
    let l : i < length m.nodes = omega arith in
    let n = at_place m.nodes i l in
    reads_in m c.requires.model i n.0 n.1 c.loop-node.table n.0.b c.b.result.now (c.loop-node.invariant.size ∙ c.requires.size) (sym (c.b.ensures n.0 n.1)) (λ p h. contains_right n.0.a (n.0.b ++ n.0.s) p (contains_left n.0.b n.0.s p h))

pub push_node-requires-clause-s : goal.push_node-requires-clause-s
push_node-requires-clause-s c =
    let m = c.args.model.now in
    let i = c.loop-node.node in
    let l : i < length m.nodes = omega arith in
    let n = at_place m.nodes i l in
    reads_in m c.requires.model i n.0 n.1 c.loop-node.table n.0.s c.s.result.now (c.loop-node.invariant.size ∙ c.requires.size) (sym (c.s.ensures n.0 n.1)) (λ p h. contains_right n.0.a (n.0.b ++ n.0.s) p (contains_right n.0.b n.0.s p h))

pub push_node-requires-clause-y : goal.push_node-requires-clause-y
push_node-requires-clause-y c =
    let m = c.args.model.now in
    let i = c.loop-node.node in
    let l : i < length m.nodes = omega arith in
    let n = at_place m.nodes i l in
    gives_in m c.requires.model i n.0 n.1 c.loop-node.table c.y.result.now (c.loop-node.invariant.size ∙ c.requires.size) (sym (c.y.ensures n.0 n.1))

pub push_node-requires-clause-widths : goal.push_node-requires-clause-widths
push_node-requires-clause-widths c =
    let m = c.args.model.now in
    let i = c.loop-node.node in
    let l : i < length m.nodes = omega arith in
    let n = at_place m.nodes i l in
    by_parts (λ (o : Op) (a b s y : List ℕ). HasWidths o (length a) (length b) (length s) (length y)) n.0.op c.op.result n.0.a c.a.result.now n.0.b c.b.result.now n.0.s c.s.result.now n.0.y c.y.result.now
    (sym (c.op.ensures n.0 n.1)) (sym (c.a.ensures n.0 n.1)) (sym (c.b.ensures n.0 n.1)) (sym (c.s.ensures n.0 n.1)) (sym (c.y.ensures n.0 n.1)) (all_at IsNode m.nodes i n.0 c.requires.model.nodes n.1)

pub push_node-requires-clause-distinct : goal.push_node-requires-clause-distinct
push_node-requires-clause-distinct c =
    let m = c.args.model.now in
    let i = c.loop-node.node in
    let l : i < length m.nodes = omega arith in
    let n = at_place m.nodes i l in
    by_parts (λ (o : Op) (a b s y : List ℕ). IsDistinct y) n.0.op c.op.result n.0.a c.a.result.now n.0.b c.b.result.now n.0.s c.s.result.now n.0.y c.y.result.now
    (sym (c.op.ensures n.0 n.1)) (sym (c.a.ensures n.0 n.1)) (sym (c.b.ensures n.0 n.1)) (sym (c.s.ensures n.0 n.1)) (sym (c.y.ensures n.0 n.1)) (output_distinct m c.requires.model i n.0 n.1)

pub push_node-requires-clause-apart : goal.push_node-requires-clause-apart
push_node-requires-clause-apart c =
    let m = c.args.model.now in
    let i = c.loop-node.node in
    let l : i < length m.nodes = omega arith in
    let n = at_place m.nodes i l in
    by_parts (λ (o : Op) (a b s y : List ℕ). (p : ℕ) → Contains y p → Contains (a ++ (b ++ s)) p → ⊥) n.0.op c.op.result n.0.a c.a.result.now n.0.b c.b.result.now n.0.s c.s.result.now n.0.y c.y.result.now
    (sym (c.op.ensures n.0 n.1)) (sym (c.a.ensures n.0 n.1)) (sym (c.b.ensures n.0 n.1)) (sym (c.s.ensures n.0 n.1)) (sym (c.y.ensures n.0 n.1)) (reads_apart m c.requires.model i n.0 n.1)

pub loop-node-preserved : goal.loop-node-preserved
loop-node-preserved c =
    let m = c.args.model.now in
    let i = c.loop-node.node in
    let l : i < length m.nodes = omega arith in
    let n = at_place m.nodes i l in
    nodes_more m c.requires.model i n.0 n.1 c.args.draft.now c.loop-node.draft c.push_node.new.draft c.args.table.now c.loop-node.table c.push_node.new.table c.loop-node.invariant
    (by_parts (λ (o : Op) (a b s y : List ℕ). Gives c.loop-node.draft c.push_node.new.draft c.loop-node.table c.push_node.new.table y (12 * (length a + length b + length s) + 20) (λ vs. node_fn o (length y) (row_at (cycle_of c.loop-node.table vs) a) (row_at (cycle_of c.loop-node.table vs) b) (row_at (cycle_of c.loop-node.table vs) s)))
    c.op.result n.0.op c.a.result.now n.0.a c.b.result.now n.0.b c.s.result.now n.0.s c.y.result.now n.0.y
    (c.op.ensures n.0 n.1) (c.a.ensures n.0 n.1) (c.b.ensures n.0 n.1) (c.s.ensures n.0 n.1) (c.y.ensures n.0 n.1) c.in_ok-push_node.ensures)
