use Rattle.std.proofs.Common.{◌≡◌, ◌<◌, ◌+◌, ◌-◌, ℕ, List, length, subst, arith}
use Rattle.btor_emit.specs.Marks.{IsOfStatement, Marks}
use Rattle.btor_emit.proofs.Marking.{AreMarked, marked_nodes, marked_read, used_all, used_more, used_none}
use Rattle.btor_emit.proofs.reads.mark_read.Goals as goal
use Rattle.model_core.specs.declared.model.Statement.{Statement}
use Rattle.model_core.proofs.Lists.{at_place}

pub loop-register-init : goal.loop-register-init
loop-register-init c =
    let m = c.args.model.now in
    let a0 = c.args.marks.now in
    let a1 = c.mark_statements.new.marks in
    let a2 = c.mark_statements-2.new.marks in
    let a3 = c.mark_statements-3.new.marks in
    used_none m a0 a1 a2 a3 c.requires.none (subst (λ (ss : List Statement). Marks a0 a1 (IsOfStatement ss)) c.asserts.ensures c.mark_statements.ensures) (subst (λ (ss : List Statement). Marks a1 a2 (IsOfStatement ss)) c.assumes.ensures c.mark_statements-2.ensures)
    (subst (λ (ss : List Statement). Marks a2 a3 (IsOfStatement ss)) c.covers.ensures c.mark_statements-3.ensures)

pub loop-register-preserved : goal.loop-register-preserved
loop-register-preserved c =
    let m = c.args.model.now in
    let i = c.loop-register.register in
    let l : i < length m.registers = omega arith in
    let r = at_place m.registers i l in
    used_more m c.loop-register.marks c.mark_register.new.marks i r.0 r.1 c.loop-register.invariant (c.mark_register.ensures r.0 r.1)

pub loop-left-init : goal.loop-left-init
loop-left-init c =
    let m = c.args.model.now in
    let all : c.loop-register.register ≡ length m.registers = omega arith in
    let nodes : c.nodes-left.result ≡ length m.nodes = omega arith in
    record { most = omega arith; marked = used_all m c.loop-register.marks c.loop-register.register c.nodes-left.result all nodes c.loop-register.invariant }

pub loop-left-preserved : goal.loop-left-preserved
loop-left-preserved c =
    let m = c.args.model.now in
    let old = c.loop-left.marks in
    let inv = c.loop-left.invariant in
    let i = c.loop-left.left - 1 in
    let most = inv.most in
    let more : c.loop-left.left ≡ i + 1 = omega arith in
    let l : i < length m.nodes = omega arith in
    let n = at_place m.nodes i l in
    record { most = omega arith; marked = marked_nodes m c.requires.model old c.mark_node.new.marks i n.0 n.1 (subst (λ (k : ℕ). AreMarked m old k) more inv.marked) (c.mark_node.ensures n.0 n.1) }

pub returns : goal.returns
returns c =
    let m = c.args.model.now in
    let marks = c.loop-left.marks in
    let none : c.loop-left.left ≡ 0 = omega arith in
    let all = c.loop-left.invariant.marked in
    record { size = all.size; read = λ p. ((λ h. all.sound p h), (λ r. marked_read m marks (subst (λ (k : ℕ). AreMarked m marks k) none all) p r)) }
