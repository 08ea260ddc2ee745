use Rattle.std.proofs.Common.{◌∙◌, ◌++◌, ℕ, List, length, sym, subst}
use Rattle.std.specs.Prelude.{Contains}
use Rattle.btor_emit.proofs.Marking.{copy_marked, other_marked}
use Rattle.btor_emit.proofs.Noding.{copy_wide, gives_under, reads_apart, reads_under}
use Rattle.btor_emit.proofs.reads.mark_node.Goals as goal
use Rattle.model_core.proofs.Lists.{at_place, contains_left, contains_right}

pub mark_copied-requires-clause-places : goal.mark_copied-requires-clause-places
mark_copied-requires-clause-places c =
    let m = c.args.model.now in
    let n = at_place m.nodes c.args.node c.requires.node in
    reads_under m c.requires.model c.args.node n.0 n.1 (length c.args.marks.now) n.0.a c.a.result.now c.requires.size (sym (c.a.ensures n.0 n.1)) (λ p h. contains_left n.0.a (n.0.b ++ n.0.s) p h)

pub mark_copied-requires-clause-copies : goal.mark_copied-requires-clause-copies
mark_copied-requires-clause-copies c =
    let m = c.args.model.now in
    let n = at_place m.nodes c.args.node c.requires.node in
    gives_under m c.requires.model c.args.node n.0 n.1 (length c.args.marks.now) c.y.result.now c.requires.size (sym (c.y.ensures n.0 n.1))

pub mark_copied-requires-clause-same : goal.mark_copied-requires-clause-same
mark_copied-requires-clause-same c =
    let m = c.args.model.now in
    let n = at_place m.nodes c.args.node c.requires.node in
    copy_wide m c.requires.model c.args.node n.0 n.1 c.a.result.now c.y.result.now (sym (c.op.ensures n.0 n.1) ∙ c.in-Copy.is) (c.a.ensures n.0 n.1) (c.y.ensures n.0 n.1)

pub mark_copied-requires-clause-apart : goal.mark_copied-requires-clause-apart
mark_copied-requires-clause-apart c = λ p g h.
    let m = c.args.model.now in
    let n = at_place m.nodes c.args.node c.requires.node in
    reads_apart m c.requires.model c.args.node n.0 n.1 p (subst (λ (ps : List ℕ). Contains ps p) (c.y.ensures n.0 n.1) g)
    (contains_left n.0.a (n.0.b ++ n.0.s) p (subst (λ (ps : List ℕ). Contains ps p) (c.a.ensures n.0 n.1) h))

pub returns-in-Copy : goal.returns-in-Copy
returns-in-Copy c = λ n at.
    copy_marked c.args.marks.now c.mark_copied.new.marks n c.op.result c.a.result.now c.y.result.now (c.op.ensures n at) c.in-Copy.is (c.a.ensures n at) (c.y.ensures n at) c.mark_copied.ensures

pub mark_all-requires : goal.mark_all-requires
mark_all-requires c =
    let m = c.args.model.now in
    let n = at_place m.nodes c.args.node c.requires.node in
    reads_under m c.requires.model c.args.node n.0 n.1 (length c.args.marks.now) n.0.a c.a-in_default.result.now c.requires.size (sym (c.a-in_default.ensures n.0 n.1)) (λ p h. contains_left n.0.a (n.0.b ++ n.0.s) p h)

pub mark_all-requires-in_default : goal.mark_all-requires-in_default
mark_all-requires-in_default c =
    let m = c.args.model.now in
    let n = at_place m.nodes c.args.node c.requires.node in
    reads_under m c.requires.model c.args.node n.0 n.1 (length c.mark_all.new.marks) n.0.b c.b.result.now (c.mark_all.ensures.size ∙ c.requires.size) (sym (c.b.ensures n.0 n.1)) (λ p h. contains_right n.0.a (n.0.b ++ n.0.s) p (contains_left n.0.b n.0.s p h))

pub mark_all-requires-in_default-2 : goal.mark_all-requires-in_default-2
mark_all-requires-in_default-2 c =
    let m = c.args.model.now in
    let n = at_place m.nodes c.args.node c.requires.node in
    reads_under m c.requires.model c.args.node n.0 n.1 (length c.mark_all-in_default.new.marks) n.0.s c.s.result.now (c.mark_all-in_default.ensures.size ∙ c.mark_all.ensures.size ∙ c.requires.size) (sym (c.s.ensures n.0 n.1))
    (λ p h. contains_right n.0.a (n.0.b ++ n.0.s) p (contains_right n.0.b n.0.s p h))

pub returns-in_default : goal.returns-in_default
returns-in_default c = λ n at.
    other_marked c.args.marks.now c.mark_all.new.marks c.mark_all-in_default.new.marks c.mark_all-in_default-2.new.marks n c.op.result c.a-in_default.result.now c.b.result.now c.s.result.now (c.op.ensures n at) c.in_default.not-Copy (c.a-in_default.ensures n at) (c.b.ensures n at) (c.s.ensures n at) c.mark_all.ensures
    c.mark_all-in_default.ensures c.mark_all-in_default-2.ensures
