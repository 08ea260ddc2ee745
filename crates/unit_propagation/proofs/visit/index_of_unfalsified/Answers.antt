use Rattle.std.proofs.Common.{arith, sym, subst, ◌∙◌, ◌≡◌, true}
use Rattle.cnf_form.specs.Cnf.{negate}
use Rattle.cnf_form.proofs.Literals.{same_by_ne}
use Rattle.unit_propagation.specs.Marks.{is_marked}
use Rattle.unit_propagation.proofs.Falsified.{falsified_more}
use Rattle.unit_propagation.proofs.visit.index_of_unfalsified.Goals as goal
use Rattle.unit_propagation.proofs.visit.index_of_unfalsified.Goals.{then-not-is_marked+else-ne, else-not-is_marked}

pub loop-k-preserved : goal.loop-k-preserved
loop-k-preserved c = λ t s.
    falsified_more t c.args.clause.now c.args.other c.loop-k.k c.index-clause-k.result (omega arith) c.index-clause-k.is (c.loop-k.invariant t s)
    (λ d. elim c.if-not-is_marked.branch [
      | then-not-is_marked+else-ne w ↦ absurd (d (same_by_ne _ _ (sym w.if-ne.ensures)))
      | else-not-is_marked w ↦ s.off (negate c.index-clause-k.result) (subst (λ z. is_marked c.args.marks.now z ≡ true) c.negate.ensures (sym c.is_marked.ensures ∙ w.if-not-is_marked.false))
    ])
