use Rattle.std.proofs.Common.{List, sym, subst, arith}
use Rattle.std.specs.Prelude.{Contains}
use Rattle.std.proofs.lemmas.Bool.{both_ways}
use Rattle.cnf_form.specs.Cnf.{LitOf}
use Rattle.cnf_form.proofs.Literals.{same_by_ne}
use Rattle.unit_propagation.specs.Propagation.{IsUnassigned}
use Rattle.unit_propagation.proofs.Scanning.{scan_open, scan_negated, scan_same}
use Rattle.unit_propagation.proofs.scan.scan_clause.Goals as goal
use Rattle.unit_propagation.proofs.scan.scan_clause.Goals.{then-not-is_true+in-None, then-not-is_true+in-Some+else-ne, else-not-is_true}

pub loop-l-preserved : goal.loop-l-preserved
loop-l-preserved c =
    let t : List LitOf = c.args.trail.now.lits in
    let cs : List LitOf = c.args.clause.now in
    let i = c.loop-l.l-index in
    let l : LitOf = c.l-item.result in
    elim c.if-not-is_true.branch [
      | then-not-is_true+in-None w ↦
          let op : IsUnassigned t l = record { not_true = λ h. both_ways _ c.if-is_true.false (c.is_true.ensures.1 h); not_false = λ h. both_ways _ w.if-not-is_true.true (c.is_true-in-loop-l.ensures.1 (subst (Contains t) (sym c.negate.ensures) h)) } in
          scan_open t cs i l (omega arith) c.l-item.is c.loop-l.open _ c.loop-l.invariant w.in-None.is w.open-is op
      | then-not-is_true+in-Some+else-ne w ↦
          scan_same t cs i l (omega arith) c.l-item.is c.loop-l.open _ w.in-Some.other c.loop-l.invariant w.in-Some.is w.open-is (same_by_ne _ _ (sym w.if-ne.ensures))
      | else-not-is_true w ↦
          scan_negated t cs i l (omega arith) c.l-item.is c.loop-l.open _ c.loop-l.invariant w.open-is (subst (Contains t) c.negate.ensures (c.is_true-in-loop-l.ensures.0 w.if-not-is_true.false))
    ]
