use Rattle.std.proofs.Common.{◌≡◌, Bool, false, List, sym, arith}
use Rattle.cnf_form.specs.Cnf.{LitOf, negate}
use Rattle.cnf_form.proofs.Literals.{same_by_ne, apart_by_ne}
use Rattle.lrat_check.specs.Marks.{is_marked}
use Rattle.lrat_check.proofs.Scan.{scan_open, scan_negated, scan_same, scan_two}
use Rattle.hint_chain.proofs.marks.Marked.standing.Goals as goal
use Rattle.hint_chain.proofs.marks.Marked.standing.Goals.{then-not-has+in-None, then-not-has+in-Some+else-ne, else-not-has}

pub returns-then-ne : goal.returns-then-ne
returns-then-ne c =
    let s : LitOf → Bool = is_marked c.args.self.now.marks.items in
    let n : s (negate c.l-item.result) ≡ false = cc in
    scan_two s c.args.clause.now c.loop-l.l-index c.l-item.result (omega arith) c.l-item.is c.loop-l.open c.loop-l.open c.in-Some.other
    c.loop-l.invariant c.in-Some.is (apart_by_ne _ _ (sym c.if-ne.ensures)) n

pub loop-l-preserved : goal.loop-l-preserved
loop-l-preserved c =
    let s : LitOf → Bool = is_marked c.args.self.now.marks.items in
    let cs : List LitOf = c.args.clause.now in
    let i = c.loop-l.l-index in
    let l : LitOf = c.l-item.result in
    elim c.if-not-has.branch [
      | then-not-has+in-None w ↦
          scan_open s cs i l (omega arith) c.l-item.is c.loop-l.open _ c.loop-l.invariant w.in-None.is w.open-is (cc)
      | then-not-has+in-Some+else-ne w ↦
          scan_same s cs i l (omega arith) c.l-item.is c.loop-l.open _ w.in-Some.other c.loop-l.invariant w.in-Some.is w.open-is (same_by_ne _ _ (sym w.if-ne.ensures))
      | else-not-has w ↦
          scan_negated s cs i l (omega arith) c.l-item.is c.loop-l.open _ c.loop-l.invariant w.open-is (cc)
    ]
