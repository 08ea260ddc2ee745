use Rattle.std.proofs.Common.{◌≡◌, true, false, get_or, subst, sym}
use Rattle.std.proofs.lemmas.Bool.{both_ways, and_from}
use Rattle.unit_propagation.specs.Marks.{is_marked}
use Rattle.frozen_clauses.specs.declared.entry.Entry.{Entry}
use Rattle.frozen_clauses.specs.Inside.{slots_of, IsCovered}
use Rattle.frozen_clauses.proofs.Filing.{one_more}
use Rattle.frozen_clauses.proofs.subset.find_in_list.Goals.{then-marks-index+else-is_covered, else-marks-index}
use Rattle.frozen_clauses.proofs.subset.find_in_list.Goals as goal

pub loop-e-preserved : goal.loop-e-preserved
loop-e-preserved c =
    let m = c.args.marks.now in
    let P : Entry → Type 0 = λ e. is_marked m e.second ≡ true → is_marked m e.third ≡ true → IsCovered m (slots_of c.args.clauses.now) e.clause → ⊥ in
    let here : P c.e-item.result = elim c.if-marks-index.branch [
      | then-marks-index+else-is_covered w ↦ λ s t h. both_ways _ w.if-is_covered.false (w.is_covered.ensures.1 h)
      | else-marks-index w ↦
          λ s t h. both_ways _ w.if-marks-index.false
          (and_from _ _ (subst (λ n. get_or m n false ≡ true) (sym c.index.ensures) s) (subst (λ n. get_or m n false ≡ true) (sym c.index-in-loop-e.ensures) t))
    ] in
    one_more P c.args.list.now c.loop-e.e-index c.e-item.result c.loop-e-test.true c.e-item.is c.loop-e.invariant here
