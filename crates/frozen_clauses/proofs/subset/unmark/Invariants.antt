use Rattle.std.proofs.Common.{ℕ, ◌≡◌, ◌<◌, true, get_or}
use Rattle.cnf_form.specs.Cnf.{LitOf}
use Rattle.unit_propagation.specs.Marks.{is_marked}
use Rattle.frozen_clauses.proofs.subset.unmark.Given as goal

abbrev pub invariant-loop-l : goal.invariant-loop-l
invariant-loop-l l = record {
  fewer : (x : LitOf) → is_marked l.marks x ≡ true → is_marked l.fn.marks x ≡ true;
  gone : (i : ℕ) (d : LitOf) → i < l.l-index → is_marked l.marks (get_or l.clause i d) ≡ true → ⊥;
}
