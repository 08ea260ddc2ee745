use Rattle.std.proofs.Common.{ℕ, ◌≡◌, ◌<◌, true, get_or}
use Rattle.std.specs.Prelude.{Contains}
use Rattle.cnf_form.specs.Cnf.{LitOf}
use Rattle.unit_propagation.specs.Marks.{is_marked}
use Rattle.frozen_clauses.specs.declared.entry.Entry.{Entry}
use Rattle.frozen_clauses.specs.Inside.{slots_of, rows_of, row, IsCovered}
use Rattle.frozen_clauses.proofs.subset.find.Given as goal

abbrev pub invariant-loop-l : goal.invariant-loop-l
invariant-loop-l l = (i : ℕ) (d : LitOf) → i < l.l-index → (e : Entry) → Contains (row (rows_of l.lists) (get_or l.lits i d)) e
    → is_marked l.marks e.second ≡ true → is_marked l.marks e.third ≡ true → IsCovered l.marks (slots_of l.clauses) e.clause → ⊥
