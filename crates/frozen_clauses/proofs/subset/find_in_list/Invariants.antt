use Rattle.std.proofs.Common.{ℕ, ◌≡◌, ◌<◌, true, get_or}
use Rattle.unit_propagation.specs.Marks.{is_marked}
use Rattle.frozen_clauses.specs.declared.entry.Entry.{Entry}
use Rattle.frozen_clauses.specs.Inside.{slots_of, IsCovered}
use Rattle.frozen_clauses.proofs.subset.find_in_list.Given as goal

abbrev pub invariant-loop-e : goal.invariant-loop-e
invariant-loop-e l = (i : ℕ) (d : Entry) → i < l.e-index → is_marked l.marks (get_or l.list i d).second ≡ true
    → is_marked l.marks (get_or l.list i d).third ≡ true → IsCovered l.marks (slots_of l.clauses) (get_or l.list i d).clause → ⊥
