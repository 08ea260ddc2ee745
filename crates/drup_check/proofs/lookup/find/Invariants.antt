use Rattle.std.proofs.Common.{◌≡◌, ◌≤◌, ℕ, ◌+◌, List, get_or}
use Rattle.std.specs.Prelude.{Some}
use Rattle.cnf_form.specs.Cnf.{LitOf, SameClause}
use Rattle.unit_propagation.specs.Propagator.{slot_at, clauses_of}
use Rattle.drup_check.specs.Copies.{after, beginning, link_at}
use Rattle.drup_check.specs.Inside.{IsFree, Keeps}
use Rattle.drup_check.proofs.lookup.find.Given as goal

abbrev pub invariant-loop-at : goal.invariant-loop-at
invariant-loop-at l = record {
  free : IsFree (clauses_of l.core.slots) l.other;
  link : link_at l.copies l.weight l.before ≡ l.at;
  falls : (i : ℕ) → get_or l.copies.nexts i 0 ≤ i;
  keeps : Keeps l.core.slots l.fn.copies l.copies;
  rest : (n k : ℕ) (d : List LitOf) → after l.fn.copies.nexts (beginning l.fn.copies.firsts l.weight) n ≡ k + 1 → slot_at l.core.slots k ≡ Some d → SameClause l.clause d
      → (m : ℕ) × (after l.copies.nexts l.at m ≡ k + 1);
}

abbrev pub decreases-loop-at : goal.decreases-loop-at
decreases-loop-at l = l.at
