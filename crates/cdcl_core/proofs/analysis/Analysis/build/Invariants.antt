use Rattle.std.proofs.Common.{ℕ, ◌≡◌, ◌⊎◌, ◌<◌, true, get_or}
use Rattle.std.specs.Prelude.{Contains}
use Rattle.cnf_form.specs.Cnf.{LitOf, negate}
use Rattle.unit_propagation.specs.Marks.{is_marked}
use Rattle.cdcl_core.proofs.analysis.Analysis.build.Given as goal

abbrev pub invariant-loop-k : goal.invariant-loop-k
invariant-loop-k l = record {
  seen : l.self.seen ≡ l.fn.self.seen;
  lower : l.self.lower ≡ l.fn.self.lower;
  current : l.self.current ≡ l.fn.self.current;
  first : Contains l.self.clause.items (negate l.fn.l);
  marked : (i : ℕ) (d : LitOf) → i < l.k → is_marked l.fn.self.seen.items (negate (get_or l.fn.self.lower.items i d)) ≡ true → Contains l.self.clause.items (get_or l.fn.self.lower.items i d);
  only : (m : LitOf) → Contains l.self.clause.items m → (m ≡ negate l.fn.l) ⊎ Contains l.fn.self.lower.items m;
}
