use Rattle.std.proofs.Common.{ℕ, ◌≡◌, ◌≢◌, ◌<◌, true, length, get_or}
use Rattle.cnf_form.specs.Cnf.{LitOf, negate}
use Rattle.unit_propagation.specs.Marks.{is_marked}
use Rattle.cdcl_core.proofs.analysis.Analysis.reset.Given as goal

abbrev pub invariant-loop-k : goal.invariant-loop-k
invariant-loop-k l = record {
  sized : length l.self.seen.items ≡ length l.fn.self.seen.items;
  lower : l.self.lower ≡ l.fn.self.lower;
  current : l.self.current ≡ l.fn.self.current;
  clause : l.self.clause ≡ l.fn.self.clause;
  fewer : (x : LitOf) → is_marked l.self.seen.items x ≡ true → is_marked l.fn.self.seen.items x ≡ true;
  gone : (i : ℕ) (d : LitOf) → i < l.k → is_marked l.self.seen.items (get_or l.fn.self.current.items i d) ≢ true;
}

abbrev pub invariant-loop-k-2 : goal.invariant-loop-k-2
invariant-loop-k-2 l = record {
  sized : length l.self.seen.items ≡ length l.fn.self.seen.items;
  lower : l.self.lower ≡ l.fn.self.lower;
  current : l.self.current ≡ l.fn.self.current;
  clause : l.self.clause ≡ l.fn.self.clause;
  fewer : (x : LitOf) → is_marked l.self.seen.items x ≡ true → is_marked l.fn.self.seen.items x ≡ true;
  gone : (i : ℕ) (d : LitOf) → i < length l.fn.self.current.items → is_marked l.self.seen.items (get_or l.fn.self.current.items i d) ≢ true;
  gone_lower : (i : ℕ) (d : LitOf) → i < l.k → is_marked l.self.seen.items (negate (get_or l.fn.self.lower.items i d)) ≢ true;
}
