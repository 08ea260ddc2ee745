use Rattle.std.proofs.Common.{ℕ, ◌≡◌, ◌<◌, true, get_or}
use Rattle.cnf_form.specs.Cnf.{LitOf}
use Rattle.unit_propagation.specs.Marks.{is_marked}
use Rattle.cdcl_core.proofs.analysis.Analysis.is_uip.Given as goal

abbrev pub invariant-loop-x : goal.invariant-loop-x
invariant-loop-x l = record {
  others : (i : ℕ) (d : LitOf) → i < l.x-index → is_marked l.self.seen.items (get_or l.self.current.items i d) ≡ true → get_or l.self.current.items i d ≡ l.l;
}
