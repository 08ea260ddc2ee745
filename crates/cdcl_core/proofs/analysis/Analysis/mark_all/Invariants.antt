use Rattle.std.proofs.Common.{◌≡◌, ◌+◌, ◌*◌, true, length}
use Rattle.cnf_form.specs.Cnf.{LitOf}
use Rattle.unit_propagation.specs.Marks.{is_marked}
use Rattle.cdcl_core.specs.Analysis.{AreMarksListed}
use Rattle.cdcl_core.proofs.analysis.Analysis.mark_all.Given as goal

abbrev pub invariant-loop-l : goal.invariant-loop-l
invariant-loop-l l = record {
  sized : length l.self.seen.items ≡ 2 * l.core.vars + 2;
  listed : AreMarksListed l.core.trail l.base l.fn.self.seen.items l.fn.self.lower.items l.fn.self.current.items → AreMarksListed l.core.trail l.base l.self.seen.items l.self.lower.items l.self.current.items;
  keeps : (x : LitOf) → is_marked l.fn.self.seen.items x ≡ true → is_marked l.self.seen.items x ≡ true;
}
