use Rattle.std.proofs.Common.{ℕ, ◌≡◌, ◌≢◌, ◌+◌, ◌*◌, ◌<◌, true, length, get_or}
use Rattle.std.specs.Prelude.{Contains}
use Rattle.cnf_form.specs.Cnf.{LitOf}
use Rattle.unit_propagation.specs.Marks.{is_marked}
use Rattle.cdcl_core.specs.Analysis.{AreMarksListed, IsSeenOrRoot}
use Rattle.cdcl_core.proofs.analysis.Analysis.note_others.Given as goal

abbrev pub invariant-loop-m : goal.invariant-loop-m
invariant-loop-m l = record {
  sized : length l.self.seen.items ≡ 2 * l.core.vars + 2;
  listed : AreMarksListed l.core.trail l.base l.fn.self.seen.items l.fn.self.lower.items l.fn.self.current.items → AreMarksListed l.core.trail l.base l.self.seen.items l.self.lower.items l.self.current.items;
  keeps : (x : LitOf) → is_marked l.fn.self.seen.items x ≡ true → is_marked l.self.seen.items x ≡ true;
  found : l.found ≡ true → Contains l.clause l.but;
  noted : (i : ℕ) (d : LitOf) → i < l.m-index → get_or l.clause i d ≢ l.but → IsSeenOrRoot l.core.trail l.root l.self.seen.items (get_or l.clause i d);
}
