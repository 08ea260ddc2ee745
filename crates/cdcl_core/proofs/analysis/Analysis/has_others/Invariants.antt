use Rattle.std.proofs.Common.{ℕ, ◌≡◌, ◌≢◌, ◌<◌, true, get_or}
use Rattle.std.specs.Prelude.{Contains}
use Rattle.cnf_form.specs.Cnf.{LitOf}
use Rattle.cdcl_core.specs.Analysis.{IsSeenOrRoot}
use Rattle.cdcl_core.proofs.analysis.Analysis.has_others.Given as goal

abbrev pub invariant-loop-m : goal.invariant-loop-m
invariant-loop-m l = record {
  found : l.found ≡ true → Contains l.clause l.but;
  noted : (i : ℕ) (d : LitOf) → i < l.m-index → get_or l.clause i d ≢ l.but → IsSeenOrRoot l.core.trail l.root l.self.seen.items (get_or l.clause i d);
}
