use Rattle.std.proofs.Common.{ℕ, ◌<◌, get_or}
use Rattle.cnf_form.specs.Cnf.{LitOf, LitWithin}
use Rattle.cdcl_core.proofs.eliminate.is_proper.Given as goal

abbrev pub invariant-loop-m : goal.invariant-loop-m
invariant-loop-m l = (i : ℕ) (d : LitOf) → i < l.m-index → LitWithin l.vars (get_or l.clause i d)
