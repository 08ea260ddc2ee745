use Rattle.std.proofs.Common.{◌≡◌, ◌<◌, ℕ}
use Rattle.std.specs.Prelude.{Some, slice_get}
use Rattle.cnf_form.specs.Cnf.{lit_in}
use Rattle.cdcl_core.specs.Solving.{valued}
use Rattle.pair_form.specs.declared.pair.BitLits.{BitLits}
use Rattle.pdr_run.proofs.breaking.follows.Given as goal

abbrev pub invariant-loop-bit : goal.invariant-loop-bit
invariant-loop-bit l = (i : ℕ) (b : BitLits) → i < l.bit-index → slice_get l.pair.bits i ≡ Some (Some b) → lit_in (valued l.first) b.second ≡ lit_in (valued l.second) b.first
