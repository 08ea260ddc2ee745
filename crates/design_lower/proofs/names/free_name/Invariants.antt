use Rattle.std.proofs.Common.{◌≡◌, ℕ, ◌-◌, ◌<◌, ◌≤◌, ◌^◌, true}
use Rattle.design_lower.specs.Lowering.{kept_name}
use Rattle.design_lower.specs.Progress.{has}
use Rattle.design_lower.proofs.names.free_name.Given as goal

abbrev pub invariant-numbers : goal.invariant-numbers
invariant-numbers l = record {
  least : l.from ≤ l.number;
  taken : (k : ℕ) → l.from ≤ k → k < l.number → has l.names (kept_name k) ≡ true;
}

abbrev pub decreases-numbers : goal.decreases-numbers
decreases-numbers l = 2 ^ 32 - l.number
