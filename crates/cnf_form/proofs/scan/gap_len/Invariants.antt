use Rattle.std.proofs.Common.{List, ℕ, ◌-◌, ◌≤◌, length, drop}
use Rattle.cnf_form.specs.Reading.{Gap}
use Rattle.cnf_form.proofs.scan.gap_len.Given as goal

abbrev pub invariant-gap : goal.invariant-gap
invariant-gap l = record {
  within : l.at ≤ length l.bytes;
  so_far : (rest : List ℕ) → Gap l.comments l.fresh (drop l.at l.bytes) rest → Gap l.comments l.fn.fresh l.bytes rest;
}

abbrev pub decreases-gap : goal.decreases-gap
decreases-gap l = length l.bytes - l.at
