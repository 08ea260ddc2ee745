use Rattle.std.proofs.Common.{◌≡◌, ℕ, ◌<◌, ◌+◌, length}
use Rattle.hint_chain.specs.Ids.{id_at}
use Rattle.hint_chain.proofs.ids.numbers.Given as goal

abbrev pub invariant-loop-number : goal.invariant-loop-number
invariant-loop-number l = record {
  sized : length l.numbers.items ≡ l.number;
  each : (k : ℕ) → k < l.number → id_at l.numbers.items k ≡ k + 1;
}
