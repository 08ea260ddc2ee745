use Rattle.std.proofs.Common.{◌≡◌, ◌<◌, ℕ, length, get_or}
use Rattle.drup_check.proofs.copies.Copies.clear.Given as goal

abbrev pub invariant-loop-chain : goal.invariant-loop-chain
invariant-loop-chain l = record {
  cleared : (i : ℕ) → i < l.chain → get_or l.self-inside.firsts.items i 0 ≡ 0;
  sized : length l.self-inside.firsts.items ≡ length l.initial.self-inside.firsts.items;
  nexts : l.self-inside.nexts.items ≡ l.initial.self-inside.nexts.items;
}
