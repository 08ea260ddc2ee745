use Rattle.std.proofs.Common.{◌≡◌, ℕ, ◌≤◌, List, ◌∷◌, ◌++◌, length}
use Rattle.pair_reader.proofs.Words.{Lacks}
use Rattle.pair_reader.proofs.scan.next_word.Given as goal

abbrev pub invariant-loop-at : goal.invariant-loop-at
invariant-loop-at l = (word rest : List ℕ) → Lacks l.end word → l.bytes ≡ word ++ l.end ∷ rest → l.at ≤ length word
