use Rattle.gate_words.specs.Words.{IsMoved}
use Rattle.gate_words.proofs.shifts.moved_low.Given as goal

abbrev pub invariant-loop-k : goal.invariant-loop-k
invariant-loop-k l = IsMoved l.fn.gates l.gates l.way l.a l.by l.k l.word.items
