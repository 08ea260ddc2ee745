use Rattle.std.proofs.Common.{◌≡◌, ◌⊎◌, ℕ}
use Rattle.btor_emit.specs.Marks.{Marks}
use Rattle.btor_emit.proofs.Marking.{IsAmong}
use Rattle.btor_emit.proofs.reads.mark_statements.Given as goal
use Rattle.model_core.specs.declared.model.Statement.{Statement}

abbrev pub invariant-loop-k : goal.invariant-loop-k
invariant-loop-k l = Marks l.fn.marks l.marks (IsAmong l.statements l.k (λ (s : Statement) (p : ℕ). (p ≡ s.a) ⊎ (p ≡ s.en)))
