use Rattle.std.proofs.Common.{◌≡◌, ℕ}
use Rattle.btor_emit.specs.Marks.{Marks}
use Rattle.btor_emit.proofs.Marking.{IsAmong}
use Rattle.btor_emit.proofs.reads.mark_all.Given as goal

abbrev pub invariant-loop-k : goal.invariant-loop-k
invariant-loop-k l = Marks l.fn.marks l.marks (IsAmong l.places l.k (λ (x p : ℕ). p ≡ x))
