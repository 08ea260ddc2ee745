use Rattle.std.proofs.Common.{◌≡◌, take}
use Rattle.unit_propagation.proofs.trail.Trail.copy_without_reasons.Given as goal

abbrev pub invariant-loop-place : goal.invariant-loop-place
invariant-loop-place l = l.trail ≡ record { vars = l.self.vars; lits = take l.place l.self.lits }
