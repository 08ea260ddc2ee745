use Rattle.std.proofs.Common.{◌≡◌, ◌<◌, ℕ, Some, true}
use Rattle.std.specs.Prelude.{slice_get}
use Rattle.race_core.specs.Asking.{is_skipped}
use Rattle.race_core.specs.declared.end.JobEnd.{JobEnd}
use Rattle.race_core.specs.declared.end.JobEnd.TheVariants as end
use Rattle.lane_run.proofs.known.found_skipping.Given as goal

abbrev pub invariant-loop-end : goal.invariant-loop-end
invariant-loop-end g l = (j : ℕ) (e : JobEnd g.row.T.Denot) → j < l.end-index → slice_get l.ends j ≡ Some e → ((f : g.row.T.Denot) × (e ≡ end.Found f) × (is_skipped g.T.Settled.job g.T.Settled.answer l.terms f ≡ true)) → ⊥
