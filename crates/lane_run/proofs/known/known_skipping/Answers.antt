use Rattle.std.proofs.Common.{inl, inr, List, Contains, sym, subst}
use Rattle.race_core.specs.Report.{EventsOf}
use Rattle.race_core.specs.declared.end.JobEnd.{JobEnd}
use Rattle.race_core.specs.declared.end.JobEnd.TheVariants as end
use Rattle.lane_run.proofs.known.known_skipping.Goals as goal

pub returns-in-None : goal.returns-in-None
returns-in-None g c = λ f known needless. elim known [
  | inl own ↦ c.in_default.ensures f (subst (λ (l : List (JobEnd g.row.T.Denot)). Contains l (end.Found f)) (sym c.ends.ensures) own) needless
  | inr seen ↦ c.in-None.ensures seen.0 seen.2.0 f (subst (λ (l : List (EventsOf g.row.T.Denot)). Contains l seen.0) (sym c.events.ensures) seen.1) seen.2.1 needless
]
