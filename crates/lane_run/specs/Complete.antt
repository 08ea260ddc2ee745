-- How a lane's jobs end with no thread, cell or order, and where they end so.
use Rattle.std.specs.Prelude.{◌≡◌, ◌⊎◌, ℕ, ◌-◌, ◌<◌, ◌≤◌, List, IsSomeAnd, None, Some}
use Rattle.sby_edge.specs.Cause.{CountsOf, Rose}
use Rattle.sby_edge.specs.Child.{BayOf, up_to}
use Rattle.sby_terms.specs.declared.names.JobName.{JobName}
use Rattle.sby_terms.specs.declared.names.Mode.{Mode}
use Rattle.race_core.specs.Asking.{name_at}
use Rattle.race_core.specs.Carrying.{Carries, KnewBy}
use Rattle.race_core.specs.Consistent.{end_at, events_at}
use Rattle.race_core.specs.Report.{ReportOf}
use Rattle.race_core.specs.declared.end.JobEnd.{JobEnd}
use Rattle.race_core.specs.declared.end.JobEnd.TheVariants as end
use Rattle.race_core.specs.declared.event.Judged.{Judged}
use Rattle.race_core.specs.declared.event.Judged.TheVariants as judged
use Rattle.lane_run.specs.Reading.{IsProof}
use Rattle.lane_run.specs.declared.task.Limit.{Limit}

-- what a whole output is judged as; or, where its end leaves that to it, what was got of the proof file
abbrev pub ComesTo : {T : Type 0} → (ends proves : List ℕ → Judged T → Type 0) → (List ℕ → Type 0) → List ℕ → Judged T → Type 0
ComesTo ends proves Got whole p = ends whole p ⊎ (ends whole judged.More × ((proof : List ℕ) × Got proof × proves proof p))

-- the end is what an output was judged as
abbrev pub EndsAs : {T : Type 0} → (Judged T → Type 0) → JobEnd T → Type 0
EndsAs P (end.Found f) = P (judged.Found f)
EndsAs P end.Unknown = P judged.Unknown
EndsAs P (end.Bad number at) = P (judged.Bad number at)
EndsAs P end.NotServed = ⊥
EndsAs P end.ReadFailed = ⊥
EndsAs P end.StartFailed = ⊥
EndsAs P end.HoldFailed = ⊥
EndsAs P (end.Skipped f) = ⊥
EndsAs P (end.CalledOff f) = ⊥
EndsAs P (end.Stopped t) = ⊥
EndsAs P end.Memory = ⊥

-- Plain's end of a lane's job: not served; or what its script is judged as, the bytes up to its stall being the whole output.
abbrev pub IsPlain : {T : Type 0} → Type 0 → (ends proves : List ℕ → Judged T → Type 0) → ℕ → BayOf → JobName → JobEnd T → Type 0
IsPlain serves ends proves most bay job e =
    (serves × EndsAs (ComesTo ends proves (IsProof (Some bay) job most) (up_to (bay.scripts job).stalls (bay.scripts job).bytes)) e)
    ⊎ ((serves → ⊥) × (e ≡ end.NotServed))

-- The scripts have no gate, no count of failed calls rose, no two readings that the clock may give are the limit apart, and no job ends
-- because memory ran out.
pub record IsUndisturbed {T : Type 0} (may_read : ℕ → Type 0) (limit : Limit) (mode : Mode) (bay : BayOf) (before now : CountsOf) (n : ℕ) (r : ReportOf T) : Type 0 where
  pub ungated : (j : ℕ) → j < n → (bay.scripts (name_at mode j)).gate ≡ None
  pub starts : Rose before.starts now.starts → ⊥
  pub reads : Rose before.reads now.reads → ⊥
  pub holds : Rose before.holds now.holds → ⊥
  pub in_time : (a b : ℕ) → may_read a → may_read b → IsSomeAnd limit.millis (λ millis. (a ≤ b) × (millis ≤ b - a)) → ⊥
  pub has_memory : (j : ℕ) → j < n → end_at r j ≡ end.Memory → ⊥

-- the end of a lane's job carries a finding that the lane knows by its events: its own, or one that a look showed
abbrev pub IsKnown : {T : Type 0} → ℕ → ReportOf T → JobEnd T → Type 0
IsKnown {T} n r e = (f : T) × Carries e f × KnewBy (events_at r) n f
