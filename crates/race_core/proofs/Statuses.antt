-- The status that is collected.
use Rattle.race_core.specs.Told.{Decided}
use Rattle.std.proofs.Common.{◌≡◌, List, length, Option, Some, None, refl}
use Rattle.std.specs.Prelude.{◌↔◌}
use Rattle.std.proofs.lemmas.Option.{slice_get_within}
use Rattle.sby_terms.specs.Decide.{Decides}
use Rattle.sby_terms.specs.Status.{HasStatus}
use Rattle.sby_terms.specs.declared.names.Mode.{Mode}
use Rattle.sby_terms.specs.declared.names.JobName.{JobName}
use Rattle.sby_terms.specs.declared.names.Answer.{Answer}
use Rattle.sby_terms.specs.declared.names.Event.{Event}
use Rattle.sby_terms.specs.declared.names.Verdict.{Verdict}
use Rattle.sby_terms.specs.declared.names.Verdict.TheVariants as verdict
use Rattle.sby_terms.specs.declared.names.Status.{Status}
use Rattle.race_core.specs.Report.{ReportOf}
use Rattle.race_core.specs.Collect.{AreTold, IsStatus}

is-decided : (mode : Mode) (answers : List (Option Answer)) (d : Option Verdict) → ((d ≡ Some verdict.Pass) ↔ Decides mode answers verdict.Pass) → ((d ≡ Some verdict.Fail) ↔ Decides mode answers verdict.Fail) → Decided mode answers d
is-decided mode answers (Some verdict.Pass) pass fail = pass.0 refl
is-decided mode answers (Some verdict.Fail) pass fail = fail.0 refl
is-decided mode answers None pass fail = λ v h. by v h
  where
    no-some : (v : Verdict) → None ≡ Some v → ⊥
    no-some v e = cc

    by : (v : Verdict) → Decides mode answers v → ⊥
    by verdict.Pass h = no-some verdict.Pass (pass.1 h)
    by verdict.Fail h = no-some verdict.Fail (fail.1 h)

pub is-status : {T : Type 0} (job : T → JobName) (mode : Mode) (reports : List (ReportOf T)) (answers : List (Option Answer)) (d : Option Verdict) (events : List Event) (s : Status)
    → ((d ≡ Some verdict.Pass) ↔ Decides mode answers verdict.Pass) → ((d ≡ Some verdict.Fail) ↔ Decides mode answers verdict.Fail)
    → AreTold reports answers (length answers) events → HasStatus d events s → IsStatus job mode reports answers s
is-status job mode reports answers d events s pass fail told has = record {
  decided = d;
  decides = is-decided mode answers d pass fail;
  events = events;
  come = λ e c. let x = told.come e c in (x.0, x.1, x.2, x.4, x.5);
  all = λ r k c none. told.all r k c (slice_get_within answers k None none) none;
  has_status = has;
}
