-- The lines of jobs, one after the other.
use Rattle.std.proofs.Common.{◌≡◌, ℕ, ◌+◌, ◌≤◌, List, [], ◌∷◌, ◌++◌, refl, ap, ap₂, sym, ◌∙◌, length, drop}
use Rattle.std.specs.Prelude.{Option, Some, slice_get}
use Rattle.std.proofs.lemmas.List.{drop_all}
use Rattle.judge.specs.Finding.{FindingOf}
use Rattle.race_core.specs.Report.{ReportOf}
use Rattle.race_core.specs.declared.end.JobEnd.{JobEnd}
use Rattle.sby_terms.specs.declared.names.Answer.{Answer}
use Rattle.sby_terms.specs.declared.names.JobName.{JobName}
use Rattle.sby_lines.specs.Lines.{end_text, lane_line, lane_lines, race_lines, settled_line, settled_lines}
use Rattle.sby_lines.proofs.PlaceLemmas.{drop_at}

pub settled_next : (name : List ℕ) (slices : ℕ) (jobs : List JobName) (answers : List (Option Answer)) (place : ℕ) (job : JobName) (answer : Option Answer) → slice_get jobs place ≡ Some job
    → slice_get answers place ≡ Some answer
    → settled_lines name slices (drop place jobs) (drop place answers) ≡ settled_line name slices job answer ++ settled_lines name slices (drop (place + 1) jobs) (drop (place + 1) answers)
settled_next name slices jobs answers place job answer at is = ap₂ (λ js xs. settled_lines name slices js xs) (drop_at jobs place job at) (drop_at answers place answer is)

no_answers : (name : List ℕ) (slices : ℕ) (jobs : List JobName) → settled_lines name slices jobs [] ≡ []
no_answers name slices [] = refl
no_answers name slices (job ∷ jobs) = refl

pub settled_end : (name : List ℕ) (slices : ℕ) (jobs : List JobName) (answers : List (Option Answer)) (place : ℕ) → length answers ≤ place → settled_lines name slices (drop place jobs) (drop place answers) ≡ []
settled_end name slices jobs answers place all = ap (settled_lines name slices (drop place jobs)) (drop_all place answers all) ∙ no_answers name slices (drop place jobs)

lane_here : (name : List ℕ) (slices lane : ℕ) (js ks : List JobName) (xs ys : List (Option Answer)) (es fs : List (JobEnd FindingOf)) → js ≡ ks → xs ≡ ys → es ≡ fs
    → lane_lines name slices lane js xs es ≡ lane_lines name slices lane ks ys fs
lane_here name slices lane js ks xs ys es fs j a e = ap₂ (λ x y. lane_lines name slices lane x y es) j a ∙ ap (lane_lines name slices lane ks ys) e

pub lane_next : (name : List ℕ) (slices lane : ℕ) (jobs : List JobName) (answers : List (Option Answer)) (ends : List (JobEnd FindingOf)) (place : ℕ) (job : JobName) (answer : Option Answer) (end : JobEnd FindingOf)
    → slice_get jobs place ≡ Some job → slice_get answers place ≡ Some answer → slice_get ends place ≡ Some end
    → lane_lines name slices lane (drop place jobs) (drop place answers) (drop place ends)
    ≡ lane_line name slices lane job answer (end_text end) ++ lane_lines name slices lane (drop (place + 1) jobs) (drop (place + 1) answers) (drop (place + 1) ends)
lane_next name slices lane jobs answers ends place job answer end at is stands =
    lane_here name slices lane _ _ _ _ _ _ (drop_at jobs place job at) (drop_at answers place answer is) (drop_at ends place end stands)

-- the same by what calls gave of the lane and its ends
pub lane_step : (name : List ℕ) (slices lane own : ℕ) (jobs : List JobName) (answers : List (Option Answer)) (ends given : List (JobEnd FindingOf)) (place : ℕ) (job : JobName) (answer : Option Answer) (end : JobEnd FindingOf)
    → own ≡ lane → given ≡ ends → slice_get jobs place ≡ Some job → slice_get answers place ≡ Some answer → slice_get given place ≡ Some end
    → lane_lines name slices lane (drop place jobs) (drop place answers) (drop place ends)
    ≡ lane_line name slices own job answer (end_text end) ++ lane_lines name slices lane (drop (place + 1) jobs) (drop (place + 1) answers) (drop (place + 1) ends)
lane_step name slices lane own jobs answers ends given place job answer end is are at stands found =
    rw is (lane_next name slices lane jobs answers ends place job answer end at stands (ap (λ es. slice_get es place) (sym are) ∙ found))

no_ends : (name : List ℕ) (slices lane : ℕ) (jobs : List JobName) (answers : List (Option Answer)) → lane_lines name slices lane jobs answers [] ≡ []
no_ends name slices lane [] answers = refl
no_ends name slices lane (job ∷ jobs) [] = refl
no_ends name slices lane (job ∷ jobs) (answer ∷ answers) = refl

pub lane_end : (name : List ℕ) (slices lane : ℕ) (jobs : List JobName) (answers : List (Option Answer)) (ends : List (JobEnd FindingOf)) (place : ℕ) → length ends ≤ place
    → lane_lines name slices lane (drop place jobs) (drop place answers) (drop place ends) ≡ []
lane_end name slices lane jobs answers ends place all =
    ap (lane_lines name slices lane (drop place jobs) (drop place answers)) (drop_all place ends all) ∙ no_ends name slices lane (drop place jobs) (drop place answers)

pub race_next : (name : List ℕ) (slices : ℕ) (jobs : List JobName) (answers : List (Option Answer)) (reports : List (ReportOf FindingOf)) (i : ℕ) (r : ReportOf FindingOf) → slice_get reports i ≡ Some r
    → race_lines name slices jobs answers (drop i reports) ≡ lane_lines name slices r.lane jobs answers r.ends ++ race_lines name slices jobs answers (drop (i + 1) reports)
race_next name slices jobs answers reports i r at = ap (race_lines name slices jobs answers) (drop_at reports i r at)

pub race_end : (name : List ℕ) (slices : ℕ) (jobs : List JobName) (answers : List (Option Answer)) (reports : List (ReportOf FindingOf)) (i : ℕ) → length reports ≤ i
    → race_lines name slices jobs answers (drop i reports) ≡ []
race_end name slices jobs answers reports i all = ap (race_lines name slices jobs answers) (drop_all i reports all)
