-- Judges that take few bytes of a stream.
use Rattle.std.specs.Prelude.{◌≡◌, ◌⊎◌, ◌≤◌, ℕ, List, length}
use Rattle.std.proofs.Common.{inl, inr}
use Rattle.sby_terms.specs.Problem.{ProblemOf}
use Rattle.sby_terms.specs.declared.names.JobName.{JobName}
use Rattle.race_core.specs.declared.event.Judged.{Judged}
use Rattle.race_core.specs.declared.event.Judged.TheVariants as judged
use Rattle.judge.specs.Finding.{FindingOf}
use Rattle.judge.specs.Judging.{JudgeOf, Took}
use Rattle.judge.specs.Problem.{AskedOf, IsJob}
use Rattle.lane_run.specs.Judging.{Says}

-- a finding that is said is one for the job of the problem
abbrev pub IsOurs : ProblemOf → JobName → List ℕ → Judged FindingOf → Type 0
IsOurs p job bytes judged.More = Unit {0}
IsOurs p job bytes (judged.Found f) = (f.problem ≡ p) × (f.job ≡ job)
IsOurs p job bytes judged.Unknown = Unit {0}
IsOurs p job bytes (judged.Bad number at) = Unit {0}
IsOurs p job bytes judged.Failed = Unit {0}
IsOurs p job bytes judged.Unjudged = Unit {0}

pub ours_law : (p : ProblemOf) (job : JobName) (bytes : List ℕ) (f : FindingOf)
    → IsOurs p job bytes (judged.Found f) ⊎ (IsOurs p job bytes (judged.Found f) ⊎ IsOurs p job bytes (judged.Found f)) → (f.problem ≡ p) × (f.job ≡ job)
ours_law p job bytes f (inl h) = h
ours_law p job bytes f (inr (inl h)) = h
ours_law p job bytes f (inr (inr h)) = h

-- a judge of the job's stream that takes at most this many bytes, and has taken these
pub record HasTaken (p : AskedOf) (job : JobName) (most : ℕ) (j : JudgeOf) (bytes : List ℕ) : Type 0 where
  pub is_job : IsJob p job
  pub asked : j.asked ≡ p
  pub job_is : j.job ≡ job
  pub limit : j.most ≡ most
  pub took : Took j bytes

-- what it says of the bytes; and where it is More, it has taken them, and they are not too many
pub record SaysShort (p : AskedOf) (job : JobName) (most : ℕ) (new : JudgeOf) (bytes : List ℕ) (said : Judged FindingOf) : Type 0 where
  pub says : Says (IsOurs p.problem job) bytes said
  pub more : said ≡ judged.More → HasTaken p job most new bytes × (length bytes ≤ most)
