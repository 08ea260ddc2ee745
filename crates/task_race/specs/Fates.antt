-- What a child's output, and the proof file after it, are judged as, as evidence for a job.
use Rattle.std.specs.Prelude.{◌≡◌, ◌≢◌, ◌⊎◌, ◌+◌, ◌^◌, ℕ, List, ◌++◌, Option, None, Some, MatchOption, Result, Ok, Err, refl}
use Rattle.std.proofs.Common.{inl, inr, subst}
use Rattle.sby_terms.specs.Problem.{ProblemOf}
use Rattle.sby_terms.specs.declared.names.JobName.{JobName}
use Rattle.race_core.specs.declared.event.Judged.{Judged}
use Rattle.race_core.specs.declared.event.Judged.TheVariants as judged
use Rattle.cert_judge.specs.Fate.{Fate, Found, Unknown, Bad}
use Rattle.cert_judge.specs.Numbers.{number_of}
use Rattle.cert_judge.specs.declared.stream.BadCert.{BadCert}
use Rattle.cert_judge.specs.declared.stream.CertKind.{CertKind}
use Rattle.cert_judge.specs.declared.stream.Kind.{Kind}
use Rattle.cert_judge.specs.declared.stream.Kind.TheVariants.{Certificate}
use Rattle.cert_judge.specs.declared.stream.StreamKind.{StreamKind}
use Rattle.judge.proofs.StreamFates.{stays}
use Rattle.judge.specs.Fates.{IsFate, IsFateSoFar, Serves}
use Rattle.cert_judge.proofs.OutputFates.{output_at_end, output_stays}
use Rattle.cert_judge.specs.OutputFate.{IsOutputFate, IsOutputFateSoFar}
use Rattle.judge.specs.Finding.{FindingOf}
use Rattle.judge.specs.Judging.{JudgeOf, Took}
use Rattle.judge.specs.Problem.{AskedOf, IsJob, IsJobFile}
use Rattle.judge.specs.Solver.{SolverOf, Took as SolverTook}
use Rattle.judge.specs.declared.judging.Progress.{Progress}
use Rattle.judge.specs.declared.judging.Progress.TheVariants as progress
use Rattle.task_race.specs.declared.evidence.Evidence.{Evidence}
use Rattle.task_race.specs.declared.evidence.Evidence.TheVariants.{Output, ProofFile}

-- a stream has at most this many bytes
abbrev pub most_bytes : ℕ
most_bytes = 2 ^ 32

-- The most bytes of output after which nothing is decided. A byte that may be a word alone is known by the next.
abbrev pub most_output : Evidence → ℕ
most_output (Output kind) = most_bytes
most_output (ProofFile kind) = most_bytes + 1

-- what is said is this fate; a finding is one for the job of the problem
abbrev pub Tells : ProblemOf → JobName → Judged FindingOf → Option Fate → Type 0
Tells p job judged.More fate = fate ≡ None
Tells p job (judged.Found f) fate = (fate ≡ Some (Found f.answer)) × (f.problem ≡ p) × (f.job ≡ job)
Tells p job judged.Unknown fate = fate ≡ Some Unknown
Tells p job (judged.Bad number at) fate = (kind : CertKind) × (number ≡ number_of kind) × (fate ≡ Some (Bad kind at))
Tells p job judged.Failed fate = ⊥
Tells p job judged.Unjudged fate = ⊥

-- the fate so far of the bytes of an output as evidence for a job whose file this is: of a stream of a kind; or of values, where a proof
-- file may decide
abbrev pub IsSoFar : AskedOf → JobName → Evidence → List ℕ → List ℕ → Option Fate → Type 0
IsSoFar p job (Output kind) file bytes fate = IsFateSoFar p job kind file bytes most_bytes fate
IsSoFar p job (ProofFile kind) file bytes fate = IsOutputFateSoFar file bytes most_bytes fate

-- the fate of a whole output; None where the proof file decides
abbrev pub IsWhole : AskedOf → JobName → Evidence → List ℕ → List ℕ → Option Fate → Type 0
IsWhole p job (Output kind) file bytes fate = MatchOption fate ⊥ (IsFate p job kind file bytes most_bytes)
IsWhole p job (ProofFile kind) file bytes fate = IsOutputFate file bytes most_bytes fate

-- what is said of these bytes of an output, whatever follows
abbrev pub Stands : AskedOf → JobName → Evidence → List ℕ → Judged FindingOf → Type 0
Stands p job by bytes said = (fate : Option Fate) × Tells p.problem job said fate × ((file : List ℕ) → IsJobFile p job file → IsSoFar p job by file bytes fate)

-- what is said of them as the whole output
abbrev pub Ends : AskedOf → JobName → Evidence → List ℕ → Judged FindingOf → Type 0
Ends p job by bytes said = (fate : Option Fate) × Tells p.problem job said fate × ((file : List ℕ) → IsJobFile p job file → IsWhole p job by file bytes fate)

-- what is said of the bytes of a whole proof file of a kind
abbrev pub ProvesAs : AskedOf → JobName → StreamKind → List ℕ → Judged FindingOf → Type 0
ProvesAs p job kind bytes said =
    (fate : Fate) × Tells p.problem job said (Some fate) × ((file : List ℕ) → IsJobFile p job file → IsFate p job (Certificate kind) file bytes most_bytes fate)

-- no stream leaves anything to a proof file
abbrev pub Proves : AskedOf → JobName → Evidence → List ℕ → Judged FindingOf → Type 0
Proves p job (Output kind) bytes said = ⊥
Proves p job (ProofFile kind) bytes said = ProvesAs p job kind bytes said

-- a judge of the job's stream of a kind that goes on, and has taken these bytes
pub record GoesOn (p : AskedOf) (job : JobName) (kind : Kind) (j : JudgeOf) (bytes : List ℕ) : Type 0 where
  pub is_job : IsJob p job
  pub asked : j.asked ≡ p
  pub job_is : j.job ≡ job
  pub kind_is : j.kind ≡ kind
  pub most : j.most ≡ most_bytes
  pub took : Took j bytes

-- a judge of the job's output that goes on, where proof files of a kind are judged for the job
pub record SolverGoesOn (p : AskedOf) (job : JobName) (kind : StreamKind) (j : SolverOf) (bytes : List ℕ) : Type 0 where
  pub is_job : IsJob p job
  pub serves : Serves (Certificate kind) job
  pub asked : j.asked ≡ p
  pub job_is : j.job ≡ job
  pub most : j.most ≡ most_bytes
  pub took : SolverTook j bytes

-- an answer of a judge, as a lane's list has it
abbrev pub judged_as : Result Progress BadCert → Judged FindingOf
judged_as (Ok progress.More) = judged.More
judged_as (Ok (progress.Done f)) = judged.Found f
judged_as (Ok progress.Unknown) = judged.Unknown
judged_as (Err b) = judged.Bad (number_of b.kind) b.at

abbrev IsNothing : Option Fate → Type 0
IsNothing None = Unit {0}
IsNothing (Some fate) = ⊥

nothing_said : (p : ProblemOf) (job : JobName) (said : Judged FindingOf) → Tells p job said None → said ≡ judged.More
nothing_said p job judged.More tells = refl
nothing_said p job (judged.Found f) tells = absurd (subst IsNothing tells.0 tt)
nothing_said p job judged.Unknown tells = absurd (subst IsNothing tells tt)
nothing_said p job (judged.Bad number at) tells = absurd (subst IsNothing tells.2 tt)
nothing_said p job judged.Failed tells = absurd tells
nothing_said p job judged.Unjudged tells = absurd tells

whole_stays : (p : AskedOf) (job : JobName) (by : Evidence) (file bytes more : List ℕ) (fate : Fate) → IsSoFar p job by file bytes (Some fate) → IsWhole p job by file (bytes ++ more) (Some fate)
whole_stays p job (Output kind) file bytes more fate h = stays p job kind file bytes more most_bytes fate h
whole_stays p job (ProofFile kind) file bytes more fate h = output_at_end file (bytes ++ more) most_bytes fate (output_stays file bytes more most_bytes fate h)

-- what stands, stays, also where the output ends there
pub stays_law : (p : AskedOf) (job : JobName) (by : Evidence) (bytes more : List ℕ) (said : Judged FindingOf) → said ≢ judged.More → Stands p job by bytes said → Ends p job by (bytes ++ more) said
stays_law p job by bytes more said some (None, tells, so_far) = absurd (some (nothing_said p.problem job said tells))
stays_law p job by bytes more said some (Some fate, tells, so_far) = (Some fate, tells, λ file is. whole_stays p job by file bytes more fate (so_far file is))

proof_for : (p : AskedOf) (job : JobName) (by : Evidence) (bytes : List ℕ) (f : FindingOf) → Proves p job by bytes (judged.Found f) → (f.problem ≡ p.problem) × (f.job ≡ job)
proof_for p job (Output kind) bytes f h = absurd h
proof_for p job (ProofFile kind) bytes f h = (h.1.1, h.1.2)

-- a finding is one for the job of the problem
pub for_law : (p : AskedOf) (job : JobName) (by : Evidence) (bytes : List ℕ) (f : FindingOf)
    → Stands p job by bytes (judged.Found f) ⊎ (Ends p job by bytes (judged.Found f) ⊎ Proves p job by bytes (judged.Found f)) → (f.problem ≡ p.problem) × (f.job ≡ job)
for_law p job by bytes f (inl h) = (h.1.1, h.1.2)
for_law p job by bytes f (inr (inl h)) = (h.1.1, h.1.2)
for_law p job by bytes f (inr (inr h)) = proof_for p job by bytes f h
