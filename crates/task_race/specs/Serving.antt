-- Which lane serves which job, and the jobs' files.
use Rattle.std.specs.Prelude.{ℕ, List, Option, None, Some, slice_get}
use Rattle.cnf_form.specs.Dimacs.{dimacs_text}
use Rattle.judge.specs.Fates.{Serves}
use Rattle.judge.specs.Jobs.{span_of}
use Rattle.task_net.specs.Net.{task_encoded}
use Rattle.judge.specs.Problem.{AskedOf, IsJob, pair_in}
use Rattle.pair_form.specs.Text.{pair_text}
use Rattle.sby_terms.specs.declared.engine.Engine.{Engine}
use Rattle.sby_terms.specs.declared.engine.Engine.TheVariants as engine
use Rattle.sby_terms.specs.declared.names.JobName.{JobName}
use Rattle.sby_terms.specs.declared.names.JobName.TheVariants.{Base, Step, Inv, Cover}
use Rattle.cert_judge.specs.declared.stream.Kind.TheVariants.{Certificate, Witness, Invariant}
use Rattle.cert_judge.specs.declared.stream.StreamKind.TheVariants.{Drup, Lrat, Proof, ProofBinary}
use Rattle.task_race.specs.declared.evidence.Evidence.{Evidence}
use Rattle.task_race.specs.declared.evidence.Evidence.TheVariants.{Output, ProofFile}

-- where the evidence of an engine's child comes from
abbrev pub evidence_of : Engine → Evidence
evidence_of (engine.Sat conflicts) = Output (Certificate Drup)
evidence_of (engine.Drup words) = Output (Certificate Drup)
evidence_of (engine.Btor words) = Output Witness
evidence_of (engine.Inv words) = Output Invariant
evidence_of (engine.Net words) = Output (Certificate Drup)
evidence_of (engine.Lrat words) = Output (Certificate Lrat)
evidence_of (engine.Proof words) = ProofFile Proof
evidence_of (engine.ProofBinary words) = ProofFile ProofBinary

-- such evidence is judged for the job
abbrev pub IsJudgeable : Evidence → JobName → Type 0
IsJudgeable (Output kind) job = Serves kind job
IsJudgeable (ProofFile kind) job = Serves (Certificate kind) job

-- an engine serves the jobs for which its evidence is judged
abbrev pub IsServing : Option Engine → JobName → Type 0
IsServing None job = ⊥
IsServing (Some e) job = IsJudgeable (evidence_of e) job

-- where that of a lane's child comes from; of a lane without an engine this isn't asked
abbrev pub evidence_at : Option Engine → Evidence
evidence_at None = Output (Certificate Drup)
evidence_at (Some e) = evidence_of e

-- the lane's engine serves the job, which is one of the problem
abbrev pub IsServed : List Engine → AskedOf → ℕ → JobName → Type 0
IsServed engines p lane job = IsServing (slice_get engines lane) job × IsJob p job

-- a job's formula, as it is put; of Inv the pair of two cycles
abbrev pub formula_text : AskedOf → JobName → List ℕ
formula_text p job = dimacs_text (task_encoded p.net job (span_of p.problem)).formula

abbrev pub file_of : AskedOf → JobName → List ℕ
file_of p (Base i) = formula_text p (Base i)
file_of p Step = formula_text p Step
file_of p Inv = pair_text (pair_in p)
file_of p (Cover k) = formula_text p (Cover k)

-- a job of a problem, whose file is meant
pub record ProblemFileOf : Type 0 where
  pub problem : AskedOf
  pub job : JobName
