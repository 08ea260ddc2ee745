-- What a judge answers, and what is true of that.
use Rattle.std.specs.Prelude.{◌≡◌, ℕ, Bool, List, Option, Some, None, Result, Ok, Err}
use Rattle.std.specs.declared.alloc.AllocError.{AllocError}
use Rattle.cnf_form.specs.Cnf.{Assignment, FormulaOf, IsUnsatisfiable, Satisfies}
use Rattle.design_meaning.specs.Runs.{CycleOf}
use Rattle.job_terms.specs.Decoding.{values_of}
use Rattle.sby_terms.specs.declared.names.Answer.TheVariants.{Sat}
use Rattle.sby_terms.specs.declared.names.JobName.{JobName}
use Rattle.sby_terms.specs.declared.names.JobName.TheVariants.{Step}
use Rattle.cert_judge.specs.Fate.{Fate, Found, Unknown, Bad}
use Rattle.cert_judge.specs.declared.stream.BadCert.{BadCert}
use Rattle.cert_judge.specs.declared.stream.Kind.{Kind}
use Rattle.cert_judge.specs.declared.stream.Outcome.{Outcome}
use Rattle.cert_judge.specs.declared.stream.Outcome.TheVariants.{Refuted, Satisfied, Unknown as UnknownOutcome, Bad as BadOutcome}
use Rattle.judge.specs.Fates.{IsStreamsRun}
use Rattle.judge.specs.Finding.{FindingOf}
use Rattle.judge.specs.Played.{ShowsPlayed}
use Rattle.judge.specs.Problem.{AskedOf}
use Rattle.judge.specs.declared.judging.Progress.{Progress}
use Rattle.judge.specs.declared.judging.Progress.TheVariants.{More, Done, Unknown as IsUnknown}
use Rattle.judge.specs.declared.judging.State.{State}
use Rattle.judge.specs.declared.judging.State.TheVariants.{Reading, Refused, Over, Wanting}

-- the fate that an answer tells; More tells that there is none yet
abbrev pub fate_told : Result Progress BadCert → Option Fate
fate_told (Ok More) = None
fate_told (Ok (Done f)) = Some (Found f.answer)
fate_told (Ok IsUnknown) = Some Unknown
fate_told (Err b) = Some (Bad b.kind b.at)

-- how a judge stands after an answer
abbrev pub state_after : Result Progress BadCert → State
state_after (Ok More) = Reading
state_after (Ok (Done f)) = Over
state_after (Ok IsUnknown) = Over
state_after (Err b) = Refused b

-- and where memory ran out
abbrev pub state_told : Result (Result Progress BadCert) AllocError → State
state_told (Ok r) = state_after r
state_told (Err e) = Wanting

-- a finding is of the problem and the job
abbrev pub IsFindingFor : AskedOf → JobName → FindingOf → Type 0
IsFindingFor p job f = (f.problem ≡ p.problem) × (f.job ≡ job)

abbrev pub Finds : AskedOf → JobName → Result Progress BadCert → Type 0
Finds p job (Ok More) = Unit {0}
Finds p job (Ok (Done f)) = IsFindingFor p job f
Finds p job (Ok IsUnknown) = Unit {0}
Finds p job (Err b) = Unit {0}

-- a finding that the job can be solved shows the run that is played from the values
abbrev pub FindsPlayed : AskedOf → JobName → Assignment → Result Progress BadCert → Type 0
FindsPlayed p job x (Ok More) = Unit {0}
FindsPlayed p job x (Ok (Done f)) = f.answer ≡ Sat → ShowsPlayed p job x f.run
FindsPlayed p job x (Ok IsUnknown) = Unit {0}
FindsPlayed p job x (Err b) = Unit {0}

-- what is true of the formula where a stream has this outcome, with these values
abbrev pub IsTrueOutcome : FormulaOf → List Bool → Option Outcome → Type 0
IsTrueOutcome f bits None = Unit {0}
IsTrueOutcome f bits (Some Refuted) = IsUnsatisfiable f.clauses
IsTrueOutcome f bits (Some Satisfied) = Satisfies (values_of bits) f.clauses
IsTrueOutcome f bits (Some UnknownOutcome) = Unit {0}
IsTrueOutcome f bits (Some (BadOutcome b)) = Unit {0}

-- a finding that Base or Cover can be solved has the run that the bytes of its stream name
abbrev pub HasPlayedRun : AskedOf → JobName → Kind → Bool → List ℕ → ℕ → FindingOf → Type 0
HasPlayedRun p job kind ended bytes most f = f.answer ≡ Sat → (job ≡ Step → ⊥) → (run : List CycleOf) × (f.run ≡ Some run) × IsStreamsRun p job kind ended bytes most run

abbrev pub FindsRunOf : AskedOf → JobName → Kind → Bool → List ℕ → ℕ → Result Progress BadCert → Type 0
FindsRunOf p job kind ended bytes most (Ok More) = Unit {0}
FindsRunOf p job kind ended bytes most (Ok (Done f)) = HasPlayedRun p job kind ended bytes most f
FindsRunOf p job kind ended bytes most (Ok IsUnknown) = Unit {0}
FindsRunOf p job kind ended bytes most (Err b) = Unit {0}
