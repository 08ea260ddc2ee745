-- Why a job of a lane ended so.
use Rattle.std.specs.Prelude.{◌≡◌, ◌⊎◌, ℕ, ◌+◌, ◌-◌, ◌<◌, ◌≤◌, false, true, List, Option, None, Some, IsSomeAnd, option_map, slice_get, take}
use Rattle.sby_edge.specs.Cause.{CountsOf}
use Rattle.sby_edge.specs.Child.{YardOf, up_to}
use Rattle.sby_edge.specs.Script.{ScriptOf}
use Rattle.sby_terms.specs.declared.names.JobName.{JobName}
use Rattle.cert_judge.specs.Fate.{Fate, Found, Unknown, Bad}
use Rattle.cert_judge.specs.Numbers.{number_of}
use Rattle.cert_judge.specs.declared.stream.CertKind.{CertKind}
use Rattle.cert_judge.specs.declared.stream.Kind.TheVariants.{Certificate}
use Rattle.cert_judge.specs.OutputFate.{IsOutputFate}
use Rattle.judge.specs.Fates.{IsFate}
use Rattle.judge.specs.Finding.{FindingOf}
use Rattle.judge.specs.Problem.{AskedOf}
use Rattle.race_core.specs.Asking.{needless_by, skipped_by}
use Rattle.race_core.specs.declared.end.JobEnd.{JobEnd}
use Rattle.race_core.specs.declared.end.JobEnd.TheVariants as end
use Rattle.race_core.specs.declared.event.Judged.{Judged}
use Rattle.race_core.specs.declared.event.Judged.TheVariants as judged
use Rattle.lane_run.specs.Complete.{ComesTo}
use Rattle.task_race.specs.Fates.{Ends, Proves, most_bytes}
use Rattle.task_race.specs.Serving.{IsServed, IsServing}
use Rattle.task_race.specs.declared.evidence.Evidence.{Evidence}
use Rattle.task_race.specs.declared.evidence.Evidence.TheVariants.{Output, ProofFile}
use Rattle.task_race.specs.Ran.{RacingOf, evidence_in}

-- the script of a lane's job, where it is told
abbrev pub script_of : Option YardOf → ℕ → ℕ → JobName → Option ScriptOf
script_of told task lane job = option_map (λ scripts. scripts task lane job) told

-- what the child of a script gives: the script's bytes up to its stall, or its gate's other ones; any bytes, where it isn't told
abbrev pub IsStreamOf : Option ScriptOf → List ℕ → Type 0
IsStreamOf None stream = Unit {0}
IsStreamOf (Some script) stream =
    (stream ≡ up_to script.stalls script.bytes) ⊎ IsSomeAnd script.gate (λ gate. stream ≡ up_to script.stalls gate.instead)

-- what is got of the proof file that a script leaves: all of it, or one byte more than is judged; any bytes, where it isn't told
abbrev pub IsProofOf : Option ScriptOf → List ℕ → Type 0
IsProofOf None proof = Unit {0}
IsProofOf (Some script) proof = proof ≡ take (most_bytes + 1) script.proof

-- The lane's engine serves the job, and its child's stream is judged as this, as evidence for the job; or the stream leaves that to
-- the proof file, which is judged as this.
abbrev pub IsJudgedAs : RacingOf → Option YardOf → ℕ → JobName → Judged FindingOf → Type 0
IsJudgedAs racing told lane job said =
    IsServed racing.engines racing.problem lane job
    × ((stream : List ℕ) × IsStreamOf (script_of told racing.task lane job) stream
    × ComesTo (Ends racing.problem job (evidence_in racing lane)) (Proves racing.problem job (evidence_in racing lane)) (IsProofOf (script_of told racing.task lane job)) stream said)

-- lanes don't wait, and a finding of the problem calls the job off: one for the job itself, and for Step or Inv one that Base is Sat
abbrev pub IsCalledOffBy : RacingOf → JobName → FindingOf → Type 0
IsCalledOffBy racing job f = (racing.wait ≡ false) × (f.problem ≡ racing.problem.problem) × (needless_by f.job f.answer job ≡ true)

-- one that skips it: such a one, and for a slice one that an earlier slice is Sat
abbrev pub IsSkippedBy : RacingOf → JobName → FindingOf → Type 0
IsSkippedBy racing job f = (racing.wait ≡ false) × (f.problem ≡ racing.problem.problem) × (skipped_by f.job f.answer job ≡ true)

-- a reading that the clock may give shows the limit: this many milliseconds after the start
pub record IsLimitShown (may_read : ℕ → Type 0) (limit start : Option ℕ) (t : ℕ) : Type 0 where
  pub begun : ℕ
  pub millis : ℕ
  pub limit_is : limit ≡ Some millis
  pub start_is : start ≡ Some begun
  pub may_start : may_read begun
  pub may_stop : may_read t
  pub shows : (begun ≤ t) × (millis ≤ t - begun)

-- A job of a lane that started at this reading, over what its yard tells; its bay came back with these counts.
module _ (racing : RacingOf) (may_read : ℕ → Type 0) (told : Option YardOf) (counts : CountsOf) (start : Option ℕ) (lane : ℕ) (job : JobName) where
  -- the cause of its end, by its case; out of memory is free
  abbrev pub HasEndCause : JobEnd FindingOf → Type 0
  HasEndCause (end.Found f) = IsJudgedAs racing told lane job (judged.Found f)
  HasEndCause end.Unknown = IsJudgedAs racing told lane job judged.Unknown
  HasEndCause (end.Bad number at) = IsJudgedAs racing told lane job (judged.Bad number at)
  HasEndCause end.NotServed = IsServing (slice_get racing.engines lane) job → ⊥
  HasEndCause end.ReadFailed = 0 < counts.reads
  HasEndCause end.StartFailed = 0 < counts.starts
  HasEndCause end.HoldFailed = 0 < counts.holds
  HasEndCause (end.Skipped f) = IsSkippedBy racing job f
  HasEndCause (end.CalledOff f) = IsCalledOffBy racing job f
  HasEndCause (end.Stopped t) = IsLimitShown may_read racing.limit start t
  HasEndCause end.Memory = Unit {0}

-- The fate of what a child leaves, as evidence for a job whose file this is: of a stream of a kind; or of an output, and, where that leaves it to
-- the proof file, of what is got of that.
abbrev pub IsFateOf : AskedOf → JobName → Evidence → List ℕ → List ℕ → List ℕ → Fate → Type 0
IsFateOf p job (Output kind) file stream proof fate = IsFate p job kind file stream most_bytes fate
IsFateOf p job (ProofFile kind) file stream proof fate =
    IsOutputFate file stream most_bytes (Some fate)
    ⊎ (IsOutputFate file stream most_bytes None × IsFate p job (Certificate kind) file proof most_bytes fate)

-- the end of a job whose child leaves what has this fate: the fate's own; or a call failed, the job was skipped, called off or stopped, or memory
-- ran out
abbrev pub IsEndOfFate : Fate → JobEnd FindingOf → Type 0
IsEndOfFate fate (end.Found f) = fate ≡ Found f.answer
IsEndOfFate fate end.Unknown = fate ≡ Unknown
IsEndOfFate fate (end.Bad number at) = (kind : CertKind) × (number ≡ number_of kind) × (fate ≡ Bad kind at)
IsEndOfFate fate end.NotServed = ⊥
IsEndOfFate fate end.ReadFailed = Unit {0}
IsEndOfFate fate end.StartFailed = Unit {0}
IsEndOfFate fate end.HoldFailed = Unit {0}
IsEndOfFate fate (end.Skipped f) = Unit {0}
IsEndOfFate fate (end.CalledOff f) = Unit {0}
IsEndOfFate fate (end.Stopped t) = Unit {0}
IsEndOfFate fate end.Memory = Unit {0}
