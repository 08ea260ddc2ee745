-- What the judge of a child's output, as a lane asks for it, says.
use Rattle.std.proofs.Common.{◌≡◌, ◌≢◌, ℕ, true, List, ◌++◌, refl, sym, ◌∙◌}
use Rattle.judge.specs.Finding.{FindingOf}
use Rattle.judge.specs.Judging.{JudgeOf}
use Rattle.judge.specs.Problem.{AskedOf, IsJob, IsJobFile}
use Rattle.judge.specs.Solver.{SolverOf}
use Rattle.judge.specs.declared.judging.State.TheVariants.{Over, Reading}
use Rattle.lane_run.specs.Judging.{Says}
use Rattle.race_core.specs.declared.event.Judged.{Judged}
use Rattle.race_core.specs.declared.event.Judged.TheVariants as judged
use Rattle.sby_terms.specs.declared.names.JobName.{JobName}
use Rattle.cert_judge.specs.declared.stream.Kind.{Kind}
use Rattle.cert_judge.specs.declared.stream.Kind.TheVariants.{Certificate}
use Rattle.cert_judge.specs.declared.stream.StreamKind.{StreamKind}
use Rattle.std.specs.Prelude.{None, Some}
use Rattle.task_race.specs.Fates.{Ends, GoesOn, Proves, ProvesAs, SolverGoesOn, Stands, stays_law}
use Rattle.task_race.specs.Watching.{Awaits, EndedSo, FedSo, IsReading, Proving, Watches}
use Rattle.task_race.specs.declared.evidence.Evidence.{Evidence}
use Rattle.task_race.specs.declared.evidence.Evidence.TheVariants.{Output, ProofFile}
use Rattle.task_race.specs.declared.job_judge.Watch.{Watch}
use Rattle.task_race.specs.declared.job_judge.Watch.TheVariants.{Stream, Solver}

apart : Reading ≡ Over → ⊥
apart e = cc

-- a judge of a stream that goes on reads, and so does one of a solver's output
pub watches_reading : (p : AskedOf) (job : JobName) (by : Evidence) (j : JudgeOf) (bytes : List ℕ) → Watches p job by (Stream j) bytes → IsReading j
watches_reading p job (Output kind) j bytes h = λ e. apart (sym h.took.state ∙ e)
watches_reading p job (ProofFile kind) j bytes h = absurd h

pub watches_solver : (p : AskedOf) (job : JobName) (by : Evidence) (j : SolverOf) (bytes : List ℕ) → Watches p job by (Solver j) bytes → j.reading ≡ true
watches_solver p job (Output kind) j bytes h = absurd h
watches_solver p job (ProofFile kind) j bytes h = h.took.reading

-- what is said of the next piece
pub stream_says : (p : AskedOf) (job : JobName) (by : Evidence) (old new : JudgeOf) (bytes more : List ℕ) (said : Judged FindingOf) → Watches p job by (Stream old) bytes
    → ((q : AskedOf) (k : JobName) (kind : Kind) (b : List ℕ) → GoesOn q k kind old b → FedSo q k (Output kind) (GoesOn q k kind new (b ++ more)) (b ++ more) said)
    → FedSo p job by (Watches p job by (Stream new) (bytes ++ more)) (bytes ++ more) said
stream_says p job (Output kind) old new bytes more said h fed = fed p job kind bytes h
stream_says p job (ProofFile kind) old new bytes more said h fed = absurd h

pub solver_says : (p : AskedOf) (job : JobName) (by : Evidence) (old new : SolverOf) (bytes more : List ℕ) (said : Judged FindingOf) → Watches p job by (Solver old) bytes
    → ((q : AskedOf) (k : JobName) (kind : StreamKind) (b : List ℕ) → SolverGoesOn q k kind old b → FedSo q k (ProofFile kind) (SolverGoesOn q k kind new (b ++ more)) (b ++ more) said)
    → FedSo p job by (Watches p job by (Solver new) (bytes ++ more)) (bytes ++ more) said
solver_says p job (Output kind) old new bytes more said h fed = absurd h
solver_says p job (ProofFile kind) old new bytes more said h fed = fed p job kind bytes h

-- and of the whole output
pub stream_says_ended : (p : AskedOf) (job : JobName) (by : Evidence) (old : JudgeOf) (bytes : List ℕ) (said : Judged FindingOf) → Watches p job by (Stream old) bytes
    → ((q : AskedOf) (k : JobName) (kind : Kind) (b : List ℕ) → GoesOn q k kind old b → EndedSo q k (Output kind) b said) → EndedSo p job by bytes said
stream_says_ended p job (Output kind) old bytes said h over = over p job kind bytes h
stream_says_ended p job (ProofFile kind) old bytes said h over = absurd h

pub solver_says_ended : (p : AskedOf) (job : JobName) (by : Evidence) (old : SolverOf) (bytes : List ℕ) (said : Judged FindingOf) → Watches p job by (Solver old) bytes
    → ((q : AskedOf) (k : JobName) (kind : StreamKind) (b : List ℕ) → SolverGoesOn q k kind old b → EndedSo q k (ProofFile kind) b said) → EndedSo p job by bytes said
solver_says_ended p job (Output kind) old bytes said h over = absurd h
solver_says_ended p job (ProofFile kind) old bytes said h over = over p job kind bytes h

-- where an output's end says More, the proof file is due
pub ended_awaits : (p : AskedOf) (job : JobName) (by : Evidence) (w : Watch) (bytes file : List ℕ) (said : Judged FindingOf) → Watches p job by w bytes → IsJobFile p job file → Says (Ends p job by) bytes said → said ≡ judged.More → Awaits p job by
ended_awaits p job (Output kind) w bytes file judged.More watches at (None, tells, whole) same = absurd (whole file at)
ended_awaits p job (Output kind) w bytes file judged.More watches at (Some fate, tells, whole) same = absurd (let e = tells in cc)
ended_awaits p job (Output kind) w bytes file (judged.Found f) watches at says same = absurd (let e = same in cc)
ended_awaits p job (Output kind) w bytes file judged.Unknown watches at says same = absurd (let e = same in cc)
ended_awaits p job (Output kind) w bytes file (judged.Bad number place) watches at says same = absurd (let e = same in cc)
ended_awaits p job (Output kind) w bytes file judged.Failed watches at says same = absurd (let e = same in cc)
ended_awaits p job (Output kind) w bytes file judged.Unjudged watches at says same = absurd (let e = same in cc)
ended_awaits p job (ProofFile kind) (Stream j) bytes file said watches at says same = absurd watches
ended_awaits p job (ProofFile kind) (Solver j) bytes file said watches at says same = (watches.is_job, watches.serves)

-- what is said of a stream of a kind is what is said of a proof file of that kind
told_whole : (p : AskedOf) (job : JobName) (kind : StreamKind) (bytes file : List ℕ) (said : Judged FindingOf) → IsJobFile p job file → Ends p job (Output (Certificate kind)) bytes said → ProvesAs p job kind bytes said
told_whole p job kind bytes file said at (None, tells, whole) = absurd (whole file at)
told_whole p job kind bytes file said at (Some fate, tells, whole) = (fate, tells, whole)

file_says : (p : AskedOf) (job : JobName) (kind : StreamKind) (bytes file : List ℕ) (said : Judged FindingOf) → IsJobFile p job file → Says (Ends p job (Output (Certificate kind))) bytes said → Says (ProvesAs p job kind) bytes said
file_says p job kind bytes file judged.More at says = told_whole p job kind bytes file judged.More at says
file_says p job kind bytes file (judged.Found f) at says = told_whole p job kind bytes file (judged.Found f) at says
file_says p job kind bytes file judged.Unknown at says = told_whole p job kind bytes file judged.Unknown at says
file_says p job kind bytes file (judged.Bad number place) at says = told_whole p job kind bytes file (judged.Bad number place) at says
file_says p job kind bytes file judged.Failed at says = says
file_says p job kind bytes file judged.Unjudged at says = tt

file_never_more : (p : AskedOf) (job : JobName) (kind : StreamKind) (bytes : List ℕ) (said : Judged FindingOf) → Says (ProvesAs p job kind) bytes said → said ≢ judged.More
file_never_more p job kind bytes judged.More (fate, tells, whole) same = absurd (let e = tells in cc)
file_never_more p job kind bytes (judged.Found f) says same = absurd (let e = same in cc)
file_never_more p job kind bytes judged.Unknown says same = absurd (let e = same in cc)
file_never_more p job kind bytes (judged.Bad number place) says same = absurd (let e = same in cc)
file_never_more p job kind bytes judged.Failed says same = absurd (let e = same in cc)
file_never_more p job kind bytes judged.Unjudged says same = absurd (let e = same in cc)

-- what is said of a stream's first bytes is said of the whole, where it isn't More
stood_on : (p : AskedOf) (job : JobName) (kind : StreamKind) (bytes more : List ℕ) (said : Judged FindingOf) → said ≢ judged.More → Says (Stands p job (Output (Certificate kind))) bytes said → Says (Ends p job (Output (Certificate kind))) (bytes ++ more) said
stood_on p job kind bytes more judged.More some says = absurd (some refl)
stood_on p job kind bytes more (judged.Found f) some says = stays_law p job (Output (Certificate kind)) bytes more (judged.Found f) some says
stood_on p job kind bytes more judged.Unknown some says = stays_law p job (Output (Certificate kind)) bytes more judged.Unknown some says
stood_on p job kind bytes more (judged.Bad number place) some says = stays_law p job (Output (Certificate kind)) bytes more (judged.Bad number place) some says
stood_on p job kind bytes more judged.Failed some says = says
stood_on p job kind bytes more judged.Unjudged some says = tt

-- a proof file that is judged has a kind, and its judge may take more
pub proving_reading : (p : AskedOf) (job : JobName) (by : Evidence) (j : JudgeOf) (bytes : List ℕ) → Proving p job by (Stream j) bytes → IsReading j
proving_reading p job (Output kind) j bytes h = absurd h
proving_reading p job (ProofFile kind) j bytes h = λ e. apart (sym h.took.state ∙ e)

-- what is said of its next piece, and of its end
pub file_fed : (p : AskedOf) (job : JobName) (by : Evidence) (old new : JudgeOf) (bytes piece file : List ℕ) (said : Judged FindingOf) → IsJobFile p job file → Proving p job by (Stream old) bytes
    → ((q : AskedOf) (k : JobName) (kind : Kind) (b : List ℕ) → GoesOn q k kind old b → FedSo q k (Output kind) (GoesOn q k kind new (b ++ piece)) (b ++ piece) said)
    → (said ≢ judged.More → (more : List ℕ) → Says (Proves p job by) ((bytes ++ piece) ++ more) said) × (said ≡ judged.More → Proving p job by (Stream new) (bytes ++ piece))
file_fed p job (Output kind) old new bytes piece file said at h fed = absurd h
file_fed p job (ProofFile kind) old new bytes piece file said at h fed =
    let f = fed p job (Certificate kind) bytes h in
    ((λ some more. file_says p job kind ((bytes ++ piece) ++ more) file said at (stood_on p job kind (bytes ++ piece) more said some (f.says file at))), (λ is. (f.more file at is).0))

pub file_ended : (p : AskedOf) (job : JobName) (by : Evidence) (old : JudgeOf) (bytes file : List ℕ) (said : Judged FindingOf) → IsJobFile p job file → Proving p job by (Stream old) bytes
    → ((q : AskedOf) (k : JobName) (kind : Kind) (b : List ℕ) → GoesOn q k kind old b → EndedSo q k (Output kind) b said)
    → Says (Proves p job by) bytes said × (said ≢ judged.More)
file_ended p job (Output kind) old bytes file said at h over = absurd h
file_ended p job (ProofFile kind) old bytes file said at h over =
    let says = file_says p job kind bytes file said at (over p job (Certificate kind) bytes h file at) in
    (says, file_never_more p job kind bytes said says)
