-- What a judge's answer says.
use Rattle.std.proofs.Common.{◌≡◌, ℕ, true, List, Option, None, Result, Ok, Err, refl, sym, subst, ◌∙◌}
use Rattle.std.specs.Prelude.{IfOk, MatchOption}
use Rattle.std.specs.declared.alloc.AllocError.{AllocError}
use Rattle.judge.proofs.StreamFates.{within_most}
use Rattle.judge.specs.Fates.{IsFate, IsFateSoFar}
use Rattle.lane_run.specs.Judging.{Says}
use Rattle.cert_judge.specs.OutputFate.{IsOutputFate, IsOutputFateSoFar}
use Rattle.race_core.specs.declared.event.Judged.TheVariants as judged
use Rattle.sby_terms.specs.declared.names.JobName.{JobName}
use Rattle.cert_judge.specs.Fate.{Fate}
use Rattle.cert_judge.specs.declared.stream.BadCert.{BadCert}
use Rattle.cert_judge.specs.declared.stream.Kind.{Kind}
use Rattle.cert_judge.specs.declared.stream.StreamKind.{StreamKind}
use Rattle.judge.specs.Answers.{Finds, fate_told, state_after}
use Rattle.judge.specs.Judging.{Ends as JudgeEnds, Feeds as JudgeFeeds, JudgeOf}
use Rattle.judge.specs.Problem.{AskedOf, IsJobFile}
use Rattle.judge.specs.Solver.{Ends as SolverEnds, Feeds as SolverFeeds, SolverOf, is_more}
use Rattle.judge.specs.declared.judging.Progress.{Progress}
use Rattle.judge.specs.declared.judging.Progress.TheVariants as progress
use Rattle.judge.specs.declared.judging.State.TheVariants.{Reading}
use Rattle.task_race.specs.Fates.{Ends, GoesOn, IsSoFar, IsWhole, SolverGoesOn, Stands, Tells, judged_as, most_bytes}
use Rattle.task_race.specs.Watching.{EndedSo, FedSo, told_as}
use Rattle.task_race.specs.declared.evidence.Evidence.{Evidence}
use Rattle.task_race.specs.declared.evidence.Evidence.TheVariants.{Output, ProofFile}
use Rattle.cert_judge.proofs.OutputDeciding.{output_within}

-- an answer tells its fate
tells : (p : AskedOf) (job : JobName) (r : Result Progress BadCert) → Finds p job r → Tells p.problem job (judged_as r) (fate_told r)
tells p job (Ok progress.More) finds = refl
tells p job (Ok (progress.Done f)) finds = (refl, finds.0, finds.1)
tells p job (Ok progress.Unknown) finds = refl
tells p job (Err b) finds = (b.kind, refl, refl)

-- the fate so far is said, and that of the whole output
says_so_far : (p : AskedOf) (job : JobName) (by : Evidence) (bytes : List ℕ) (r : Result Progress BadCert) → Finds p job r
    → ((file : List ℕ) → IsJobFile p job file → IsSoFar p job by file bytes (fate_told r)) → Says (Stands p job by) bytes (judged_as r)
says_so_far p job by bytes (Ok progress.More) finds fate = (None, refl, fate)
says_so_far p job by bytes (Ok (progress.Done f)) finds fate = (fate_told (Ok (progress.Done f)), (refl, finds.0, finds.1), fate)
says_so_far p job by bytes (Ok progress.Unknown) finds fate = (fate_told (Ok progress.Unknown), refl, fate)
says_so_far p job by bytes (Err b) finds fate = (fate_told (Err b), (b.kind, refl, refl), fate)

says_ended : (p : AskedOf) (job : JobName) (by : Evidence) (bytes : List ℕ) (r : Result Progress BadCert) → Finds p job r
    → ((file : List ℕ) → IsJobFile p job file → IsWhole p job by file bytes (fate_told r)) → Says (Ends p job by) bytes (judged_as r)
says_ended p job by bytes (Ok progress.More) finds fate = (None, refl, fate)
says_ended p job by bytes (Ok (progress.Done f)) finds fate = (fate_told (Ok (progress.Done f)), (refl, finds.0, finds.1), fate)
says_ended p job by bytes (Ok progress.Unknown) finds fate = (fate_told (Ok progress.Unknown), refl, fate)
says_ended p job by bytes (Err b) finds fate = (fate_told (Err b), (b.kind, refl, refl), fate)

-- where nothing stands yet, the judge reads on
reads_on : (r : Result Progress BadCert) → judged_as r ≡ judged.More → (state_after r ≡ Reading) × (fate_told r ≡ None) × (is_more r ≡ true)
reads_on (Ok progress.More) h = (refl, refl, refl)
reads_on (Ok (progress.Done f)) h = absurd cc
reads_on (Ok progress.Unknown) h = absurd cc
reads_on (Err b) h = absurd cc

-- A judge fed for the job.
module _ (q p : AskedOf) (k job : JobName) (asked : q ≡ p) (job_is : k ≡ job) where
  found_for : (r : Result Progress BadCert) → Finds q k r → Finds p job r
  found_for r finds = subst (λ (x : AskedOf). Finds x job r) asked (subst (λ (y : JobName). Finds q y r) job_is finds)

  file_for : (file : List ℕ) → IsJobFile p job file → IsJobFile q k file
  file_for file is = subst (λ (x : AskedOf). IsJobFile x k file) (sym asked) (subst (λ (y : JobName). IsJobFile p y file) (sym job_is) is)

-- what a judge of a stream says of its next piece, and of its end
module _ (p : AskedOf) (job : JobName) (kind : Kind) (old new : JudgeOf) (bytes more : List ℕ) (goes : GoesOn p job kind old bytes) where
  stream_so_far : (r : Result Progress BadCert) → JudgeFeeds old new more r → (file : List ℕ) → IsJobFile p job file → IsFateSoFar p job kind file more most_bytes (fate_told r)
  stream_so_far r fed file is =
      subst (λ (k : Kind). IsFateSoFar p job k file more most_bytes (fate_told r)) goes.kind_is
      (subst (λ (n : ℕ). IsFateSoFar p job old.kind file more n (fate_told r)) goes.most
      (subst (λ (q : AskedOf). IsFateSoFar q job old.kind file more old.most (fate_told r)) goes.asked
      (subst (λ (k : JobName). IsFateSoFar old.asked k old.kind file more old.most (fate_told r)) goes.job_is
      (fed.fate file (file_for old.asked p old.job job goes.asked goes.job_is file is)))))

  stream_goes : (r : Result Progress BadCert) → JudgeFeeds old new more r → judged_as r ≡ judged.More → GoesOn p job kind new more
  stream_goes r fed said = record {
    is_job = goes.is_job;
    asked = fed.same.0 ∙ goes.asked;
    job_is = fed.same.1 ∙ goes.job_is;
    kind_is = fed.same.3 ∙ goes.kind_is;
    most = fed.same.2 ∙ goes.most;
    took = fed.stands (fed.state ∙ (reads_on r said).0);
  }

  stream_fed : (r : Result Progress BadCert) → JudgeFeeds old new more r → FedSo p job (Output kind) (GoesOn p job kind new more) more (judged_as r)
  stream_fed r fed = record {
    says = λ file is. says_so_far p job (Output kind) more r (found_for old.asked p old.job job goes.asked goes.job_is r fed.finds) (stream_so_far r fed);
    more = λ file is said. (
      stream_goes r fed said,
      within_most p job kind file more most_bytes (subst (λ (o : Option Fate). IsFateSoFar p job kind file more most_bytes o) (reads_on r said).1 (stream_so_far r fed file is)),
    );
  }

  pub stream_told : (told : Result (Result Progress BadCert) AllocError) → IfOk told (λ r. JudgeFeeds old new more r) → FedSo p job (Output kind) (GoesOn p job kind new more) more (told_as told)
  stream_told (Ok r) fed = stream_fed r fed
  stream_told (Err e) fed = record { says = λ file is. tt; more = λ file is said. absurd (let k = said in cc) }

  stream_over : (r : Result Progress BadCert) → JudgeEnds old new bytes r → EndedSo p job (Output kind) bytes (judged_as r)
  stream_over r over file is =
      says_ended p job (Output kind) bytes r (found_for old.asked p old.job job goes.asked goes.job_is r over.finds)
      (λ f at.
      subst (λ (k : Kind). MatchOption (fate_told r) ⊥ (IsFate p job k f bytes most_bytes)) goes.kind_is
      (subst (λ (n : ℕ). MatchOption (fate_told r) ⊥ (IsFate p job old.kind f bytes n)) goes.most
      (subst (λ (q : AskedOf). MatchOption (fate_told r) ⊥ (IsFate q job old.kind f bytes old.most)) goes.asked
      (subst (λ (k : JobName). MatchOption (fate_told r) ⊥ (IsFate old.asked k old.kind f bytes old.most)) goes.job_is
      (over.fate f (file_for old.asked p old.job job goes.asked goes.job_is f at))))))

  pub stream_ended : (told : Result (Result Progress BadCert) AllocError) → IfOk told (λ r. JudgeEnds old new bytes r) → EndedSo p job (Output kind) bytes (told_as told)
  stream_ended (Ok r) over = stream_over r over
  stream_ended (Err e) over = λ file is. tt

-- and what a judge of a solver's output says
module _ (p : AskedOf) (job : JobName) (kind : StreamKind) (old new : SolverOf) (bytes more : List ℕ) (goes : SolverGoesOn p job kind old bytes) where
  solver_so_far : (r : Result Progress BadCert) → SolverFeeds old new more r → (file : List ℕ) → IsJobFile p job file → IsOutputFateSoFar file more most_bytes (fate_told r)
  solver_so_far r fed file is = subst (λ (n : ℕ). IsOutputFateSoFar file more n (fate_told r)) goes.most (fed.fate file (file_for old.asked p old.job job goes.asked goes.job_is file is))

  solver_fed : (r : Result Progress BadCert) → SolverFeeds old new more r → FedSo p job (ProofFile kind) (SolverGoesOn p job kind new more) more (judged_as r)
  solver_fed r fed = record {
    says = λ file is. says_so_far p job (ProofFile kind) more r (found_for old.asked p old.job job goes.asked goes.job_is r fed.finds) (solver_so_far r fed);
    more = λ file is said. (
      record {
        is_job = goes.is_job;
        serves = goes.serves;
        asked = fed.same.0 ∙ goes.asked;
        job_is = fed.same.1 ∙ goes.job_is;
        most = fed.same.2 ∙ goes.most;
        took = fed.took (fed.reading ∙ (reads_on r said).2);
      },
      output_within file more most_bytes (subst (λ (o : Option Fate). IsOutputFateSoFar file more most_bytes o) (reads_on r said).1 (solver_so_far r fed file is)),
    );
  }

  pub solver_told : (told : Result (Result Progress BadCert) AllocError) → IfOk told (λ r. SolverFeeds old new more r) → FedSo p job (ProofFile kind) (SolverGoesOn p job kind new more) more (told_as told)
  solver_told (Ok r) fed = solver_fed r fed
  solver_told (Err e) fed = record { says = λ file is. tt; more = λ file is said. absurd (let k = said in cc) }

  pub solver_ended : (told : Result (Result Progress BadCert) AllocError) → IfOk told (λ r. SolverEnds old bytes r) → EndedSo p job (ProofFile kind) bytes (told_as told)
  solver_ended (Ok r) over = λ file is.
      says_ended p job (ProofFile kind) bytes r (found_for old.asked p old.job job goes.asked goes.job_is r over.finds)
      (λ f at. subst (λ (n : ℕ). IsOutputFate f bytes n (fate_told r)) goes.most (over.fate f (file_for old.asked p old.job job goes.asked goes.job_is f at)))
  solver_ended (Err e) over = λ file is. tt
