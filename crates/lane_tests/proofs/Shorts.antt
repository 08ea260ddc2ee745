-- What a judge's answer says, whatever number of bytes it takes.
use Rattle.std.proofs.Common.{◌≡◌, ℕ, List, length, Option, None, Result, Ok, Err, refl, sym, subst, ◌∙◌}
use Rattle.std.specs.Prelude.{◌≤◌, IfOk}
use Rattle.std.specs.declared.alloc.AllocError.{AllocError}
use Rattle.lane_run.specs.Judging.{Says}
use Rattle.race_core.specs.declared.event.Judged.TheVariants as judged
use Rattle.sby_terms.specs.declared.names.JobName.{JobName}
use Rattle.cert_judge.specs.Fate.{Fate}
use Rattle.cert_judge.specs.declared.stream.BadCert.{BadCert}
use Rattle.judge.proofs.StreamFates.{within_most}
use Rattle.judge.specs.Answers.{Finds, fate_told, state_after}
use Rattle.judge.specs.Fates.{IsFateSoFar}
use Rattle.judge.specs.Judging.{Ends, Feeds, JudgeOf}
use Rattle.judge.specs.Problem.{AskedOf, IsJobFile}
use Rattle.judge.specs.declared.judging.Progress.{Progress}
use Rattle.judge.specs.declared.judging.Progress.TheVariants as progress
use Rattle.judge.specs.declared.judging.State.TheVariants.{Reading}
use Rattle.task_race.specs.Fates.{judged_as}
use Rattle.task_race.specs.Watching.{told_as}
use Rattle.lane_tests.specs.Short.{HasTaken, IsOurs, SaysShort}

-- a finding is one for the job of the problem
ours : (p : AskedOf) (job : JobName) (bytes : List ℕ) (r : Result Progress BadCert) → Finds p job r → Says (IsOurs p.problem job) bytes (judged_as r)
ours p job bytes (Ok progress.More) finds = tt
ours p job bytes (Ok (progress.Done f)) finds = finds
ours p job bytes (Ok progress.Unknown) finds = tt
ours p job bytes (Err b) finds = tt

-- where nothing stands yet, the judge reads on
reads_on : (r : Result Progress BadCert) → judged_as r ≡ judged.More → (state_after r ≡ Reading) × (fate_told r ≡ None)
reads_on (Ok progress.More) h = (refl, refl)
reads_on (Ok (progress.Done f)) h = absurd cc
reads_on (Ok progress.Unknown) h = absurd cc
reads_on (Err b) h = absurd cc

module _ (p : AskedOf) (job : JobName) (most : ℕ) (old new : JudgeOf) (before bytes : List ℕ) (took : HasTaken p job most old before) where
  found : (r : Result Progress BadCert) → Finds old.asked old.job r → Finds p job r
  found r finds = subst (λ (x : AskedOf). Finds x job r) took.asked (subst (λ (y : JobName). Finds old.asked y r) took.job_is finds)

  file_for : (file : List ℕ) → IsJobFile p job file → IsJobFile old.asked old.job file
  file_for file is = subst (λ (x : AskedOf). IsJobFile x old.job file) (sym took.asked) (subst (λ (y : JobName). IsJobFile p y file) (sym took.job_is) is)

  within : (r : Result Progress BadCert) (file : List ℕ) → IsJobFile p job file → Feeds old new bytes r → fate_told r ≡ None → length bytes ≤ most
  within r file is fed none =
      within_most old.asked old.job old.kind file bytes most
      (subst (λ (n : ℕ). IsFateSoFar old.asked old.job old.kind file bytes n None) took.limit
      (subst (λ (o : Option Fate). IsFateSoFar old.asked old.job old.kind file bytes old.most o) none (fed.fate file (file_for file is))))

  goes_on : (r : Result Progress BadCert) → Feeds old new bytes r → judged_as r ≡ judged.More → HasTaken p job most new bytes
  goes_on r fed said = record {
    is_job = took.is_job;
    asked = fed.same.0 ∙ took.asked;
    job_is = fed.same.1 ∙ took.job_is;
    limit = fed.same.2 ∙ took.limit;
    took = fed.stands (fed.state ∙ (reads_on r said).0);
  }

  -- what it says of the next piece
  pub fed_says : (told : Result (Result Progress BadCert) AllocError) (file : List ℕ) → IsJobFile p job file → IfOk told (λ r. Feeds old new bytes r) → SaysShort p job most new bytes (told_as told)
  fed_says (Ok r) file is fed = record {
    says = ours p job bytes r (found r fed.finds);
    more = λ said. (goes_on r fed said, within r file is fed (reads_on r said).1);
  }
  fed_says (Err e) file is fed = record { says = tt; more = λ said. absurd (let k = said in cc) }

  -- and of the whole output
  pub end_says : (told : Result (Result Progress BadCert) AllocError) → IfOk told (λ r. Ends old new before r) → Says (IsOurs p.problem job) before (told_as told)
  end_says (Ok r) over = ours p job before r (found r over.finds)
  end_says (Err e) over = tt
