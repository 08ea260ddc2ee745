-- A job of a slice can be solved where that of its model can.
use Rattle.std.proofs.Common.{ℕ, suc, ◌<◌, Bool, arith}
use Rattle.model_core.specs.Claims.{ReachRun, Shows, StepShows}
use Rattle.model_core.specs.Meaning.{Cycle, Run, Window}
use Rattle.model_core.specs.Served.{IsModel}
use Rattle.model_core.specs.Shape.{ModelOf}
use Rattle.sby_terms.specs.declared.names.JobName.{JobName}
use Rattle.sby_terms.specs.declared.names.JobName.TheVariants.{Base, Step, Inv, Cover}
use Rattle.sby_terms.specs.declared.span.Span.{Span}
use Rattle.job_terms.specs.Encoding.{ShowsGoal}
use Rattle.job_terms.specs.Jobs.{AsksNothing, IsGoal, IsJob, Solvable}
use Rattle.model_cone.specs.Cone.{AgreeInCone, IsCone}
use Rattle.model_cone.specs.declared.asked.Asked.TheVariants as ask
use Rattle.model_cone.specs.Slice.{sliced}
use Rattle.model_cone.proofs.Claims.{assumed-from, assumed-to, broken-from, broken-to, reached-from, reached-to}
use Rattle.model_cone.proofs.Windows.{digits-first, down, down-agrees, down-run, down-window, up, up-agrees, up-run, up-window}
use Rattle.task_net.specs.Asking.{asked_of}

pub job-of-slice : (keep : ℕ → Bool) (m : ModelOf) (job : JobName) (span : Span) → IsJob m job span → IsJob (sliced keep m) job span
job-of-slice keep m (Base i) span h = h
job-of-slice keep m Step span h = h
job-of-slice keep m Inv span h = h
job-of-slice keep m (Cover k) span h = h

pub asks-of-slice : (keep : ℕ → Bool) (m : ModelOf) (job : JobName) → AsksNothing m job → AsksNothing (sliced keep m) job
asks-of-slice keep m (Base i) h = h
asks-of-slice keep m Step h = h
asks-of-slice keep m Inv h = h
asks-of-slice keep m (Cover k) h = h

-- windows and runs that are the same in the cone show the same
module _ (m : ModelOf) (keep : ℕ → Bool) (n : ℕ) (cs es : ℕ → Cycle) where
  pub shows-to : (a : ℕ) → ((t : ℕ) → t < n → AgreeInCone m ask.Asserts (cs t) (es t)) → Run (sliced keep m) n es → Shows m n cs a → Shows (sliced keep m) n es a
  shows-to a h r s = record {
    run = r;
    assumed = λ t l. assumed-to m ask.Asserts (cs t) (es t) (h t l) (s.assumed t l);
    last = λ t e. broken-to m (cs t) (es t) (h t (omega arith)) a (s.last t e);
  }

  pub shows-from : (a : ℕ) → ((t : ℕ) → t < n → AgreeInCone m ask.Asserts (cs t) (es t)) → Run m n cs → Shows (sliced keep m) n es a → Shows m n cs a
  shows-from a h r s = record {
    run = r;
    assumed = λ t l. assumed-from m ask.Asserts (cs t) (es t) (h t l) (s.assumed t l);
    last = λ t e. broken-from m (cs t) (es t) (h t (omega arith)) a (s.last t e);
  }

  pub step-to : (a : ℕ) → ((t : ℕ) → t < suc n → AgreeInCone m ask.Asserts (cs t) (es t)) → Window (sliced keep m) (suc n) es → StepShows m n cs a → StepShows (sliced keep m) n es a
  step-to a h w s = record {
    window = w;
    assumed = λ t l. assumed-to m ask.Asserts (cs t) (es t) (h t l) (s.assumed t l);
    before = λ t b l k. s.before t b l (broken-from m (cs t) (es t) (h t (omega arith)) b k);
    last = broken-to m (cs n) (es n) (h n (omega arith)) a s.last;
  }

  pub step-from : (a : ℕ) → ((t : ℕ) → t < suc n → AgreeInCone m ask.Asserts (cs t) (es t)) → Window m (suc n) cs → StepShows (sliced keep m) n es a → StepShows m n cs a
  step-from a h w s = record {
    window = w;
    assumed = λ t l. assumed-from m ask.Asserts (cs t) (es t) (h t l) (s.assumed t l);
    before = λ t b l k. s.before t b l (broken-to m (cs t) (es t) (h t (omega arith)) b k);
    last = broken-from m (cs n) (es n) (h n (omega arith)) a s.last;
  }

  pub reach-to : (k : ℕ) → ((t : ℕ) → t < n → AgreeInCone m ask.Covers (cs t) (es t)) → Run (sliced keep m) n es → ReachRun m n cs k → ReachRun (sliced keep m) n es k
  reach-to k h r s = record {
    run = r;
    assumed = λ t l. assumed-to m ask.Covers (cs t) (es t) (h t l) (s.assumed t l);
    last = λ t e. reached-to m k (cs t) (es t) (h t (omega arith)) (s.last t e);
  }

  pub reach-from : (k : ℕ) → ((t : ℕ) → t < n → AgreeInCone m ask.Covers (cs t) (es t)) → Run m n cs → ReachRun (sliced keep m) n es k → ReachRun m n cs k
  reach-from k h r s = record {
    run = r;
    assumed = λ t l. assumed-from m ask.Covers (cs t) (es t) (h t l) (s.assumed t l);
    last = λ t e. reached-from m k (cs t) (es t) (h t (omega arith)) (s.last t e);
  }

-- what a job's last cycle shows
pub goal-shown : (m : ModelOf) (keep : ℕ → Bool) (job : JobName) (n : ℕ) (cs es : ℕ → Cycle) → ((t : ℕ) → t < n → AgreeInCone m (asked_of job) (cs t) (es t)) → Run m n cs → ShowsGoal (sliced keep m) job n es
    → ShowsGoal m job n cs
goal-shown m keep (Base i) n cs es h r s = (s.0, shows-from m keep n cs es s.0 h r s.1)
goal-shown m keep Step n cs es h r s = s
goal-shown m keep Inv n cs es h r s = (s.0, shows-from m keep n cs es s.0 h r s.1)
goal-shown m keep (Cover k) n cs es h r s = reach-from m keep n cs es k h r s

pub goal-same : (m : ModelOf) (keep : ℕ → Bool) (job : JobName) (c e : Cycle) → AgreeInCone m (asked_of job) c e → IsGoal m job c → IsGoal (sliced keep m) job e
goal-same m keep (Base i) c e h g = (g.0, broken-to m c e h g.0 g.1)
goal-same m keep Step c e h g = (g.0, broken-to m c e h g.0 g.1)
goal-same m keep Inv c e h g = (g.0, broken-to m c e h g.0 g.1)
goal-same m keep (Cover k) c e h g = reached-to m k c e h g

module _ (m : ModelOf) (is : IsModel m) (keep : ℕ → Bool) (iss : IsModel (sliced keep m)) where
  pub solvable-to : (job : JobName) (span : Span) → IsCone m (asked_of job) keep → Solvable m job span → Solvable (sliced keep m) job span
  solvable-to (Base i) span cone (n, cs, a, l, h, s) = (
    n,
    down m is ask.Asserts keep cone iss cs,
    a,
    l,
    h,
    shows-to m keep n cs (down m is ask.Asserts keep cone iss cs) a (λ t l. down-agrees m is ask.Asserts keep cone iss cs n s.run.window t l) (down-run m is ask.Asserts keep cone iss cs n s.run) s,
  )
  solvable-to Step span cone (cs, a, s) =
      let wide : Window m (suc span.depth) cs = s.window in (
        down m is ask.Asserts keep cone iss cs,
        a,
        step-to m keep span.depth cs (down m is ask.Asserts keep cone iss cs) a (λ t l. down-agrees m is ask.Asserts keep cone iss cs (suc span.depth) wide t l)
            (down-window m is ask.Asserts keep cone iss cs (suc span.depth) wide) s,
      )
  solvable-to Inv span cone (n, cs, a, s) = (
    n,
    down m is ask.Asserts keep cone iss cs,
    a,
    shows-to m keep n cs (down m is ask.Asserts keep cone iss cs) a (λ t l. down-agrees m is ask.Asserts keep cone iss cs n s.run.window t l) (down-run m is ask.Asserts keep cone iss cs n s.run) s,
  )
  solvable-to (Cover k) span cone (n, cs, l, s) = (
    n,
    down m is ask.Covers keep cone iss cs,
    l,
    reach-to m keep n cs (down m is ask.Covers keep cone iss cs) k (λ t l. down-agrees m is ask.Covers keep cone iss cs n s.run.window t l) (down-run m is ask.Covers keep cone iss cs n s.run) s,
  )

  pub solvable-from : (job : JobName) (span : Span) → IsCone m (asked_of job) keep → Solvable (sliced keep m) job span → Solvable m job span
  solvable-from (Base i) span cone (n, es, a, l, h, s) =
      let first : Cycle = digits-first m is ask.Asserts keep cone in (
        n,
        up m is ask.Asserts keep cone es first,
        a,
        l,
        h,
        shows-from m keep n (up m is ask.Asserts keep cone es first) es a (λ t l. up-agrees m is ask.Asserts keep cone es first n s.run.window t l) (up-run m is ask.Asserts keep cone es n s.run) s,
      )
  solvable-from Step span cone (es, a, s) =
      let first : Cycle = digits-first m is ask.Asserts keep cone in (
        up m is ask.Asserts keep cone es first,
        a,
        step-from m keep span.depth (up m is ask.Asserts keep cone es first) es a (λ t l. up-agrees m is ask.Asserts keep cone es first (suc span.depth) s.window t l)
            (up-window m is ask.Asserts keep cone es first (suc span.depth) s.window) s,
      )
  solvable-from Inv span cone (n, es, a, s) =
      let first : Cycle = digits-first m is ask.Asserts keep cone in (
        n,
        up m is ask.Asserts keep cone es first,
        a,
        shows-from m keep n (up m is ask.Asserts keep cone es first) es a (λ t l. up-agrees m is ask.Asserts keep cone es first n s.run.window t l) (up-run m is ask.Asserts keep cone es n s.run) s,
      )
  solvable-from (Cover k) span cone (n, es, l, s) =
      let first : Cycle = digits-first m is ask.Covers keep cone in (
        n,
        up m is ask.Covers keep cone es first,
        l,
        reach-from m keep n (up m is ask.Covers keep cone es first) es k (λ t l. up-agrees m is ask.Covers keep cone es first n s.run.window t l) (up-run m is ask.Covers keep cone es n s.run) s,
      )
