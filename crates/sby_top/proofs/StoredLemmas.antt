-- Files change by jobs' files and trace files alone.
use Rattle.std.proofs.Common.{◌≡◌, List, [], ◌∷◌, ℕ, ap, sym, subst, inl, inr, length, take, arith}
use Rattle.std.specs.Prelude.{Option, Some, None}
use Rattle.std.proofs.lemmas.List.{take_all}
use Rattle.design_core.specs.Shape.{DesignOf}
use Rattle.judge.specs.Finding.{FindingOf}
use Rattle.race_core.specs.Report.{ReportOf}
use Rattle.sby_lines.specs.declared.early.Early.{Early}
use Rattle.sby_lines.specs.declared.early.Early.TheVariants.{File, Sby, Task, Read, Design, TooMany, Streams, Memory}
use Rattle.sby_top.specs.Causes.{HasReason, IsFailedPath, IsHalted, IsOutcome}
use Rattle.sby_top.specs.Claims.{AreStored, IsStored}
use Rattle.sby_top.specs.Headline.{NamesEvent}
use Rattle.sby_top.specs.Served.{ArePut, JobFile, files_in}
use Rattle.sby_top.specs.Task.{TaskOf}
use Rattle.sby_top.specs.Traces.{ArePutTraces, TraceOf, with_trace}
use Rattle.sby_top.specs.World.{FilesOf, Moments, RaceOf, files_of, race_of}
use Rattle.sby_top.specs.declared.outcome.TaskEnd.{TaskEnd}
use Rattle.sby_top.proofs.ServeLemmas.{all_halted}

-- the trace files that were put
put_stored : (task : TaskOf) (d : DesignOf) (traces : List TraceOf) (b a : FilesOf) (unput : List ℕ) → ArePutTraces task.request d traces b a unput → (put : List TraceOf) × AreStored task d put b.told a.told
put_stored task d [] b a unput put = ([], ap (λ (f : FilesOf). f.told) put.0)
put_stored task d (t ∷ traces) b a unput (inl put) = let rest = put_stored task d traces (record b { told = with_trace task.request d t b.told }) a unput put in (t ∷ rest.0, rest.1)
put_stored task d (t ∷ traces) b a unput (inr put) = let rest = put_stored task d traces put.0 a put.1 put.3 in (rest.0, subst (λ x. AreStored task d rest.0 x a.told) put.2.same rest.1)

halted_stored : (task : TaskOf) (moments : Moments) → moments.after.told ≡ moments.before.told → IsHalted task moments.got.told moments.put.told → IsStored task moments
halted_stored task moments still (inl same) = inl (same, still)
halted_stored task moments still (inr put) = inr (record { problem = put.0; count = put.1; traces = []; served = put.2; put = put.3; traced = still })

path_stored : (task : TaskOf) (moments : Moments) (path : List ℕ) → moments.after.told ≡ moments.before.told → IsFailedPath task moments.got.told moments.put.told path → IsStored task moments
path_stored task moments path still (inl got) = inl (got.1, still)
path_stored task moments path still (inr (inl put)) = halted_stored task moments still (inr (put.0, put.1, put.3, put.6))
path_stored task moments path still (inr (inr put)) = halted_stored task moments still (all_halted task moments.got.told moments.put.told put.0 put.1 put.3)

reason_stored : (task : TaskOf) (moments : Moments) (early : Early) → moments.after.told ≡ moments.before.told → HasReason task moments.got moments.put early → IsStored task moments
reason_stored task moments (File path) still reason = path_stored task moments _ still reason.1
reason_stored task moments (Sby fault) still reason = absurd reason
reason_stored task moments (Task fault) still reason = absurd reason
reason_stored task moments (Read fault) still reason = inl (ap (λ (f : FilesOf). f.told) reason.1, still)
reason_stored task moments (Design fault) still reason = inl (ap (λ (f : FilesOf). f.told) reason.1, still)
reason_stored task moments (TooMany job) still reason = inl (ap (λ (f : FilesOf). f.told) reason.1, still)
reason_stored task moments Streams still reason = inl (ap (λ (f : FilesOf). f.told) reason.1, still)
reason_stored task moments Memory still reason = halted_stored task moments still reason

outcome_stored : (may_read : ℕ → Type 0) (race : RaceOf) (task : TaskOf) (moments : Moments) (early : Option Early) (text : List ℕ) (reports : List (ReportOf FindingOf)) (unput : List ℕ) (stopped : Type 0) → IsOutcome may_read task moments race early text reports unput stopped
    → IsStored task moments
outcome_stored may_read race task moments (Some early) text reports unput stopped came = reason_stored task moments early (ap (λ (f : FilesOf). f.told) came.4) came.3
outcome_stored may_read race task moments None text reports unput stopped came =
    let done = came.0 in
    let traces = put_stored task done.problem.design (take came.1.count came.1.traces) (files_of moments.before) (files_of moments.after) unput came.1.put in
    inr (record {
      problem = done.problem;
      count = length (files_in task.service done.problem);
      traces = traces.0;
      served = done.served;
      put = subst (λ (fs : List JobFile). ArePut done.problem task.request.name fs moments.got.told moments.put.told) (sym (take_all (length (files_in task.service done.problem)) (files_in task.service done.problem) (omega arith))) done.put;
      traced = traces.1;
    })

-- where each status names its event
pub event_stored : (may_read : ℕ → Type 0) (number : ℕ) (moments : Moments) (task : TaskOf) (end : TaskEnd) → NamesEvent may_read number moments task end → IsStored task moments
event_stored may_read number moments task end named = outcome_stored may_read (race_of number moments.pool moments.before moments.after end.start) task moments end.early end.text end.reports.items end.unput.items _ named.cause
