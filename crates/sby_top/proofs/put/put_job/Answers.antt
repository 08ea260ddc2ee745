use Rattle.std.proofs.Common.{◌∙◌, ap₂, sym, List, ℕ}
use Rattle.std.proofs.lemmas.Result.{err_from_is_err_and}
use Rattle.sby_terms.specs.Path.{job_path}
use Rattle.task_race.specs.Words.{btor_path}
use Rattle.sby_top.specs.Served.{asks_run, takes_witness}
use Rattle.sby_top.specs.Task.{task_seen}
use Rattle.sby_top.proofs.PutLemmas.{both_put, both_true, btor_failed, formula_failed, formula_put, witness_asks}
use Rattle.sby_top.proofs.put.put_job.Goals as goal

pub returns-in_err-put_formula-clause-err : goal.returns-in_err-put_formula-clause-err
returns-in_err-put_formula-clause-err g c = let p = err_from_is_err_and c.from_residual.result c.from_residual.ensures.1 in
    let h = c.in_err-put_formula.ensures in
    let path = ap₂ (λ (n : List ℕ) (k : ℕ). job_path n k c.job-job.result) c.as_str-folder.ensures.value c.slice_count-slices.ensures in
    rw (p.1, p.2) (c.job-job.result, c.job-job.ensures, formula_failed (task_seen c.args.task.now).service c.args.problem.now (task_seen c.args.task.now).request.name c.args.place _ _ _ _ _ _ c.job-job.result _ _ path h.told h.failed)

pub returns-then-not-wants_btor-clause-ok : goal.returns-then-not-wants_btor-clause-ok
returns-then-not-wants_btor-clause-ok g c =
    let path = ap₂ (λ (n : List ℕ) (k : ℕ). job_path n k c.job-job.result) c.as_str-folder.ensures.value c.slice_count-slices.ensures in (
      c.job-job.result,
      c.job-job.ensures,
      formula_put (task_seen c.args.task.now).service c.args.problem.now (task_seen c.args.task.now).request.name c.args.place _ _ c.job-job.result _ path
          (sym c.wants_btor.ensures ∙ c.if-not-wants_btor.true) c.in_ok-put_formula.ensures.ok,
    )

pub put_btor-requires-clause-run : goal.put_btor-requires-clause-run
put_btor-requires-clause-run g c =
    let asks = both_true (asks_run c.job-job.result) (takes_witness (task_seen c.args.task.now).service c.args.place) (sym c.wants_btor.ensures ∙ c.if-not-wants_btor.false) in
    witness_asks c.job-job.result asks.0

pub returns-in_err-put_btor-clause-err : goal.returns-in_err-put_btor-clause-err
returns-in_err-put_btor-clause-err g c = let p = err_from_is_err_and c.from_residual-in_err-put_btor.result c.from_residual-in_err-put_btor.ensures.1 in
    let h = c.in_err-put_btor.ensures in
    let path = ap₂ (λ (n : List ℕ) (k : ℕ). job_path n k c.job-job.result) c.as_str-folder.ensures.value c.slice_count-slices.ensures in
    let other = ap₂ (λ (n : List ℕ) (k : ℕ). btor_path n k c.job-job.result) c.as_str-folder.ensures.value c.slice_count-slices.ensures in
    rw (p.1, p.2) (
      c.job-job.result,
      c.job-job.ensures,
      btor_failed (task_seen c.args.task.now).service c.args.problem.now (task_seen c.args.task.now).request.name c.args.place _ _ _ _ _ _ _ _ _ c.job-job.result _ _ _ path other
          (sym c.wants_btor.ensures ∙ c.if-not-wants_btor.false) c.in_ok-put_formula.ensures.ok h.told c.in_ok-put_formula.ensures.still h.failed,
    )

pub returns-clause-ok : goal.returns-clause-ok
returns-clause-ok g c =
    let path = ap₂ (λ (n : List ℕ) (k : ℕ). job_path n k c.job-job.result) c.as_str-folder.ensures.value c.slice_count-slices.ensures in
    let other = ap₂ (λ (n : List ℕ) (k : ℕ). btor_path n k c.job-job.result) c.as_str-folder.ensures.value c.slice_count-slices.ensures in (
      c.job-job.result,
      c.job-job.ensures,
      both_put (task_seen c.args.task.now).service c.args.problem.now (task_seen c.args.task.now).request.name c.args.place _ _ _ c.job-job.result _ _ path other
          (sym c.wants_btor.ensures ∙ c.if-not-wants_btor.false) c.in_ok-put_formula.ensures.ok c.in_ok-put_btor.ensures.ok,
    )
