use Rattle.std.proofs.Common.{◌∙◌, ap, inl, inr, refl, subst, sym, List, ℕ}
use Rattle.std.specs.Prelude.{None, Option, Some, string_bytes}
use Rattle.std.proofs.lemmas.Result.{IfErr-weaker, IfOk-weaker}
use Rattle.race_core.specs.declared.end.JobEnd.TheVariants.{NotServed}
use Rattle.sby_words.specs.Kinds.{IsKindNamed}
use Rattle.sby_top.specs.Steps.{IsPathJudged}
use Rattle.sby_top.proofs.ServeLemmas.{path_at, path_given}
use Rattle.sby_top.proofs.serve.judge_place.Goals as goal

pub returns-in_default-clause-ok : goal.returns-in_default-clause-ok
returns-in_default-clause-ok g c = (
  c.job-job.result,
  c.job-job.ensures,
  subst (λ (o : Option (List ℕ)). IsPathJudged c.args.problem.now (g.F.Files.told c.args.files.now) c.job-job.result o NotServed) (path_given string_bytes c.args.paths.now c.args.place None c.in_default.ensures.lookup) refl,
)

pub returns-then-serves-clause-err : goal.returns-then-serves-clause-err
returns-then-serves-clause-err g c =
    let path = c.as_str-then-serves.result.now in
    let at = path_at string_bytes c.args.paths.now c.args.place (Some c.in-Some.path) c.as_str-then-serves.result.now c.in-Some.ensures.lookup (ap Some (sym c.as_str-then-serves.ensures.value)) in
    let named = subst (λ (t : List ℕ). IsKindNamed t c.stream_kind-kind.result) (c.as_str.ensures.value ∙ sym c.as_str-then-serves.ensures.value) c.stream_kind-kind.ensures in
    IfErr-weaker c.judge_stored.result _ _ (λ early failed. (c.as_str-then-serves.result.now, (c.args.place, c.job-job.result, c.stream_kind-kind.result, c.job-job.ensures, at, named, c.if-serves.ensures), failed)) c.judge_stored.ensures.failed

pub returns-then-serves-clause-ok : goal.returns-then-serves-clause-ok
returns-then-serves-clause-ok g c =
    let at = path_at string_bytes c.args.paths.now c.args.place (Some c.in-Some.path) c.as_str-then-serves.result.now c.in-Some.ensures.lookup (ap Some (sym c.as_str-then-serves.ensures.value)) in
    IfOk-weaker c.judge_stored.result _ _
    (λ end judged. (c.job-job.result, c.job-job.ensures, subst (λ (o : Option (List ℕ)). IsPathJudged c.args.problem.now (g.F.Files.told c.args.files.now) c.job-job.result o end) (sym at) (inl judged))) c.judge_stored.ensures.ok

pub returns-else-serves-clause-ok : goal.returns-else-serves-clause-ok
returns-else-serves-clause-ok g c =
    let at = path_at string_bytes c.args.paths.now c.args.place (Some c.in-Some.path) (string_bytes c.in-Some.path.now) c.in-Some.ensures.lookup refl in
    let named = subst (λ (t : List ℕ). IsKindNamed t c.stream_kind-kind.result) c.as_str.ensures.value c.stream_kind-kind.ensures in (
      c.job-job.result,
      c.job-job.ensures,
      subst (λ (o : Option (List ℕ)). IsPathJudged c.args.problem.now (g.F.Files.told c.args.files.now) c.job-job.result o NotServed) (sym at) (inr ((c.stream_kind-kind.result, named, c.if-serves.ensures), refl)),
    )
