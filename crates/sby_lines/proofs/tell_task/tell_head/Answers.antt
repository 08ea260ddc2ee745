use Rattle.std.proofs.Common.{◌≡◌, ◌∙◌, ap, length, arith}
use Rattle.std.proofs.lemmas.Result.{err_from_is_err_and}
use Rattle.judge.specs.Jobs.{jobs_in}
use Rattle.sby_lines.specs.Lines.{told_answers}
use Rattle.sby_lines.proofs.PlaceLemmas.{has_jobs}
use Rattle.sby_lines.proofs.TaskLemmas.{told_fewer}
use Rattle.sby_lines.proofs.TellLemmas.{tells_then, tells_stopped}
use Rattle.sby_lines.proofs.tell_task.tell_head.Goals as goal

pub tell_answers-requires : goal.tell_answers-requires
tell_answers-requires g c =
    let same : c.told_answers-answers.result.now ≡ told_answers c.args.heading.now.mode c.args.collected.now.answers.items = c.told_answers-answers.ensures ∙ ap (told_answers c.args.heading.now.mode) c.deref.ensures.value in
    omega (arith, told_fewer c.args.heading.now.mode c.args.collected.now.answers.items c.told_answers-answers.result.now same, c.requires.few)

pub returns-in_err-tell_skipped : goal.returns-in_err-tell_skipped
returns-in_err-tell_skipped g c = let p = err_from_is_err_and c.from_residual.result c.from_residual.ensures.1 in
    rw (p.1, p.2) (λ expect d jobs. tells_stopped {T = Unit {0}} _ _ _ _ _ _ _ (c.in_err-tell_skipped.ensures expect))

pub returns : goal.returns
returns g c = λ expect d jobs.
    let same : c.told_answers-answers.result.now ≡ told_answers c.args.heading.now.mode c.args.collected.now.answers.items = c.told_answers-answers.ensures ∙ ap (told_answers c.args.heading.now.mode) c.deref.ensures.value in
    let fits = told_fewer c.args.heading.now.mode c.args.collected.now.answers.items c.told_answers-answers.result.now same in
    let has = has_jobs c.args.heading.now.mode c.args.heading.now.span d (length c.told_answers-answers.result.now) (omega (arith, fits, jobs)) in
    rw (← same, ← c.slices.ensures.slices) (tells_then {T = Unit {0}} {U = Unit {0}} _ _ _ _ _ _ _ _ tt _ (c.in_ok-tell_skipped.ensures expect)
    (c.tell_answers.ensures (jobs_in c.args.heading.now.mode c.args.heading.now.span d) has))
