use Rattle.std.proofs.Common.{◌∙◌, [], ap, length, refl, subst, sym, arith}
use Rattle.std.specs.Prelude.{None, Some, slice_get}
use Rattle.std.proofs.lemmas.List.{append-nil, drop_all}
use Rattle.std.proofs.lemmas.Option.{slice_get-get_or}
use Rattle.sby_lines.specs.Told.{asked_by, came}
use Rattle.sby_top.specs.Traces.{HasCoverTraces}
use Rattle.sby_top.proofs.TraceLemmas.{cover_next, settled_at}
use Rattle.sby_top.proofs.traces.cover_runs.Goals as goal

pub push_statement-requires-clause-settled : goal.push_statement-requires-clause-settled
push_statement-requires-clause-settled c = λ a is. settled_at _ _ c.args.reports.now c.args.collected.now.answers.items c.loop-place.place a c.requires.collected.are_answers
    (ap (λ xs. slice_get xs c.loop-place.place) (sym c.as_slice-answers.ensures.value) ∙ slice_get-get_or c.as_slice-answers.result.now c.loop-place.place None c.loop-place-test.true ∙ ap Some is)

pub loop-place-preserved : goal.loop-place-preserved
loop-place-preserved c = record {
  before = λ expect more has. cover_next (asked_by c.args.heading.now expect) (came c.args.flat.now c.args.reports.now None) c.args.collected.now.answers.items c.loop-place.place _ _ _ _ more
      (ap (λ xs. slice_get xs c.loop-place.place) (sym c.as_slice-answers.ensures.value) ∙ slice_get-get_or c.as_slice-answers.result.now c.loop-place.place None c.loop-place-test.true)
      c.in_ok-push_statement.ensures.1 c.in_ok-push_statement.ensures.2 (λ ts h. c.loop-place.invariant.before expect ts h) has;
}

pub returns : goal.returns
returns c = λ expect.
    let all = drop_all c.loop-place.place c.args.collected.now.answers.items (omega (arith, c.loop-place-test.false, ap length c.as_slice-answers.ensures.value)) in
    subst (HasCoverTraces (asked_by c.args.heading.now expect) (came c.args.flat.now c.args.reports.now None) 0 c.args.collected.now.answers.items) (append-nil _)
    (c.loop-place.invariant.before expect [] (subst (λ xs. HasCoverTraces (asked_by c.args.heading.now expect) (came c.args.flat.now c.args.reports.now None) c.loop-place.place xs []) (sym all) refl))
