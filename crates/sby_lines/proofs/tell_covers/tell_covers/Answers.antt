use Rattle.std.proofs.Common.{◌∙◌, ap, length, refl, sym, arith}
use Rattle.std.specs.Prelude.{slice_get}
use Rattle.std.proofs.lemmas.Option.{slice_get-get_or}
use Rattle.std.proofs.lemmas.Result.{err_from_is_err_and}
use Rattle.sby_lines.specs.Told.{asked_by, came}
use Rattle.sby_lines.proofs.CoverLemmas.{cover_more, cover_stopped}
use Rattle.sby_lines.proofs.PlaceLemmas.{cover_length}
use Rattle.sby_lines.proofs.tell_covers.tell_covers.Goals as goal

pub tell_statement-requires-clause-statement : goal.tell_statement-requires-clause-statement
tell_statement-requires-clause-statement g c = omega (arith, c.loop-place-test.true, ap length c.as_slice-answers.ensures.value, c.requires.collected.are_answers.size, cover_length c.args.heading.now.mode c.args.heading.now.span c.args.flat.now c.args.flat.now c.requires.mode refl)

pub returns-in_err-tell_statement : goal.returns-in_err-tell_statement
returns-in_err-tell_statement g c = let p = err_from_is_err_and c.from_residual.result c.from_residual.ensures.1 in
    rw (p.1, p.2) (λ expect start lines has. cover_stopped (asked_by c.args.heading.now expect) (came c.args.flat.now c.args.reports.now start) c.args.collected.now.answers.items c.loop-place.place _
    (ap (λ xs. slice_get xs c.loop-place.place) (sym c.as_slice-answers.ensures.value) ∙ slice_get-get_or c.as_slice-answers.result.now c.loop-place.place _ c.loop-place-test.true)
    _ _ _ _ _ _ lines _ (c.loop-place.invariant.told expect start lines has) (λ ls h. c.in_err-tell_statement.ensures expect start ls h))

pub loop-place-preserved : goal.loop-place-preserved
loop-place-preserved g c = record {
  told = λ expect start lines has. cover_more (asked_by c.args.heading.now expect) (came c.args.flat.now c.args.reports.now start) c.args.collected.now.answers.items c.loop-place.place _
      (ap (λ xs. slice_get xs c.loop-place.place) (sym c.as_slice-answers.ensures.value) ∙ slice_get-get_or c.as_slice-answers.result.now c.loop-place.place _ c.loop-place-test.true)
      _ _ _ _ _ _ lines (c.loop-place.invariant.told expect start lines has) (λ ls h. c.in_ok-tell_statement.ensures expect start ls h);
}
