use Rattle.std.proofs.Common.{◌∙◌, List, Some, ap, subst, sym}
use Rattle.design_meaning.specs.Runs.{CycleOf}
use Rattle.sby_terms.specs.declared.names.Answer.TheVariants.{Sat}
use Rattle.judge.proofs.Witnesses.{chosen_claim, rows_chosen}
use Rattle.judge.specs.Finding.{Claim}
use Rattle.judge.specs.Jobs.{span_of}
use Rattle.judge.proofs.witness.tell.Goals as goal

pub run_of-requires : goal.run_of-requires
run_of-requires c = let w = c.requires c.in-Played.rows (c.in-Some.is ∙ ap Some c.in-Played.is) in w.3.wide

pub sat_shown-requires : goal.sat_shown-requires
sat_shown-requires c =
    let p = c.args.problem.now in
    let rows = c.in-Played.rows in
    let w = c.requires rows (c.in-Some.is ∙ ap Some c.in-Played.is) in
    subst (λ (run : List CycleOf). Claim p.design (span_of p.problem) c.args.job Sat (Some run)) (sym c.in_ok-run-in-Played.ensures)
    (chosen_claim p c.flat-flat.ensures.problem w.1 _ c.args.job w.0 w.2 (rows_chosen p c.flat-flat.ensures.problem w.0 w.1 rows w.3))
