use Rattle.std.proofs.Common.{◌∙◌, Some, ap}
use Rattle.judge.proofs.Inductive.{never_broken}
use Rattle.judge.proofs.invariant.tell.Goals as goal

pub never-requires : goal.never-requires
never-requires c =
    let w = c.requires.found (c.in-Some.is ∙ ap Some c.in-Found.is) in
    never_broken c.args.problem.now c.flat-flat.ensures.problem c.requires.job w.0 w.1
