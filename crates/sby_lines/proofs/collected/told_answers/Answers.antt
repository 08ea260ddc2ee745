use Rattle.std.proofs.Common.{◌∙◌}
use Rattle.sby_lines.proofs.PrintedLemmas.{told_upto}
use Rattle.sby_lines.proofs.SatLemmas.{upto_first, upto_none}
use Rattle.sby_lines.proofs.collected.told_answers.Goals as goal

pub returns-in-Some : goal.returns-in-Some
returns-in-Some c = told_upto c.args.mode c.args.answers.now _ c.in-Bmc.is (c.split_at.ensures.front ∙ upto_first c.args.answers.now c.in-Some.place c.in-Some.ensures.some)

pub returns-in-None : goal.returns-in-None
returns-in-None c = told_upto c.args.mode c.args.answers.now _ c.in-Bmc.is (upto_none c.args.answers.now c.in-None.ensures.none)
