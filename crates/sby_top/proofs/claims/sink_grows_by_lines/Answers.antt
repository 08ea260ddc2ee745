use Rattle.sby_top.proofs.claims.sink_grows_by_lines.Goals as goal

pub returns : goal.returns
returns g c = λ before after moments words done task end is. (is.exit, is.ran.printed)
