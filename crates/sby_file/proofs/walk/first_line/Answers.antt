use Rattle.std.proofs.Common.{add-one}
use Rattle.std.proofs.lemmas.List.{take_rest}
use Rattle.sby_file.proofs.Cuts.{first_cut, one_line}
use Rattle.sby_file.proofs.walk.first_line.Goals as goal

pub returns-in-Some-clause-lines : goal.returns-in-Some-clause-lines
returns-in-Some-clause-lines c =
    rw (take_rest, add-one) (first_cut c.args.bytes.now c.in-Some.end c.in-Some.ensures.0.high c.in-Some.ensures.1 c.in-Some.ensures.0.before)

pub returns-in-None-clause-lines : goal.returns-in-None-clause-lines
returns-in-None-clause-lines c = one_line c.args.bytes.now c.requires c.in-None.ensures
