use Rattle.std.proofs.Common.{sym, subst}
use Rattle.drup_check.specs.Marks.{Weighs}
use Rattle.drup_check.proofs.Weights.{weighs_of}
use Rattle.drup_check.proofs.marks.weigh.Goals as goal

pub returns-clause-weighs : goal.returns-clause-weighs
returns-clause-weighs c =
    let m = c.mark_all-weight.ensures in
    subst (Weighs c.args.salt c.args.clause.now) (sym m.weight) (weighs_of c.args.salt c.mark_all-weight.new.marks c.args.clause.now m.shows)
