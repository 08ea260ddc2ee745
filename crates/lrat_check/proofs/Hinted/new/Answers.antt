use Rattle.std.proofs.Common.{List, subst, sym}
use Rattle.cnf_form.specs.Cnf.{LitOf}
use Rattle.lrat_check.specs.Table.{IsUpto}
use Rattle.lrat_check.proofs.Table.{numbered_places}
use Rattle.lrat_check.proofs.Hinted.new.Goals as goal

pub invariant_of-result : goal.invariant_of-result
invariant_of-result g c =
    let F : List (List LitOf) = (g.S.ClauseSource.formula c.args.source.now).clauses in
    let marks = c.in_ok-marks.ensures in (
      record { clear = marks.clear; places = numbered_places _ F c.in_ok-marks.marks.items c.in_ok-clauses.ensures.numbered marks.places },
      subst (IsUpto c.in_ok-clauses.clauses) (sym c.count-count.ensures.count) c.in_ok-clauses.ensures.upto,
    )
