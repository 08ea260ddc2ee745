use Rattle.std.proofs.Common.{sym, subst}
use Rattle.btor_core.specs.Shape.{BtorOf}
use Rattle.btor_core.specs.Fits.{LineFits}
use Rattle.btor_core.proofs.Fitting.{btor_push}
use Rattle.btor_core.proofs.model.BtorModel.push.Goals as goal

pub invariant_of-self-2 : goal.invariant_of-self-2
invariant_of-self-2 c =
    let fits = subst (λ (m : BtorOf). LineFits m.constants m.lines c.args.line) (sym c.self.view_is) c.requires in
    rw c.in_ok-push.ensures.items (btor_push c.self.inside.constants.items c.self.inside.lines.items c.args.line c.self.invariant fits)
