use Rattle.std.proofs.Common.{◌∙◌, ap, sym, subst}
use Rattle.sby_bits.specs.Rows.{Row}
use Rattle.model_core.specs.Shape.{ModelOf}
use Rattle.model_play.specs.Playing.{IsLast, PlayerOf}
use Rattle.model_play.proofs.Running.{playing_last}
use Rattle.model_play.proofs.player.Player.row.Goals as goal

pub returns-clause-last : goal.returns-clause-last
returns-clause-last c = λ h was.
    let at = ap (λ (p : PlayerOf). p.model) c.self.view_is in
    let row = c.as_slice.ensures.value ∙ ap (λ (p : PlayerOf). p.row) c.self.view_is in
    subst (λ (r : Row). IsLast c.args.self.now.model h r) (sym row)
    (subst (λ (m : ModelOf). IsLast m h c.args.self.now.row) at (playing_last c.self.inside.model.now c.self.invariant.model c.args.self.now (sym at) c.requires h was))
