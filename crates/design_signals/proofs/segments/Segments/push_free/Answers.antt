use Rattle.std.proofs.Common.{◌∷◌, ◌∙◌, ap, List, arith}
use Rattle.design_signals.specs.declared.sig_bit.SigBit.{SigBit}
use Rattle.design_signals.proofs.RowLemmas.{free_falls, on_ok}
use Rattle.design_signals.proofs.segments.Segments.push_free.Goals as goal

pub returns : goal.returns
returns c =
    on_ok c.push.result _ _
    (λ e. e ∙ ap (λ (x : List SigBit). x ∷ c.args.self.now) (free_falls _ c.args.first c.args.count (omega (arith, c.requires.some))))
    c.push.ensures
