use Rattle.std.proofs.Common.{◌∷◌, ◌∙◌, ap, List}
use Rattle.design_signals.specs.declared.sig_bit.SigBit.{SigBit}
use Rattle.design_signals.proofs.RowLemmas.{const_falls, on_ok}
use Rattle.design_signals.proofs.segments.Segments.push_const.Goals as goal

pub returns : goal.returns
returns c = on_ok c.push.result _ _ (λ e. e ∙ ap (λ (x : List SigBit). x ∷ c.args.self.now) (const_falls c.args.bit c.args.count)) c.push.ensures
