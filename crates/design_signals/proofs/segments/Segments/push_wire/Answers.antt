use Rattle.std.proofs.Common.{◌∷◌, ◌∙◌, ap, List}
use Rattle.design_signals.specs.declared.sig_bit.SigBit.{SigBit}
use Rattle.design_signals.proofs.RowLemmas.{wire_falls, on_ok}
use Rattle.design_signals.proofs.segments.Segments.push_wire.Goals as goal

pub returns : goal.returns
returns c = on_ok c.push.result _ _ (λ e. e ∙ ap (λ (x : List SigBit). x ∷ c.args.self.now) (wire_falls c.args.wire c.args.width)) c.push.ensures
