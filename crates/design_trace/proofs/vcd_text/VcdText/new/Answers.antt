use Rattle.std.proofs.Common.{sym, subst}
use Rattle.design_meaning.specs.Runs.{IsShownOf}
use Rattle.design_trace.specs.Coming.{IsPlace}
use Rattle.design_trace.proofs.vcd_text.VcdText.new.Goals as goal

pub invariant_of-result : goal.invariant_of-result
invariant_of-result g c =
    let rows = g.V.Waveform.rows c.args.waveform in (
      subst (λ d. IsShownOf d rows) (sym c.design.ensures.design) c.requires,
      c.first.ensures.line rows,
      subst (IsPlace c.design.result.now rows) (sym c.first.ensures.next) tt,
    )
