use Rattle.std.proofs.Common.{◌∙◌, [], ◌∷◌, ◌++◌, inl, inr, ap}
use Rattle.design_trace.proofs.Readings.{cycle_read, cycle_stops, handed_on}
use Rattle.design_trace.proofs.reading.rows.Goals as goal
use Rattle.design_trace.proofs.reading.rows.Goals.{then-number-eq0, else-number-eq0+then-at-bytes}

pub returns-in_err-at : goal.returns-in_err-at
returns-in_err-at c = handed_on c.from_residual.result c.in_err-at.field-0.0 _ _ _ c.from_residual.ensures.1
    (λ byte. cycle_stops c.args.design.now c.args.bytes.now c.cycles.rows.items c.cycles.at c.cycles.number byte c.cycles.invariant
    (elim c.if-number-eq0.branch [
      | then-number-eq0 w ↦ inl w.if-number-eq0.true
      | else-number-eq0+then-at-bytes w ↦ inr w.if-at-bytes.true
    ])) c.in_err-at.ensures

pub cycles-preserved : goal.cycles-preserved
cycles-preserved c =
    cycle_read c.args.design.now c.args.bytes.now c.cycles.rows.items c.push.new.self.items c.cycle.new.row.items c.cycles.at c.cycles.number c.in_ok-at.at c.cycles.invariant
    (c.in_ok-push.ensures.items ∙ ap (λ row. c.cycles.rows.items ++ row ∷ []) c.new.ensures) c.in_ok-at.ensures.0 c.in_ok-at.ensures.1
