use Rattle.std.proofs.Common.{◌∙◌, ◌<◌, ◌≤◌, [], arith, length, refl}
use Rattle.design_trace.specs.Changes.{time_line}
use Rattle.design_trace.specs.Coming.{changes_text}
use Rattle.design_trace.specs.declared.vcd_lines.Place.TheVariants.{End}
use Rattle.design_trace.proofs.Coming.{cycle_text, last_text, line_then}
use Rattle.design_trace.proofs.vcd_lines.Line.time.Goals as goal
use Rattle.design_trace.proofs.vcd_lines.Line.time.Goals.{then-cycle-cycles, else-cycle-cycles}

pub returns-clause-line : goal.returns-clause-line
returns-clause-line g c = c.plain.ensures.line (g.V.Waveform.rows c.args.waveform.now)

pub returns-clause-text : goal.returns-clause-text
returns-clause-text g c =
    let d = c.args.design.now in
    let rows = g.V.Waveform.rows c.args.waveform.now in
    let k = c.args.cycle in
    let line = c.plain.ensures.text rows ∙ c.time_line.ensures.text in
    elim c.if-cycle-cycles.branch [
      | then-cycle-cycles w ↦
          let lt : c.args.cycle < length (g.V.Waveform.rows c.args.waveform.now) = omega (arith, w.if-cycle-cycles.true, c.cycles.ensures) in
          line_then d rows _ (time_line k) (changes_text d rows k 0 0) _ _ line (c.plain.ensures.next ∙ w.next-is) (w.change_place-next.ensures.text rows) ∙ cycle_text d rows k lt
      | else-cycle-cycles w ↦
          let ge : length (g.V.Waveform.rows c.args.waveform.now) ≤ c.args.cycle = omega (arith, w.if-cycle-cycles.false, c.cycles.ensures) in
          line_then d rows _ (time_line k) [] _ End line (c.plain.ensures.next ∙ w.next-is) refl ∙ last_text d rows k c.requires ge
    ]
