use Rattle.std.proofs.Common.{◌∙◌, refl}
use Rattle.design_trace.specs.Changes.{head_end}
use Rattle.design_trace.specs.Coming.{times_text}
use Rattle.design_trace.specs.declared.vcd_lines.Place.TheVariants.{Time}
use Rattle.design_trace.proofs.Coming.{line_then}
use Rattle.design_trace.proofs.vcd_lines.Line.head_end.Goals as goal

pub returns-clause-text : goal.returns-clause-text
returns-clause-text c = λ d rows. line_then d rows _ head_end (times_text d rows 0) _ (Time 0) (c.plain.ensures.text rows ∙ c.of.ensures.text) c.plain.ensures.next refl
