use Rattle.std.proofs.Common.{◌∙◌, sym}
use Rattle.design_trace.proofs.Lines.{cycles_rows_are_one}
use Rattle.design_trace.proofs.laws.text_has_one_run.Goals as goal

pub returns : goal.returns
returns c d a b bytes p q = cycles_rows_are_one d 0 a b p.fits q.fits (sym p.text ∙ q.text)
