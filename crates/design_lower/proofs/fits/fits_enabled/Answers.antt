use Rattle.design_lower.proofs.Fitting.{has-reset}
use Rattle.design_lower.proofs.Lines.{enabled-fits, enabled-line, fits-enabling}
use Rattle.design_lower.proofs.fits.fits_enabled.Goals as goal

pub returns-then-has_line : goal.returns-then-has_line
returns-then-has_line c =
    let s = c.in-Some.ensures.some in
    let line = c.has_line.ensures.0 c.if-has_line.true in (
      λ h. enabled-fits c.args.cell.now c.in-Some.width s.1 s.0 c.requires line (c.has_enabling.ensures.0 h),
      λ f. c.has_enabling.ensures.1 (fits-enabling c.args.cell.now c.requires f),
    )

pub returns-else-has_line : goal.returns-else-has_line
returns-else-has_line c =
    let s = c.in-Some.ensures.some in (
      λ h. absurd cc,
      λ f. c.has_line.ensures.1 (enabled-line c.args.cell.now c.in-Some.width s.1 s.0 c.requires f),
    )

pub returns-in-None : goal.returns-in-None
returns-in-None c = (λ h. absurd cc, λ f. absurd (c.in-None.ensures.none (has-reset c.args.cell.now f)))
