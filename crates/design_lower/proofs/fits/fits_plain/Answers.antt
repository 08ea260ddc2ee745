use Rattle.design_lower.proofs.Fitting.{has-reset}
use Rattle.design_lower.proofs.Lines.{plain-fits}
use Rattle.design_lower.proofs.fits.fits_plain.Goals as goal

pub returns-in-Some : goal.returns-in-Some
returns-in-Some c =
    let s = c.in-Some.ensures.some in
    let line = plain-fits c.args.cell.now c.in-Some.width s.1 s.0 c.requires in
    (λ h. line.0 (c.has_line.ensures.0 h), λ f. c.has_line.ensures.1 (line.1 f))

pub returns-in-None : goal.returns-in-None
returns-in-None c = (λ h. absurd cc, λ f. absurd (c.in-None.ensures.none (has-reset c.args.cell.now f)))
