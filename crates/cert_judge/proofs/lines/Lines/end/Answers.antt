use Rattle.std.proofs.Common.{IfOk, subst, sym}
use Rattle.cert_judge.specs.Lines.{TookEnd}
use Rattle.cert_judge.specs.declared.lines.Lines.{Lines}
use Rattle.cert_judge.specs.declared.lines.Lines.TheVariants.{Drup, Lrat, Proof, ProofBinary}
use Rattle.cert_judge.proofs.Pieces.{if_ok}
use Rattle.cert_judge.proofs.FileEnd.{binary_took_end, proof_took_end}
use Rattle.cert_judge.proofs.Taking.{drup_took_end, lrat_took_end}
use Rattle.cert_judge.proofs.lines.Lines.end.Goals as goal

pub returns-in-Drup-clause-took : goal.returns-in-Drup-clause-took
returns-in-Drup-clause-took g c =
    subst (λ (l : Lines _). IfOk c.end_drup.result (λ x. TookEnd l (Drup c.end_drup.new.line))) (sym c.in-Drup.is)
    (if_ok _ _ c.end_drup.result (λ x h. drup_took_end _ c.in-Drup.line c.end_drup.new.line h) c.end_drup.ensures.leads)

pub returns-in-Lrat-clause-took : goal.returns-in-Lrat-clause-took
returns-in-Lrat-clause-took g c =
    subst (λ (l : Lines _). IfOk c.end_lrat.result (λ x. TookEnd l (Lrat c.end_lrat.new.line))) (sym c.in-Lrat.is)
    (if_ok _ _ c.end_lrat.result (λ x h. lrat_took_end _ c.in-Lrat.line c.end_lrat.new.line h) c.end_lrat.ensures.leads)

pub returns-in-Proof-clause-took : goal.returns-in-Proof-clause-took
returns-in-Proof-clause-took g c =
    subst (λ (l : Lines _). IfOk c.end_file.result (λ x. TookEnd l (Proof c.end_file.new.line))) (sym c.in-Proof.is)
    (if_ok _ _ c.end_file.result (λ x h. proof_took_end _ c.in-Proof.line c.end_file.new.line h) c.end_file.ensures.ended)

pub returns-in-ProofBinary-clause-took : goal.returns-in-ProofBinary-clause-took
returns-in-ProofBinary-clause-took g c =
    subst (λ (l : Lines _). IfOk c.end_file-in-ProofBinary.result (λ x. TookEnd l (ProofBinary c.end_file-in-ProofBinary.new.line))) (sym c.in-ProofBinary.is)
    (if_ok _ _ c.end_file-in-ProofBinary.result (λ x h. binary_took_end _ c.in-ProofBinary.line c.end_file-in-ProofBinary.new.line h) c.end_file-in-ProofBinary.ensures.ended)
