use Rattle.std.proofs.Common.{IfOk, subst, sym}
use Rattle.cert_judge.specs.Lines.{Took}
use Rattle.cert_judge.specs.declared.lines.Lines.{Lines}
use Rattle.cert_judge.specs.declared.lines.Lines.TheVariants.{Drup, Lrat, Proof, ProofBinary}
use Rattle.cert_judge.proofs.Pieces.{if_ok}
use Rattle.cert_judge.proofs.Taking.{binary_took, drup_took, lrat_took, proof_took}
use Rattle.cert_judge.proofs.lines.Lines.take.Goals as goal

pub returns-in-Drup-clause-took : goal.returns-in-Drup-clause-took
returns-in-Drup-clause-took g c =
    subst (λ (l : Lines _). IfOk c.take_drup.result (λ x. Took l c.args.piece.now (Drup c.take_drup.new.line))) (sym c.in-Drup.is)
    (if_ok _ _ c.take_drup.result (λ x h. drup_took _ c.in-Drup.line c.take_drup.new.line c.args.piece.now h) c.take_drup.ensures.heard)

pub returns-in-Lrat-clause-took : goal.returns-in-Lrat-clause-took
returns-in-Lrat-clause-took g c =
    subst (λ (l : Lines _). IfOk c.take_lrat.result (λ x. Took l c.args.piece.now (Lrat c.take_lrat.new.line))) (sym c.in-Lrat.is)
    (if_ok _ _ c.take_lrat.result (λ x h. lrat_took _ c.in-Lrat.line c.take_lrat.new.line c.args.piece.now h) c.take_lrat.ensures.heard)

pub returns-in-Proof-clause-took : goal.returns-in-Proof-clause-took
returns-in-Proof-clause-took g c =
    subst (λ (l : Lines _). IfOk c.take_file.result (λ x. Took l c.args.piece.now (Proof c.take_file.new.line))) (sym c.in-Proof.is)
    (if_ok _ _ c.take_file.result (λ x h. proof_took _ c.in-Proof.line c.take_file.new.line c.args.piece.now h) c.take_file.ensures.heard)

pub returns-in-ProofBinary-clause-took : goal.returns-in-ProofBinary-clause-took
returns-in-ProofBinary-clause-took g c =
    subst (λ (l : Lines _). IfOk c.take_file-in-ProofBinary.result (λ x. Took l c.args.piece.now (ProofBinary c.take_file-in-ProofBinary.new.line))) (sym c.in-ProofBinary.is)
    (if_ok _ _ c.take_file-in-ProofBinary.result (λ x h. binary_took _ c.in-ProofBinary.line c.take_file-in-ProofBinary.new.line c.args.piece.now h) c.take_file-in-ProofBinary.ensures.heard)
