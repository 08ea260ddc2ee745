use Rattle.cert_judge.proofs.DrupHearing.{heard_deletion}
use Rattle.cert_judge.proofs.certificate.CertificateCheckerReceiver.delete.Goals as goal

pub returns-clause-gets : goal.returns-clause-gets
returns-clause-gets g c = λ n. heard_deletion _ _ _ _ _ c.self.view_is n c.delete.new.self c.args.lits.now c.delete.ensures.deleted
