use Rattle.cert_judge.proofs.KindCerts.{followed_found}
use Rattle.cert_judge.proofs.certs.certificates_are_found_before_more.Goals as goal

pub returns : goal.returns
returns c = followed_found
