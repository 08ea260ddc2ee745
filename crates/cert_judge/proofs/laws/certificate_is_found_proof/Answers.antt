use Rattle.cert_judge.proofs.FileCertificates.{file_cert_found}
use Rattle.cert_judge.proofs.laws.certificate_is_found_proof.Goals as goal

pub returns : goal.returns
returns c = file_cert_found
