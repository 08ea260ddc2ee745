use Rattle.cert_judge.proofs.FileCertificates.{file_found_cert}
use Rattle.cert_judge.proofs.laws.found_proof_begins_certificate.Goals as goal

pub returns : goal.returns
returns c = file_found_cert
