use Rattle.std.proofs.Common.{[]}
use Rattle.inv_fate.proofs.Finding.{head_found}
use Rattle.inv_fate.proofs.laws.found_is_a_certificate.Goals as goal

pub returns : goal.returns
returns c p ss h = head_found p [] ss h
