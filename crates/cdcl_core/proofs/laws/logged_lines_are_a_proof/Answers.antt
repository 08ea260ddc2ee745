use Rattle.cdcl_core.proofs.Solutions.{logged_drup, logged_count, logged_half}
use Rattle.cdcl_core.proofs.laws.logged_lines_are_a_proof.Goals as goal

pub returns-clause-proof : goal.returns-clause-proof
returns-clause-proof c F G lines n d w = logged_drup w

pub returns-clause-added : goal.returns-clause-added
returns-clause-added c F G lines n d w = let h = logged_count w in h.0

pub returns-clause-deleted : goal.returns-clause-deleted
returns-clause-deleted c F G lines n d w = let h = logged_count w in h.1

pub returns-clause-half : goal.returns-clause-half
returns-clause-half c F G lines n d w = logged_half w
