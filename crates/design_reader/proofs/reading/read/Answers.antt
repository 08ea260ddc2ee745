use Rattle.design_reader.proofs.ReadLemmas.{ok_then, answers_only, answers_fault}
use Rattle.design_reader.proofs.reading.read.Goals as goal

pub returns-clause-only : goal.returns-clause-only
returns-clause-only c = ok_then c.design.result _ _ (λ answer h. answers_only c.args.bytes.now answer h) c.design.ensures

pub returns-clause-fault : goal.returns-clause-fault
returns-clause-fault c = ok_then c.design.result _ _ (λ answer h. answers_fault c.args.bytes.now answer h) c.design.ensures
