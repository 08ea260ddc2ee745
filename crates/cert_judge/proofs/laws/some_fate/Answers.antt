use Rattle.cert_judge.proofs.KindFates.{somewhere_at_end, somewhere_so_far}
use Rattle.cert_judge.proofs.laws.some_fate.Goals as goal

pub returns-clause-whole : goal.returns-clause-whole
returns-clause-whole c = λ kind job bytes most f d k. somewhere_at_end kind f most bytes (λ x h. k x (f, d, h))

pub returns-clause-so_far : goal.returns-clause-so_far
returns-clause-so_far c = λ kind job bytes most f d k. somewhere_so_far kind f most bytes (λ x h. k x (f, d, h))
