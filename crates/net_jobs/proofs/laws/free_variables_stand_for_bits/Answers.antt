use Rattle.std.proofs.Common.{arith}
use Rattle.net_jobs.specs.Jobs.{cycles_of, job_encoding}
use Rattle.net_jobs.proofs.Choosing.{many_rows}
use Rattle.net_jobs.proofs.Telling.{free_at, none_at, stands, starts_at}
use Rattle.net_jobs.proofs.laws.free_variables_stand_for_bits.Goals as goal

pub returns-clause-bits : goal.returns-clause-bits
returns-clause-bits c = λ m n job span is served of few f d. stands m n is served of job span few f d

pub returns-clause-values : goal.returns-clause-values
returns-clause-values c = λ m n job span is served of few other x cs plays f p d stands l.
    let many = many_rows m n (cycles_of job span) (job_encoding n job span) x in
    free_at m n is served of job span few (starts_at m n is served of job span other) x cs plays f p d stands (omega arith)

pub returns-clause-rest : goal.returns-clause-rest
returns-clause-rest c = λ m n job span is served of few other x cs plays t v p stands l none.
    let many = many_rows m n (cycles_of job span) (job_encoding n job span) x in
    none_at m n is served of job span few (starts_at m n is served of job span other) x cs plays t v p stands (omega arith) none
