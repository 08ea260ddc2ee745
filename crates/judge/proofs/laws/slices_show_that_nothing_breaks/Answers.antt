use Rattle.judge.proofs.Slices.{jobs-cover, jobs-within, slice-within, slices-cover, slices-within}
use Rattle.judge.proofs.laws.slices_show_that_nothing_breaks.Goals as goal

pub returns-clause-jobs : goal.returns-clause-jobs
returns-clause-jobs c = λ d span is. (jobs-cover d span is, jobs-within d span is)

pub returns-clause-slices : goal.returns-clause-slices
returns-clause-slices c = λ d span is. (slices-cover d span is, λ none i lt. slices-within d span is none i)

pub returns-clause-within : goal.returns-clause-within
returns-clause-within c = slice-within
