use Rattle.pdr_run.proofs.Promise.{Texts, failed, kept, left}
use Rattle.pdr_run.proofs.laws.promise_is_kept.Goals as goal

pub returns-clause-answer : goal.returns-clause-answer
returns-clause-answer c = λ before after words exit conflicts file store p did asks told has short is.
    let texts : Texts = record { decided = c.dimacs_faults_are_decided.ensures.formula; dimacs = c.texts_are_dimacs.ensures; one = c.texts_have_one_pair.ensures } in
    kept texts before after words exit conflicts file store p did asks told has short is

pub returns-clause-failed : goal.returns-clause-failed
returns-clause-failed c = λ before after words exit conflicts file store p did asks told has short is.
    let texts : Texts = record { decided = c.dimacs_faults_are_decided.ensures.formula; dimacs = c.texts_are_dimacs.ensures; one = c.texts_have_one_pair.ensures } in
    failed texts before after words exit conflicts file store p did asks told has short is

pub returns-clause-memory : goal.returns-clause-memory
returns-clause-memory c = λ before after words exit conflicts file store p did asks told has short is.
    let texts : Texts = record { decided = c.dimacs_faults_are_decided.ensures.formula; dimacs = c.texts_are_dimacs.ensures; one = c.texts_have_one_pair.ensures } in
    left texts before after words exit conflicts file store p did asks told has short is
