use Rattle.net_tests.proofs.tests.engine.EchoAnswers.answer.Goals as goal

pub returns-in-Ok-clause-whole : goal.returns-in-Ok-clause-whole
returns-in-Ok-clause-whole g c = (_, tt, c.in-Ok.ensures.taken)
