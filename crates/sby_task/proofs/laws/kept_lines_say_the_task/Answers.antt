use Rattle.sby_task.proofs.Said.{name_said, mode_said, timeout_said, expect_said, wait_said, engines_said}
use Rattle.sby_task.proofs.CyclesSaid.{span_said}
use Rattle.sby_task.proofs.laws.kept_lines_say_the_task.Goals as goal

pub returns-clause-mode : goal.returns-clause-mode
returns-clause-mode c = mode_said

pub returns-clause-span : goal.returns-clause-span
returns-clause-span c = span_said

pub returns-clause-timeout : goal.returns-clause-timeout
returns-clause-timeout c = timeout_said

pub returns-clause-expect : goal.returns-clause-expect
returns-clause-expect c = expect_said

pub returns-clause-wait : goal.returns-clause-wait
returns-clause-wait c = wait_said

pub returns-clause-engines : goal.returns-clause-engines
returns-clause-engines c = engines_said

pub returns-clause-name : goal.returns-clause-name
returns-clause-name c = name_said
