use Rattle.cert_judge.specs.Kinds.{stream_values}
use Rattle.judge.proofs.Streams.{base_cycles, base_run, cover_run}
use Rattle.judge.proofs.Truth.{base-first, cover-first}
use Rattle.judge.proofs.laws.played_run_ends_at_first_goal.Goals as goal

pub returns-clause-base : goal.returns-clause-base
returns-clause-base c = λ p i kind ended bytes most run h s. base_run p h i kind ended bytes most run s

pub returns-clause-slice : goal.returns-clause-slice
returns-clause-slice c = λ p i kind ended bytes most run h s. base_cycles p h i kind ended bytes most run s

pub returns-clause-first : goal.returns-clause-first
returns-clause-first c = λ p i kind ended bytes most run h s. base-first p h s.0 (stream_values kind s.0.formula.vars ended bytes most) run s.2 i s.1

pub returns-clause-cover : goal.returns-clause-cover
returns-clause-cover c = λ p k kind ended bytes most run h s. cover_run p h k kind ended bytes most run s

pub returns-clause-first_reach : goal.returns-clause-first_reach
returns-clause-first_reach c = λ p k kind ended bytes most run h s. cover-first p h s.0 (stream_values kind s.0.formula.vars ended bytes most) run s.2 k s.1
