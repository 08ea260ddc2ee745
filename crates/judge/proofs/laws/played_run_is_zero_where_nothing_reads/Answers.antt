use Rattle.cert_judge.specs.Kinds.{stream_values}
use Rattle.judge.proofs.Zeros.{input-zero, start-zero}
use Rattle.judge.proofs.laws.played_run_is_zero_where_nothing_reads.Goals as goal

pub returns-clause-inputs : goal.returns-clause-inputs
returns-clause-inputs c = λ p job kind ended bytes most run h s apart t b lt has unread.
    input-zero p h job apart s.0 s.1 (stream_values kind s.0.formula.vars ended bytes most) run s.2 t b lt has unread

pub returns-clause-starts : goal.returns-clause-starts
returns-clause-starts c = λ p job kind ended bytes most run h s apart i k e b cell at free unread.
    start-zero p h job apart s.0 s.1 (stream_values kind s.0.formula.vars ended bytes most) run s.2 i k e b cell at free unread
