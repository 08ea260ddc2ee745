use Rattle.std.proofs.Common.{length, arith}
use Rattle.design_trace.proofs.Pieces.{cycles_are_texts}
use Rattle.design_trace.proofs.Readings.{cycles_push}
use Rattle.design_trace.proofs.laws.text_is_its_cycles.Goals as goal

pub returns : goal.returns
returns c = record { whole = λ d rows. cycles_are_texts d 0 rows; more = λ d rows row. cycles_push d 0 (length rows) rows row (omega arith) }
