use Rattle.std.proofs.Common.{sym}
use Rattle.btor_text.proofs.Finding.{above_last}
use Rattle.btor_text.proofs.reading.is_above.Goals as goal

pub returns-in-Some : goal.returns-in-Some
returns-in-Some c = above_last c.args.model.now c.promise.ensures c.in-Some.line.now c.args.nid (rw c.lines.ensures at (sym c.in-Some.ensures.value))
