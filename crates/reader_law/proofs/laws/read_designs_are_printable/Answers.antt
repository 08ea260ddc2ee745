use Rattle.reader_law.proofs.Printable.{read_printable}
use Rattle.reader_law.proofs.laws.read_designs_are_printable.Goals as goal

pub returns : goal.returns
returns c = read_printable
