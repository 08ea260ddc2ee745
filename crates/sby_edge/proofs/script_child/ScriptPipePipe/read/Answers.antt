use Rattle.std.proofs.Common.{ap, option_copied, arith}
use Rattle.sby_edge.proofs.ScriptLemmas.{read_all}
use Rattle.sby_edge.proofs.script_child.ScriptPipePipe.read.Goals as goal

pub returns-clause-bytes : goal.returns-clause-bytes
returns-clause-bytes g c =
    let given = c.args.self.now.given in
    let count = c.portion-count.result in
    let stream = c.decide.new.self.stream.now in
    read_all c.args.self.now.place c.decide.new.self.place given c.decide.new.self.given count c.args.self.now.stream.now stream c.copy_from.new.buf c.args.self.now.instead (option_copied c.decide.new.self.instead)
    c.decide.ensures.place c.decide.ensures.given (ap option_copied c.decide.ensures.decided) c.portion-count.ensures.left (c.portion-count.ensures.some (omega arith)) c.copy_from.ensures c.decide.ensures.stream c.args.self.now.undecided
