use Rattle.std.proofs.Common.{ap, subst, sym, ◌∙◌}
use Rattle.std.specs.Prelude.{IfOk}
use Rattle.inv_stream.specs.Machine.{InvOf, Turn}
use Rattle.inv_stream.specs.Taking.{IsTaken}
use Rattle.inv_stream.proofs.Lining.{turned_line, turned_one}
use Rattle.inv_stream.proofs.parser.InvParser.take.Goals as goal

pub returns-in-Inside-clause-taken : goal.returns-in-Inside-clause-taken
returns-in-Inside-clause-taken g c =
    subst (λ (t : Turn). IfOk c.read.result (λ stopped. IsTaken g.R.Receiver.gets g.R.InvReceiver.parts g.R.Receiver.stops t c.args.receiver.now c.read.new.receiver c.read.new.self stopped))
    (turned_line c.args.self.now c.args.bytes.now _ (ap (λ (w : InvOf). w.line) (sym c.self.view_is) ∙ c.in-Inside.is) c.requires.chunk) c.read.ensures.taken

pub returns-in_default-clause-taken : goal.returns-in_default-clause-taken
returns-in_default-clause-taken g c =
    subst (λ (t : Turn). IfOk c.turn.result (λ stopped. IsTaken g.R.Receiver.gets g.R.InvReceiver.parts g.R.Receiver.stops t c.args.receiver.now c.turn.new.receiver c.turn.new.self stopped))
    (turned_one c.args.self.now c.args.bytes.now _ (λ e. c.in_default.not-Inside (ap (λ (w : InvOf). w.line) c.self.view_is ∙ e)) c.requires.chunk) c.turn.ensures.taken
