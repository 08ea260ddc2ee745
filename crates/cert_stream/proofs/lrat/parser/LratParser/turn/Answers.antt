use Rattle.std.proofs.Common.{ap, ◌∙◌, subst}
use Rattle.cert_stream.specs.LratMachine.{LratOf, IsModeWithin}
use Rattle.cert_stream.proofs.LratGoing.{read_said}
use Rattle.cert_stream.proofs.lrat.parser.LratParser.turn.Goals as goal

pub returns-clause-vars : goal.returns-clause-vars
returns-clause-vars c =
    let i = subst (λ (w : LratOf). IsModeWithin w.vars w.mode) c.self.view_is c.self.invariant.2 in
    ap (λ (w : LratOf). w.vars) c.self-2.view_is ∙ (read_said c.args.self.now c.read.new.self c.args.b c.in_ok-event.event i c.in_ok-event.ensures.read).0

pub returns-clause-within : goal.returns-clause-within
returns-clause-within c =
    let i = subst (λ (w : LratOf). IsModeWithin w.vars w.mode) c.self.view_is c.self.invariant.2 in
    (read_said c.args.self.now c.read.new.self c.args.b c.in_ok-event.event i c.in_ok-event.ensures.read).1
