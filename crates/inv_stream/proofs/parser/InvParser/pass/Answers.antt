use Rattle.std.proofs.Common.{subst, refl}
use Rattle.inv_stream.specs.Machine.{InvOf, passes}
use Rattle.inv_stream.specs.Taking.{IsTaken}
use Rattle.inv_stream.proofs.Taking.{passed}
use Rattle.inv_stream.proofs.parser.InvParser.pass.Goals as goal

pub returns-clause-taken : goal.returns-clause-taken
returns-clause-taken g c =
    let i = c.self.inside in
    let w : InvOf = record { parser = i.parser; part = i.part; line = i.line; place = i.place } in
    let v : InvOf = record { parser = c.feed.new.self; part = c.self.inside.part; line = c.args.line; place = c.self.inside.place } in
    subst
    (λ (w : InvOf). IsTaken g.R.Receiver.gets g.R.InvReceiver.parts g.R.Receiver.stops (passes w c.args.bytes.now c.args.line) c.args.receiver.now c.feed.new.receiver
    (record { parser = c.feed.new.self; part = c.self.inside.part; line = c.args.line; place = c.self.inside.place }) c.is_stopped.result)
    c.self.view_is
    (passed g.R.Receiver.gets g.R.InvReceiver.parts g.R.Receiver.stops w v c.args.bytes.now c.args.line c.args.receiver.now c.feed.new.receiver c.feed.new.self _ c.is_stopped.result
    c.in_ok-fed.ensures.told c.is_stopped.ensures c.in_ok-fed.ensures.kept refl)
