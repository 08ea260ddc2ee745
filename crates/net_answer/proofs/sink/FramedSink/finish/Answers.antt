use Rattle.std.proofs.Common.{◌≡◌, ap, subst, rules}
use Rattle.std.specs.Prelude.{OnOk}
use Rattle.net_answer.specs.Sent.{Ends}
use Rattle.net_answer.proofs.Sinks.{ends_told}
use Rattle.net_answer.proofs.sink.FramedSink.finish.Goals as goal

pub returns-clause-whole : goal.returns-clause-whole
returns-clause-whole g c =
    let i = c.self.invariant in
    let s = c.send_end-answer.ensures in
    let is : c.deref.result.now ≡ c.self.inside.body.items = search rules in
    ends_told _ _ c.send_end-answer.result (g.L.Link.written c.self.inside.link) (g.L.Link.written c.send_end-answer.new.link) c.args.self.told c.self.inside.body.items c.self.inside.sent i.0 i.2 (ap (λ v. v.told) c.self.view_is)
    (subst (λ b. OnOk c.send_end-answer.result (Ends (g.L.Link.written c.self.inside.link) (g.L.Link.written c.send_end-answer.new.link) b c.self.inside.sent)) is s.ends)
