use Rattle.std.proofs.Common.{◌≡◌, ◌+◌, [], rules, sym, ap, ◌∙◌, subst, length}
use Rattle.net_link.specs.Frame.{framed}
use Rattle.net_answer.specs.Sent.{HoldsSo, Sends, answered}
use Rattle.net_answer.proofs.Sinks.{sent_all, sent_some, told_all, told_some}
use Rattle.net_answer.proofs.sink.FramedSink.send_piece.Goals as goal

pub invariant_of-self-2 : goal.invariant_of-self-2
invariant_of-self-2 g c =
    let i = c.self.invariant in
    let s = c.in_ok-send.ensures in
    let none : c.clear.new.self.items ≡ [] = search rules in
    let full : length c.self.inside.body.items ≡ 65536 = search rules in
    let is : c.deref.result.now ≡ c.self.inside.body.items = search rules in
    let sends = subst (λ b. Sends (g.L.Link.written c.self.inside.link) (g.L.Link.written c.send.new.link) (framed b) c.self.inside.sent c.send.new.sent) is s.sends in
    let all : c.send.new.sent ≡ 4 + length c.self.inside.body.items = s.all ∙ ap (λ b. 4 + length b) is in
    let on = sent_some (g.L.Link.written c.self.inside.link) (g.L.Link.written c.send.new.link) c.self.inside.body.items c.self.inside.sent c.send.new.sent i.0 full sends in
    let begun = sent_all (g.L.Link.written c.send.new.link) c.self.inside.body.items c.send.new.sent on full all in
    (subst (λ b. HoldsSo (g.L.Link.written c.send.new.link) b 0) (sym none) begun, search rules, search rules, search rules, search rules)

pub returns-clause-told : goal.returns-clause-told
returns-clause-told g c =
    let i = c.self.invariant in
    let s = c.in_ok-send.ensures in
    let none : c.clear.new.self.items ≡ [] = search rules in
    let full : length c.self.inside.body.items ≡ 65536 = search rules in
    let is : c.deref.result.now ≡ c.self.inside.body.items = search rules in
    let sends = subst (λ b. Sends (g.L.Link.written c.self.inside.link) (g.L.Link.written c.send.new.link) (framed b) c.self.inside.sent c.send.new.sent) is s.sends in
    let all : c.send.new.sent ≡ 4 + length c.self.inside.body.items = s.all ∙ ap (λ b. 4 + length b) is in
    let on = sent_some (g.L.Link.written c.self.inside.link) (g.L.Link.written c.send.new.link) c.self.inside.body.items c.self.inside.sent c.send.new.sent i.0 full sends in
    ap (λ b. answered (g.L.Link.written c.send.new.link) b 0) none ∙ told_all (g.L.Link.written c.send.new.link) c.self.inside.body.items c.send.new.sent on full all
    ∙ told_some (g.L.Link.written c.self.inside.link) (g.L.Link.written c.send.new.link) c.self.inside.body.items c.self.inside.sent c.send.new.sent i.0 full sends ∙ ap (λ v. v.told) c.self.view_is
