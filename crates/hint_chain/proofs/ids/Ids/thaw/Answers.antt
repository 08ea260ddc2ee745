use Rattle.std.proofs.Common.{◌∷◌, [], ◌++◌, ◌∙◌, ap, subst}
use Rattle.std.specs.Prelude.{IsTrue}
use Rattle.hint_chain.specs.Ids.{IdsOf, id_at}
use Rattle.hint_chain.proofs.Naming.{named_thaw}
use Rattle.hint_chain.proofs.ids.Ids.thaw.Goals as goal

pub returns-in_ok-push-clause-named : goal.returns-in_ok-push-clause-named
returns-in_ok-push-clause-named c live slots zs cl at w t =
    let v = c.self.view_is in
    let wanted : IsTrue c.args.self.now.wanted = subst (λ (i : IdsOf). IsTrue i.wanted) v t in
    named_thaw live slots zs c.args.self.now (w wanted) _ c.args.k cl at (ap (λ (i : IdsOf). i.last) v) (ap (λ (i : IdsOf). i.frozen) v)
    (c.in_ok-push.ensures.items ∙ ap (λ z. c.self.inside.watched.items ++ z ∷ []) c.frozen-id.ensures ∙ ap (λ (i : IdsOf). i.watched ++ id_at c.args.self.now.frozen c.args.k ∷ []) v) (ap (λ (i : IdsOf). i.facts) v)
