use Rattle.std.proofs.Common.{◌∷◌, [], ◌++◌, refl, ◌∙◌, ap, subst}
use Rattle.std.specs.Prelude.{IsTrue}
use Rattle.hint_chain.specs.Ids.{IdsOf}
use Rattle.hint_chain.proofs.Naming.{named_push}
use Rattle.hint_chain.proofs.ids.Ids.push.Goals as goal

pub returns-in_ok-push-clause-named : goal.returns-in_ok-push-clause-named
returns-in_ok-push-clause-named c live slots zs cl h w t =
    let v = c.self.view_is in
    let wanted : IsTrue c.args.self.now.wanted = subst (λ (i : IdsOf). IsTrue i.wanted) v t in
    named_push live slots zs c.args.self.now (w wanted) _ c.args.id cl (h wanted) refl (c.in_ok-push.ensures.items ∙ ap (λ (i : IdsOf). i.watched ++ c.args.id ∷ []) v) (ap (λ (i : IdsOf). i.frozen) v) (ap (λ (i : IdsOf). i.facts) v)
