use Rattle.std.proofs.Common.{◌∙◌, ap, subst}
use Rattle.std.specs.Prelude.{IsTrue}
use Rattle.hint_chain.specs.Ids.{IdsOf}
use Rattle.hint_chain.specs.Kept.{kept}
use Rattle.hint_chain.proofs.Naming.{named_collect}
use Rattle.hint_chain.proofs.ids.Ids.collect.Goals as goal

pub returns-in_ok-self-inside-clause-named : goal.returns-in_ok-self-inside-clause-named
returns-in_ok-self-inside-clause-named c live zs w t =
    let v = c.self.view_is in
    let wanted : IsTrue c.args.self.now.wanted = subst (λ (i : IdsOf). IsTrue i.wanted) v t in
    named_collect live c.args.core.now.slots zs c.args.self.now (w wanted) _ (ap (λ (i : IdsOf). i.last) v) (ap (λ (i : IdsOf). i.facts) v)
    (c.in_ok-self-inside.ensures ∙ ap (λ z. kept z 0 c.args.core.now.slots) (c.deref.ensures.value ∙ ap (λ (i : IdsOf). i.watched) v)) (ap (λ (i : IdsOf). i.frozen) v)
