use Rattle.std.proofs.Common.{◌≡◌, ◌⊎◌, ◌<◌, length, set, refl, ap, subst}
use Rattle.std.specs.Prelude.{IsTrue}
use Rattle.cnf_form.specs.Cnf.{index_of}
use Rattle.hint_chain.specs.Ids.{IdsOf}
use Rattle.hint_chain.proofs.Naming.{named_fact}
use Rattle.hint_chain.proofs.ids.Ids.set_fact.Goals as goal

pub returns-then-self-clause-named : goal.returns-then-self-clause-named
returns-then-self-clause-named c live slots zs h w t =
    let v = c.self.view_is in
    let wanted : IsTrue c.args.self.now.wanted = subst (λ (i : IdsOf). IsTrue i.wanted) v t in
    let new = c.set_at.new.ids.items in
    let put : (new ≡ c.args.self.now.facts) ⊎ ((index_of c.args.l < length c.args.self.now.facts) × (new ≡ set c.args.self.now.facts (index_of c.args.l) c.args.id)) =
    subst (λ (i : IdsOf). (new ≡ i.facts) ⊎ ((index_of c.args.l < length i.facts) × (new ≡ set i.facts (index_of c.args.l) c.args.id))) v
    (subst (λ z. (new ≡ c.self.inside.facts.items) ⊎ ((z < length c.self.inside.facts.items) × (new ≡ set c.self.inside.facts.items z c.args.id))) c.index.ensures c.set_at.ensures) in
    named_fact live slots zs c.args.self.now (w wanted) _ c.args.id c.args.l (h wanted) refl (ap (λ (i : IdsOf). i.watched) v) (ap (λ (i : IdsOf). i.frozen) v) put
