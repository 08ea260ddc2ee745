use Rattle.std.proofs.Common.{sym, ◌∙◌, ap, subst}
use Rattle.lrat_check.specs.Table.{IsUpto, held}
use Rattle.lrat_check.specs.Arena.{entries_of}
use Rattle.lrat_check.proofs.Rising.{held_thinned, upto_thinned}
use Rattle.lrat_check.proofs.entries.Table.collect.Goals as goal

pub returns-in-Ok-clause-held : goal.returns-in-Ok-clause-held
returns-in-Ok-clause-held c = λ n.
    let i = c.self.invariant in
    ap (λ z. held z n) (c.drop.view_is ∙ c.in-Ok.ensures) ∙ held_thinned (entries_of c.self.inside.lits.items c.self.inside.slots.items) i.rising n ∙ ap (λ z. held z n) c.self.view_is

pub returns-in-Ok-clause-ids : goal.returns-in-Ok-clause-ids
returns-in-Ok-clause-ids c = λ last up.
    subst (λ z. IsUpto z last) (sym (c.drop.view_is ∙ c.in-Ok.ensures))
    (upto_thinned (entries_of c.self.inside.lits.items c.self.inside.slots.items) last (subst (λ z. IsUpto z last) (sym c.self.view_is) up))

pub returns-in_default-clause-ids : goal.returns-in_default-clause-ids
returns-in_default-clause-ids c = λ last up. subst (λ z. IsUpto z last) (sym c.self.view_is) up
