use Rattle.std.proofs.Common.{◌∙◌, ap, set, subst, sym}
use Rattle.std.specs.Prelude.{None}
use Rattle.std.proofs.lemmas.List.{map-set}
use Rattle.frozen_clauses.specs.Frozen.{FrozenOf}
use Rattle.frozen_clauses.specs.Inside.{slot_of, rows_of, IsFrozen}
use Rattle.frozen_clauses.proofs.Filing.{frozen_less}
use Rattle.frozen_clauses.proofs.frozen.Frozen.remove_clause.Goals as goal

pub invariant_of-self : goal.invariant_of-self
invariant_of-self c =
    let f = c.self.inside in
    subst (λ s. IsFrozen f.vars s (rows_of f.lists.items) f.marks.items) (sym (map-set slot_of f.clauses.items c.args.k None)) (frozen_less _ _ _ _ c.self.invariant c.args.k)

pub returns : goal.returns
returns c =
    let f = c.self.inside in
    ap (λ s. let z : FrozenOf = record { vars = f.vars; slots = s } in z) (map-set slot_of f.clauses.items c.args.k None)
    ∙ ap (λ (z : FrozenOf). let y : FrozenOf = record z { slots = set z.slots c.args.k None } in y) c.self.view_is
