use Rattle.std.proofs.Common.{◌≡◌, take, ap, ◌∙◌}
use Rattle.std.proofs.lemmas.List.{take-append-le}
use Rattle.unit_propagation.specs.Marks.{TrailOf}
use Rattle.unit_propagation.specs.Propagation.{Propagates}
use Rattle.unit_propagation.specs.Propagator.{clauses_of}
use Rattle.unit_propagation.specs.Watch.{slots_of, rows_of}
use Rattle.unit_propagation.specs.Visit.{State, Walks}
use Rattle.unit_propagation.proofs.States.{filed_trail, taken}
use Rattle.unit_propagation.proofs.walk.propagate_from.Goals as goal

pub returns-in-Some-Memory-clause-step : goal.returns-in-Some-Memory-clause-step
returns-in-Some-Memory-clause-step c = λ room filed kept.
    let slots = slots_of c.args.store.now.lits.items c.args.store.now.heads.items in
    let pairs = rows_of c.args.pairs.now.vars c.args.pairs.now.lists.items in
    let old : State = record { heads = c.args.store.now.heads.items; rows = rows_of c.args.lists.now.vars c.args.lists.now.lists.items; trail = c.args.trail.now.lits } in
    let new : State = record { heads = c.propagate.new.store.heads.items; rows = rows_of c.propagate.new.lists.vars c.propagate.new.lists.lists.items; trail = c.propagate.new.trail.lits } in
    let o = c.propagate.ensures in
    let x = o.step filed kept in
    let w : Walks slots pairs old new = x.0 in
    let g : Propagates (clauses_of slots) old.trail new.trail = w.grown in
    let cut : c.cut.new.self.lits ≡ take c.args.base new.trail = ap (λ (t : TrailOf). t.lits) c.cut.ensures in (
      filed_trail slots new pairs c.cut.new.self.lits w.filed,
      cut ∙ ap (take c.args.base) g.grown ∙ take-append-le c.args.base old.trail g.added room,
      λ j d h b inside k. w.below b j d (λ l i. taken old.trail c.args.base l (inside l i)) h k,
    )
