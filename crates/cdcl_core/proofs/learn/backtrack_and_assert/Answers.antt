use Rattle.std.proofs.Common.{◌≡◌, get_or, take, arith, sym, ap, subst, List}
use Rattle.std.specs.Prelude.{Contains, Some, slice_get}
use Rattle.cnf_form.specs.Cnf.{LitOf, negate, ClauseWithin}
use Rattle.unit_propagation.specs.Propagation.{IsUnassigned, IsFalsifiedBut}
use Rattle.unit_propagation.specs.Propagator.{PropagatorOf, clauses_of, IsAdded}
use Rattle.cdcl_core.specs.Levels.{base_of}
use Rattle.cdcl_core.proofs.Marks.{of_prefix}
use Rattle.cdcl_core.proofs.Justified.{justified_added, justified_undone}
use Rattle.cdcl_core.proofs.Backjumps.{level_room, still_open, still_unit, on_level}
use Rattle.cdcl_core.proofs.learn.backtrack_and_assert.Goals as goal

pub place-place-requires-clause-on : goal.place-place-requires-clause-on
place-place-requires-clause-on c =
    let core = c.args.core.now in
    let l = c.requires.learnt in
    let s = c.requires.last in
    rw c.negate.ensures (of_prefix core.trail (base_of core) (negate c.args.second) (l.others c.args.second s.contains (λ q. s.two (sym q))))

pub limit-requires : goal.limit-requires
limit-requires c =
    let core = c.args.core.now in
    let cl = c.args.clause.now in
    let s = c.args.second in
    let r = c.requires in
    let f = c.levels_are_complete.ensures in
    let p = c.place-place.ensures in
    let v = c.level_of-level.ensures in
    let place = c.place-place.result in
    let level = c.level_of-level.result in
    let at : slice_get core.trail place ≡ Some (negate s) = subst (λ z. slice_get core.trail place ≡ Some z) c.negate.ensures p.at in
    let before : Contains (take place core.trail) (negate s) → ⊥ = subst (λ z. Contains (take place core.trail) z → ⊥) c.negate.ensures p.first in
    level_room core cl c.args.first r.learnt f.consistent s r.last place level at p.within before v.within v.below r.levels

pub backtrack-requires : goal.backtrack-requires
backtrack-requires c =
    let core = c.args.core.now in
    let cl = c.args.clause.now in
    let s = c.args.second in
    let r = c.requires in
    let f = c.levels_are_complete.ensures in
    let p = c.place-place.ensures in
    let v = c.level_of-level.ensures in
    let place = c.place-place.result in
    let level = c.level_of-level.result in
    let at : slice_get core.trail place ≡ Some (negate s) = subst (λ z. slice_get core.trail place ≡ Some z) c.negate.ensures p.at in
    let before : Contains (take place core.trail) (negate s) → ⊥ = subst (λ z. Contains (take place core.trail) z → ⊥) c.negate.ensures p.first in
    level_room core cl c.args.first r.learnt f.consistent s r.last place level at p.within before v.within v.below r.levels

pub assert_clause-requires-clause-opened : goal.assert_clause-requires-clause-opened
assert_clause-requires-clause-opened c =
    let core = c.args.core.now in
    let cl = c.args.clause.now in
    let s = c.args.second in
    let r = c.requires in
    let f = c.levels_are_complete.ensures in
    let p = c.place-place.ensures in
    let v = c.level_of-level.ensures in
    let place = c.place-place.result in
    let level = c.level_of-level.result in
    let at : slice_get core.trail place ≡ Some (negate s) = subst (λ z. slice_get core.trail place ≡ Some z) c.negate.ensures p.at in
    let before : Contains (take place core.trail) (negate s) → ⊥ = subst (λ z. Contains (take place core.trail) z → ⊥) c.negate.ensures p.first in
    let lim = get_or core.limits level 0 in
    let trail : c.backtrack.new.self.trail ≡ take lim core.trail = ap (λ (z : PropagatorOf). z.trail) c.backtrack.ensures in
    let limits : c.backtrack.new.self.limits ≡ take level core.limits = ap (λ (z : PropagatorOf). z.limits) c.backtrack.ensures in
    subst (λ z. IsUnassigned z c.args.first) (sym trail) (still_open core cl c.args.first r.learnt f.consistent s r.last place level at p.within before v.within v.below r.levels f.rising)

pub assert_clause-requires-clause-unit : goal.assert_clause-requires-clause-unit
assert_clause-requires-clause-unit c =
    let core = c.args.core.now in
    let cl = c.args.clause.now in
    let s = c.args.second in
    let r = c.requires in
    let f = c.levels_are_complete.ensures in
    let p = c.place-place.ensures in
    let v = c.level_of-level.ensures in
    let place = c.place-place.result in
    let level = c.level_of-level.result in
    let at : slice_get core.trail place ≡ Some (negate s) = subst (λ z. slice_get core.trail place ≡ Some z) c.negate.ensures p.at in
    let before : Contains (take place core.trail) (negate s) → ⊥ = subst (λ z. Contains (take place core.trail) z → ⊥) c.negate.ensures p.first in
    let lim = get_or core.limits level 0 in
    let trail : c.backtrack.new.self.trail ≡ take lim core.trail = ap (λ (z : PropagatorOf). z.trail) c.backtrack.ensures in
    let limits : c.backtrack.new.self.limits ≡ take level core.limits = ap (λ (z : PropagatorOf). z.limits) c.backtrack.ensures in
    subst (λ z. IsFalsifiedBut z cl c.args.first) (sym trail) (still_unit core cl c.args.first r.learnt f.consistent s r.last place level at p.within before v.within v.below r.levels (v.above level (omega arith) (level_room core cl c.args.first r.learnt f.consistent s r.last place level at p.within before v.within v.below r.levels)))

pub assert_clause-requires-clause-level : goal.assert_clause-requires-clause-level
assert_clause-requires-clause-level c =
    let core = c.args.core.now in
    let cl = c.args.clause.now in
    let s = c.args.second in
    let r = c.requires in
    let f = c.levels_are_complete.ensures in
    let p = c.place-place.ensures in
    let v = c.level_of-level.ensures in
    let place = c.place-place.result in
    let level = c.level_of-level.result in
    let at : slice_get core.trail place ≡ Some (negate s) = subst (λ z. slice_get core.trail place ≡ Some z) c.negate.ensures p.at in
    let before : Contains (take place core.trail) (negate s) → ⊥ = subst (λ z. Contains (take place core.trail) z → ⊥) c.negate.ensures p.first in
    let lim = get_or core.limits level 0 in
    let trail : c.backtrack.new.self.trail ≡ take lim core.trail = ap (λ (z : PropagatorOf). z.trail) c.backtrack.ensures in
    let limits : c.backtrack.new.self.limits ≡ take level core.limits = ap (λ (z : PropagatorOf). z.limits) c.backtrack.ensures in
    λ n k h. on_level core cl c.args.first r.learnt f.consistent s r.last place level at p.within before v.within v.below r.levels lim n (subst (λ z. Contains z n) limits k) (subst (λ z. Contains (take n z) (negate s)) trail h)

pub returns-clause-justified : goal.returns-clause-justified
returns-clause-justified c =
    let core = c.args.core.now in
    let cl = c.args.clause.now in
    let s = c.args.second in
    let r = c.requires in
    let f = c.levels_are_complete.ensures in
    let p = c.place-place.ensures in
    let v = c.level_of-level.ensures in
    let place = c.place-place.result in
    let level = c.level_of-level.result in
    let at : slice_get core.trail place ≡ Some (negate s) = subst (λ z. slice_get core.trail place ≡ Some z) c.negate.ensures p.at in
    let before : Contains (take place core.trail) (negate s) → ⊥ = subst (λ z. Contains (take place core.trail) z → ⊥) c.negate.ensures p.first in
    let q = c.backtrack.new.self in
    let g = c.levels_are_complete-2.ensures in
    let e = c.in_ok-falsified.ensures in
    let added : IsAdded q cl c.assert_clause.new.self = e.ok in
    justified_added q (justified_undone core r.justified f.within q level (level_room core cl c.args.first r.learnt f.consistent s r.last place level at p.within before v.within v.below r.levels) f.rising c.backtrack.ensures) g.within c.assert_clause.new.self cl (ap (λ (z : PropagatorOf). z.conflict) c.backtrack.ensures) added
    (subst (λ z. (d : List LitOf) → Contains (clauses_of c.assert_clause.new.self.slots) d → ClauseWithin z d) added.vars c.clauses_are_within.ensures)
