use Rattle.std.proofs.Common.{◌≡◌, ◌∷◌, [], ◌++◌, List, map, length, refl, sym, ap, ◌∙◌, append_assoc, append-nil, subst, arith}
use Rattle.sby_edge.specs.Child.{IsLogged, left_by}
use Rattle.task_race.specs.Bays.{BackOf, CameBack, counts_at, left_all}
use Rattle.task_race.proofs.BackLemmas.{logged_more, none_logged}
use Rattle.task_race.proofs.CountLemmas.{none_back, one_back}
use Rattle.task_race.proofs.bays.give_back.Goals as goal

pub loop-bay-init : goal.loop-bay-init
loop-bay-init g c = record {
  told = refl;
  counts = ([], sym (append-nil c.args.bays.items), none_logged (g.Y.Yard.started c.args.yard.now), none_back (counts_at (g.Y.Yard.start_faults c.args.yard.now) (g.Y.Yard.read_faults c.args.yard.now) (g.Y.Yard.hold_faults c.args.yard.now)));
}

pub loop-bay-preserved : goal.loop-bay-preserved
loop-bay-preserved g c =
    let inv = c.loop-bay.invariant in
    let count = λ (b : g.row.Y-Bay.Denot). counts_at (g.Y.Bay.Launch.start_faults b) (g.Y.Bay.Launch.read_faults b) (g.Y.Bay.Launch.hold_faults b) in
    let bay = c.in-Some.bay in
    let view : g.row.Y-Bay.Denot → BackOf = λ b. record { told = g.Y.Bay.Launch.told b; counts = count b } in
    let back = c.back.ensures in
    record {
      told = back.told ∙ inv.told;
      counts = (
        bay ∷ inv.counts.0,
        inv.counts.1 ∙ (ap (λ (l : List g.row.Y-Bay.Denot). l ++ inv.counts.0) c.in-Some.ensures.items ∙ append_assoc c.pop.new.self.items (bay ∷ []) inv.counts.0),
        logged_more (left_all (map view inv.counts.0)) (left_by (g.Y.Bay.Launch.told bay) (count bay)) (g.Y.Yard.started c.args.yard.now) (g.Y.Yard.started c.loop-bay.yard) (g.Y.Yard.started c.back.new.self) inv.counts.2 back.started,
        one_back (count bay) (map count inv.counts.0)
            (counts_at (g.Y.Yard.start_faults c.args.yard.now) (g.Y.Yard.read_faults c.args.yard.now) (g.Y.Yard.hold_faults c.args.yard.now))
            (counts_at (g.Y.Yard.start_faults c.loop-bay.yard) (g.Y.Yard.read_faults c.loop-bay.yard) (g.Y.Yard.hold_faults c.loop-bay.yard))
            (counts_at (g.Y.Yard.start_faults c.back.new.self) (g.Y.Yard.read_faults c.back.new.self) (g.Y.Yard.hold_faults c.back.new.self)) inv.counts.3
            (record { starts = back.starts; reads = back.reads; holds = back.holds }),
      );
    }

pub returns-clause-told : goal.returns-clause-told
returns-clause-told g c = c.loop-bay.invariant.told

nothing_left : {X : Type 0} (xs : List X) → length xs ≡ 0 → xs ≡ []
nothing_left [] none = refl
nothing_left (x ∷ xs) none = absurd (omega arith)

pub returns-clause-counts : goal.returns-clause-counts
returns-clause-counts g c =
    let inv = c.loop-bay.invariant in
    let count = λ (b : g.row.Y-Bay.Denot). counts_at (g.Y.Bay.Launch.start_faults b) (g.Y.Bay.Launch.read_faults b) (g.Y.Bay.Launch.hold_faults b) in
    let none = rw c.in_default.is at c.pop.ensures.cases in
    let empty : c.loop-bay.left.items ≡ [] = nothing_left c.loop-bay.left.items (omega (arith, none.0, c.loop-bay.left.ok)) in
    let all = inv.counts.1 ∙ ap (λ (l : List g.row.Y-Bay.Denot). l ++ inv.counts.0) empty in
    subst (λ (bays : List g.row.Y-Bay.Denot). CameBack (map count bays)
    (counts_at (g.Y.Yard.start_faults c.args.yard.now) (g.Y.Yard.read_faults c.args.yard.now) (g.Y.Yard.hold_faults c.args.yard.now))
    (counts_at (g.Y.Yard.start_faults c.loop-bay.yard) (g.Y.Yard.read_faults c.loop-bay.yard) (g.Y.Yard.hold_faults c.loop-bay.yard))) (sym all) inv.counts.3

pub returns-clause-started : goal.returns-clause-started
returns-clause-started g c =
    let inv = c.loop-bay.invariant in
    let view : g.row.Y-Bay.Denot → BackOf = λ b. record { told = g.Y.Bay.Launch.told b; counts = counts_at (g.Y.Bay.Launch.start_faults b) (g.Y.Bay.Launch.read_faults b) (g.Y.Bay.Launch.hold_faults b) } in
    let none = rw c.in_default.is at c.pop.ensures.cases in
    let empty : c.loop-bay.left.items ≡ [] = nothing_left c.loop-bay.left.items (omega (arith, none.0, c.loop-bay.left.ok)) in
    let all = inv.counts.1 ∙ ap (λ (l : List g.row.Y-Bay.Denot). l ++ inv.counts.0) empty in
    subst (λ (bays : List g.row.Y-Bay.Denot). IsLogged (left_all (map view bays)) (g.Y.Yard.started c.args.yard.now) (g.Y.Yard.started c.loop-bay.yard)) (sym all) inv.counts.2
