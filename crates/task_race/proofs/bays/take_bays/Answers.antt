use Rattle.std.proofs.Common.{◌≡◌, ◌∷◌, [], ℕ, List, Option, Some, length, map, inl, inr, refl, ap, subst, ◌∙◌, length-append, arith}
use Rattle.std.specs.Prelude.{slice_get}
use Rattle.sby_edge.specs.Child.{IsLogged, LaneOf, YardOf, new_bay}
use Rattle.task_race.specs.Bays.{BackOf, counts_at, left_all, none_failed}
use Rattle.task_race.proofs.BackLemmas.{unstarted_all}
use Rattle.task_race.proofs.CountLemmas.{all_fresh, same_counts}
use Rattle.task_race.proofs.PlaceLemmas.{contains_at, push_cases}
use Rattle.task_race.proofs.bays.take_bays.Goals as goal

nothing_at : {X : Type 0} (xs : List X) (i : ℕ) (x : X) → xs ≡ [] → slice_get xs i ≡ Some x → ⊥
nothing_at [] i x none at = absurd (cc)
nothing_at (y ∷ ys) i x none at = absurd (cc)

pub loop-lane-init : goal.loop-lane-init
loop-lane-init g c = record {
  told = refl;
  started = refl;
  counts = refl;
  many = ap (λ (l : List g.row.Y-Bay.Denot). length l) c.in_ok-bays.ensures.items;
  room = c.in_ok-bays.ensures.capacity;
  fresh = λ i b at. absurd (nothing_at c.in_ok-bays.bays.items i b c.in_ok-bays.ensures.items at);
}

pub loop-lane-preserved : goal.loop-lane-preserved
loop-lane-preserved g c =
    let inv = c.loop-lane.invariant in
    let bay = c.in-Ok.bay in
    let asked = c.bay.ensures in
    let count = λ (b : g.row.Y-Bay.Denot). counts_at (g.Y.Bay.Launch.start_faults b) (g.Y.Bay.Launch.read_faults b) (g.Y.Bay.Launch.hold_faults b) in
    let before = c.args.yard.now in
    let here : g.Y.Bay.Launch.told bay ≡ new_bay (g.Y.Yard.told before) c.args.task c.loop-lane.lane =
    c.in-Ok.ensures.bay ∙ ap (λ (told : Option YardOf). new_bay told c.args.task c.loop-lane.lane) inv.told in
    let none : count bay ≡ none_failed = same_counts (count bay) none_failed c.in-Ok.ensures.fresh.0 c.in-Ok.ensures.fresh.1 c.in-Ok.ensures.fresh.2 in
    record {
      told = asked.told ∙ inv.told;
      started = asked.started ∙ inv.started;
      counts = same_counts (counts_at (g.Y.Yard.start_faults c.bay.new.self) (g.Y.Yard.read_faults c.bay.new.self) (g.Y.Yard.hold_faults c.bay.new.self))
          (counts_at (g.Y.Yard.start_faults c.loop-lane.yard) (g.Y.Yard.read_faults c.loop-lane.yard) (g.Y.Yard.hold_faults c.loop-lane.yard)) asked.starts asked.reads asked.holds ∙ inv.counts;
      many = omega (arith, ap (λ (l : List g.row.Y-Bay.Denot). length l) c.push_reserved.ensures.items, length-append c.loop-lane.bays.items (bay ∷ []), inv.many);
      room = omega (arith, inv.room, c.push_reserved.ensures.capacity);
      fresh = λ i b at. elim (push_cases c.loop-lane.bays.items bay i b (subst (λ (l : List g.row.Y-Bay.Denot). slice_get l i ≡ Some b) c.push_reserved.ensures.items at)) [
        | inl old ↦ inv.fresh i b old
        | inr new ↦
            let lane : c.loop-lane.lane ≡ i = omega (arith, new.0, inv.many) in
            subst (λ (x : g.row.Y-Bay.Denot). (g.Y.Bay.Launch.told x ≡ new_bay (g.Y.Yard.told before) c.args.task i) × (count x ≡ none_failed)) new.1
            (subst (λ (k : ℕ). g.Y.Bay.Launch.told bay ≡ new_bay (g.Y.Yard.told before) c.args.task k) lane here, none)
      ];
    }

pub returns-in-Err-clause-counts : goal.returns-in-Err-clause-counts
returns-in-Err-clause-counts g c =
    let inv = c.loop-lane.invariant in
    let asked = c.bay.ensures in
    let count = λ (b : g.row.Y-Bay.Denot). counts_at (g.Y.Bay.Launch.start_faults b) (g.Y.Bay.Launch.read_faults b) (g.Y.Bay.Launch.hold_faults b) in
    c.give_back.ensures.counts.stood (all_fresh count c.loop-lane.bays.items (λ lane b at. (inv.fresh lane b at).1))
    ∙ (same_counts (counts_at (g.Y.Yard.start_faults c.bay.new.self) (g.Y.Yard.read_faults c.bay.new.self) (g.Y.Yard.hold_faults c.bay.new.self))
    (counts_at (g.Y.Yard.start_faults c.loop-lane.yard) (g.Y.Yard.read_faults c.loop-lane.yard) (g.Y.Yard.hold_faults c.loop-lane.yard)) asked.starts asked.reads asked.holds ∙ inv.counts)

pub returns-in-Err-clause-none : goal.returns-in-Err-clause-none
returns-in-Err-clause-none g c =
    let inv = c.loop-lane.invariant in
    let asked = c.bay.ensures in
    let back = c.give_back.ensures in
    let count = λ (b : g.row.Y-Bay.Denot). counts_at (g.Y.Bay.Launch.start_faults b) (g.Y.Bay.Launch.read_faults b) (g.Y.Bay.Launch.hold_faults b) in
    let view : g.row.Y-Bay.Denot → BackOf = λ b. record { told = g.Y.Bay.Launch.told b; counts = count b } in
    let bays = c.loop-lane.bays.items in
    record {
      scripts = back.told ∙ (asked.told ∙ inv.told);
      counts = back.counts.stood (all_fresh count bays (λ lane b at. (inv.fresh lane b at).1))
          ∙ (same_counts (counts_at (g.Y.Yard.start_faults c.bay.new.self) (g.Y.Yard.read_faults c.bay.new.self) (g.Y.Yard.hold_faults c.bay.new.self))
          (counts_at (g.Y.Yard.start_faults c.loop-lane.yard) (g.Y.Yard.read_faults c.loop-lane.yard) (g.Y.Yard.hold_faults c.loop-lane.yard)) asked.starts asked.reads asked.holds ∙ inv.counts);
      lanes = left_all (map view bays);
      logged = subst (λ (started : Option (List LaneOf)). IsLogged (left_all (map view bays)) started (g.Y.Yard.started c.give_back.new.yard)) (asked.started ∙ inv.started) back.started;
      unstarted = unstarted_all view (g.Y.Yard.told c.args.yard.now) c.args.task bays (λ b among. (among.0, (inv.fresh among.0 b (contains_at bays b among)).0));
    }

pub returns-clause-started : goal.returns-clause-started
returns-clause-started g c = c.loop-lane.invariant.started
