use Rattle.std.proofs.Common.{◌≡◌, ◌≤◌, ◌++◌, false, length, map}
use Rattle.std.specs.Prelude.{vec_capacity}
use Rattle.std.specs.Vec.Iter.{into_iter_items, into_iter_len}
use Rattle.lane_run.proofs.prepare.give_bays.Given as goal

abbrev pub invariant-loop-lane : goal.invariant-loop-lane
invariant-loop-lane g l = record {
  order : l.yielded ++ into_iter_items l.lane-iterator ≡ into_iter_items l.initial.lane-iterator;
  prepared : into_iter_len l.lane-iterator ≡ length (into_iter_items l.lane-iterator);
  left : into_iter_len l.left ≡ length (into_iter_items l.left);
  same : length (into_iter_items l.lane-iterator) ≡ length (into_iter_items l.left);
  bays : map (λ x. x.bay.bay) l.lanes.items ++ into_iter_items l.left ≡ l.fn.bays.items;
  reports : map (λ x. x.report) l.lanes.items ≡ map (λ x. x.report) l.yielded;
  notes : map (λ x. x.notes) l.lanes.items ≡ map (λ x. x.notes) l.yielded;
  pools : map (λ x. x.bay.pool) l.lanes.items ≡ map (λ _. l.fn.allowance) l.yielded;
  away : map (λ x. x.bay.holds) l.lanes.items ≡ map (λ _. false) l.yielded;
  none : map (λ x. x.bay.stands) l.lanes.items ≡ map (λ _. false) l.yielded;
  allowance : l.allowance ≡ l.fn.allowance;
  lanes : length l.lanes.items ≡ length l.yielded;
  room : length l.fn.prepared.items ≤ vec_capacity l.lanes;
}
