use Rattle.std.proofs.Common.{◌≡◌, [], ◌<◌, ◌≤◌, List, length, take, set, arith, rules, subst, sym, ap, ◌∙◌}
use Rattle.cnf_form.specs.Cnf.{index_of}
use Rattle.unit_propagation.specs.declared.watch.Watch.{Watch}
use Rattle.unit_propagation.specs.Watch.{slots_of, rows_of, row}
use Rattle.unit_propagation.specs.Visit.{State, IsVisited, IsPending, Walks}
use Rattle.unit_propagation.proofs.Walks.{visited_start, pending_start, walks_end, end_from_stop, take_front}
use Rattle.unit_propagation.proofs.Rows.{row_room}
use Rattle.unit_propagation.proofs.walk.visit_long.Goals as goal

pub returns-clause-step : goal.returns-clause-step
returns-clause-step c = λ p pairs filed kept dealt blocked.
    let f = c.args.falsified in
    let slots = slots_of c.args.store.now.lits.items c.args.store.now.heads.items in
    let s : State = record { heads = c.args.store.now.heads.items; rows = rows_of c.args.lists.now.vars c.args.lists.now.lists.items; trail = c.args.trail.now.lits } in
    let mid : State = record { heads = c.args.store.now.heads.items; rows = rows_of c.take-list.new.self.vars c.take-list.new.self.lists.items; trail = c.args.trail.now.lits } in
    let new : State = record { heads = c.visit_list-kept.new.store.heads.items; rows = rows_of c.visit_list-kept.new.lists.vars c.visit_list-kept.new.lists.lists.items; trail = c.visit_list-kept.new.trail.lits } in
    let t = c.take-list.ensures in
    let e = c.visit_list-kept.ensures in
    let same : mid ≡ record s { rows = set s.rows (index_of f) [] } = ap (λ (r : List (List Watch)). let z : State = record s { rows = r } in z) t.rows in
    let list : c.deref_mut.result.now ≡ row s.rows f = search rules in
    let v₀ : IsVisited slots mid mid f c.deref_mut.result.now 0 0 = rw (same, list) (visited_start slots pairs p f s filed kept dealt) in
    let q₀ : IsPending p f slots mid c.deref_mut.result.now 0 = rw (same, list) (pending_start slots pairs p f s filed kept dealt blocked) in
    let x = e.step p v₀ q₀ in
    let v = subst (λ z. IsVisited slots z new f c.visit_list-kept.new.list c.visit_list-kept.result.kept (length c.deref_mut.result.now)) same x.0 in
    let size : length c.deref_mut.result.now ≡ length c.visit_list-kept.new.list = search rules in
    let wide : index_of f < length new.rows = row_room c.visit_list-kept.new.lists.vars c.visit_list-kept.new.lists.lists.items f (search rules) in
    let v₁ = subst (IsVisited slots (record s { rows = set s.rows (index_of f) [] }) new f c.visit_list-kept.new.list c.visit_list-kept.result.kept) size v in
    let room : c.visit_list-kept.result.kept ≤ length c.visit_list-kept.new.list = search rules in
    let u = c.truncate.ensures in
    let stored = c.set_list.ensures in
    let cut : c.truncate.new.self.items ≡ take c.visit_list-kept.result.kept c.visit_list-kept.new.list = u.items ∙ take_front c.visit_list-kept.result.kept _ c.visit_list-kept.new.list _ (search rules) in
    let rows : rows_of c.set_list.new.self.vars c.set_list.new.self.lists.items ≡ set new.rows (index_of f) (take c.visit_list-kept.result.kept c.visit_list-kept.new.list) = stored.rows ∙ ap (set new.rows (index_of f)) cut in
    let last : State = record { heads = new.heads; rows = rows_of c.set_list.new.self.vars c.set_list.new.self.lists.items; trail = new.trail } in
    let end : last ≡ record new { rows = set new.rows (index_of f) (take c.visit_list-kept.result.kept c.visit_list-kept.new.list) } = ap (λ (r : List (List Watch)). let z : State = record new { rows = r } in z) rows in (
      subst (Walks slots pairs s) (sym end) (walks_end slots pairs p f s filed kept dealt new c.visit_list-kept.new.list c.visit_list-kept.result.kept wide room v₁),
      end_from_stop p f slots new (rows_of c.set_list.new.self.vars c.set_list.new.self.lists.items) c.visit_list-kept.new.list (length c.deref_mut.result.now) c.visit_list-kept.result.stop (omega (arith, size)) x.1,
    )
