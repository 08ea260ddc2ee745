use Rattle.std.proofs.Common.{◌≡◌, ◌∷◌, [], ◌++◌, All, List, length, map, sym, ap, subst, ◌∙◌, append_assoc, append-nil, arith}
use Rattle.std.specs.Vec.Iter.{into_iter_items}
use Rattle.lane_berth.specs.Berths.{IsIdle}
use Rattle.lane_run.specs.Keeping.{Remember}
use Rattle.lane_run.specs.declared.racing.Lane.{Lane}
use Rattle.lane_run.proofs.Joins.{all_more, all_there, map_more, nothing_left, remember_both}
use Rattle.lane_run.proofs.gather.gather.Goals as goal

pub loop-lane-preserved : goal.loop-lane-preserved
loop-lane-preserved g c =
    let at = c.loop-lane in
    let inv = at.invariant in
    let x = c.in-Some.lane in
    let e = c.take_in.ensures in
    let steps : into_iter_items at.left ≡ x ∷ into_iter_items c.next.new.self = c.in-Some.ensures.cases.0 in
    record {
      taken = inv.taken ++ x ∷ [];
      order = append_assoc inv.taken (x ∷ []) _ ∙ rw (← steps) inv.order;
      left = let was = inv.left in let gone = c.in-Some.ensures.cases.1 in let short = ap length steps in omega arith;
      bays = e.bays ∙ (ap (λ l. l ++ x.bay.bay ∷ []) inv.bays ∙ map_more (λ (l : Lane g.row.L.Denot g.row.T.Denot). l.bay.bay) inv.taken x);
      reports = e.reports ∙ (ap (λ l. l ++ x.report ∷ []) inv.reports ∙ map_more (λ (l : Lane g.row.L.Denot g.row.T.Denot). l.report) inv.taken x);
      notes = all_more (λ (l : Lane g.row.L.Denot g.row.T.Denot). Remember l.notes at.raced.notes) (λ (l : Lane g.row.L.Denot g.row.T.Denot). Remember l.notes c.take_in.new.raced.notes) inv.taken x
          (λ l h. remember_both l.notes at.raced.notes c.take_in.new.raced.notes h e.notes.0) inv.notes e.notes.1;
      cells = e.notes.0.cells ∙ inv.cells;
      room = (omega (e.room.0, inv.room.0, arith), omega (e.room.1, inv.room.1, arith));
    }

pub take_in-requires-clause-cells : goal.take_in-requires-clause-cells
take_in-requires-clause-cells g c =
    let at = c.loop-lane in
    let inv = at.invariant in
    let x = c.in-Some.lane in
    let rest = into_iter_items c.next.new.self in
    let steps : into_iter_items at.left ≡ x ∷ rest = c.in-Some.ensures.cases.0 in
    let cells = λ (l : Lane g.row.L.Denot g.row.T.Denot). map (λ n. n.cell) l.notes ≡ map (λ n. n.cell) c.args.raced.now.notes in
    all_there cells inv.taken x rest (subst (λ (l : List (Lane g.row.L.Denot g.row.T.Denot)). All cells l) (sym inv.order ∙ ap (λ (r : List (Lane g.row.L.Denot g.row.T.Denot)). inv.taken ++ r) steps) c.requires.cells)
    ∙ sym inv.cells

pub take_in-requires-clause-idle : goal.take_in-requires-clause-idle
take_in-requires-clause-idle g c =
    let at = c.loop-lane in
    let inv = at.invariant in
    let x = c.in-Some.lane in
    let rest = into_iter_items c.next.new.self in
    let steps : into_iter_items at.left ≡ x ∷ rest = c.in-Some.ensures.cases.0 in
    let idle = λ (l : Lane g.row.L.Denot g.row.T.Denot). IsIdle l.bay in
    all_there idle inv.taken x rest (subst (λ (l : List (Lane g.row.L.Denot g.row.T.Denot)). All idle l) (sym inv.order ∙ ap (λ (r : List (Lane g.row.L.Denot g.row.T.Denot)). inv.taken ++ r) steps) c.requires.idle)

pub returns-clause-notes : goal.returns-clause-notes
returns-clause-notes g c =
    let at = c.loop-lane in
    let inv = at.invariant in
    let none : length (into_iter_items at.left) ≡ 0 = grind (arith, inv.left, c.in_default.ensures.variant, c.in_default.not-Some) in
    let all = sym (append-nil inv.taken) ∙ rw (nothing_left _ none) at inv.order in
    subst (λ (l : List (Lane g.row.L.Denot g.row.T.Denot)). All (λ x. Remember x.notes at.raced.notes) l) all inv.notes
