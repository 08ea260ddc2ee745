use Rattle.std.proofs.Common.{◌≡◌, ◌≤◌, ◌∙◌, ap, sym, arith, length, length-take-le, take, List, ℕ, Bool}
use Rattle.model_core.specs.Served.{IsNode}
use Rattle.model_core.proofs.Fitting.{length-row_at}
use Rattle.model_core.proofs.Lists.{all_at, at_place}
use Rattle.model_play.specs.Playing.{cycle_of}
use Rattle.model_play.proofs.Models.{a_below, b_below, narrow, row_is, s_below, widths, y_below, y_distinct}
use Rattle.model_play.proofs.walk.drive_rows.Goals as goal

pub split_at_mut-a_row-requires : goal.split_at_mut-a_row-requires
split_at_mut-a_row-requires c =
    let n = at_place c.args.model.now.nodes c.args.node c.requires.node in
    let k = narrow n.0.op _ _ _ _ (all_at IsNode c.args.model.now.nodes c.args.node n.0 c.requires.model.nodes n.1) in
    let a = ap (λ (ps : List ℕ). length ps) (c.a-a.ensures n.0 n.1) in
    let room = c.requires.room in
    omega (arith, k.at_a, a, room)

pub split_at_mut-b_row-requires : goal.split_at_mut-b_row-requires
split_at_mut-b_row-requires c =
    let n = at_place c.args.model.now.nodes c.args.node c.requires.node in
    let k = narrow n.0.op _ _ _ _ (all_at IsNode c.args.model.now.nodes c.args.node n.0 c.requires.model.nodes n.1) in
    let a = ap (λ (ps : List ℕ). length ps) (c.a-a.ensures n.0 n.1) in
    let b = ap (λ (ps : List ℕ). length ps) (c.b-b.ensures n.0 n.1) in
    let room = c.requires.room in
    let ra = c.split_at_mut-a_row.ensures.back_len in
    omega (arith, k.at_a, k.at_b, a, b, room, ra)

pub split_at_mut-s_row-requires : goal.split_at_mut-s_row-requires
split_at_mut-s_row-requires c =
    let n = at_place c.args.model.now.nodes c.args.node c.requires.node in
    let k = narrow n.0.op _ _ _ _ (all_at IsNode c.args.model.now.nodes c.args.node n.0 c.requires.model.nodes n.1) in
    let a = ap (λ (ps : List ℕ). length ps) (c.a-a.ensures n.0 n.1) in
    let b = ap (λ (ps : List ℕ). length ps) (c.b-b.ensures n.0 n.1) in
    let s = ap (λ (ps : List ℕ). length ps) (c.s-s.ensures n.0 n.1) in
    let room = c.requires.room in
    let ra = c.split_at_mut-a_row.ensures.back_len in
    let rb = c.split_at_mut-b_row.ensures.back_len in
    omega (arith, k.at_a, k.at_b, k.at_s, a, b, s, room, ra, rb)

pub slice_bounds-y_row-end : goal.slice_bounds-y_row-end
slice_bounds-y_row-end c =
    let n = at_place c.args.model.now.nodes c.args.node c.requires.node in
    let k = narrow n.0.op _ _ _ _ (all_at IsNode c.args.model.now.nodes c.args.node n.0 c.requires.model.nodes n.1) in
    let a = ap (λ (ps : List ℕ). length ps) (c.a-a.ensures n.0 n.1) in
    let b = ap (λ (ps : List ℕ). length ps) (c.b-b.ensures n.0 n.1) in
    let s = ap (λ (ps : List ℕ). length ps) (c.s-s.ensures n.0 n.1) in
    let y = ap (λ (ps : List ℕ). length ps) (c.y-y.ensures n.0 n.1) in
    let room = c.requires.room in
    let ra = c.split_at_mut-a_row.ensures.back_len in
    let rb = c.split_at_mut-b_row.ensures.back_len in
    let rs = c.split_at_mut-s_row.ensures.back_len in
    omega (arith, k.at_a, k.at_b, k.at_s, k.at_y, a, b, s, y, room, ra, rb, rs)

pub slice_bounds-y_row-end-2 : goal.slice_bounds-y_row-end-2
slice_bounds-y_row-end-2 c =
    let n = at_place c.args.model.now.nodes c.args.node c.requires.node in
    let k = narrow n.0.op _ _ _ _ (all_at IsNode c.args.model.now.nodes c.args.node n.0 c.requires.model.nodes n.1) in
    let a = ap (λ (ps : List ℕ). length ps) (c.a-a.ensures n.0 n.1) in
    let b = ap (λ (ps : List ℕ). length ps) (c.b-b.ensures n.0 n.1) in
    let s = ap (λ (ps : List ℕ). length ps) (c.s-s.ensures n.0 n.1) in
    let y = ap (λ (ps : List ℕ). length ps) (c.y-y.ensures n.0 n.1) in
    let room = c.requires.room in
    let ra = c.split_at_mut-a_row.ensures.back_len in
    let rb = c.split_at_mut-b_row.ensures.back_len in
    let rs = c.split_at_mut-s_row.ensures.back_len in
    let most : length c.y-y.result.now ≤ length c.split_at_mut-s_row.result.1.now = omega (arith, k.at_a, k.at_b, k.at_s, k.at_y, a, b, s, y, room, ra, rb, rs) in
    let wide : length (take (length c.y-y.result.now) c.split_at_mut-s_row.result.1.now) ≡ length c.y-y.result.now = length-take-le (length c.y-y.result.now) c.split_at_mut-s_row.result.1.now most in
    sym wide

pub read_row-requires-clause-below : goal.read_row-requires-clause-below
read_row-requires-clause-below c =
    let n = at_place c.args.model.now.nodes c.args.node c.requires.node in
    a_below c.args.model.now c.requires.model c.args.node n.0 n.1 _ _ c.requires.table (c.a-a.ensures n.0 n.1)

pub read_row-requires-2-clause-below : goal.read_row-requires-2-clause-below
read_row-requires-2-clause-below c =
    let n = at_place c.args.model.now.nodes c.args.node c.requires.node in
    b_below c.args.model.now c.requires.model c.args.node n.0 n.1 _ _ c.requires.table (c.b-b.ensures n.0 n.1)

pub read_row-requires-3-clause-below : goal.read_row-requires-3-clause-below
read_row-requires-3-clause-below c =
    let n = at_place c.args.model.now.nodes c.args.node c.requires.node in
    s_below c.args.model.now c.requires.model c.args.node n.0 n.1 _ _ c.requires.table (c.s-s.ensures n.0 n.1)

pub node_row-requires : goal.node_row-requires
node_row-requires c =
    let n = at_place c.args.model.now.nodes c.args.node c.requires.node in
    let k = narrow n.0.op _ _ _ _ (all_at IsNode c.args.model.now.nodes c.args.node n.0 c.requires.model.nodes n.1) in
    let a = ap (λ (ps : List ℕ). length ps) (c.a-a.ensures n.0 n.1) in
    let b = ap (λ (ps : List ℕ). length ps) (c.b-b.ensures n.0 n.1) in
    let s = ap (λ (ps : List ℕ). length ps) (c.s-s.ensures n.0 n.1) in
    let y = ap (λ (ps : List ℕ). length ps) (c.y-y.ensures n.0 n.1) in
    let room = c.requires.room in
    let ra = c.split_at_mut-a_row.ensures.back_len in
    let rb = c.split_at_mut-b_row.ensures.back_len in
    let rs = c.split_at_mut-s_row.ensures.back_len in
    let most : length c.y-y.result.now ≤ length c.split_at_mut-s_row.result.1.now = omega (arith, k.at_a, k.at_b, k.at_s, k.at_y, a, b, s, y, room, ra, rb, rs) in
    let wide : length (take (length c.y-y.result.now) c.split_at_mut-s_row.result.1.now) ≡ length c.y-y.result.now = length-take-le (length c.y-y.result.now) c.split_at_mut-s_row.result.1.now most in
    let v = cycle_of c.args.table.now in
    let wa = ap (λ (row : List Bool). length row) c.read_row.ensures ∙ length-row_at v c.a-a.result.now ∙ a in
    let wb = ap (λ (row : List Bool). length row) c.read_row-2.ensures ∙ length-row_at v c.b-b.result.now ∙ b in
    let ws = ap (λ (row : List Bool). length row) c.read_row-3.ensures ∙ length-row_at v c.s-s.result.now ∙ s in
    widths c.args.model.now c.requires.model c.args.node n.0 _ _ _ _ _ n.1 (c.op.ensures n.0 n.1) wa wb ws (wide ∙ y)

pub write_row-requires-clause-below : goal.write_row-requires-clause-below
write_row-requires-clause-below c =
    let n = at_place c.args.model.now.nodes c.args.node c.requires.node in
    y_below c.args.model.now c.requires.model c.args.node n.0 n.1 _ _ c.requires.table (c.y-y.ensures n.0 n.1)

pub write_row-requires-clause-distinct : goal.write_row-requires-clause-distinct
write_row-requires-clause-distinct c =
    let n = at_place c.args.model.now.nodes c.args.node c.requires.node in
    y_distinct c.args.model.now c.requires.model c.args.node n.0 c.y-y.result.now n.1 (c.y-y.ensures n.0 n.1)

pub write_row-requires-clause-as_many : goal.write_row-requires-clause-as_many
write_row-requires-clause-as_many c =
    let n = at_place c.args.model.now.nodes c.args.node c.requires.node in
    let k = narrow n.0.op _ _ _ _ (all_at IsNode c.args.model.now.nodes c.args.node n.0 c.requires.model.nodes n.1) in
    let a = ap (λ (ps : List ℕ). length ps) (c.a-a.ensures n.0 n.1) in
    let b = ap (λ (ps : List ℕ). length ps) (c.b-b.ensures n.0 n.1) in
    let s = ap (λ (ps : List ℕ). length ps) (c.s-s.ensures n.0 n.1) in
    let y = ap (λ (ps : List ℕ). length ps) (c.y-y.ensures n.0 n.1) in
    let room = c.requires.room in
    let ra = c.split_at_mut-a_row.ensures.back_len in
    let rb = c.split_at_mut-b_row.ensures.back_len in
    let rs = c.split_at_mut-s_row.ensures.back_len in
    let most : length c.y-y.result.now ≤ length c.split_at_mut-s_row.result.1.now = omega (arith, k.at_a, k.at_b, k.at_s, k.at_y, a, b, s, y, room, ra, rb, rs) in
    let wide : length (take (length c.y-y.result.now) c.split_at_mut-s_row.result.1.now) ≡ length c.y-y.result.now = length-take-le (length c.y-y.result.now) c.split_at_mut-s_row.result.1.now most in
    c.node_row.auto.y ∙ wide

pub returns-clause-row : goal.returns-clause-row
returns-clause-row c = λ nn e.
    let n = at_place c.args.model.now.nodes c.args.node c.requires.node in
    let k = narrow n.0.op _ _ _ _ (all_at IsNode c.args.model.now.nodes c.args.node n.0 c.requires.model.nodes n.1) in
    let a = ap (λ (ps : List ℕ). length ps) (c.a-a.ensures n.0 n.1) in
    let b = ap (λ (ps : List ℕ). length ps) (c.b-b.ensures n.0 n.1) in
    let s = ap (λ (ps : List ℕ). length ps) (c.s-s.ensures n.0 n.1) in
    let y = ap (λ (ps : List ℕ). length ps) (c.y-y.ensures n.0 n.1) in
    let room = c.requires.room in
    let ra = c.split_at_mut-a_row.ensures.back_len in
    let rb = c.split_at_mut-b_row.ensures.back_len in
    let rs = c.split_at_mut-s_row.ensures.back_len in
    let most : length c.y-y.result.now ≤ length c.split_at_mut-s_row.result.1.now = omega (arith, k.at_a, k.at_b, k.at_s, k.at_y, a, b, s, y, room, ra, rb, rs) in
    let wide : length (take (length c.y-y.result.now) c.split_at_mut-s_row.result.1.now) ≡ length c.y-y.result.now = length-take-le (length c.y-y.result.now) c.split_at_mut-s_row.result.1.now most in
    let v = cycle_of c.args.table.now in
    row_is v (cycle_of c.write_row.new.table) nn c.op.result c.a-a.result.now c.b-b.result.now c.s-s.result.now c.y-y.result.now _ _ _ _ c.node_row.new.y (c.op.ensures nn e) (c.a-a.ensures nn e) (c.b-b.ensures nn e) (c.s-s.ensures nn e) (c.y-y.ensures nn e)
    wide c.read_row.ensures c.read_row-2.ensures c.read_row-3.ensures c.node_row.ensures c.write_row.ensures.row
