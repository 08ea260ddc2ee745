use Rattle.std.proofs.Common.{rules, ◌≡◌, ◌*◌, ◌+◌, ◌-◌, ◌<◌, ◌≤◌, sym, ◌∙◌, ap, refl, arith, length}
use Rattle.std.specs.Prelude.{slice_get}
use Rattle.sby_bits.specs.Rows.{Row}
use Rattle.model_core.specs.Choices.{ChoicesOf}
use Rattle.model_play.proofs.Packing.{length-rows_of, row_at_place, row_inside}
use Rattle.model_play.proofs.choices.Choices.inputs.Goals as goal

pub overflow_mul-start : goal.overflow_mul-start
overflow_mul-start c =
    let n = length-rows_of c.self.inside.width c.self.inside.cycles c.self.inside.inputs.items in
    let v = ap (λ (a : ChoicesOf). length a.inputs) c.self.view_is in
    let lt : c.args.cycle < c.self.inside.cycles = let r = c.requires in omega (arith, n, v, r) in
    let inside = row_inside c.self.inside.width c.self.inside.cycles c.args.cycle (length c.self.inside.inputs.items) lt c.self.invariant in
    let most : c.args.cycle * c.self.inside.width ≤ length c.self.inside.inputs.items = omega arith in
    search rules

pub overflow_add-result : goal.overflow_add-result
overflow_add-result c =
    let n = length-rows_of c.self.inside.width c.self.inside.cycles c.self.inside.inputs.items in
    let v = ap (λ (a : ChoicesOf). length a.inputs) c.self.view_is in
    let lt : c.args.cycle < c.self.inside.cycles = let r = c.requires in omega (arith, n, v, r) in
    let inside = row_inside c.self.inside.width c.self.inside.cycles c.args.cycle (length c.self.inside.inputs.items) lt c.self.invariant in
    let most : c.args.cycle * c.self.inside.width + c.self.inside.width ≤ length c.self.inside.inputs.items = inside in
    search rules

pub slice_bounds-result-end : goal.slice_bounds-result-end
slice_bounds-result-end c =
    let n = length-rows_of c.self.inside.width c.self.inside.cycles c.self.inside.inputs.items in
    let v = ap (λ (a : ChoicesOf). length a.inputs) c.self.view_is in
    let lt : c.args.cycle < c.self.inside.cycles = let r = c.requires in omega (arith, n, v, r) in
    let inside = row_inside c.self.inside.width c.self.inside.cycles c.args.cycle (length c.self.inside.inputs.items) lt c.self.invariant in
    let e = ap (λ (xs : Row). length xs) c.deref.ensures.value in
    let most : c.args.cycle * c.self.inside.width + c.self.inside.width ≤ length c.deref.result.now = omega arith in
    most

pub returns : goal.returns
returns c =
    let n = length-rows_of c.self.inside.width c.self.inside.cycles c.self.inside.inputs.items in
    let v = ap (λ (a : ChoicesOf). length a.inputs) c.self.view_is in
    let lt : c.args.cycle < c.self.inside.cycles = let r = c.requires in omega (arith, n, v, r) in
    let inside = row_inside c.self.inside.width c.self.inside.cycles c.args.cycle (length c.self.inside.inputs.items) lt c.self.invariant in
    let w : c.args.cycle * c.self.inside.width + c.self.inside.width - c.args.cycle * c.self.inside.width ≡ c.self.inside.width = omega arith in
    ap (λ (a : ChoicesOf). slice_get a.inputs c.args.cycle) (sym c.self.view_is) ∙ row_at_place c.self.inside.width c.self.inside.cycles c.args.cycle c.self.inside.inputs.items lt
    ∙ (rw (w, c.deref.ensures.value) refl)
