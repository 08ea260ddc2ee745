use Rattle.std.proofs.Common.{◌≤◌, ◌-◌, ◌∙◌, ℕ, List, Some, ap, arith, length, rules, sym, drop, take}
use Rattle.place_rows.specs.Rows.{start_of}
use Rattle.place_rows.proofs.Joining.{row_read, same_length}
use Rattle.place_rows.proofs.rows.Rows.row.Goals as goal

pub start_of-first-requires : goal.start_of-first-requires
start_of-first-requires c = let n = same_length c.args.self.now c.self.inside.ends.items c.self.inside.places.items c.self.view_is c.self.invariant in omega arith

pub index-requires : goal.index-requires
index-requires c = let n = same_length c.args.self.now c.self.inside.ends.items c.self.inside.places.items c.self.view_is c.self.invariant in omega arith

pub slice_bounds-result-count : goal.slice_bounds-result-count
slice_bounds-result-count c =
    let row = row_read c.args.self.now c.self.inside.ends.items c.self.inside.places.items c.self.view_is c.self.invariant c.args.row c.start_of-first.result c.index.result.now c.requires (c.start_of-first.ensures ∙ ap (λ (es : List ℕ). start_of es c.args.row) c.deref.ensures.value) c.index.ensures in
    row.low

pub slice_bounds-result-start : goal.slice_bounds-result-start
slice_bounds-result-start c =
    let row = row_read c.args.self.now c.self.inside.ends.items c.self.inside.places.items c.self.view_is c.self.invariant c.args.row c.start_of-first.result c.index.result.now c.requires (c.start_of-first.ensures ∙ ap (λ (es : List ℕ). start_of es c.args.row) c.deref.ensures.value) c.index.ensures in
    let low = row.low in
    let high = row.high in
    let inside : c.start_of-first.result ≤ length c.deref-2.result.now = omega arith in
    search rules

pub slice_bounds-result-end : goal.slice_bounds-result-end
slice_bounds-result-end c =
    let row = row_read c.args.self.now c.self.inside.ends.items c.self.inside.places.items c.self.view_is c.self.invariant c.args.row c.start_of-first.result c.index.result.now c.requires (c.start_of-first.ensures ∙ ap (λ (es : List ℕ). start_of es c.args.row) c.deref.ensures.value) c.index.ensures in
    let high = row.high in
    omega arith

pub returns : goal.returns
returns c =
    let row = row_read c.args.self.now c.self.inside.ends.items c.self.inside.places.items c.self.view_is c.self.invariant c.args.row c.start_of-first.result c.index.result.now c.requires (c.start_of-first.ensures ∙ ap (λ (es : List ℕ). start_of es c.args.row) c.deref.ensures.value) c.index.ensures in
    row.row ∙ ap (λ (ps : List ℕ). Some (take (c.index.result.now - c.start_of-first.result) (drop c.start_of-first.result ps))) (sym c.deref-2.ensures.value)
