use Rattle.std.proofs.Common.{◌∙◌, ℕ, List, ap, arith}
use Rattle.place_rows.specs.Rows.{start_of}
use Rattle.place_rows.proofs.Joining.{row_read, same_length}
use Rattle.place_rows.proofs.rows.Rows.width.Goals as goal

pub index-requires : goal.index-requires
index-requires c = let n = same_length c.args.self.now c.self.inside.ends.items c.self.inside.places.items c.self.view_is c.self.invariant in omega arith

pub start_of-requires : goal.start_of-requires
start_of-requires c = let n = same_length c.args.self.now c.self.inside.ends.items c.self.inside.places.items c.self.view_is c.self.invariant in omega arith

pub overflow_sub-result : goal.overflow_sub-result
overflow_sub-result c =
    let row = row_read c.args.self.now c.self.inside.ends.items c.self.inside.places.items c.self.view_is c.self.invariant c.args.row c.start_of.result c.index.result.now c.requires (c.start_of.ensures ∙ ap (λ (es : List ℕ). start_of es c.args.row) c.deref.ensures.value) c.index.ensures in
    row.low

pub returns : goal.returns
returns c = λ places at.
    let row = row_read c.args.self.now c.self.inside.ends.items c.self.inside.places.items c.self.view_is c.self.invariant c.args.row c.start_of.result c.index.result.now c.requires (c.start_of.ensures ∙ ap (λ (es : List ℕ). start_of es c.args.row) c.deref.ensures.value) c.index.ensures in
    row.wide places at
