use Rattle.std.proofs.Common.{◌∙◌, List, ap}
use Rattle.std.specs.List.{list_any}
use Rattle.cell_table.specs.declared.kind.Kind.{Kind}
use Rattle.design_core.specs.Ports.{is_parameter, names_parameter, parameter_number}
use Rattle.design_core.specs.Shape.{CellOf}
use Rattle.design_core.specs.declared.parts.Parameter.{Parameter}
use Rattle.design_core.proofs.Lists.{item_at}
use Rattle.design_lower.proofs.Distinct.{all-at, distinct-take}
use Rattle.design_lower.proofs.copies.copy_parameters.Goals as goal

pub push_parameter-requires-clause-named : goal.push_parameter-requires-clause-named
push_parameter-requires-clause-named c =
    let p = c.index-parameters-place.result in
    let at = item_at c.args.parameters.now c.loop-place.place c.index-parameters-place.result c.index-parameters-place.is c.loop-place-test.true in
    ap (λ (k : Kind). names_parameter k c.index-parameters-place.result.name) (ap (λ (x : CellOf). x.kind) c.loop-place.invariant)
    ∙ all-at (λ (q : Parameter). names_parameter c.args.copy.now.kind q.name) c.args.parameters.now c.loop-place.place p c.requires.named at

pub push_parameter-requires-clause-once : goal.push_parameter-requires-clause-once
push_parameter-requires-clause-once c =
    let p = c.index-parameters-place.result in
    let at = item_at c.args.parameters.now c.loop-place.place c.index-parameters-place.result c.index-parameters-place.is c.loop-place-test.true in
    ap (λ (l : List Parameter). list_any (λ (q : Parameter). is_parameter q.name c.index-parameters-place.result.name) l) (ap (λ (x : CellOf). x.parameters) c.loop-place.invariant)
    ∙ distinct-take (λ (q : Parameter). parameter_number q.name) c.args.parameters.now c.loop-place.place p c.requires.once at
